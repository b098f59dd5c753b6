-- From one increment to the next.
use Rattle.std.proofs.Common.{◌≡◌, ℕ, ◌+◌, ◌<◌, ◌≤◌, Bool, true, false, List, [], Option, Some, None, refl, sym, ap, subst, ◌∙◌, inl, inr, arith}
use Rattle.std.specs.Prelude.{is_some}
use Rattle.std.specs.FinMap as finite
use Rattle.std.specs.Ordering.{nat_cmp}
use Rattle.gc_types.specs.Declarations.{Declaration}
use Rattle.gc_roots.specs.Roots.{Root}
use Rattle.gc_heap.specs.Collection.{has_host, IsPartOf, stack_words}
use Rattle.gc_memory.specs.Lists.{In, occ}
use Rattle.gc_memory.proofs.ListLemmas.{In-occ, occ-In}
use Rattle.gc_heap.specs.declared.collection.GcProgress.TheVariants as progress
use Rattle.gc_drc.specs.declared.space.CountedSpace.{CountedSpace}
use Rattle.gc_drc.specs.declared.collect.phase.Phase.{Phase}
use Rattle.gc_drc.specs.declared.collect.phase.Phase.TheVariants as phase
use Rattle.gc_drc.specs.View.{View, HoldsBlocks}
use Rattle.gc_drc.specs.CollectStates.{IsView}
use Rattle.gc_drc.specs.CollectMemory.{Context}
use Rattle.gc_drc.specs.CollectHosts.{HostsLeft}
use Rattle.gc_drc.specs.CollectSweep.{FrameMarks}
use Rattle.gc_drc.specs.CollectSwept.{FreesUnheld}
use Rattle.gc_drc.specs.CollectSpan.{IsContextOf, Begins, HostsGone, Ends}
use Rattle.gc_drc.specs.CollectUnreached.{held_context, Swept, FreesUnreached}
use Rattle.gc_drc.specs.CollectPhases.{UnheldFreed, increments_before, CountingStandsAt, StepsOn}
use Rattle.gc_drc.proofs.OccLemmas.{occ-cases}
use Rattle.gc_drc.proofs.ReleaseLemmas.{places_once}
use Rattle.gc_drc.proofs.UnreachedMemory.{none_in}

-- THE FIRST INCREMENT

-- no place is listed more often than it is held
listed_once : (places list : List ℕ) → ((p : ℕ) → In p list → In p places) → ((p : ℕ) → occ p list ≤ 1) → (x : ℕ) → occ x list ≤ occ x places
listed_once places list inside once x = elim (occ-cases x list) [
  | inl none ↦ omega arith
  | inr some ↦ let held = In-occ x places (inside x (occ-In x list some)) in let one = once x in omega arith
]

view_of : (v : View) (s : CountedSpace) → HoldsBlocks v s → IsView v
view_of v s h = record {
  once = places_once v s h;
  shown = listed_once v.places v.shown h.shown_part.inside h.shown_part.once;
  queue = listed_once v.places v.queue h.queue_part.inside h.queue_part.once;
  marked = listed_once v.places v.marked h.marked_part.inside h.marked_part.once;
  positive = λ x held. (h.objects x (occ-In x v.places held)).positive;
}

-- the objects that frame slots hold are to be marked
pub begins_marks : (c : Context) (s : CountedSpace) (roots : List Root) (types : List Declaration) (v : View) → IsContextOf c roots types → Begins c v s → FrameMarks c s (stack_words roots)
begins_marks c s roots types v is b = record {
  view = v;
  at = b.at;
  is_view = view_of v s b.at.holds;
  cascading = record {
    counts = λ x h. let counts = b.counts x (held x h) in omega arith;
    from = λ x. let same_places = all x in omega arith;
    gone = λ x h none. absurd (let same_places = all x in omega arith);
    shown = λ x h f. In-occ x v.shown (b.frames_shown x (held x h) (occ-In x c.graph.frames f));
    freed = λ x h none. absurd (let same_places = all x in omega arith);
  };
  marking = record {
    only = λ x h. absurd (let none = ap (λ (xs : List ℕ). occ x xs) b.unmarked in omega arith);
    all = λ x h f. inr (let words = ap (λ (xs : List ℕ). occ x xs) is.frames_are in omega arith);
  };
  part = λ w i. subst (λ (ws : List ℕ). In w ws) (sym is.frames_are) i;
  all_held = b.all_held;
}
  where
    all : (x : ℕ) → occ x v.places ≡ occ x c.graph.places
    all x = ap (λ (ps : List ℕ). occ x ps) b.all_held

    held : (x : ℕ) → 0 < occ x c.graph.places → In x v.places
    held x h = occ-In x v.places (let same_places = all x in omega arith)

-- HOST VALUES

present_back : {D : Type 0} (found was : Option D) → ((value : D) → found ≡ Some value → was ≡ Some value) → is_some found ≡ true → is_some was ≡ true
present_back None was part e = absurd (cc)
present_back (Some value) was part e = ap is_some (part value refl)

-- which ids have a value where some values were freed
pub hosts_gone : (D : Type 0) (c : Context) (places : List ℕ) (old new : finite.FinMap nat_cmp D) → HostsLeft D c places old new → HostsGone c places (has_host old) (has_host new)
hosts_gone D c places old new left = record {
  lost = λ p i external gone. ap is_some (left.lost p i external gone);
  kept = λ id all. ap is_some (left.kept id all);
  part = λ id present. present_back (finite.get new id) (finite.get old id) (left.part id) present;
}

gone_no_value : (b : Bool) → (b ≡ true → false ≡ true) → b ≡ false
gone_no_value true h = absurd (cc (h refl))
gone_no_value false h = refl

-- of what was left, some was freed
hosts_then : (c : Context) (places left : List ℕ) (before mid now : ℕ → Bool) → ((p : ℕ) → In p places → In p c.graph.places) → ((p : ℕ) → In p left → In p places) → HostsGone c places before mid → HostsGone (held_context c places) left mid now → HostsGone c left before now
hosts_then c places left before mid now start part first second = record {
  lost = λ p i external gone. elim (occ-cases p places) [
    | inr some ↦ second.lost p (occ-In p places some) external gone
    | inl none ↦ gone_no_value (now _) (λ present. sym (first.lost p i external (λ j. absurd (let some = In-occ p places j in omega arith))) ∙ second.part _ present)
  ];
  kept = λ id all. second.kept id (λ p i external is. all p (start p i) external is) ∙ first.kept id (λ p i external is. part p (all p i external is));
  part = λ id present. first.part id (second.part id present);
}

-- THE SECOND AND THE THIRD

pub unheld_freed : (D : Type 0) (c : Context) (s : CountedSpace) (before : ℕ → Bool) (old new : finite.FinMap nat_cmp D) → has_host old ≡ before → FreesUnheld D c s old new → UnheldFreed c before s (has_host new)
unheld_freed D c s before old new are f = record {
  places = f.view.places;
  swept = record { view = f.view; at = f.at; drained = f.drained; places_are = refl };
  gone = subst (λ (b : ℕ → Bool). HostsGone c f.view.places b (has_host new)) are (hosts_gone D c f.view.places old new f.hosts);
  freed = f.freed;
  kept = f.kept;
}

pub unreached_ends : (D : Type 0) (c : Context) (places : List ℕ) (s : CountedSpace) (before : ℕ → Bool) (old new : finite.FinMap nat_cmp D) → ((p : ℕ) → In p places → In p c.graph.places) → HostsGone c places before (has_host old) → FreesUnreached D c places s old new
    → (v : View) × Ends c v s before (has_host new)
unreached_ends D c places s before old new start gone f = (
  f.view,
  record {
    holds = f.at.holds;
    same_length = f.at.intact.same_length;
    intact = λ p i. f.at.intact.objects p (f.at.from p i);
    done = f.done;
    unmarked = f.unmarked;
    unqueued = none_in f.view.queue f.done.none_queued;
    hosts = hosts_then c places f.view.places before (has_host old) (has_host new) start f.at.from gone (hosts_gone D (held_context c places) f.view.places old new f.hosts);
  },
)

-- what was left is of the start
pub left_of_start : (c : Context) (places : List ℕ) (s : CountedSpace) → Swept c places s → (p : ℕ) → In p places → In p c.graph.places
left_of_start c places s w p i = w.at.from p (subst (λ (ps : List ℕ). In p ps) (sym w.places_are) i)

-- EACH PHASE

module _ (c : Context) (before : ℕ → Bool) (at : Phase) (roots : List Root) (types : List Declaration) (is : IsContextOf c roots types) where
  pub at_frames : (s : CountedSpace) (hosts : ℕ → Bool) → at ≡ phase.MarkFrames → CountingStandsAt c before at s hosts → FrameMarks c s (stack_words roots)
  at_frames s hosts e stands =
      let first = subst (λ (p : Phase). CountingStandsAt c before p s hosts) e stands in
      begins_marks c s roots types first.view is first.begins

  pub frames_step : (s s' : CountedSpace) (hosts : ℕ → Bool) → at ≡ phase.MarkFrames → CountingStandsAt c before at s hosts → ((o : Context) → FrameMarks o s (stack_words roots) → FrameMarks o s' [])
      → StepsOn c before progress.Continue at phase.FreeUnheld s' hosts
  frames_step s s' hosts e stands marks =
      let first = subst (λ (p : Phase). CountingStandsAt c before p s hosts) e stands in
      (sym (ap (λ (p : Phase). increments_before p + 1) e), record { marks = marks c (at_frames s hosts e stands); hosts_are = first.hosts_are })

  pub at_unheld : (s : CountedSpace) (hosts : ℕ → Bool) → at ≡ phase.FreeUnheld → CountingStandsAt c before at s hosts → FrameMarks c s []
  at_unheld s hosts e stands = (subst (λ (p : Phase). CountingStandsAt c before p s hosts) e stands).marks

  pub unheld_step : (D : Type 0) (s s' : CountedSpace) (old new : finite.FinMap nat_cmp D) → at ≡ phase.FreeUnheld → CountingStandsAt c before at s (has_host old)
      → ((o : Context) → o.types ≡ types → FrameMarks o s [] → FreesUnheld D o s' old new) → StepsOn c before progress.Continue at phase.FreeUnreached s' (has_host new)
  unheld_step D s s' old new e stands frees =
      let second = subst (λ (p : Phase). CountingStandsAt c before p s (has_host old)) e stands in
      (sym (ap (λ (p : Phase). increments_before p + 1) e), unheld_freed D c s' before old new second.hosts_are (frees c is.types_are second.marks))

  pub unheld_part : (D : Type 0) (s s' : CountedSpace) (old new : finite.FinMap nat_cmp D) → at ≡ phase.FreeUnheld → CountingStandsAt c before at s (has_host old)
      → ((o : Context) → o.types ≡ types → FrameMarks o s [] → FreesUnheld D o s' old new) → IsPartOf new old
  unheld_part D s s' old new e stands frees = (frees c is.types_are (at_unheld s (has_host old) e stands)).hosts.part

  pub at_unreached : (s : CountedSpace) (hosts : ℕ → Bool) → at ≡ phase.FreeUnreached → CountingStandsAt c before at s hosts → (places : List ℕ) × Swept c places s
  at_unreached s hosts e stands =
      let third = subst (λ (p : Phase). CountingStandsAt c before p s hosts) e stands in
      (third.places, third.swept)

  pub unreached_step : (D : Type 0) (s s' : CountedSpace) (old new : finite.FinMap nat_cmp D) → at ≡ phase.FreeUnreached → CountingStandsAt c before at s (has_host old)
      → ((o : Context) (places : List ℕ) → IsContextOf o roots types → Swept o places s → FreesUnreached D o places s' old new) → StepsOn c before progress.Complete at phase.Done s' (has_host new)
  unreached_step D s s' old new e stands frees =
      let third = subst (λ (p : Phase). CountingStandsAt c before p s (has_host old)) e stands in (
        ap (λ (p : Phase). increments_before p + 1) e,
        unreached_ends D c third.places s' before old new (left_of_start c third.places s third.swept) third.gone (frees c third.places is third.swept),
      )

  pub unreached_part : (D : Type 0) (s s' : CountedSpace) (old new : finite.FinMap nat_cmp D) → at ≡ phase.FreeUnreached → CountingStandsAt c before at s (has_host old)
      → ((o : Context) (places : List ℕ) → IsContextOf o roots types → Swept o places s → FreesUnreached D o places s' old new) → IsPartOf new old
  unreached_part D s s' old new e stands frees =
      let third = at_unreached s (has_host old) e stands in
      (frees c third.0 is third.1).hosts.part

pub never_done : (c : Context) (before : ℕ → Bool) (at : Phase) (s : CountedSpace) (hosts : ℕ → Bool) → at ≡ phase.Done → CountingStandsAt c before at s hosts → ⊥
never_done c before at s hosts e stands = subst (λ (p : Phase). CountingStandsAt c before p s hosts) e stands
