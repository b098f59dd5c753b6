-- What the first two increments of a collection leave, in objects.
use Rattle.std.proofs.Common.{◌≡◌, ℕ, ◌-◌, ◌<◌, Bool, List, Option, Some, None, refl, sym, ap, subst, ◌∙◌, inl, inr, arith}
use Rattle.std.specs.FinMap as finite
use Rattle.gc_types.specs.declared.kind.Layouts.TheVariants.{Counting}
use Rattle.gc_types.specs.Declarations.{Declaration}
use Rattle.gc_roots.specs.Roots.{Root}
use Rattle.gc_memory.specs.Lists.{In}
use Rattle.gc_memory.proofs.ListLemmas.{In-occ, occ-In}
use Rattle.gc_view.specs.Bytes.{u32_at}
use Rattle.gc_view.specs.Heaps.{HeapObject, HeapView}
use Rattle.gc_heap.specs.Content.{IsHeld}
use Rattle.gc_heap.specs.Collection.{Start, Stepped}
use Rattle.gc_heap.specs.declared.collection.GcProgress.{GcProgress}
use Rattle.gc_heap.specs.declared.collection.GcProgress.TheVariants as progress
use Rattle.gc_drc.specs.declared.space.CountedSpace.{CountedSpace}
use Rattle.gc_drc.specs.declared.collect.phase.Phase.{Phase}
use Rattle.gc_drc.specs.declared.collect.phase.Phase.TheVariants as phase
use Rattle.gc_drc.specs.declared.heap.DrcHeap.{DrcHeap}
use Rattle.gc_drc.specs.Backed.{CountingBacking}
use Rattle.gc_heap.specs.declared.backing.Backing.TheVariants as backing
use Rattle.gc_drc.specs.Layout.{counting_object_at}
use Rattle.gc_drc.specs.View.{View}
use Rattle.gc_drc.specs.Content.{counting_seen_in}
use Rattle.gc_drc.specs.States.{counting_seen_of, drc_seen, IsCountingBacked, IsDrcSound}
use Rattle.gc_drc.specs.CollectPhases.{UnheldFreed, increments_before}
use Rattle.gc_drc.specs.Objects.{CountingBeginsIn}
use Rattle.gc_drc.specs.ObjectsBetween.{StandsIn, CountingBetween, IsDrcUnderWay}
use Rattle.gc_drc.specs.PlainCounting.{IsUnheld, UnheldGone}
use Rattle.gc_drc.proofs.OccLemmas.{occ-cases}
use Rattle.gc_drc.proofs.UnreachedMemory.{none_in}
use Rattle.gc_drc.proofs.ObjectsBegin.{start, held_place, unheld_so, unheld_back}
use Rattle.gc_drc.proofs.ObjectsLeft.{Leaves, place_after, still_held, counts_anew, sound_after, capacity_after, host_so, external_so, id_is}

none_held : (o : Option HeapObject) → ((x : HeapObject) → o ≡ Some x → ⊥) → o ≡ None
none_held None never = refl
none_held (Some x) never = absurd (never x refl)

module _ (s : Start) (v : View) (before after : CountedSpace) (scopes : ℕ) (hosts : ℕ → Bool) (b : CountingBeginsIn s v before scopes)
    (u : UnheldFreed (start s v before scopes b) s.hosts after hosts) where
  leaves : Leaves (start s v before scopes b) u.swept.view after
  leaves =
      let d = u.swept.drained in
      let w = u.swept.view in
      record {
        holds = u.swept.at.holds;
        same_length = u.swept.at.intact.same_length;
        intact = λ p i. u.swept.at.intact.objects p (u.swept.at.from p i);
        from = u.swept.at.from;
        counts = λ x h.
            let from = d.draining.cascading.from x in
            let counts = d.draining.cascading.counts x (omega arith) in
            omega arith;
        frames_shown = d.draining.cascading.shown;
        shown_frames = d.draining.shown_frames;
        unmarked = none_in w.marked d.draining.none_marked;
        unqueued = none_in w.queue d.none_queued;
      }

  in_left : (p : ℕ) → In p u.places → In p u.swept.view.places
  in_left p i = subst (In p) (sym u.swept.places_are) i

  in_places : (p : ℕ) → In p u.swept.view.places → In p u.places
  in_places p i = subst (In p) u.swept.places_are i

  -- what isn't unheld is left
  is_left : (p : ℕ) → In p v.places → (IsUnheld s p → ⊥) → In p u.places
  is_left p i held = elim (occ-cases p u.places) [
    | inr some ↦ occ-In p u.places some
    | inl none ↦ absurd (held (unheld_back s v before scopes b p (u.freed p i (λ j. absurd (let some = In-occ p u.places j in omega arith)))))
  ]

  not_left : (p : ℕ) → IsUnheld s p → In p u.places → ⊥
  not_left p gone i = u.kept p i (unheld_so s v before scopes b p gone)

  freed_so : (p : ℕ) → IsUnheld s p → finite.get (counting_seen_in scopes after).content p ≡ None
  freed_so p gone = none_held (finite.get (counting_seen_in scopes after).content p) (λ o got.
      not_left p gone (in_places p (place_after s v u.swept.view before after scopes b leaves p o got)))

  -- what was held and is gone is unheld
  only_so : (p : ℕ) → IsHeld s.heap p → finite.get (counting_seen_in scopes after).content p ≡ None → IsUnheld s p
  only_so p held none = elim (occ-cases p u.places) [
    | inr some ↦
        absurd (some_none held.0 (sym held.1 ∙ sym (still_held s v u.swept.view before after scopes b leaves p (in_left p (occ-In p u.places some))) ∙ none))
    | inl gone ↦ unheld_back s v before scopes b p (u.freed p (held_place s v before scopes b p held) (λ j. absurd (let some = In-occ p u.places j in omega arith)))
  ]
    where
      some_none : (o : HeapObject) → Some o ≡ None → ⊥
      some_none o is = cc

  kept_so : (p : ℕ) → (IsUnheld s p → ⊥) → (o : Option HeapObject) → finite.get s.heap.content p ≡ o → finite.get (counting_seen_in scopes after).content p ≡ o
  kept_so p held None e = none_held (finite.get (counting_seen_in scopes after).content p) (λ o got.
      none_some o (sym e ∙ sym (still_held s v u.swept.view before after scopes b leaves p (place_after s v u.swept.view before after scopes b leaves p o got)) ∙ got))
    where
      none_some : (o : HeapObject) → None ≡ Some o → ⊥
      none_some o is = cc
  kept_so p held (Some o) e =
      still_held s v u.swept.view before after scopes b leaves p (in_left p (is_left p (held_place s v before scopes b p (o, e)) held)) ∙ e

  unheld_gone : UnheldGone s (counting_seen_in scopes after) hosts
  unheld_gone = record {
    freed = freed_so;
    only = only_so;
    kept = λ p held. kept_so p held (finite.get s.heap.content p) refl;
    hosts_lost = λ p o x gone.
        let h = host_so s v before scopes b p o x in
        ap (λ (n : ℕ). hosts (n - 1)) h.1 ∙ u.gone.lost p h.0.0 h.0.1 (not_left p gone);
    hosts_kept = λ id all.
        u.gone.kept id (λ p i is number.
        let x = external_so s v before scopes b p i is in
        let h = host_so s v before scopes b p (counting_object_at before.memory p) x in
        is_left p i (all p (counting_object_at before.memory p) x (id_is id (u32_at (counting_object_at before.memory p).bytes 0) (h.1 ∙ number))));
    counts = counts_anew s v u.swept.view before after scopes b leaves;
    attached = refl;
    scopes = ap (λ (h : HeapView). h.scopes) b.heap_is ∙ b.can.open_scopes;
    capacity = capacity_after s v u.swept.view before after scopes b leaves;
  }

-- What stands after two increments.
pub record AfterTwo (s : Start) (scopes : ℕ) (b : CountingBacking) (hosts : ℕ → Bool) : Type 0 where
  pub gone : UnheldGone s (counting_seen_of scopes b) hosts
  pub backed : IsCountingBacked b
  pub open_scopes : scopes ≡ 0

third : (s : Start) (v : View) (before space : CountedSpace) (scopes : ℕ) (at : Phase) (hosts : ℕ → Bool) → 2 ≡ increments_before at → (b : CountingBeginsIn s v before scopes)
    → StandsIn s v before at space hosts → UnheldFreed (start s v before scopes b) s.hosts space hosts
third s v before space scopes phase.MarkFrames hosts number b u = absurd (omega arith)
third s v before space scopes phase.FreeUnheld hosts number b u = absurd (omega arith)
third s v before space scopes phase.FreeUnreached hosts number b u = u
third s v before space scopes phase.Done hosts number b u = absurd u

pub after_two : (s : Start) (scopes : ℕ) (b : CountingBacking) (at : Phase) (roots : List Root) (types : List Declaration) (hosts : ℕ → Bool) → CountingBetween s 2 scopes b at roots types hosts → AfterTwo s scopes b hosts
after_two s scopes backing.Detached at roots types hosts w = absurd w
after_two s scopes (backing.Attached space) at roots types hosts w =
    let u = third s w.view w.before space scopes at hosts w.number w.begins w.stands in
    record {
      gone = unheld_gone s w.view w.before space scopes hosts w.begins u;
      backed = sound_after s w.view u.swept.view w.before space scopes w.begins (leaves s w.view w.before space scopes hosts w.begins u);
      open_scopes = ap (λ (h : HeapView). h.scopes) w.begins.heap_is ∙ w.begins.can.open_scopes;
    }
after_two s scopes (backing.Taken m) at roots types hosts w = absurd w

-- THE HEAP

-- an increment that isn't the last
goes_on : (A E : Type 0) (s : Start) (n : ℕ) (answer : GcProgress) → n < 3 → Stepped Counting s n answer A E → A
goes_on A E s n progress.Continue below t = t.1
goes_on A E s n progress.Complete below t = absurd (let last : n ≡ 3 = t.0 in omega arith)

-- after one increment, and after two
pub one_done : (E : Type 0) (s : Start) (scopes : ℕ) (b : CountingBacking) (at : Phase) (roots : List Root) (types types' : List Declaration) (hosts : ℕ → Bool) (answer : GcProgress) → types' ≡ types
    → Stepped Counting s 1 answer (CountingBetween s 1 scopes b at roots types hosts) E → CountingBetween s 1 scopes b at roots types' hosts
one_done E s scopes b at roots types types' hosts answer same t =
    subst (λ (ts : List Declaration). CountingBetween s 1 scopes b at roots ts hosts) (sym same) (goes_on (CountingBetween s 1 scopes b at roots types hosts) E s 1 answer (omega arith) t)

pub two_done : (E : Type 0) (s : Start) (scopes : ℕ) (b : CountingBacking) (at : Phase) (roots : List Root) (types types' : List Declaration) (hosts : ℕ → Bool) (answer : GcProgress) → types' ≡ types
    → Stepped Counting s 2 answer (CountingBetween s 2 scopes b at roots types' hosts) E → CountingBetween s 2 scopes b at roots types hosts
two_done E s scopes b at roots types types' hosts answer same t =
    subst (λ (ts : List Declaration). CountingBetween s 2 scopes b at roots ts hosts) same (goes_on (CountingBetween s 2 scopes b at roots types' hosts) E s 2 answer (omega arith) t)

pub two_leave : (s : Start) (h : DrcHeap) (at : Phase) (roots : List Root) (types : List Declaration) (hosts : ℕ → Bool) → IsDrcUnderWay s 2 h at roots types hosts → UnheldGone s (drc_seen h) hosts
two_leave s h at roots types hosts w = (after_two s h.scopes h.backing at roots types hosts w).gone

pub two_sound : (s : Start) (h : DrcHeap) (at : Phase) (roots : List Root) (types : List Declaration) (hosts : ℕ → Bool) → IsDrcUnderWay s 2 h at roots types hosts → IsDrcSound h
two_sound s h at roots types hosts w =
    let a = after_two s h.scopes h.backing at roots types hosts w in
    record { backed = a.backed; scopes = (let none = a.open_scopes in omega arith) }
