-- The third increment: from what the second one left to what is reached.
use Rattle.std.proofs.Common.{◌≡◌, ℕ, zero, suc, ◌+◌, ◌-◌, ◌<◌, Bool, true, false, cond, not, List, [], ◌∷◌, length, map, refl, sym, ap, subst, ◌∙◌, ◌%◌, inl, inr, arith}
use Rattle.std.specs.Prelude.{filter}
use Rattle.std.specs.FinMap as finite
use Rattle.std.specs.Ordering.{nat_cmp}
use Rattle.gc_types.specs.Declarations.{Declaration}
use Rattle.gc_roots.specs.Roots.{Root}
use Rattle.gc_heap.specs.Collection.{held_words, stack_words}
use Rattle.gc_memory.specs.Lists.{In, here, there, occ, sum_over}
use Rattle.gc_memory.specs.Words.{word}
use Rattle.gc_memory.proofs.ListLemmas.{In-occ, occ-In, occ-same}
use Rattle.gc_drc.specs.declared.space.CountedSpace.{CountedSpace}
use Rattle.gc_drc.specs.View.{View, last}
use Rattle.gc_view.specs.Reach.{by_start, by_step}
use Rattle.gc_drc.specs.Graph.{CountedGraph, names, CountingReached}
use Rattle.gc_drc.specs.CollectStates.{Cascading, Drained, Tracing, Done}
use Rattle.gc_drc.specs.CollectMemory.{Context, IsContext, IsCountingWord, At}
use Rattle.gc_drc.specs.CollectHosts.{HostsLeft}
use Rattle.gc_drc.specs.CollectTrace.{Settled, Traces, CanScanNext, words_in_roots, fresh_in}
use Rattle.gc_drc.specs.CollectWalk.{Garbage, CanFreeUnmarked, FreedUnmarked}
use Rattle.gc_drc.specs.CollectClear.{AllMarked, Unmarked}
use Rattle.gc_drc.specs.CollectSpan.{IsContextOf}
use Rattle.gc_drc.specs.CollectUnreached.{held_context, Swept, FreesUnreached}
use Rattle.gc_drc.proofs.OccLemmas.{occ-cases, names-at}
use Rattle.gc_drc.proofs.SweepLemmas.{reached_kept}
use Rattle.gc_drc.proofs.TraceLemmas.{trace_begins, trace_ends, freeing_begins, freeing_ends}
use Rattle.gc_drc.proofs.LinkLemmas.{linked_empty}
use Rattle.gc_drc.proofs.HostLemmas.{hosts_begin}
use Rattle.gc_drc.specs.Content.{places_of}
use Rattle.gc_drc.specs.SpaceLaws.{places_are}
use Rattle.gc_drc.proofs.TraceMemory.{fresh_in_is}
use Rattle.gc_drc.proofs.SweepMemory.{mark_read, stack_first, stack_other}

-- a list in which nothing stands
pub none_in : (xs : List ℕ) → ((x : ℕ) → occ x xs ≡ 0) → xs ≡ []
none_in [] none = refl
none_in (x ∷ xs) none = absurd (let one = occ-same x xs in let zero_x = none x in omega arith)

-- ROOTS

held_first : (r : Root) (rs : List Root) → r.on_stack ≡ false → held_words (r ∷ rs) ≡ r.word ∷ held_words rs
held_first r rs e = ap (λ b. map (λ (q : Root). q.word) (cond (not b) (r ∷ filter (λ (q : Root). not q.on_stack) rs) (filter (λ (q : Root). not q.on_stack) rs))) e

held_other : (r : Root) (rs : List Root) → r.on_stack ≡ true → held_words (r ∷ rs) ≡ held_words rs
held_other r rs e = ap (λ b. map (λ (q : Root). q.word) (cond (not b) (r ∷ filter (λ (q : Root). not q.on_stack) rs) (filter (λ (q : Root). not q.on_stack) rs))) e

-- each root is a frame slot, or none
pub occ-roots : (x : ℕ) (roots : List Root) → occ x (words_in_roots roots) ≡ occ x (held_words roots) + occ x (stack_words roots)
occ-roots x [] = refl
occ-roots x (r ∷ roots) = by_slot r.on_stack refl (occ-roots x roots)
  where
    by_slot : (b : Bool) → r.on_stack ≡ b → occ x (words_in_roots roots) ≡ occ x (held_words roots) + occ x (stack_words roots)
        → occ x (words_in_roots (r ∷ roots)) ≡ occ x (held_words (r ∷ roots)) + occ x (stack_words (r ∷ roots))
    by_slot true e rest =
        let held = ap (λ (xs : List ℕ). occ x xs) (held_other r roots e) in
        let stack = ap (λ (xs : List ℕ). occ x xs) (stack_first r roots e) in
        omega arith
    by_slot false e rest =
        let held = ap (λ (xs : List ℕ). occ x xs) (held_first r roots e) in
        let stack = ap (λ (xs : List ℕ). occ x xs) (stack_other r roots e) in
        omega arith

-- where nothing is marked, no object is
all_fresh : (marked ps : List ℕ) → ((x : ℕ) → occ x marked ≡ 0) → sum_over (λ p. 1 - occ p marked) ps ≡ length ps
all_fresh marked [] none = refl
all_fresh marked (p ∷ ps) none = let zero_p = none p in let rest = all_fresh marked ps none in omega arith

-- WHAT IS LEFT

-- a place that has a name is held
named_held : (g : CountedGraph) (v : View) (x : ℕ) → Cascading g v [] → 0 < occ x g.places → 0 < names g v.places x + occ x g.roots → In x v.places
named_held g v x d place named = elim (occ-cases x v.places) [
  | inr some ↦ occ-In x v.places some
  | inl none ↦ absurd (let gone = d.gone x place none in let counts = d.counts x place in omega arith)
]

shown_held : (g : CountedGraph) (v : View) (x : ℕ) → Drained g v → 0 < occ x g.places → 0 < occ x g.frames → In x v.places
shown_held g v x d place frame =
    let on_list = d.draining.cascading.shown x place frame in
    let held = d.draining.is_view.shown x in
    occ-In x v.places (omega arith)

still_word : (c : Context) (places : List ℕ) (w : ℕ) → IsCountingWord c w → (In w c.graph.places → In w places) → IsCountingWord (held_context c places) w
still_word c places w (inl e) held = inl e
still_word c places w (inr (inl odd)) held = inr (inl odd)
still_word c places w (inr (inr i)) held = inr (inr (held i))

module _ (c : Context) (v : View) (s : CountedSpace) (at : At c v s) (d : Drained c.graph v) where
  -- the collection goes on with the objects that are held
  left_context : IsContext (held_context c v.places)
  left_context = record {
    small = at.start.small;
    lies = λ p i. at.start.lies p (at.from p i);
    kinds = λ p i. at.start.kinds p (at.from p i);
    apart = λ p q i j. at.start.apart p q (at.from p i) (at.from q j);
    words = λ p i. at.start.words p (at.from p i);
    offsets = λ p o i. at.start.offsets p o (at.from p i);
    arrays = λ p elements i. at.start.arrays p elements (at.from p i);
    externals = λ p i. at.start.externals p (at.from p i);
    fields = λ p w i j. still_word c v.places w (at.start.fields p w (at.from p i) j) (λ place.
        let name = In-occ w (c.graph.words p) j in
        let of_all = names-at c.graph v.places p w (In-occ p v.places i) in
        named_held c.graph v w d.draining.cascading (In-occ w c.graph.places place) (omega arith));
    roots = λ w j. still_word c v.places w (at.start.roots w j) (λ place.
        let root = In-occ w c.graph.roots j in
        named_held c.graph v w d.draining.cascading (In-occ w c.graph.places place) (omega arith));
    frames = λ w j. still_word c v.places w (at.start.frames w j) (λ place. shown_held c.graph v w d (In-occ w c.graph.places place) (In-occ w c.graph.frames j));
  }

  left_at : At (held_context c v.places) v s
  left_at = record {
    start = left_context;
    holds = at.holds;
    intact = record { same_length = at.intact.same_length; objects = λ p i. at.intact.objects p (at.from p i) };
    from = λ p i. i;
  }

  left_settled : Settled (held_context c v.places).graph v
  left_settled =
      let cascading = d.draining.cascading in
      record {
        is_view = d.draining.is_view;
        cascading = record {
          counts = λ x h. cascading.counts x (let from = cascading.from x in omega arith);
          from = λ x. omega arith;
          gone = λ x h none. absurd (omega arith);
          shown = λ x h f. cascading.shown x (let from = cascading.from x in omega arith) f;
          freed = λ x h none. absurd (omega arith);
        };
        shown_frames = d.draining.shown_frames;
        none_queued = none_in v.queue d.none_queued;
        all_held = refl;
      }

  -- the words of all roots are to be looked at
  left_traces : (roots : List Root) (types : List Declaration) → IsContextOf c roots types → (unscanned : List ℕ) × Traces (held_context c v.places) unscanned s 0 s.objects (words_in_roots roots)
  left_traces roots types is =
      let unscanned = list_of s.objects in (
        unscanned.0,
        record {
          view = v;
          at = left_at;
          settled = left_settled;
          work = [];
          tracing = trace_begins (held_context c v.places).graph v (words_in_roots roots) all d.draining.none_marked;
          linked = last;
          known = λ w j. known w (In-occ w (words_in_roots roots) j);
          fresh_is = fresh;
          left_is = omega (arith, unscanned.1);
        },
      )
    where
      fresh : sum_over (λ p. 1 - occ p v.marked) v.places ≡ s.objects
      fresh = all_fresh v.marked v.places d.draining.none_marked ∙ sym at.holds.count

      list_of : (n : ℕ) → (xs : List ℕ) × (length xs ≡ n)
      list_of zero = ([], refl)
      list_of (suc n) = let rest = list_of n in (0 ∷ rest.0, ap suc rest.1)

      all : (x : ℕ) → occ x (words_in_roots roots) ≡ occ x c.graph.roots + occ x c.graph.frames
      all x =
          let parts = occ-roots x roots in
          let held = ap (λ (xs : List ℕ). occ x xs) is.roots_are in
          let stack = ap (λ (xs : List ℕ). occ x xs) is.frames_are in
          omega arith

      known : (w : ℕ) → 0 < occ w (words_in_roots roots) → IsCountingWord (held_context c v.places) w
      known w some = elim (occ-cases w c.graph.roots) [
        | inr root ↦ left_context.roots w (occ-In w c.graph.roots root)
        | inl none ↦ left_context.frames w (occ-In w c.graph.frames (let a = all w in omega arith))
      ]

-- MARKS AND FREES

-- all that is reached is marked, and the rest is to be freed
pub traced_garbage : (D : Type 0) (c : Context) (unscanned : List ℕ) (s : CountedSpace) (head fresh : ℕ) (hosts : finite.FinMap nat_cmp D) → head ≡ 0 → (t : Traces c unscanned s head fresh []) → Garbage D c hosts t.view.places s hosts
traced_garbage D c unscanned s head fresh hosts none t =
    let no_work = linked_empty s.memory 24 head t.work t.linked none in
    let tracing = subst (λ (xs : List ℕ). Tracing c.graph t.view [] xs) no_work t.tracing in
    let settled = t.settled in
    record {
      view = t.view;
      at = t.at;
      freeing = freeing_begins c.graph t.view settled.is_view settled.cascading settled.shown_frames (λ x. ap (λ (xs : List ℕ). occ x xs) settled.none_queued) (trace_ends c.graph t.view tracing);
      places_are = refl;
      hosts = subst (λ (ps : List ℕ). HostsLeft D c ps hosts hosts) (sym settled.all_held) (hosts_begin D c hosts);
      bits = λ p i. mark_read c t.view s p t.at (subst (λ (ps : List ℕ). In p ps) (sym settled.all_held) i);
    }

pub freed_marked : (D : Type 0) (c : Context) (before now : finite.FinMap nat_cmp D) (s : CountedSpace) → (f : FreedUnmarked D c before s now) → AllMarked c f.places s
freed_marked D c before now s f =
    let q = f.garbage in
    record {
      view = q.view;
      at = q.at;
      done = freeing_ends c.graph q.view q.freeing (λ x h. q.freeing.is_marked.all x (f.all_reached x (subst (λ (ps : List ℕ). In x ps) q.places_are (occ-In x q.view.places h))));
      places_are = q.places_are;
      marks = λ p i. q.freeing.is_marked.all p (f.all_reached p i);
    }

-- BACK TO THE START

module _ (g : CountedGraph) (v : View) (d : Drained g v) where
  abbrev left_graph : CountedGraph
  left_graph = record g { places = v.places }

  start_in : (y : ℕ) → In y v.places → In y g.places
  start_in y j = occ-In y g.places (let from = d.draining.cascading.from y in let some = In-occ y v.places j in omega arith)

  reached_before : (x : ℕ) → CountingReached left_graph x → CountingReached g x
  reached_before x (by_start (i, named)) = by_start (start_in x i, named)
  reached_before x (by_step {y = q} r (i, w)) = by_step (reached_before q r) (start_in x i, w)

  reached_after : (x : ℕ) → CountingReached g x → CountingReached left_graph x
  reached_after x (by_start (i, named)) = by_start (occ-In x v.places (reached_kept g v d x (by_start (i, named))), named)
  reached_after x (by_step {y = q} r (i, w)) = by_step (reached_after q r) (occ-In x v.places (reached_kept g v d x (by_step r (i, w))), w)

  -- what is done for what was left is done for all
  done_for_all : (w : View) → Done left_graph w → Done g w
  done_for_all w done = record {
    is_view = done.is_view;
    held = λ x h. reached_before x (done.held x h);
    kept = λ x r. done.kept x (reached_after x r);
    counts = done.counts;
    shown_frames = done.shown_frames;
    frames_shown = λ x h f. done.frames_shown x (In-occ x v.places (shown_held g v x d h f)) f;
    none_queued = done.none_queued;
  }

-- THE INCREMENT

abbrev pub MarksRoots : CountedSpace → List Root → CountedSpace → ℕ → ℕ → Type 0
MarksRoots s roots s1 h1 f1 = (c : Context) (unscanned : List ℕ) → Traces c unscanned s 0 s.objects (words_in_roots roots) → Traces c unscanned s1 h1 f1 []

abbrev pub ScansAll : List Declaration → CountedSpace → ℕ → ℕ → CountedSpace → ℕ → ℕ → Type 0
ScansAll types s1 h1 f1 s2 h2 f2 = (c : Context) (unscanned : List ℕ) → c.types ≡ types → Traces c unscanned s1 h1 f1 [] → (left : List ℕ) × Traces c left s2 h2 f2 []

abbrev pub FreesRest : {D : Type 0} → List Declaration → CountedSpace → finite.FinMap nat_cmp D → CountedSpace → finite.FinMap nat_cmp D → Type 0
FreesRest {D} types s2 hosts s3 now = (c : Context) (before : finite.FinMap nat_cmp D) (places : List ℕ) → c.types ≡ types → Garbage D c before places s2 hosts → FreedUnmarked D c before s3 now

abbrev pub Unmarks : CountedSpace → CountedSpace → Type 0
Unmarks s3 s4 = (c : Context) (places : List ℕ) → AllMarked c places s3 → Unmarked c places s4

-- the increment may begin
abbrev pub CanFreeUnreached : CountedSpace → List Root → List Declaration → Type 0
CanFreeUnreached s roots types = (c : Context) × ((places : List ℕ) × (IsContextOf c roots types × Swept c places s))

pub third_marks : (types : List Declaration) (s : CountedSpace) (roots : List Root) → CanFreeUnreached s roots types → (o : Context) × ((unscanned : List ℕ) × Traces o unscanned s 0 s.objects (words_in_roots roots))
third_marks types s roots can =
    let w = can.1.1.1 in
    (held_context can.0 w.view.places, left_traces can.0 w.view s w.at w.drained roots types can.1.1.0)

pub third_scans : (types : List Declaration) (s s1 : CountedSpace) (h1 f1 : ℕ) (roots : List Root) → MarksRoots s roots s1 h1 f1 → CanFreeUnreached s roots types → CanScanNext types s1 h1 f1
third_scans types s s1 h1 f1 roots marks can =
    let is = can.1.1.0 in
    let w = can.1.1.1 in
    let t = left_traces can.0 w.view s w.at w.drained roots types is in
    record { context = held_context can.0 w.view.places; unscanned = t.0; typed = is.types_are; traces = marks (held_context can.0 w.view.places) t.0 t.1 }

-- nothing is left to scan
traced : (types : List Declaration) (s s1 s2 : CountedSpace) (h1 f1 h2 f2 : ℕ) (roots : List Root) → MarksRoots s roots s1 h1 f1 → ScansAll types s1 h1 f1 s2 h2 f2 → (c : Context) (places : List ℕ) → IsContextOf c roots types
    → (w : Swept c places s) → (left : List ℕ) × Traces (held_context c w.view.places) left s2 h2 f2 []
traced types s s1 s2 h1 f1 h2 f2 roots marks scans c places is w =
    let t = left_traces c w.view s w.at w.drained roots types is in
    scans (held_context c w.view.places) t.0 is.types_are (marks (held_context c w.view.places) t.0 t.1)

pub third_frees : (D : Type 0) (types : List Declaration) (s s1 s2 : CountedSpace) (h1 f1 h2 f2 : ℕ) (roots : List Root) (hosts : finite.FinMap nat_cmp D) → MarksRoots s roots s1 h1 f1 → ScansAll types s1 h1 f1 s2 h2 f2 → h2 ≡ 0
    → CanFreeUnreached s roots types → CanFreeUnmarked D types s2 hosts
third_frees D types s s1 s2 h1 f1 h2 f2 roots hosts marks scans none can =
    let is = can.1.1.0 in
    let w = can.1.1.1 in
    let t = traced types s s1 s2 h1 f1 h2 f2 roots marks scans can.0 can.1.0 is w in
    record {
      context = held_context can.0 w.view.places;
      before = hosts;
      places = t.1.view.places;
      typed = is.types_are;
      garbage = traced_garbage D (held_context can.0 w.view.places) t.0 s2 h2 f2 hosts none t.1;
    }

-- as many aren't marked as were counted
pub third_fresh : (types : List Declaration) (s s1 s2 : CountedSpace) (h1 f1 h2 f2 : ℕ) (roots : List Root) → MarksRoots s roots s1 h1 f1 → ScansAll types s1 h1 f1 s2 h2 f2
    → CanFreeUnreached s roots types → f2 ≡ fresh_in s2
third_fresh types s s1 s2 h1 f1 h2 f2 roots marks scans can =
    let is = can.1.1.0 in
    let w = can.1.1.1 in
    let t = traced types s s1 s2 h1 f1 h2 f2 roots marks scans can.0 can.1.0 is w in
    fresh_in_is (held_context can.0 w.view.places) t.0 s2 h2 f2 [] t.1

-- a sum that is 0 has no part
sum_none : (f : ℕ → ℕ) (ps : List ℕ) (p : ℕ) → sum_over f ps ≡ 0 → In p ps → f p ≡ 0
sum_none f [] p e i = elim i [ ]
sum_none f (_ ∷ ps) p e here = omega arith
sum_none f (q ∷ ps) p e (there i) = sum_none f ps p (omega arith) i

-- where all are marked, nothing is to be freed
pub none_fresh : (D : Type 0) (c : Context) (before now : finite.FinMap nat_cmp D) (places : List ℕ) (s : CountedSpace) (fresh : ℕ) → fresh ≡ fresh_in s → fresh ≡ 0
    → Garbage D c before places s now → FreedUnmarked D c before s now
none_fresh D c before now places s fresh is none garbage = record {
  places = places;
  garbage = garbage;
  all_reached = λ p i.
      let v = garbage.view in
      let held : In p v.places = subst (λ (ps : List ℕ). In p ps) (sym garbage.places_are) i in
      let listed : In p (places_of s.free.space.held) = subst (λ (ps : List ℕ). In p ps) (sym (places_are v s garbage.at.holds)) held in
      let zero_p = sum_none (λ q. 1 - word s.memory q % 2) (places_of s.free.space.held) p (sym is ∙ none) listed in
      let bit = garbage.bits p (garbage.at.from p held) in
      garbage.freeing.is_marked.only p (omega arith);
}

module _ (D : Type 0) (types : List Declaration) (s s1 s2 s3 : CountedSpace) (h1 f1 h2 f2 : ℕ) (roots : List Root) (hosts now : finite.FinMap nat_cmp D)
    (marks : MarksRoots s roots s1 h1 f1) (scans : ScansAll types s1 h1 f1 s2 h2 f2) (none : h2 ≡ 0) (frees : FreesRest types s2 hosts s3 now) where
  third_freed : (c : Context) (places : List ℕ) → IsContextOf c roots types → (w : Swept c places s) → FreedUnmarked D (held_context c w.view.places) hosts s3 now
  third_freed c places is w =
      let t = traced types s s1 s2 h1 f1 h2 f2 roots marks scans c places is w in
      frees (held_context c w.view.places) hosts t.1.view.places is.types_are (traced_garbage D (held_context c w.view.places) t.0 s2 h2 f2 hosts none t.1)

  pub third_clears : CanFreeUnreached s roots types → (o : Context) × ((ps : List ℕ) × AllMarked o ps s3)
  third_clears can =
      let w = can.1.1.1 in
      let f = third_freed can.0 can.1.0 can.1.1.0 w in
      (held_context can.0 w.view.places, (f.places, freed_marked D (held_context can.0 w.view.places) hosts now s3 f))

  pub third_ends : (s4 : CountedSpace) → Unmarks s3 s4 → (c : Context) (places : List ℕ) → IsContextOf c roots types → Swept c places s → FreesUnreached D c places s4 hosts now
  third_ends s4 unmarks c places is w =
      let f = third_freed c places is w in
      let u = unmarks (held_context c w.view.places) f.places (freed_marked D (held_context c w.view.places) hosts now s3 f) in
      subst (λ (ps : List ℕ). FreesUnreached D c ps s4 hosts now) w.places_are (record {
        view = u.view;
        at = u.at;
        done = done_for_all c.graph w.view w.drained u.view u.done;
        unmarked = u.none_marked;
        hosts = subst (λ (ps : List ℕ). HostsLeft D (held_context c w.view.places) ps hosts now) (sym u.places_are) f.garbage.hosts;
      })
