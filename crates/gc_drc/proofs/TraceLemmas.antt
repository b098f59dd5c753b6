-- Marking what the roots reach, and freeing the rest.
use Rattle.std.proofs.Common.{◌≡◌, ℕ, ◌+◌, ◌<◌, ◌≤◌, List, [], ◌∷◌, sym, ap, subst, inl, inr, arith}
use Rattle.std.proofs.Math.Logic.{◌⊎◌}
use Rattle.std.proofs.lemmas.Bool.{cases_eq}
use Rattle.gc_memory.specs.Lists.{occ}
use Rattle.gc_memory.proofs.ListLemmas.{occ-same, In-occ, occ-In}
use Rattle.gc_drc.specs.View.{View}
use Rattle.gc_view.specs.Reach.{by_start, by_step}
use Rattle.gc_drc.specs.Graph.{CountedGraph, names, CountingReached}
use Rattle.gc_drc.specs.CollectOps.{same, count_of, uncounted, marked_also, unmarked, freed}
use Rattle.gc_drc.specs.CollectStates.{IsView, Cascading, Tracing, Marked, Freeing, Done}
use Rattle.gc_drc.proofs.OccLemmas.{same-is, same-not, occ-cases, occ-without, names-at, names-without}

-- MARKING

-- the words of the roots are to be looked at, in any order
pub trace_begins : (g : CountedGraph) (v : View) (pending : List ℕ) → ((x : ℕ) → occ x pending ≡ occ x g.roots + occ x g.frames) → ((x : ℕ) → occ x v.marked ≡ 0) → Tracing g v pending []
trace_begins g v pending all none = record {
  marked_reached = λ x h. absurd (let z = none x in omega arith);
  pending_reached = λ x p h. elim (occ-cases x g.roots) [
    | inr root ↦ by_start (occ-In x g.places p, inl (occ-In x g.roots root))
    | inl no_root ↦ by_start (occ-In x g.places p, inr (occ-In x g.frames (let a = all x in omega arith)))
  ];
  waiting = λ x. omega arith;
  roots = λ x p h. inr (let a = all x in omega arith);
  frames = λ x p h. inr (let a = all x in omega arith);
  fields = λ p x h. absurd (let z = none p in omega arith);
}

marked_or : (v : View) (x y : ℕ) (pending : List ℕ) → (0 < occ y v.marked) ⊎ (0 < occ y (x ∷ pending)) → (0 < occ y (marked_also v x).marked) ⊎ (0 < occ y pending)
marked_or v x y pending (inl h) = inl (omega arith)
marked_or v x y pending (inr h) = elim (cases_eq y x) [
  | inl e ↦ inl (let one : same y x ≡ 1 = same-is y x e in omega arith)
  | inr ne ↦ inr (let z = same-not y x ne in omega arith)
]

-- an object that a word names is marked, and is to be scanned
pub trace_marks : (g : CountedGraph) (v : View) (x : ℕ) (pending work : List ℕ) → Tracing g v (x ∷ pending) work → 0 < occ x g.places → Tracing g (marked_also v x) pending (x ∷ work)
trace_marks g v x pending work t place =
    let one = occ-same x pending in
    let reached : CountingReached g x = t.pending_reached x place (omega arith) in
    record {
      marked_reached = λ y h. elim (cases_eq y x) [
        | inl e ↦ subst (λ (z : ℕ). CountingReached g z) (sym e) reached
        | inr ne ↦ t.marked_reached y (let z = same-not y x ne in omega arith)
      ];
      pending_reached = λ y p h. t.pending_reached y p (omega arith);
      waiting = λ y. let w = t.waiting y in omega arith;
      roots = λ y p h. marked_or v x y pending (t.roots y p h);
      frames = λ y p h. marked_or v x y pending (t.frames y p h);
      fields = λ p y h place_y names_y. elim (cases_eq p x) [
        | inl e ↦ inl (let is : same p x ≡ 1 = same-is p x e in omega arith)
        | inr ne ↦ let z = same-not p x ne in elim (t.fields p y (omega arith) place_y names_y) [
          | inl waits ↦ inl (omega arith)
          | inr other ↦ inr (marked_or v x y pending other)
        ]
      ];
    }

passed_or : (g : CountedGraph) (v : View) (x y : ℕ) (pending : List ℕ) → (occ x g.places ≡ 0) ⊎ (0 < occ x v.marked) → 0 < occ y g.places
    → (0 < occ y v.marked) ⊎ (0 < occ y (x ∷ pending)) → (0 < occ y v.marked) ⊎ (0 < occ y pending)
passed_or g v x y pending why place (inl h) = inl h
passed_or g v x y pending why place (inr h) = elim (cases_eq y x) [
  | inr ne ↦ inr (let z = same-not y x ne in omega arith)
  | inl e ↦ elim why [
    | inl no_place ↦ absurd (let at : occ y g.places ≡ occ x g.places = ap (λ n. occ n g.places) e in omega arith)
    | inr is_marked ↦ inl (let at : occ y v.marked ≡ occ x v.marked = ap (λ n. occ n v.marked) e in omega arith)
  ]
]

-- a word names no object, or one that is marked
pub trace_passes : (g : CountedGraph) (v : View) (x : ℕ) (pending work : List ℕ) → Tracing g v (x ∷ pending) work → (occ x g.places ≡ 0) ⊎ (0 < occ x v.marked) → Tracing g v pending work
trace_passes g v x pending work t why = record {
  marked_reached = t.marked_reached;
  pending_reached = λ y p h. t.pending_reached y p (omega arith);
  waiting = t.waiting;
  roots = λ y p h. passed_or g v x y pending why p (t.roots y p h);
  frames = λ y p h. passed_or g v x y pending why p (t.frames y p h);
  fields = λ p y h place names_y. elim (t.fields p y h place names_y) [
    | inl waits ↦ inl waits
    | inr other ↦ inr (passed_or g v x y pending why place other)
  ];
}

-- a marked object is scanned next
pub trace_scans : (g : CountedGraph) (v : View) (x : ℕ) (work : List ℕ) → Tracing g v [] (x ∷ work) → Tracing g v (g.words x) work
trace_scans g v x work t =
    let one = occ-same x work in
    let waits : occ x (x ∷ work) ≤ occ x v.marked = t.waiting x in
    let reached : CountingReached g x = t.marked_reached x (omega arith) in
    record {
      marked_reached = t.marked_reached;
      pending_reached = λ y p h. by_step reached (occ-In y g.places p, occ-In y (g.words x) h);
      waiting = λ y. let w : occ y (x ∷ work) ≤ occ y v.marked = t.waiting y in omega arith;
      roots = λ y p h. elim (t.roots y p h) [ inl m ↦ inl m | inr none ↦ absurd (omega arith) ];
      frames = λ y p h. elim (t.frames y p h) [ inl m ↦ inl m | inr none ↦ absurd (omega arith) ];
      fields = λ p y h place names_y. elim (t.fields p y h place names_y) [
        | inr (inl m) ↦ inr (inl m)
        | inr (inr none) ↦ absurd (omega arith)
        | inl w ↦ elim (cases_eq p x) [
          | inl e ↦ inr (inr (let at : occ y (g.words p) ≡ occ y (g.words x) = ap (λ n. occ y (g.words n)) e in omega arith))
          | inr ne ↦ inl (let z = same-not p x ne in omega arith)
        ]
      ];
    }

all_marked : (g : CountedGraph) (v : View) → Tracing g v [] [] → (x : ℕ) → CountingReached g x → 0 < occ x v.marked
all_marked g v t x (by_start (i, inl r)) = elim (t.roots x (In-occ x g.places i) (In-occ x g.roots r)) [ inl m ↦ m | inr none ↦ absurd (omega arith) ]
all_marked g v t x (by_start (i, inr f)) = elim (t.frames x (In-occ x g.places i) (In-occ x g.frames f)) [ inl m ↦ m | inr none ↦ absurd (omega arith) ]
all_marked g v t x (by_step {y = q} r (i, w)) =
    elim (t.fields q x (all_marked g v t q r) (In-occ x g.places i) (In-occ x (g.words q) w)) [
      | inl none ↦ absurd (omega arith)
      | inr (inl m) ↦ m
      | inr (inr none) ↦ absurd (omega arith)
    ]

-- nothing is left to look at
pub trace_ends : (g : CountedGraph) (v : View) → Tracing g v [] [] → Marked g v
trace_ends g v t = record { only = t.marked_reached; all = all_marked g v t }

-- FREEING THE REST

-- what was drained, with marks now
pub freeing_begins : (g : CountedGraph) (v : View) → IsView v → Cascading g v [] → ((x : ℕ) → 0 < occ x v.shown → 0 < occ x g.frames) → ((x : ℕ) → occ x v.queue ≡ 0)
    → Marked g v → Freeing g v []
freeing_begins g v is c only none m = record {
  is_view = is;
  is_marked = m;
  counts = λ x h. c.counts x (let k = is.marked x in let f = c.from x in omega arith);
  from = c.from;
  frames_shown = c.shown;
  shown_frames = only;
  none_queued = none;
}

-- a marked object has a name of its own beside those that are to be lowered, or is shown
still_named : (g : CountedGraph) (v : View) (pending : List ℕ) (x : ℕ) → Freeing g v pending → CountingReached g x → 0 < names g v.places x + occ x g.roots + occ x v.shown
still_named g v pending x f (by_start (i, inl r)) = let root = In-occ x g.roots r in omega arith
still_named g v pending x f (by_start (i, inr s)) = let on_list = f.frames_shown x (In-occ x g.places i) (In-occ x g.frames s) in omega arith
still_named g v pending x f (by_step {y = q} r (i, w)) =
    let marks = f.is_marked.all q r in
    let held = f.is_view.marked q in
    let at = names-at g v.places q x (omega arith) in
    let name = In-occ x (g.words q) w in
    omega arith

-- a name of a marked object is lowered
pub record CanUncount (v : View) (x : ℕ) : Type 0 where
  pub is_view : IsView v
  pub held : 0 < occ x v.places
  pub named : 0 < v.counted x
  pub more : 1 < count_of v x

pub freeing_can_uncount : (g : CountedGraph) (v : View) (x : ℕ) (pending : List ℕ) → Freeing g v (x ∷ pending) → 0 < occ x v.marked → CanUncount v x
freeing_can_uncount g v x pending f m =
    let held = f.is_view.marked x in
    let counts = f.counts x m in
    let one = occ-same x pending in
    let still = still_named g v (x ∷ pending) x f (f.is_marked.only x m) in
    record { is_view = f.is_view; held = omega arith; named = omega arith; more = omega arith }

pub freeing_uncounts : (g : CountedGraph) (v : View) (x : ℕ) (pending : List ℕ) → Freeing g v (x ∷ pending) → 0 < occ x v.marked → Freeing g (uncounted v x) pending
freeing_uncounts g v x pending f m =
    let can = freeing_can_uncount g v x pending f m in
    record {
      is_view = record {
        once = f.is_view.once;
        shown = f.is_view.shown;
        queue = f.is_view.queue;
        marked = f.is_view.marked;
        positive = λ y h. let p : 0 < count_of v y = f.is_view.positive y h in elim (cases_eq y x) [
          | inl e ↦
              let one : same y x ≡ 1 = same-is y x e in
              let count_e : v.counted y ≡ v.counted x = ap v.counted e in
              let shown_e : occ y v.shown ≡ occ x v.shown = ap (λ n. occ n v.shown) e in
              let queued_e : occ y v.queue ≡ occ x v.queue = ap (λ n. occ n v.queue) e in
              let more : 1 < count_of v x = can.more in
              omega arith
          | inr ne ↦ let z = same-not y x ne in omega arith
        ];
      };
      is_marked = record { only = f.is_marked.only; all = f.is_marked.all };
      counts = λ y h. let e : v.counted y ≡ names g v.places y + occ y g.roots + (same y x + occ y pending) = f.counts y h in omega arith;
      from = f.from;
      frames_shown = f.frames_shown;
      shown_frames = f.shown_frames;
      none_queued = f.none_queued;
    }

-- a word names no marked object
pub freeing_skips : (g : CountedGraph) (v : View) (x : ℕ) (pending : List ℕ) → Freeing g v (x ∷ pending) → occ x v.marked ≡ 0 → Freeing g v pending
freeing_skips g v x pending f none = record {
  is_view = f.is_view;
  is_marked = f.is_marked;
  counts = λ y h.
      let e : v.counted y ≡ names g v.places y + occ y g.roots + (same y x + occ y pending) = f.counts y h in
      let z = same-not y x (λ (is : y ≡ x). let at : occ y v.marked ≡ occ x v.marked = ap (λ n. occ n v.marked) is in absurd (omega arith)) in
      omega arith;
  from = f.from;
  frames_shown = f.frames_shown;
  shown_frames = f.shown_frames;
  none_queued = f.none_queued;
}

-- an unmarked object isn't shown
pub unmarked_not_shown : (g : CountedGraph) (v : View) (x : ℕ) (pending : List ℕ) → Freeing g v pending → 0 < occ x v.places → occ x v.marked ≡ 0 → occ x v.shown ≡ 0
unmarked_not_shown g v x pending f held none = elim (occ-cases x v.shown) [
  | inl z ↦ z
  | inr some ↦
      let from = f.from x in
      absurd (let m = f.is_marked.all x (by_start (occ-In x g.places (omega arith), inr (occ-In x g.frames (f.shown_frames x some)))) in omega arith)
]

-- an unmarked object is freed, and what it names is to be lowered
pub freeing_frees : (g : CountedGraph) (v : View) (x : ℕ) → Freeing g v [] → 0 < occ x v.places → occ x v.marked ≡ 0 → Freeing g (freed v x) (g.words x)
freeing_frees g v x f held none =
    let not_shown = unmarked_not_shown g v x [] f held none in
    let once_x = f.is_view.once x in
    record {
      is_view = record {
        once = λ y. let w = occ-without x y v.places held in let o = f.is_view.once y in omega arith;
        shown = λ y. let w = occ-without x y v.places held in let s = f.is_view.shown y in elim (cases_eq y x) [
          | inl e ↦ let at : occ y v.shown ≡ occ x v.shown = ap (λ n. occ n v.shown) e in omega arith
          | inr ne ↦ let z = same-not y x ne in omega arith
        ];
        queue = λ y. let z = f.none_queued y in omega arith;
        marked = λ y. let w = occ-without x y v.places held in let s = f.is_view.marked y in elim (cases_eq y x) [
          | inl e ↦ let at : occ y v.marked ≡ occ x v.marked = ap (λ n. occ n v.marked) e in omega arith
          | inr ne ↦ let z = same-not y x ne in omega arith
        ];
        positive = λ y h. f.is_view.positive y (let w = occ-without x y v.places held in omega arith);
      };
      is_marked = record { only = f.is_marked.only; all = f.is_marked.all };
      counts = λ y h.
          let e : v.counted y ≡ names g v.places y + occ y g.roots + 0 = f.counts y h in
          let parts = names-without g v.places x y held in
          omega arith;
      from = λ y. let w = occ-without x y v.places held in let o = f.from y in omega arith;
      frames_shown = f.frames_shown;
      shown_frames = f.shown_frames;
      none_queued = f.none_queued;
    }

-- all that is held is marked
pub freeing_ends : (g : CountedGraph) (v : View) → Freeing g v [] → ((x : ℕ) → 0 < occ x v.places → 0 < occ x v.marked) → Done g v
freeing_ends g v f all = record {
  is_view = f.is_view;
  held = λ x h. f.is_marked.only x (all x h);
  kept = λ x r. let m = f.is_marked.all x r in let held = f.is_view.marked x in omega arith;
  counts = λ x h. let e : v.counted x ≡ names g v.places x + occ x g.roots + 0 = f.counts x (all x h) in omega arith;
  shown_frames = f.shown_frames;
  frames_shown = f.frames_shown;
  none_queued = f.none_queued;
}

-- a mark is cleared at the end
pub done_unmarked : (g : CountedGraph) (v : View) (x : ℕ) → Done g v → 0 < occ x v.marked → Done g (unmarked v x)
done_unmarked g v x d m = record {
  is_view = record {
    once = d.is_view.once;
    shown = d.is_view.shown;
    queue = d.is_view.queue;
    marked = λ y. let w = occ-without x y v.marked m in let s = d.is_view.marked y in omega arith;
    positive = d.is_view.positive;
  };
  held = d.held;
  kept = d.kept;
  counts = d.counts;
  shown_frames = d.shown_frames;
  frames_shown = d.frames_shown;
  none_queued = d.none_queued;
}
