-- Marking frame slots, sweeping the list of shown words, and freeing what is queued.
use Rattle.std.proofs.Common.{◌≡◌, ℕ, ◌+◌, ◌<◌, ◌≤◌, List, [], ◌∷◌, ap, inl, inr, arith}
use Rattle.std.proofs.Math.Logic.{◌⊎◌}
use Rattle.std.proofs.lemmas.Bool.{cases_eq}
use Rattle.gc_memory.specs.Lists.{occ}
use Rattle.gc_memory.proofs.ListLemmas.{occ-same, In-occ, occ-In}
use Rattle.gc_drc.specs.View.{View}
use Rattle.gc_view.specs.Reach.{by_start, by_step}
use Rattle.gc_drc.specs.Graph.{CountedGraph, CountingReached}
use Rattle.gc_drc.specs.Unheld.{Unheld, unheld}
use Rattle.gc_drc.specs.CollectOps.{same, count_of, uncounted_or_queued, unshown, marked_also, unmarked, unqueued, freed}
use Rattle.gc_drc.specs.CollectStates.{IsView, Cascading, MarkingFrames, SweepingShown, Draining, Drained}
use Rattle.gc_drc.proofs.OccLemmas.{same-is, same-not, occ-cases, occ-without, names-at, holder}
use Rattle.gc_drc.proofs.CascadeLemmas.{CanLower, lowered_is_view, cascading_can_lower, cascading_lowered, cascading_skipped, cascading_freed, unqueued_is_view, cascading_unqueued, freed_is_view, hidden_is_view, cascading_hidden}

-- MARKING FRAME SLOTS

pub marked_is_view : (v : View) (x : ℕ) → IsView v → 0 < occ x v.places → occ x v.marked ≡ 0 → IsView (marked_also v x)
marked_is_view v x is held fresh = record {
  once = is.once;
  shown = is.shown;
  queue = is.queue;
  marked = λ y. let m = is.marked y in elim (cases_eq y x) [
    | inl e ↦
        let one : same y x ≡ 1 = same-is y x e in
        let at : occ y v.marked ≡ occ x v.marked = ap (λ n. occ n v.marked) e in
        let places_e : occ y v.places ≡ occ x v.places = ap (λ n. occ n v.places) e in
        omega arith
    | inr ne ↦ let z = same-not y x ne in omega arith
  ];
  positive = is.positive;
}

-- a frame slot's object is marked
pub frame_marked : (g : CountedGraph) (v : View) (x : ℕ) (left : List ℕ) → MarkingFrames g v (x ∷ left) → 0 < occ x g.frames → MarkingFrames g (marked_also v x) left
frame_marked g v x left m frame = record {
  only = λ y h. elim (cases_eq y x) [
    | inl e ↦ let at : occ y g.frames ≡ occ x g.frames = ap (λ n. occ n g.frames) e in omega arith
    | inr ne ↦ m.only y (let z = same-not y x ne in omega arith)
  ];
  all = λ y p f. elim (cases_eq y x) [
    | inl e ↦ inl (let one : same y x ≡ 1 = same-is y x e in omega arith)
    | inr ne ↦ let z = same-not y x ne in elim (m.all y p f) [ inl h ↦ inl (omega arith) | inr h ↦ inr (omega arith) ]
  ];
}

-- a frame slot's object had been marked, or the slot names none
pub frame_passed : (g : CountedGraph) (v : View) (x : ℕ) (left : List ℕ) → MarkingFrames g v (x ∷ left) → (occ x g.places ≡ 0) ⊎ (0 < occ x v.marked) → MarkingFrames g v left
frame_passed g v x left m why = record {
  only = m.only;
  all = λ y p f. elim (m.all y p f) [
    | inl h ↦ inl h
    | inr h ↦ elim (cases_eq y x) [
      | inr ne ↦ inr (let z = same-not y x ne in omega arith)
      | inl e ↦ elim why [
        | inl no_place ↦ absurd (let at : occ y g.places ≡ occ x g.places = ap (λ n. occ n g.places) e in omega arith)
        | inr is_marked ↦ inl (let at : occ y v.marked ≡ occ x v.marked = ap (λ n. occ n v.marked) e in omega arith)
      ]
    ]
  ];
}

-- SWEEPING THE LIST

-- the frame slots are marked, and nothing else
pub sweep_begins : (g : CountedGraph) (v : View) → IsView v → Cascading g v [] → MarkingFrames g v [] → SweepingShown g v [] v.shown
sweep_begins g v is c m = record {
  is_view = is;
  cascading = c;
  parts = λ x. omega arith;
  kept_frames = λ x h. absurd (omega arith);
  marks_left = λ x. elim (occ-cases x v.marked) [
    | inl none ↦ omega arith
    | inr some ↦
        let place : occ x v.marked ≤ occ x v.places = is.marked x in
        let from = c.from x in
        let on_list = c.shown x (omega arith) (m.only x some) in
        let once = is.once x in
        omega arith
  ];
  marks_frames = m.only;
  frames_marked = λ x h f.
      let s = is.shown x in
      let from = c.from x in
      elim (m.all x (omega arith) f) [ inl m1 ↦ m1 | inr none ↦ absurd (omega arith) ];
}

-- a marked object is kept on the list, and its mark is cleared
pub sweep_keeps : (g : CountedGraph) (v : View) (x : ℕ) (kept left : List ℕ) → SweepingShown g v kept (x ∷ left) → 0 < occ x v.marked → SweepingShown g (unmarked v x) (x ∷ kept) left
sweep_keeps g v x kept left s is_marked = record {
  is_view = record {
    once = s.is_view.once;
    shown = s.is_view.shown;
    queue = s.is_view.queue;
    marked = λ y. let w = occ-without x y v.marked is_marked in let m = s.is_view.marked y in omega arith;
    positive = s.is_view.positive;
  };
  cascading = record {
    counts = s.cascading.counts;
    from = s.cascading.from;
    gone = s.cascading.gone;
    shown = s.cascading.shown;
    freed = s.cascading.freed;
  };
  parts = λ y. let p : occ y v.shown ≡ occ y kept + (same y x + occ y left) = s.parts y in omega arith;
  kept_frames = λ y h. elim (cases_eq y x) [
    | inl e ↦
        let f = s.marks_frames x is_marked in
        let at : occ y g.frames ≡ occ x g.frames = ap (λ n. occ n g.frames) e in
        omega arith
    | inr ne ↦ s.kept_frames y (let z = same-not y x ne in omega arith)
  ];
  marks_left = λ y. let w = occ-without x y v.marked is_marked in let m : occ y v.marked ≤ same y x + occ y left = s.marks_left y in omega arith;
  marks_frames = λ y h. s.marks_frames y (let w = occ-without x y v.marked is_marked in omega arith);
  frames_marked = λ y h f.
      let w = occ-without x y v.marked is_marked in
      let p : occ y v.shown ≡ occ y kept + (same y x + occ y left) = s.parts y in
      let once = s.is_view.once y in
      let on_list = s.is_view.shown y in
      let m = s.frames_marked y (omega arith) f in
      omega arith;
}

-- an unmarked object is no frame slot's
unmarked_no_frame : (g : CountedGraph) (v : View) (x : ℕ) (kept left : List ℕ) → SweepingShown g v kept (x ∷ left) → occ x v.marked ≡ 0 → occ x g.frames ≡ 0
unmarked_no_frame g v x kept left s none = elim (occ-cases x g.frames) [
  | inl no_frame ↦ no_frame
  | inr frame ↦ absurd (let m = s.frames_marked x (let one = occ-same x left in omega arith) frame in omega arith)
]

swept_shown : (g : CountedGraph) (v : View) (x : ℕ) (kept left : List ℕ) → SweepingShown g v kept (x ∷ left) → 0 < occ x v.shown
swept_shown g v x kept left s = let p = s.parts x in let one = occ-same x left in omega arith

-- an unmarked object is taken off the list, and its share of the count is lowered
pub sweep_can_lower : (g : CountedGraph) (v : View) (x : ℕ) (kept left : List ℕ) → SweepingShown g v kept (x ∷ left) → occ x v.marked ≡ 0 → CanLower (unshown v x) x
sweep_can_lower g v x kept left s none =
    let on_list = swept_shown g v x kept left s in
    let is = hidden_is_view v x s.is_view on_list in
    let c = cascading_hidden g v x [] s.is_view s.cascading on_list (unmarked_no_frame g v x kept left s none) in
    let from = s.cascading.from x in
    let held = s.is_view.shown x in
    cascading_can_lower g (unshown v x) x [] is c (omega arith)

pub sweep_lowers : (g : CountedGraph) (v : View) (x : ℕ) (kept left : List ℕ) → SweepingShown g v kept (x ∷ left) → occ x v.marked ≡ 0
    → SweepingShown g (uncounted_or_queued (unshown v x) x) kept left
sweep_lowers g v x kept left s none =
    let on_list = swept_shown g v x kept left s in
    let no_frame = unmarked_no_frame g v x kept left s none in
    let c = cascading_hidden g v x [] s.is_view s.cascading on_list no_frame in
    record {
      is_view = lowered_is_view (unshown v x) x (sweep_can_lower g v x kept left s none);
      cascading = cascading_lowered g (unshown v x) x [] c;
      parts = λ y.
          let w = occ-without x y v.shown on_list in
          let p : occ y v.shown ≡ occ y kept + (same y x + occ y left) = s.parts y in
          omega arith;
      kept_frames = s.kept_frames;
      marks_left = λ y. let m : occ y v.marked ≤ same y x + occ y left = s.marks_left y in elim (cases_eq y x) [
        | inl e ↦ let at : occ y v.marked ≡ occ x v.marked = ap (λ n. occ n v.marked) e in omega arith
        | inr ne ↦ let z = same-not y x ne in omega arith
      ];
      marks_frames = s.marks_frames;
      frames_marked = λ y h f. s.frames_marked y (omega arith) f;
    }

-- the list is swept
pub sweep_ends : (g : CountedGraph) (v : View) (kept : List ℕ) → SweepingShown g v kept [] → Draining g v []
sweep_ends g v kept s = record {
  is_view = s.is_view;
  cascading = s.cascading;
  shown_frames = λ x h. s.kept_frames x (let p = s.parts x in omega arith);
  none_marked = λ x. let m = s.marks_left x in omega arith;
}

-- FREEING WHAT IS QUEUED

-- an object that has a name or is shown leaves the queue
pub drain_leaves : (g : CountedGraph) (v : View) (x : ℕ) → Draining g v [] → 0 < occ x v.queue → 1 < count_of v x → Draining g (unqueued v x) []
drain_leaves g v x d queued more = record {
  is_view = unqueued_is_view v x d.is_view queued more;
  cascading = cascading_unqueued g v x [] d.cascading;
  shown_frames = d.shown_frames;
  none_marked = d.none_marked;
}

-- another one is freed, and what it names is to be lowered
pub drain_frees : (g : CountedGraph) (v : View) (x : ℕ) → Draining g v [] → 0 < occ x v.queue → count_of v x ≡ 1 → Draining g (freed (unqueued v x) x) (g.words x)
drain_frees g v x d queued alone =
    let q = d.is_view.queue x in
    let is = freed_is_view v x d.is_view queued alone (d.none_marked x) in
    let held : 0 < occ x v.places = omega arith in
    let one : count_of v x ≡ 1 = alone in
    let none : v.counted x ≡ 0 = omega arith in
    let not_shown : occ x v.shown ≡ 0 = omega arith in
    let c = cascading_freed g v x d.cascading d.is_view held none not_shown in
    record {
      is_view = is;
      cascading = record { counts = c.counts; from = c.from; gone = c.gone; shown = c.shown; freed = c.freed };
      shown_frames = d.shown_frames;
      none_marked = d.none_marked;
    }

pub drain_can_lower : (g : CountedGraph) (v : View) (x : ℕ) (pending : List ℕ) → Draining g v (x ∷ pending) → 0 < occ x g.places → CanLower v x
drain_can_lower g v x pending d h = cascading_can_lower g v x pending d.is_view d.cascading h

pub drain_lowers : (g : CountedGraph) (v : View) (x : ℕ) (pending : List ℕ) → Draining g v (x ∷ pending) → 0 < occ x g.places → Draining g (uncounted_or_queued v x) pending
drain_lowers g v x pending d h = record {
  is_view = lowered_is_view v x (drain_can_lower g v x pending d h);
  cascading = cascading_lowered g v x pending d.cascading;
  shown_frames = d.shown_frames;
  none_marked = d.none_marked;
}

pub drain_skips : (g : CountedGraph) (v : View) (x : ℕ) (pending : List ℕ) → Draining g v (x ∷ pending) → occ x g.places ≡ 0 → Draining g v pending
drain_skips g v x pending d h = record {
  is_view = d.is_view;
  cascading = cascading_skipped g v x pending d.cascading h;
  shown_frames = d.shown_frames;
  none_marked = d.none_marked;
}

-- WHAT WAS FREED

-- what is kept isn't unheld
pub kept_not_unheld : (g : CountedGraph) (v : View) → Drained g v → (p : ℕ) → Unheld g p → 0 < occ p v.places → ⊥
kept_not_unheld g v d p (unheld i no_root no_frame holders) held =
    let c = d.draining.cascading in
    let counts = c.counts p (In-occ p g.places i) in
    let positive : 0 < v.counted p + occ p v.shown + occ p v.queue = d.draining.is_view.positive p held in
    let none_queued = d.none_queued p in
    let no_roots : occ p g.roots ≡ 0 = elim (occ-cases p g.roots) [ inl z ↦ z | inr some ↦ elim (no_root (occ-In p g.roots some)) [ ] ] in
    let not_shown : occ p v.shown ≡ 0 = elim (occ-cases p v.shown) [
      | inl z ↦ z
      | inr some ↦ elim (no_frame (occ-In p g.frames (d.draining.shown_frames p some))) [ ]
    ] in
    let held_name = holder g v.places p (omega arith) in
    let from = c.from held_name.at in
    let some = held_name.held in
    kept_not_unheld g v d held_name.at
    (holders held_name.at (occ-In held_name.at g.places (omega arith)) (occ-In p (g.words held_name.at) held_name.names_it)) some

-- what the roots reach is kept
pub reached_kept : (g : CountedGraph) (v : View) → Drained g v → (p : ℕ) → CountingReached g p → 0 < occ p v.places
reached_kept g v d p (by_start (i, inl r)) =
    let place = In-occ p g.places i in
    let root = In-occ p g.roots r in
    let counts = d.draining.cascading.counts p place in
    elim (occ-cases p v.places) [
      | inr some ↦ some
      | inl none ↦ absurd (let gone = d.draining.cascading.gone p place none in omega arith)
    ]
reached_kept g v d p (by_start (i, inr f)) =
    let on_list = d.draining.cascading.shown p (In-occ p g.places i) (In-occ p g.frames f) in
    let held = d.draining.is_view.shown p in
    omega arith
reached_kept g v d p (by_step {y = q} r (i, w)) =
    let place = In-occ p g.places i in
    let held = reached_kept g v d q r in
    let at = names-at g v.places q p held in
    let name = In-occ p (g.words q) w in
    let counts = d.draining.cascading.counts p place in
    elim (occ-cases p v.places) [
      | inr some ↦ some
      | inl none ↦ absurd (let gone = d.draining.cascading.gone p place none in omega arith)
    ]
