-- Lowering, freeing, and the least set of what is freed.
use Rattle.std.proofs.Common.{◌≡◌, ℕ, ◌+◌, ◌<◌, ◌≤◌, cond, nat_eq, true, false, List, [], ◌∷◌, refl, sym, ap, subst, ◌∙◌, inl, inr, arith}
use Rattle.std.proofs.lemmas.Bool.{cases_eq, eq-eqb, ne_eqb}
use Rattle.gc_memory.specs.Lists.{occ}
use Rattle.gc_memory.proofs.ListLemmas.{occ-same, In-occ, occ-In}
use Rattle.gc_drc.specs.View.{View}
use Rattle.gc_drc.specs.Graph.{CountedGraph, names}
use Rattle.gc_drc.specs.Unheld.{Unheld, unheld}
use Rattle.gc_drc.specs.CollectOps.{same, count_of, uncounted_or_queued, unshown, unqueued, freed}
use Rattle.gc_drc.specs.CollectStates.{IsView, Cascading}
use Rattle.gc_drc.proofs.OccLemmas.{same-is, same-not, occ-cond, occ-cases, occ-without, names-at, names-without}

-- an object that is lowered is held and has a name
pub record CanLower (v : View) (x : ℕ) : Type 0 where
  pub is_view : IsView v
  pub held : 0 < occ x v.places
  pub named : 0 < v.counted x

-- the queue where an object was lowered
queue_lowered : (v : View) (x y : ℕ) → CanLower v x → (occ y (uncounted_or_queued v x).queue ≤ occ y v.places) × (0 < occ y v.places → 0 < count_of (uncounted_or_queued v x) y)
queue_lowered v x y can =
    let longer : occ y (uncounted_or_queued v x).queue ≡ cond (nat_eq (count_of v x) 1) (same y x) 0 + occ y v.queue = occ-cond (nat_eq (count_of v x) 1) y x v.queue in
    let named : 0 < v.counted x = can.named in
    let once_x : occ x v.places ≤ 1 = can.is_view.once x in
    let queue_y : occ y v.queue ≤ occ y v.places = can.is_view.queue y in
    let positive_y : 0 < occ y v.places → 0 < count_of v y = can.is_view.positive y in
    elim (cases_eq y x) [
      | inr ne ↦
          let no_same : same y x ≡ 0 = same-not y x ne in
          let nothing : cond (nat_eq (count_of v x) 1) (same y x) 0 ≡ 0 =
          elim (nat_eq (count_of v x) 1) as (λ b. cond b (same y x) 0 ≡ 0) [ true ↦ no_same | false ↦ refl ] in
          (omega arith, λ (h : 0 < occ y v.places). let p : 0 < count_of v y = positive_y h in omega arith)
      | inl e ↦
          let one : same y x ≡ 1 = same-is y x e in
          let count_e : v.counted y ≡ v.counted x = ap v.counted e in
          let shown_e : occ y v.shown ≡ occ x v.shown = ap (λ n. occ n v.shown) e in
          let queued_e : occ y v.queue ≡ occ x v.queue = ap (λ n. occ n v.queue) e in
          let places_e : occ y v.places ≡ occ x v.places = ap (λ n. occ n v.places) e in
          let held : 0 < occ x v.places = can.held in
          elim (cases_eq (count_of v x) 1) [
            | inl is ↦
                let whole : cond (nat_eq (count_of v x) 1) (same y x) 0 ≡ 1 = ap (λ b. cond b (same y x) 0) (eq-eqb (count_of v x) 1 is) ∙ one in
                (omega arith, λ (h : 0 < occ y v.places). omega arith)
            | inr isnt ↦
                let nothing : cond (nat_eq (count_of v x) 1) (same y x) 0 ≡ 0 = ap (λ b. cond b (same y x) 0) (ne_eqb (count_of v x) 1 isnt) in
                let more : 1 < count_of v x = omega arith in
                (omega arith, λ (h : 0 < occ y v.places). omega arith)
          ]
    ]

pub lowered_is_view : (v : View) (x : ℕ) → CanLower v x → IsView (uncounted_or_queued v x)
lowered_is_view v x can = record {
  once = can.is_view.once;
  shown = can.is_view.shown;
  queue = λ y. (queue_lowered v x y can).0;
  marked = can.is_view.marked;
  positive = λ y h. (queue_lowered v x y can).1 h;
}

-- the first word that is to be lowered names a held object
pub cascading_can_lower : (g : CountedGraph) (v : View) (x : ℕ) (pending : List ℕ) → IsView v → Cascading g v (x ∷ pending) → 0 < occ x g.places → CanLower v x
cascading_can_lower g v x pending is c h =
    let counts = c.counts x h in
    let one = occ-same x pending in
    let named : 0 < v.counted x = omega arith in
    record {
      is_view = is;
      held = elim (occ-cases x v.places) [
        | inr some ↦ some
        | inl none ↦ absurd (let gone = c.gone x h none in omega arith)
      ];
      named = named;
    }

pub cascading_lowered : (g : CountedGraph) (v : View) (x : ℕ) (pending : List ℕ) → Cascading g v (x ∷ pending) → Cascading g (uncounted_or_queued v x) pending
cascading_lowered g v x pending c = record {
  counts = λ y h. let e : v.counted y ≡ names g v.places y + occ y g.roots + (same y x + occ y pending) = c.counts y h in omega arith;
  from = c.from;
  gone = λ y h none. let e = c.gone y h none in omega arith;
  shown = c.shown;
  freed = c.freed;
}

-- a word that is no place of an object counts nowhere
pub cascading_skipped : (g : CountedGraph) (v : View) (x : ℕ) (pending : List ℕ) → Cascading g v (x ∷ pending) → occ x g.places ≡ 0 → Cascading g v pending
cascading_skipped g v x pending c no_place = record {
  counts = λ y h.
      let e : v.counted y ≡ names g v.places y + occ y g.roots + (same y x + occ y pending) = c.counts y h in
      let other : same y x ≡ 0 = same-not y x (λ (is : y ≡ x). let p : occ y g.places ≡ occ x g.places = ap (λ n. occ n g.places) is in absurd (omega arith)) in
      omega arith;
  from = c.from;
  gone = c.gone;
  shown = c.shown;
  freed = c.freed;
}

-- An object is freed that nothing names and that isn't shown; it was unheld. What it names is to be lowered.
pub cascading_freed : (g : CountedGraph) (v : View) (x : ℕ) → Cascading g v [] → IsView v → 0 < occ x v.places → v.counted x ≡ 0 → occ x v.shown ≡ 0
    → Cascading g (freed v x) (g.words x)
cascading_freed g v x c is held none not_shown =
    let place : 0 < occ x g.places = let f = c.from x in omega arith in
    let nothing : v.counted x ≡ names g v.places x + occ x g.roots + 0 = c.counts x place in
    let itself : Unheld g x = unheld (occ-In x g.places place)
    (λ i. let some = In-occ x g.roots i in absurd (omega arith))
    (λ i. let some = c.shown x place (In-occ x g.frames i) in absurd (omega arith))
    (λ q i j. c.freed q (In-occ q g.places i) (elim (occ-cases q v.places) [
      | inl gone ↦ gone
      | inr some ↦ absurd (let some_name = In-occ x (g.words q) j in let at = names-at g v.places q x some in omega arith)
    ])) in
    record {
      counts = λ y h.
          let e : v.counted y ≡ names g v.places y + occ y g.roots + 0 = c.counts y h in
          let parts = names-without g v.places x y held in
          omega arith;
      from = λ y. let w = occ-without x y v.places held in let f = c.from y in omega arith;
      gone = λ y h lost. elim (cases_eq y x) [
        | inl e ↦ ap v.counted e ∙ none
        | inr ne ↦ c.gone y h (let w = occ-without x y v.places held in let z = same-not y x ne in omega arith)
      ];
      shown = c.shown;
      freed = λ y h lost. elim (cases_eq y x) [
        | inl e ↦ subst (λ (z : ℕ). Unheld g z) (sym e) itself
        | inr ne ↦ c.freed y h (let w = occ-without x y v.places held in let z = same-not y x ne in omega arith)
      ];
    }

-- off the queue: the object has a name or is shown
pub unqueued_is_view : (v : View) (x : ℕ) → IsView v → 0 < occ x v.queue → 1 < count_of v x → IsView (unqueued v x)
unqueued_is_view v x is queued more = record {
  once = is.once;
  shown = is.shown;
  queue = λ y. let w = occ-without x y v.queue queued in let q = is.queue y in omega arith;
  marked = is.marked;
  positive = λ y h.
      let w = occ-without x y v.queue queued in
      let p : 0 < count_of v y = is.positive y h in
      elim (cases_eq y x) [
        | inl e ↦
            let one : same y x ≡ 1 = same-is y x e in
            let count_e : v.counted y ≡ v.counted x = ap v.counted e in
            let shown_e : occ y v.shown ≡ occ x v.shown = ap (λ n. occ n v.shown) e in
            let queued_e : occ y v.queue ≡ occ x v.queue = ap (λ n. occ n v.queue) e in
            omega arith
        | inr ne ↦ let z = same-not y x ne in omega arith
      ];
}

pub cascading_unqueued : (g : CountedGraph) (v : View) (x : ℕ) (pending : List ℕ) → Cascading g v pending → Cascading g (unqueued v x) pending
cascading_unqueued g v x pending c = record { counts = c.counts; from = c.from; gone = c.gone; shown = c.shown; freed = c.freed }

-- off the queue and freed: nothing names the object
pub freed_is_view : (v : View) (x : ℕ) → IsView v → 0 < occ x v.queue → count_of v x ≡ 1 → occ x v.marked ≡ 0 → IsView (freed (unqueued v x) x)
freed_is_view v x is queued alone not_marked =
    let held : 0 < occ x v.places = let q = is.queue x in omega arith in
    let once_x : occ x v.places ≤ 1 = is.once x in
    record {
      once = λ y. let w = occ-without x y v.places held in let o = is.once y in omega arith;
      shown = λ y. let w = occ-without x y v.places held in let s = is.shown y in elim (cases_eq y x) [
        | inl e ↦ let one : same y x ≡ 1 = same-is y x e in let at : occ y v.shown ≡ occ x v.shown = ap (λ n. occ n v.shown) e in omega arith
        | inr ne ↦ let z = same-not y x ne in omega arith
      ];
      queue = λ y. let w = occ-without x y v.places held in let u = occ-without x y v.queue queued in let s = is.queue y in omega arith;
      marked = λ y. let w = occ-without x y v.places held in let s = is.marked y in elim (cases_eq y x) [
        | inl e ↦ let one : same y x ≡ 1 = same-is y x e in let at : occ y v.marked ≡ occ x v.marked = ap (λ n. occ n v.marked) e in omega arith
        | inr ne ↦ let z = same-not y x ne in omega arith
      ];
      positive = λ y h.
          let w = occ-without x y v.places held in
          let u = occ-without x y v.queue queued in
          let o = is.once y in
          elim (cases_eq y x) [
            | inl e ↦
                let one : same y x ≡ 1 = same-is y x e in
                absurd (omega arith)
            | inr ne ↦ let z = same-not y x ne in let p : 0 < count_of v y = is.positive y (omega arith) in omega arith
          ];
    }

-- off the list of shown words: the share of the count is a name that is still to be lowered
pub hidden_is_view : (v : View) (x : ℕ) → IsView v → 0 < occ x v.shown → IsView (unshown v x)
hidden_is_view v x is on_list = record {
  once = is.once;
  shown = λ y. let w = occ-without x y v.shown on_list in let s = is.shown y in omega arith;
  queue = is.queue;
  marked = is.marked;
  positive = λ y h. let w = occ-without x y v.shown on_list in let p : 0 < count_of v y = is.positive y h in omega arith;
}

pub cascading_hidden : (g : CountedGraph) (v : View) (x : ℕ) (pending : List ℕ) → IsView v → Cascading g v pending → 0 < occ x v.shown → occ x g.frames ≡ 0
    → Cascading g (unshown v x) (x ∷ pending)
cascading_hidden g v x pending is c on_list no_frame =
    let held : 0 < occ x v.places = let s = is.shown x in omega arith in
    record {
      counts = λ y h. let e : v.counted y ≡ names g v.places y + occ y g.roots + occ y pending = c.counts y h in omega arith;
      from = c.from;
      gone = λ y h none.
          let e = c.gone y h none in
          let z = same-not y x (λ (is_x : y ≡ x). let p : occ y v.places ≡ occ x v.places = ap (λ n. occ n v.places) is_x in absurd (omega arith)) in
          omega arith;
      shown = λ y h f.
          let s = c.shown y h f in
          let w = occ-without x y v.shown on_list in
          let z = same-not y x (λ (is_x : y ≡ x). let p : occ y g.frames ≡ occ x g.frames = ap (λ n. occ n g.frames) is_x in absurd (omega arith)) in
          omega arith;
      freed = c.freed;
    }
