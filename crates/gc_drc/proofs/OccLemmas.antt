-- Lists of places as multisets, and the names of a graph.
use Rattle.std.proofs.Common.{◌≡◌, ℕ, ◌+◌, ◌<◌, ◌≤◌, cond, true, false, Bool, List, [], ◌∷◌, refl, sym, ap, inl, inr, arith}
use Rattle.std.proofs.Math.Logic.{◌⊎◌}
use Rattle.std.proofs.lemmas.Bool.{cases_eq, cases_lt, eq-eqb, ne_eqb}
use Rattle.gc_memory.specs.Lists.{sum_over, occ}
use Rattle.gc_memory.proofs.ListLemmas.{occ-same, occ-other}
use Rattle.gc_drc.specs.Graph.{CountedGraph, names}
use Rattle.gc_drc.specs.CollectOps.{same, without_one}

pub same-is : (x y : ℕ) → x ≡ y → same x y ≡ 1
same-is x y e = ap (λ b. cond b 1 0) (eq-eqb x y e)

pub same-not : (x y : ℕ) → (x ≡ y → ⊥) → same x y ≡ 0
same-not x y ne = ap (λ b. cond b 1 0) (ne_eqb x y ne)

-- a list that is longer where a test is true
pub occ-cond : (b : Bool) (x y : ℕ) (ys : List ℕ) → occ x (cond b (y ∷ ys) ys) ≡ cond b (same x y) 0 + occ x ys
occ-cond true x y ys = refl
occ-cond false x y ys = omega arith

-- none, or at least one
pub occ-cases : (x : ℕ) (xs : List ℕ) → (occ x xs ≡ 0) ⊎ (0 < occ x xs)
occ-cases x xs = elim (cases_lt 0 (occ x xs)) [ inl h ↦ inr h | inr h ↦ inl (omega arith) ]

pub occ-without : (x y : ℕ) (xs : List ℕ) → 0 < occ x xs → occ y (without_one x xs) + same y x ≡ occ y xs
occ-without x y [] h = absurd (omega arith)
occ-without x y (z ∷ zs) h = elim (cases_eq x z) [
  | inl e ↦
      let same_z : same y z ≡ same y x = ap (λ n. same y n) (sym e) in
      let first : occ y (without_one x (z ∷ zs)) ≡ occ y zs = ap (λ b. occ y (cond b zs (z ∷ without_one x zs))) (eq-eqb x z e) in
      omega arith
  | inr ne ↦
      let first : occ y (without_one x (z ∷ zs)) ≡ occ y (z ∷ without_one x zs) = ap (λ b. occ y (cond b zs (z ∷ without_one x zs))) (ne_eqb x z ne) in
      let rest = occ-without x y zs (omega (arith, occ-other x z zs ne)) in
      omega arith
]

pub sum_over-without : (f : ℕ → ℕ) (x : ℕ) (xs : List ℕ) → 0 < occ x xs → sum_over f (without_one x xs) + f x ≡ sum_over f xs
sum_over-without f x [] h = absurd (omega arith)
sum_over-without f x (z ∷ zs) h = elim (cases_eq x z) [
  | inl e ↦
      let same_z : f z ≡ f x = ap f (sym e) in
      let first : sum_over f (without_one x (z ∷ zs)) ≡ sum_over f zs = ap (λ b. sum_over f (cond b zs (z ∷ without_one x zs))) (eq-eqb x z e) in
      omega arith
  | inr ne ↦
      let first : sum_over f (without_one x (z ∷ zs)) ≡ sum_over f (z ∷ without_one x zs) = ap (λ b. sum_over f (cond b zs (z ∷ without_one x zs))) (ne_eqb x z ne) in
      let rest = sum_over-without f x zs (omega (arith, occ-other x z zs ne)) in
      omega arith
]

-- what an object of the list adds to a sum
pub sum_over-at : (f : ℕ → ℕ) (x : ℕ) (xs : List ℕ) → 0 < occ x xs → f x ≤ sum_over f xs
sum_over-at f x xs h = omega (arith, sum_over-without f x xs h)

-- the names of a place in one object that is held
pub names-at : (g : CountedGraph) (ps : List ℕ) (q x : ℕ) → 0 < occ q ps → occ x (g.words q) ≤ names g ps x
names-at g ps q x h = sum_over-at (λ (p : ℕ). occ x (g.words p)) q ps h

-- the names without one object
pub names-without : (g : CountedGraph) (ps : List ℕ) (q x : ℕ) → 0 < occ q ps → names g (without_one q ps) x + occ x (g.words q) ≡ names g ps x
names-without g ps q x h = sum_over-without (λ (p : ℕ). occ x (g.words p)) q ps h

-- a place that has a name in objects has a holder
pub record Holder (g : CountedGraph) (ps : List ℕ) (x : ℕ) : Type 0 where
  pub at : ℕ
  pub held : 0 < occ at ps
  pub names_it : 0 < occ x (g.words at)

pub holder : (g : CountedGraph) (ps : List ℕ) (x : ℕ) → 0 < names g ps x → Holder g ps x
holder g [] x h = absurd (omega arith)
holder g (p ∷ ps) x h = elim (occ-cases x (g.words p)) [
  | inr some ↦ record { at = p; held = omega (arith, occ-same p ps); names_it = some }
  | inl none ↦
      let r = holder g ps x (omega (arith, none)) in
      record { at = r.at; held = omega (arith, r.held); names_it = r.names_it }
]
