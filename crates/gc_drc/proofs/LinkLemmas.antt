-- Lists that are linked through memory, in the middle.
use Rattle.std.proofs.Common.{◌≡◌, ℕ, ◌+◌, ◌<◌, cond, nat_eq, false, List, [], ◌∷◌, refl, sym, ap, subst, ◌∙◌, inl, inr, arith}
use Rattle.std.proofs.lemmas.Bool.{cases_eq, eq-eqb, ne_eqb}
use Rattle.gc_memory.specs.Words.{word}
use Rattle.gc_memory.specs.Lists.{In, here, there, occ}
use Rattle.gc_drc.specs.View.{Linked, last, link}
use Rattle.gc_drc.specs.CollectOps.{same, without_one}
use Rattle.gc_drc.specs.CollectLists.{onto, front}
use Rattle.gc_drc.proofs.OccLemmas.{same-is}

-- a linked list begins at its first
pub linked_first : (m : List ℕ) (offset h : ℕ) (xs : List ℕ) → Linked m offset h xs → h ≡ front xs
linked_first m offset _ [] last = refl
linked_first m offset _ (_ ∷ xs) (link positive rest) = refl

pub linked_rest : (m : List ℕ) (offset h x : ℕ) (xs : List ℕ) → Linked m offset h (x ∷ xs) → (h ≡ x) × (0 < x) × Linked m offset (word m (x + offset)) xs
linked_rest m offset _ _ xs (link positive rest) = (refl, positive, rest)

-- none of a list is 0, so a list that begins at 0 is empty
pub linked_empty : (m : List ℕ) (offset h : ℕ) (xs : List ℕ) → Linked m offset h xs → h ≡ 0 → xs ≡ []
linked_empty m offset _ [] last e = refl
linked_empty m offset _ (_ ∷ xs) (link positive rest) e = absurd (omega arith)

-- a list that begins at a place
pub record Begins (xs : List ℕ) (x : ℕ) : Type 0 where
  pub rest : List ℕ
  pub is : xs ≡ x ∷ rest

pub linked_begins : (m : List ℕ) (offset h : ℕ) (xs : List ℕ) → Linked m offset h xs → (h ≡ 0 → ⊥) → Begins xs h
linked_begins m offset _ [] last ne = elim (ne refl) [ ]
linked_begins m offset _ (_ ∷ xs) (link positive rest) ne = record { rest = xs; is = refl }

pub without_first : (x : ℕ) (xs : List ℕ) → without_one x (x ∷ xs) ≡ xs
without_first x xs = ap (λ b. cond b xs (x ∷ without_one x xs)) (eq-eqb x x refl)

pub occ-onto : (x : ℕ) (ks left : List ℕ) → occ x (onto ks left) ≡ occ x ks + occ x left
occ-onto x [] left = omega arith
occ-onto x (k ∷ ks) left = omega (arith, occ-onto x ks (k ∷ left))

-- what lies behind the one that is given first
pub linked_behind : (m : List ℕ) (offset h k : ℕ) (ks left : List ℕ) → Linked m offset h (onto ks (k ∷ left)) → (0 < k) × Linked m offset (word m (k + offset)) left
linked_behind m offset h k [] left linked = let r = linked_rest m offset h k left linked in (r.1, r.2)
linked_behind m offset h k (j ∷ js) left linked =
    let r = linked_behind m offset h j js (k ∷ left) linked in
    let s = linked_rest m offset (word m (j + offset)) k left r.1 in
    (s.1, s.2)

-- the word of what is given first leads to what lies behind it
pub leads_behind : (m : List ℕ) (offset h k x : ℕ) (ks left : List ℕ) → Linked m offset h (onto ks (k ∷ x ∷ left)) → word m (k + offset) ≡ x
leads_behind m offset h k x ks left linked = (linked_rest m offset (word m (k + offset)) x left (linked_behind m offset h k ks (x ∷ left) linked).1).0

-- another list behind it
pub relinked : (m m' : List ℕ) (offset h k n : ℕ) (ks left left' : List ℕ) → Linked m offset h (onto ks (k ∷ left)) → Linked m' offset n left' → word m' (k + offset) ≡ n
    → ((p : ℕ) → In p ks → word m' (p + offset) ≡ word m (p + offset)) → Linked m' offset h (onto ks (k ∷ left'))
relinked m m' offset h k n [] left left' linked behind leads same =
    let r = linked_rest m offset h k left linked in
    subst (λ (z : ℕ). Linked m' offset z (k ∷ left')) (sym r.0) (link r.1 (subst (λ (z : ℕ). Linked m' offset z left') (sym leads) behind))
relinked m m' offset h k n (j ∷ js) left left' linked behind leads same =
    let r = linked_behind m offset h j js (k ∷ left) linked in
    let s = linked_rest m offset (word m (j + offset)) k left r.1 in
    relinked m m' offset h j k js (k ∷ left) (k ∷ left') linked (link s.1 (subst (λ (z : ℕ). Linked m' offset z left') (sym leads) behind)) (same j here ∙ s.0) (λ p i. same p (there i))

-- without the one that stands behind the others
pub without_onto : (x : ℕ) (ks left : List ℕ) → occ x ks ≡ 0 → without_one x (onto ks (x ∷ left)) ≡ onto ks left
without_onto x [] left none = without_first x left
without_onto x (k ∷ ks) left none =
    let other : same x k ≡ 0 = omega arith in
    without_onto_at x ks (k ∷ x ∷ left) (k ∷ left) (omega arith)
    (ap (λ b. cond b (x ∷ left) (k ∷ without_one x (x ∷ left))) (nat_not x k other) ∙ ap (λ ys. k ∷ ys) (without_first x left))
  where
    nat_not : (a b : ℕ) → same a b ≡ 0 → nat_eq a b ≡ false
    nat_not a b e = elim (cases_eq a b) [
      | inl is ↦ absurd (let one : same a b ≡ 1 = same-is a b is in omega arith)
      | inr ne ↦ ne_eqb a b ne
    ]

    without_onto_at : (y : ℕ) (js left1 left2 : List ℕ) → occ y js ≡ 0 → without_one y left1 ≡ left2 → without_one y (onto js left1) ≡ onto js left2
    without_onto_at y [] left1 left2 z e = e
    without_onto_at y (j ∷ js) left1 left2 z e =
        without_onto_at y js (j ∷ left1) (j ∷ left2) (omega arith)
        (let other : same y j ≡ 0 = omega arith in
        ap (λ b. cond b left1 (j ∷ without_one y left1)) (nat_not y j other) ∙ ap (λ ys. j ∷ ys) e)
