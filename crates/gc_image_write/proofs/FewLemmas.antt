-- Numbers below a bound that all differ are no more than the bound.
use Rattle.std.proofs.Common.{◌≡◌, ℕ, ◌≤◌, ◌<◌, ◌⊎◌, inl, inr, suc, zero, List, length, get_or, Option, Some, sym, ap, ◌∙◌, arith}
use Rattle.std.specs.List.{slice_get}
use Rattle.std.proofs.lemmas.Bool.{cases_eq}
use Rattle.std.proofs.lemmas.Option.{same_Some, slice_get-get_or, slice_get_within}
use Rattle.gc_image_write.specs.declared.walk.Mark.TheVariants.{Numbered}
use Rattle.gc_image_write.specs.Order.{IsOrder}
use Rattle.gc_image_write.specs.Walking.{IsIdle, WalkParts}
use Rattle.gc_image.proofs.AlikeLemmas.{found_number, number_of}

-- a function that avoids a number, as it takes another one in its place
abbrev instead : {a b : ℕ} → (a ≡ b) ⊎ (¬ (a ≡ b)) → ℕ → ℕ
instead {a} (inl same) other = other
instead {a} (inr differ) other = a

instead_low : (a b other : ℕ) (c : (a ≡ b) ⊎ (¬ (a ≡ b))) → a < suc b → other < suc b → (a ≡ b → ¬ (other ≡ b)) → instead c other < b
instead_low a b other (inl same) low also differ = let below : other < b = omega (arith, also, differ same) in below
instead_low a b other (inr isnt) low also differ = let below : a < b = omega (arith, low, isnt) in below

instead_apart : (a z b other : ℕ) (c : (a ≡ b) ⊎ (¬ (a ≡ b))) (d : (z ≡ b) ⊎ (¬ (z ≡ b))) → (¬ (a ≡ other)) → (¬ (z ≡ other)) → instead c other ≡ instead d other → a ≡ z
instead_apart a z b other (inl same) (inl also) one two e = same ∙ sym also
instead_apart a z b other (inl same) (inr isnt) one two e = absurd (two (sym e))
instead_apart a z b other (inr isnt) (inl same) one two e = absurd (one e)
instead_apart a z b other (inr isnt) (inr also) one two e = e

pub few_apart : (bound many : ℕ) (f : ℕ → ℕ) → ((i : ℕ) → i < many → f i < bound) → ((i j : ℕ) → i < many → j < many → f i ≡ f j → i ≡ j) → many ≤ bound
few_apart bound zero f low apart = omega arith
few_apart zero (suc many) f low apart = absurd (omega (arith, low 0 (omega arith)))
few_apart (suc bound) (suc many) f low apart =
    let isnt_last : (i : ℕ) → i < many → ¬ (f i ≡ f many) = λ i below e. omega (arith, below, apart i many (omega (arith, below)) (omega arith) e) in
    let rest =
    few_apart bound many (λ i. instead (cases_eq (f i) bound) (f many))
    (λ i below. instead_low (f i) bound (f many) (cases_eq (f i) bound) (low i (omega (arith, below))) (low many (omega arith)) (λ same last. isnt_last i below (same ∙ sym last)))
    (λ i j one two e.
    apart i j (omega (arith, one)) (omega (arith, two)) (instead_apart (f i) (f j) bound (f many) (cases_eq (f i) bound) (cases_eq (f j) bound) (isnt_last i one) (isnt_last j two) e)) in
    omega (arith, rest)

-- so a list of such numbers is no longer
pub few_distinct : (bound : ℕ) (xs : List ℕ) → ((n x : ℕ) → slice_get xs n ≡ Some x → x < bound) → ((n m x : ℕ) → slice_get xs n ≡ Some x → slice_get xs m ≡ Some x → n ≡ m) → length xs ≤ bound
few_distinct bound xs low once =
    few_apart bound (length xs) (λ i. get_or xs i 0) (λ i below. low i (get_or xs i 0) (slice_get-get_or xs i 0 below))
    (λ i j one two e. once i j (get_or xs i 0) (slice_get-get_or xs i 0 one) (slice_get-get_or xs j 0 two ∙ ap Some (sym e)))

-- no more objects have numbers than there are
pub few_numbered : (early : ℕ → ℕ → Option ℕ) (count : ℕ) (w : WalkParts) → IsIdle early w → length w.marks ≡ count → length w.order ≤ count
few_numbered early count w idle long =
    few_distinct count w.order (λ n x e. omega (arith, long, slice_get_within w.marks x Numbered (idle.walks.listed n x e))) idle.walks.once

-- an order has as many numbers as there are objects
pub order_long : (early : ℕ → ℕ → Option ℕ) (count : ℕ) (order : List ℕ) → IsOrder early count order → length order ≡ count
order_long early count order is =
    let there : (x : ℕ) → x < count → slice_get order (number_of order x) ≡ Some x = λ x low. let stands = is.all x low in found_number order stands.0 x stands.1 in
    let few = few_distinct count order is.only is.once in
    let many =
    few_apart (length order) count (λ x. number_of order x) (λ x low. slice_get_within order (number_of order x) x (there x low))
    (λ x y low also same. same_Some x y (sym (there x low) ∙ ap (slice_get order) same ∙ there y also)) in
    omega (arith, few, many)
