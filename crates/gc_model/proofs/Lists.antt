-- Elements of a list with one more at its end, of the front of a list, and of lists of one length.
use Rattle.std.proofs.Common.{◌≡◌, ℕ, ◌⊎◌, inl, inr, List, [], ◌∷◌, ◌++◌, length, take, Some, ap, ap₂, refl, arith, suc, zero}
use Rattle.std.specs.Prelude.{replicate}
use Rattle.std.specs.List.{slice_get}
use Rattle.std.proofs.lemmas.Option.{none-some, slice_get_within, slice_get_cases}

-- what stood in the list stands there still
pub slice_get-push_old : {X : Type 0} (xs : List X) (y : X) (i : ℕ) (x : X) → slice_get xs i ≡ Some x → slice_get (xs ++ y ∷ []) i ≡ Some x
slice_get-push_old [] y i x e = absurd (none-some x e)
slice_get-push_old (z ∷ xs) y zero x e = e
slice_get-push_old (z ∷ xs) y (suc i) x e = slice_get-push_old xs y i x e

-- the new one stands at the end
pub slice_get-push_new : {X : Type 0} (xs : List X) (y : X) → slice_get (xs ++ y ∷ []) (length xs) ≡ Some y
slice_get-push_new [] y = refl
slice_get-push_new (z ∷ xs) y = slice_get-push_new xs y

-- an element of the longer list is an old one or the new one
pub slice_get-push_cases : {X : Type 0} (xs : List X) (y : X) (i : ℕ) (x : X) → slice_get (xs ++ y ∷ []) i ≡ Some x → (slice_get xs i ≡ Some x) ⊎ ((i ≡ length xs) × (y ≡ x))
slice_get-push_cases [] y zero x e = inr (refl, grind arith)
slice_get-push_cases [] y (suc i) x e = absurd (none-some x e)
slice_get-push_cases (z ∷ xs) y zero x e = inl e
slice_get-push_cases (z ∷ xs) y (suc i) x e =
    elim (slice_get-push_cases xs y i x e) [ inl old ↦ inl old | inr new ↦ inr (ap suc new.0, new.1) ]

-- what stands in the front of a list stands in the list
pub slice_get-take : {X : Type 0} (n : ℕ) (xs : List X) (i : ℕ) (x : X) → slice_get (take n xs) i ≡ Some x → slice_get xs i ≡ Some x
slice_get-take zero xs i x e = absurd (none-some x e)
slice_get-take (suc n) [] i x e = absurd (none-some x e)
slice_get-take (suc n) (y ∷ xs) zero x e = e
slice_get-take (suc n) (y ∷ xs) (suc i) x e = slice_get-take n xs i x e

-- in a list of the same length an element stands at the same index
pub slice_get-same_length : {X Y : Type 0} (xs : List X) (ys : List Y) (i : ℕ) (x : X) → length xs ≡ length ys → slice_get xs i ≡ Some x → (y : Y) × (slice_get ys i ≡ Some y)
slice_get-same_length xs ys i x same e =
    elim ((slice_get_cases ys i).1) [
      | inl found ↦ (found.0, found.2)
      | inr past ↦ absurd (omega (arith, past.0, same, slice_get_within xs i x e))
    ]

-- a list whose elements each are one and the same is it that many times
pub all_replicated : {X : Type 0} (x : X) (n : ℕ) (xs : List X) → length xs ≡ n → ((i : ℕ) (y : X) → slice_get xs i ≡ Some y → y ≡ x) → xs ≡ replicate n x
all_replicated x zero [] count each = refl
all_replicated x (suc n) [] count each = absurd (omega (arith, count))
all_replicated x zero (y ∷ xs) count each = absurd (omega (arith, count))
all_replicated x (suc n) (y ∷ xs) count each = ap₂ (λ z zs. z ∷ zs) (each 0 y refl) (all_replicated x n xs (omega (arith, count)) (λ i. each (suc i)))
