-- A loop over the elements of a list: what holds of each.
use Rattle.std.proofs.Common.{◌≡◌, ℕ, ◌+◌, ◌<◌, ◌≤◌, Bool, true, false, List, length, get_or, Some, sym, ap, subst, ◌∙◌, ⊎_elim, arith}
use Rattle.std.specs.List.{slice_get}
use Rattle.std.proofs.lemmas.Bool.{cases_lt}
use Rattle.std.proofs.lemmas.Option.{slice_get-get_or, slice_get_within}

module _ {A : Type 0} (P : ℕ → A → Type 0) (xs : List A) where
  -- so far
  pub record Below (i : ℕ) : Type 0 where
    pub each : (k : ℕ) (x : A) → k < i → slice_get xs k ≡ Some x → P k x

  pub none_below : Below 0
  none_below = record { each = λ k x below e. absurd (omega arith) }

  pub at_here : (i : ℕ) (x y : A) → i < length xs → x ≡ get_or xs i x → slice_get xs i ≡ Some y → x ≡ y
  at_here i x y within is e = let found = slice_get-get_or xs i x within in let both : Some (get_or xs i x) ≡ Some y = sym found ∙ e in is ∙ (let one : get_or xs i x ≡ y = cc in one)

  pub more_below : (i : ℕ) (x : A) → i < length xs → x ≡ get_or xs i x → P i x → Below i → Below (i + 1)
  more_below i x within is holds so_far = record {
    each = λ k y below e.
        ⊎_elim (λ less. so_far.each k y less e)
        (λ at.
        let same : k ≡ i = omega arith in
        let found : slice_get xs i ≡ Some y = subst (λ j. slice_get xs j ≡ Some y) same e in
        subst (λ j. P j y) (sym same) (subst (P i) (at_here i x y within is found) holds))
        (cases_lt k i);
  }

  pub all_below : (i : ℕ) → length xs ≤ i → Below i → (k : ℕ) (x : A) → slice_get xs k ≡ Some x → P k x
  all_below i over so_far = λ k x e. so_far.each k x (let within = slice_get_within xs k x e in omega arith) e

  pub one_fails : (i : ℕ) (x : A) → i < length xs → x ≡ get_or xs i x → (P i x → ⊥) → ((k : ℕ) (y : A) → slice_get xs k ≡ Some y → P k y) → ⊥
  one_fails i x within is fails all = fails (all i x (slice_get-get_or xs i x within ∙ (let same = sym is in let found : Some (get_or xs i x) ≡ Some x = cc in found)))

-- an element that was looked up
pub item_found : {A : Type 0} (xs : List A) (i : ℕ) (x : A) → i < length xs → x ≡ get_or xs i x → slice_get xs i ≡ Some x
item_found xs i x within is = slice_get-get_or xs i x within ∙ ap Some (sym is)

-- a list of marks
pub all_true : (marked : List Bool) (i : ℕ) → length marked ≤ i → Below (λ k b. b ≡ true) marked i → (p : ℕ) → p < length marked → slice_get marked p ≡ Some true
all_true marked i over so_far p below =
    let at = slice_get-get_or marked p false below in
    at ∙ ap Some (all_below (λ k b. b ≡ true) marked i over so_far p (get_or marked p false) at)
