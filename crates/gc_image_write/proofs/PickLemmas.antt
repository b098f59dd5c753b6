-- Where the elements of lists stand.
use Rattle.std.proofs.Common.{◌≡◌, ℕ, suc, zero, false, List, [], ◌∷◌, cond, length, map, nat_eq, Option, None, Some, refl, sym, ap, ap₂, subst, ◌∙◌, arith}
use Rattle.std.specs.List.{AllByRecursion, IsDistinct, cons_option, filter_map, slice_get}
use Rattle.std.specs.Option.{option_map}
use Rattle.std.proofs.lemmas.Bool.{eq-eqb}
use Rattle.std.proofs.lemmas.Option.{none-some, same_Some}
use Rattle.gc_image.proofs.AlikeLemmas.{number_of}
use Rattle.gc_image_write.specs.Visiting.{IsVisited}

place_from : (x : ℕ) (xs : List ℕ) (p n : ℕ) → number_of xs p ≡ n → (nat_eq x p ≡ false) → number_of (x ∷ xs) p ≡ suc n
place_from x xs p n is other = ap (λ b. cond b 0 (suc (number_of xs p))) other ∙ ap suc is

apart_first : (x p : ℕ) (xs : List ℕ) (n : ℕ) → AllByRecursion (λ y. nat_eq x y ≡ false) xs → slice_get xs n ≡ Some p → nat_eq x p ≡ false
apart_first x p [] n all there = absurd (none-some p there)
apart_first x p (y ∷ ys) zero all there = subst (λ z. nat_eq x z ≡ false) (same_Some y p there) all.0
apart_first x p (y ∷ ys) (suc n) all there = apart_first x p ys n all.1 there

-- it is where the number stands, in a list without repetitions
pub place_one : (xs : List ℕ) (n p : ℕ) → IsDistinct nat_eq xs → slice_get xs n ≡ Some p → number_of xs p ≡ n
unfolding IsDistinct
place_one [] n p distinct there = absurd (none-some p there)
place_one (x ∷ xs) zero p distinct there = ap (λ b. cond b 0 (suc (number_of xs p))) (eq-eqb x p (same_Some x p there))
place_one (x ∷ xs) (suc n) p distinct there = place_from x xs p n (place_one xs n p distinct.1 there) (apart_first x p xs n distinct.0 there)

-- lists whose elements are the same
pub same_list : {A : Type 0} (xs ys : List A) → length xs ≡ length ys → ((n : ℕ) (x : A) → slice_get xs n ≡ Some x → slice_get ys n ≡ Some x) → xs ≡ ys
same_list [] [] long each = refl
same_list [] (y ∷ ys) long each = absurd (omega (arith, long))
same_list (x ∷ xs) [] long each = absurd (omega (arith, long))
same_list (x ∷ xs) (y ∷ ys) long each = ap₂ (λ z zs. z ∷ zs) (sym (same_Some y x (each 0 x refl))) (same_list xs ys (omega (arith, long)) (λ n z there. each (suc n) z there))

-- what may be there, and lists of it, under other names
pub map_cons : (name : ℕ → ℕ) (o : Option ℕ) (ys : List ℕ) → map name (cons_option o ys) ≡ cons_option (option_map name o) (map name ys)
map_cons name None ys = refl
map_cons name (Some y) ys = refl

pub filter_renamed : (name : ℕ → ℕ) {A : Type 0} (f g : A → Option ℕ) → ((x : A) → option_map name (f x) ≡ g x) → (xs : List A) → map name (filter_map f xs) ≡ filter_map g xs
filter_renamed name f g same [] = refl
filter_renamed name f g same (x ∷ xs) = map_cons name (f x) (filter_map f xs) ∙ ap₂ cons_option (same x) (filter_renamed name f g same xs)

-- what a filtered list has comes from the list
module _ {A : Type 0} (f : A → Option ℕ) where
  abbrev Comes : List A → ℕ → Type 0
  Comes xs y = (n : ℕ) × (x : A) × ((slice_get xs n ≡ Some x) × (f x ≡ Some y))

  comes_here : (x : A) (xs : List A) (y : ℕ) → ((n : ℕ) → slice_get (filter_map f xs) n ≡ Some y → Comes xs y) → (o : Option ℕ) → f x ≡ o → (n : ℕ) → slice_get (cons_option o (filter_map f xs)) n ≡ Some y
      → Comes (x ∷ xs) y
  comes_here x xs y later None is n there = let rest = later n there in (suc rest.0, rest.1, rest.2)
  comes_here x xs y later (Some z) is zero there = (0, x, (refl, is ∙ there))
  comes_here x xs y later (Some z) is (suc n) there = let rest = later n there in (suc rest.0, rest.1, rest.2)

  comes : (xs : List A) (y n : ℕ) → slice_get (filter_map f xs) n ≡ Some y → Comes xs y
  comes [] y n there = absurd (none-some y there)
  comes (x ∷ xs) y n there = comes_here x xs y (comes xs y) (f x) refl n there

  pub from_filter : (xs : List A) (y : ℕ) → IsVisited (filter_map f xs) y → (n : ℕ) × (x : A) × ((slice_get xs n ≡ Some x) × (f x ≡ Some y))
  from_filter xs y stands = comes xs y stands.0 stands.1

  behind : (o : Option ℕ) (ys : List ℕ) (y : ℕ) → IsVisited ys y → IsVisited (cons_option o ys) y
  behind None ys y stands = stands
  behind (Some w) ys y stands = (suc stands.0, stands.1)

  pub into_filter : (xs : List A) (n : ℕ) (x : A) (y : ℕ) → slice_get xs n ≡ Some x → f x ≡ Some y → IsVisited (filter_map f xs) y
  into_filter [] n x y there is = absurd (none-some x there)
  into_filter (z ∷ zs) zero x y there is = subst (λ o. IsVisited (cons_option o (filter_map f zs)) y) (sym (ap f (same_Some z x there) ∙ is)) (0, refl)
  into_filter (z ∷ zs) (suc n) x y there is = behind (f z) (filter_map f zs) y (into_filter zs n x y there is)

-- names that are taken back
pub map_back : (f g : ℕ → ℕ) (xs : List ℕ) → ((x : ℕ) → IsVisited xs x → g (f x) ≡ x) → map g (map f xs) ≡ xs
map_back f g [] back = refl
map_back f g (x ∷ xs) back = ap₂ (λ y ys. y ∷ ys) (back x (0, refl)) (map_back f g xs (λ y stands. back y (suc stands.0, stands.1)))
