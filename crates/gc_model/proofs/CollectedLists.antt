-- Elements of lists by their index, and of lists that are made of other lists.
use Rattle.std.proofs.Common.{◌≡◌, ℕ, zero, suc, inl, inr, List, [], ◌∷◌, map, Option, Some, None, Contains, option_map, refl, sym, ap, ◌∙◌, subst, arith}
use Rattle.std.specs.List.{slice_get, flat_map}
use Rattle.std.proofs.lemmas.List.Concat.{flat_map-cons}
use Rattle.std.proofs.lemmas.List.Elements.{Contains-append_cases, Contains-append_left, Contains-append_right}
use Rattle.std.proofs.lemmas.Option.{none-some, slice_get-map}
pub use Rattle.gc_model.proofs.Members.{get_contains, contains_get}

pub contains_one : {X : Type 0} (x : X) → Contains (x ∷ []) x
contains_one x = (0, omega arith, refl)

-- An element of a list, whose image is y.
pub record Source {X Y : Type 0} (xs : List X) (f : X → Y) (y : Y) : Type 0 where
  pub index : ℕ
  pub element : X
  pub there : slice_get xs index ≡ Some element
  pub is : f element ≡ y

-- an element of an image, by its index
pub map_source : {X Y : Type 0} (f : X → Y) (xs : List X) (i : ℕ) (y : Y) → slice_get (map f xs) i ≡ Some y → (x : X) × ((slice_get xs i ≡ Some x) × (f x ≡ y))
map_source {X} {Y} f xs i y e = by (slice_get xs i) refl
  where
    by : (o : Option X) → slice_get xs i ≡ o → (x : X) × ((slice_get xs i ≡ Some x) × (f x ≡ y))
    by None is = absurd (none-some y (sym (slice_get-map f xs i ∙ ap (option_map f) is) ∙ e))
    by (Some x) is = (x, (is, (let both : Some (f x) ≡ Some y = sym (slice_get-map f xs i ∙ ap (option_map f) is) ∙ e in grind (arith, both))))

pub map_get : {X Y : Type 0} (f : X → Y) (xs : List X) (i : ℕ) (x : X) → slice_get xs i ≡ Some x → slice_get (map f xs) i ≡ Some (f x)
map_get f xs i x e = slice_get-map f xs i ∙ ap (option_map f) e

pub contains_map : {X Y : Type 0} (f : X → Y) (xs : List X) (y : Y) → Contains (map f xs) y → Source xs f y
contains_map f xs y c =
    let at = contains_get (map f xs) y c in
    let found = map_source f xs at.0 y at.1 in
    record { index = at.0; element = found.0; there = found.1.0; is = found.1.1 }

-- An element of a list, in whose list y is.
pub record Origin {X Y : Type 0} (xs : List X) (f : X → List Y) (y : Y) : Type 0 where
  pub index : ℕ
  pub element : X
  pub there : slice_get xs index ≡ Some element
  pub among : Contains (f element) y

pub contains_flat : {X Y : Type 0} (f : X → List Y) (xs : List X) (y : Y) → Contains (flat_map f xs) y → Origin xs f y
contains_flat f [] y c = absurd (omega (arith, c.1))
contains_flat f (x ∷ xs) y c = elim (Contains-append_cases (f x) (flat_map f xs) y (subst (λ l. Contains l y) (flat_map-cons f x xs) c)) [
  | inl first ↦ record { index = 0; element = x; there = refl; among = first }
  | inr later ↦ let o = contains_flat f xs y later in record { index = suc o.index; element = o.element; there = o.there; among = o.among }
]

pub flat_contains : {X Y : Type 0} (f : X → List Y) (xs : List X) (i : ℕ) (x : X) (y : Y) → slice_get xs i ≡ Some x → Contains (f x) y → Contains (flat_map f xs) y
flat_contains f [] i x y e c = absurd (none-some x e)
flat_contains f (z ∷ xs) zero x y e c =
    let same : x ≡ z = grind (arith, e) in
    subst (λ l. Contains l y) (sym (flat_map-cons f z xs)) (Contains-append_left (f z) (flat_map f xs) y (subst (λ v. Contains (f v) y) same c))
flat_contains f (z ∷ xs) (suc i) x y e c =
    subst (λ l. Contains l y) (sym (flat_map-cons f z xs)) (Contains-append_right (f z) (flat_map f xs) y (flat_contains f xs i x y e c))
