-- Elements of lists by their places.
use Rattle.std.proofs.Common.{◌≡◌, ◌<◌, ℕ, suc, List, [], ◌∷◌, length, map, get_or, Some, nat_eq, refl, sym, ap, ◌∙◌, arith}
use Rattle.std.specs.List.{slice_get, AllByRecursion, IsDistinct}
use Rattle.std.specs.Prelude.{Option, None, option_map}
use Rattle.std.proofs.lemmas.Bool.Decides.{Decides-eqb}
use Rattle.std.proofs.lemmas.Map.Made.{IsDistinct-from_AllPairs}
use Rattle.std.proofs.lemmas.Option.{none-some, same_Some, slice_get-get_or, slice_get-map}

-- a list in which each number stands at one place has no repetitions
pub distinct_when : (xs : List ℕ) → ((i j x : ℕ) → slice_get xs i ≡ Some x → slice_get xs j ≡ Some x → i ≡ j) → IsDistinct nat_eq xs
distinct_when xs once = IsDistinct-from_AllPairs Decides-eqb xs (λ i j d below inside same.
    let one = slice_get-get_or xs i d (omega (arith, below, inside)) in
    let two = slice_get-get_or xs j d inside in
    let e = once i j (get_or xs i d) one (two ∙ ap Some (sym same)) in omega (arith, below, e))

-- An element of a list that was mapped.
pub record Mapped {X Y : Type 0} (f : X → Y) (xs : List X) (n : ℕ) (y : Y) : Type 0 where
  pub of : X
  pub there : slice_get xs n ≡ Some of
  pub is : f of ≡ y

mapped_by : {X Y : Type 0} (f : X → Y) (xs : List X) (n : ℕ) (y : Y) (o : Option X) → slice_get xs n ≡ o → option_map f o ≡ Some y → Mapped f xs n y
mapped_by f xs n y None is e = absurd (none-some y e)
mapped_by f xs n y (Some x) is e = record { of = x; there = is; is = same_Some (f x) y e }

pub mapped : {X Y : Type 0} (f : X → Y) (xs : List X) (n : ℕ) (y : Y) → slice_get (map f xs) n ≡ Some y → Mapped f xs n y
mapped f xs n y e = mapped_by f xs n y (slice_get xs n) refl (sym (slice_get-map f xs n) ∙ e)

pub map_at : {X Y : Type 0} (f : X → Y) (xs : List X) (n : ℕ) (x : X) → slice_get xs n ≡ Some x → slice_get (map f xs) n ≡ Some (f x)
map_at f xs n x e = slice_get-map f xs n ∙ ap (option_map f) e

-- Old numbers at the first places of an order have their new ones.
pub record NumberedSoFar (order : List ℕ) (count k : ℕ) (numbers : List ℕ) : Type 0 where
  pub same_count : length numbers ≡ count
  pub each : (n old : ℕ) → n < k → slice_get order n ≡ Some old → slice_get numbers old ≡ Some n

-- what holds of each element holds of all
pub all_each : {X : Type 0} (P : X → Type 0) (xs : List X) → ((i : ℕ) (x : X) → slice_get xs i ≡ Some x → P x) → AllByRecursion P xs
all_each P [] each = tt
all_each P (x ∷ xs) each = (each 0 x refl, all_each P xs (λ i. each (suc i)))
