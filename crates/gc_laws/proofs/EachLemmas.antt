-- What is true of each element of a list, through maps, joins and changes of it.
use Rattle.std.proofs.Common.{◌≡◌, ℕ, ◌-◌, ◌<◌, zero, suc, List, [], ◌∷◌, ◌++◌, Some, length, map, arith}
use Rattle.std.specs.List.{All, Contains, flat_map, slice_get, slice_index_or}
use Rattle.std.specs.Prelude.{slice_set, unwrap_or}
use Rattle.std.proofs.lemmas.List.Elements.{All-nil, All-cons, All-head, All-tail, All-append, All-weaker, All-contains, All-contains_itself, Contains-append_left, Contains-append_right}
use Rattle.gc_model.proofs.Members.{among_map}
use Rattle.gc_model.specs.Frames.{newest}

-- what stands in front of the last element
pub get_front : {X : Type 0} (xs : List X) (y : X) (i : ℕ) (x : X) → i < length xs → slice_get (xs ++ y ∷ []) i ≡ Some x → slice_get xs i ≡ Some x
get_front [] y i x inside e = absurd (omega (arith, inside))
get_front (z ∷ xs) y zero x inside e = e
get_front (z ∷ xs) y (suc i) x inside e = get_front xs y i x (omega (arith, inside)) e

module _ {X : Type 0} (P : X → Type 0) where
  pub all_of : (xs : List X) → ((x : X) → Contains xs x → P x) → All P xs
  all_of xs each = All-weaker (Contains xs) P each xs (All-contains_itself xs)

  pub all_left : (xs ys : List X) → All P (xs ++ ys) → All P xs
  all_left xs ys all = all_of xs (λ x c. All-contains P (xs ++ ys) x all (Contains-append_left xs ys x c))

  pub all_right : (xs ys : List X) → All P (xs ++ ys) → All P ys
  all_right xs ys all = all_of ys (λ x c. All-contains P (xs ++ ys) x all (Contains-append_right xs ys x c))

  pub all_get : (xs : List X) (i : ℕ) (d : X) → All P xs → P d → P (unwrap_or (slice_get xs i) d)
  all_get [] i d all here = here
  all_get (x ∷ xs) zero d all here = All-head P x xs all
  all_get (x ∷ xs) (suc i) d all here = all_get xs i d (All-tail P x xs all) here

  pub all_set : (xs : List X) (i : ℕ) (y : X) → All P xs → P y → All P (slice_set xs i y)
  all_set [] i y all here = All-nil P
  all_set (x ∷ xs) zero y all here = All-cons P y xs here (All-tail P x xs all)
  all_set (x ∷ xs) (suc i) y all here = All-cons P x (slice_set xs i y) (All-head P x xs all) (all_set xs i y (All-tail P x xs all) here)

module _ {X Y : Type 0} (P : Y → Type 0) where
  pub map_all : (f : X → Y) (xs : List X) → All P (map f xs) → All (λ (x : X). P (f x)) xs
  map_all f xs all = all_of (λ (x : X). P (f x)) xs (λ x c. All-contains P (map f xs) (f x) all (among_map f xs x c))

  pub all_flat : (f : X → List Y) (xs : List X) → All (λ (x : X). All P (f x)) xs → All P (flat_map f xs)
  all_flat f [] all = All-nil P
  all_flat f (x ∷ xs) all = All-append P (f x) (flat_map f xs) (All-head (λ (y : X). All P (f y)) x xs all) (all_flat f xs (All-tail (λ (y : X). All P (f y)) x xs all))

  pub flat_all : (f : X → List Y) (xs : List X) → All P (flat_map f xs) → All (λ (x : X). All P (f x)) xs
  flat_all f [] all = All-nil (λ (y : X). All P (f y))
  flat_all f (x ∷ xs) all = All-cons (λ (y : X). All P (f y)) x xs (all_left P (f x) (flat_map f xs) all) (flat_all f xs (all_right P (f x) (flat_map f xs) all))

-- the last of some lists; none where there is none
pub all_newest : {X : Type 0} (P : X → Type 0) (lists : List (List X)) → All (λ (xs : List X). All P xs) lists → All P (newest lists)
all_newest P lists all = at (length lists - 1) lists all
  where
    at : (i : ℕ) (ls : List (List _)) → All (λ (xs : List _). All P xs) ls → All P (slice_index_or ls i [])
    at i [] all = All-nil P
    at zero (l ∷ ls) all = All-head (λ (xs : List _). All P xs) l ls all
    at (suc i) (l ∷ ls) all = at i ls (All-tail (λ (xs : List _). All P xs) l ls all)
