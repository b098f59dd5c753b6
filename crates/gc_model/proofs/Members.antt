-- What a list contains once it was mapped, filtered or set, and what holds of all pairs in it then.
use Rattle.std.proofs.Common.{◌≡◌, ◌≢◌, ℕ, ◌<◌, ◌⊎◌, inl, inr, Bool, true, false, cond, List, [], ◌∷◌, length, map, filter, get_or, set, Some, Contains, refl, sym, ap, ◌∙◌, subst, arith}
use Rattle.std.specs.List.{slice_get, AllPairs}
use Rattle.std.proofs.lemmas.Bool.{cases_eq}
use Rattle.std.proofs.lemmas.Option.{slice_get_within, slice_get-get_or, get_or_from_slice_get}
use Rattle.std.proofs.lemmas.List.{length-map, length-set, get_or-map, get_or-set_same, get_or-set_other}
use Rattle.std.proofs.lemmas.List.Elements.{Contains-get_or, Contains-append_cases, Contains-append_left, Contains-append_right, All-contains, All-contains_itself, All-filter, filter_passes}
use Rattle.gc_memory.proofs.ListLemmas.{only_item}

pub get_contains : {X : Type 0} (xs : List X) (i : ℕ) (x : X) → slice_get xs i ≡ Some x → Contains xs x
get_contains xs i x e = (i, slice_get_within xs i x e, get_or_from_slice_get xs i x x e)

pub contains_get : {X : Type 0} (xs : List X) (x : X) → Contains xs x → (i : ℕ) × (slice_get xs i ≡ Some x)
contains_get xs x c = (c.0, slice_get-get_or xs c.0 x c.1 ∙ ap (λ y. Some y) c.2)

-- it is what stands there, whatever stands for nothing
pub item_at : {X : Type 0} (xs : List X) (x : X) (c : Contains xs x) (d : X) → get_or xs c.0 d ≡ x
item_at xs x c d = get_or_from_slice_get xs c.0 x d (slice_get-get_or xs c.0 x c.1 ∙ ap (λ y. Some y) c.2)

-- An element of a list whose image is y.
pub record Image {X Y : Type 0} (f : X → Y) (xs : List X) (y : Y) : Type 0 where
  pub of : X
  pub among : Contains xs of
  pub is : f of ≡ y

pub map_among : {X Y : Type 0} (f : X → Y) (xs : List X) (y : Y) → Contains (map f xs) y → Image f xs y
map_among f [] y c = absurd (omega (arith, c.1))
map_among f (x ∷ xs) y c =
    let below : c.0 < length (x ∷ xs) = omega (arith, c.1, length-map (x ∷ xs) f) in
    record { of = get_or (x ∷ xs) c.0 x; among = Contains-get_or (x ∷ xs) c.0 x below; is = sym (get_or-map f (x ∷ xs) c.0 x y below) ∙ c.2 }

pub among_map : {X Y : Type 0} (f : X → Y) (xs : List X) (x : X) → Contains xs x → Contains (map f xs) (f x)
among_map f xs x c = (c.0, omega (arith, c.1, length-map xs f), get_or-map f xs c.0 x (f x) c.1 ∙ ap f c.2)

pub filter_among : {X : Type 0} (p : X → Bool) (xs : List X) (x : X) → Contains (filter p xs) x → Contains xs x × (p x ≡ true)
filter_among p xs x c = (
  All-contains (Contains xs) (filter p xs) x (All-filter p (Contains xs) xs (All-contains_itself xs)) c,
  All-contains (λ y. p y ≡ true) (filter p xs) x (filter_passes p xs) c,
)

pub among_filter : {X : Type 0} (p : X → Bool) (xs : List X) (x : X) → Contains xs x → p x ≡ true → Contains (filter p xs) x
among_filter p [] x c is = absurd (omega (arith, c.1))
among_filter p (y ∷ xs) x c is = elim (Contains-append_cases (y ∷ []) xs x c) [
  | inl one ↦ subst (λ b. Contains (cond b (y ∷ filter p xs) (filter p xs)) x) (sym (ap p (only_item y x one) ∙ is)) (Contains-append_left (y ∷ []) (filter p xs) x one)
  | inr later ↦ elim (p y) as (λ b. Contains (cond b (y ∷ filter p xs) (filter p xs)) x) [
    | true ↦ Contains-append_right (y ∷ []) (filter p xs) x (among_filter p xs x later is)
    | false ↦ among_filter p xs x later is
  ]
]

-- what all elements pass drops none
pub filter_all : {X : Type 0} (p : X → Bool) (xs : List X) → ((x : X) → Contains xs x → p x ≡ true) → filter p xs ≡ xs
filter_all p [] all = refl
filter_all p (x ∷ xs) all =
    ap (λ b. cond b (x ∷ filter p xs) (filter p xs)) (all x (Contains-append_left (x ∷ []) xs x (0, omega arith, refl)))
    ∙ ap (λ ys. x ∷ ys) (filter_all p xs (λ y c. all y (Contains-append_right (x ∷ []) xs y c)))

-- an element of a list that was set is the new one, or stood elsewhere
pub set_among : {X : Type 0} (xs : List X) (i : ℕ) (y x : X) → i < length xs → Contains (set xs i y) x → (y ≡ x) ⊎ ((c : Contains xs x) × (c.0 ≢ i))
set_among xs i y x below c = elim (cases_eq c.0 i) [
  | inl same ↦ inl (sym (get_or-set_same xs i y x below) ∙ ap (λ k. get_or (set xs i y) k x) (sym same) ∙ c.2)
  | inr differ ↦ inr ((c.0, omega (arith, c.1, length-set xs i y), sym (get_or-set_other xs i c.0 y x differ) ∙ c.2), differ)
]

pub among_set_new : {X : Type 0} (xs : List X) (i : ℕ) (y : X) → i < length xs → Contains (set xs i y) y
among_set_new xs i y below = (i, omega (arith, below, length-set xs i y), get_or-set_same xs i y y below)

pub among_set_old : {X : Type 0} (xs : List X) (i : ℕ) (y x : X) (c : Contains xs x) → (c.0 ≢ i) → Contains (set xs i y) x
among_set_old xs i y x c differ = (c.0, omega (arith, c.1, length-set xs i y), get_or-set_other xs i c.0 y x differ ∙ c.2)

-- All pairs

pub pairs_map : {X Y : Type 0} (R : Y → Y → Type 0) (f : X → Y) (xs : List X) → AllPairs (λ a b. R (f a) (f b)) xs → AllPairs R (map f xs)
pairs_map R f [] pairs = λ i j d below inside. absurd (omega arith)
pairs_map R f (x ∷ xs) pairs = λ i j d below inside.
    let count : length (map f (x ∷ xs)) ≡ length (x ∷ xs) = length-map (x ∷ xs) f in
    subst (λ a. R a (get_or (map f (x ∷ xs)) j d)) (sym (get_or-map f (x ∷ xs) i x d (omega arith)))
    (subst (λ b. R (f (get_or (x ∷ xs) i x)) b) (sym (get_or-map f (x ∷ xs) j x d (omega arith))) (pairs i j x below (omega arith)))

-- by a number of each element that a write leaves
pub pairs_set : {X : Type 0} (R : ℕ → ℕ → Type 0) (f : X → ℕ) (xs : List X) (i : ℕ) (y x : X) (c : Contains xs x) → c.0 ≡ i → f y ≡ f x → AllPairs (λ a b. R (f a) (f b)) xs → AllPairs (λ a b. R (f a) (f b)) (set xs i y)
pairs_set R f xs i y x c at is pairs = λ j k d below inside.
    subst (λ n. R n (f (get_or (set xs i y) k d))) (sym (same j d))
    (subst (λ n. R (f (get_or xs j d)) n) (sym (same k d)) (pairs j k d below (let count = length-set xs i y in omega arith)))
  where
    same : (k : ℕ) (d : _) → f (get_or (set xs i y) k d) ≡ f (get_or xs k d)
    same k d = elim (cases_eq k i) [
      | inl here ↦
          ap (λ n. f (get_or (set xs i y) n d)) here
          ∙ ap f (get_or-set_same xs i y d (subst (λ n. n < length xs) at c.1))
          ∙ is
          ∙ ap f (sym (item_at xs x c d))
          ∙ ap (λ n. f (get_or xs n d)) (at ∙ sym here)
      | inr differ ↦ ap f (get_or-set_other xs i k y d differ)
    ]
