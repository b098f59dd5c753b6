-- Lists of numbers as sets and as multisets.
use Rattle.std.proofs.Common.{◌≡◌, ℕ, zero, suc, ◌+◌, ◌<◌, ◌≤◌, subst, cond, List, [], ◌∷◌, ◌++◌, map, Contains, slice_index_or, refl, ap, ◌∙◌, inl, inr, arith}
use Rattle.std.proofs.Math.Logic.{◌⊎◌}
use Rattle.std.proofs.lemmas.Bool.{cases_eq, eq-eqb, ne_eqb}
use Rattle.std.proofs.lemmas.List.Elements.{Contains-append_cases, Contains-append_right}
use Rattle.gc_memory.specs.Lists.{In, here, there, sum_over, occ}

-- a number of the first list is one of both together
pub In-left : (x : ℕ) (xs ys : List ℕ) → In x xs → In x (xs ++ ys)
In-left x [] ys i = elim i [ ]
In-left x (_ ∷ xs) ys here = here
In-left x (_ ∷ xs) ys (there i) = there (In-left x xs ys i)

-- so is one of the second
pub In-right : (x : ℕ) (xs ys : List ℕ) → In x ys → In x (xs ++ ys)
In-right x [] ys i = i
In-right x (y ∷ xs) ys i = there (In-right x xs ys i)

-- a number of both together is one of the first or of the second
pub In-split : (x : ℕ) (xs ys : List ℕ) → In x (xs ++ ys) → In x xs ⊎ In x ys
In-split x [] ys i = inr i
In-split x (_ ∷ xs) ys here = inl here
In-split x (y ∷ xs) ys (there i) = elim (In-split x xs ys i) [ inl a ↦ inl (there a) | inr b ↦ inr b ]

-- the one number of a list of one
pub In-one : (x y : ℕ) → In x (y ∷ []) → x ≡ y
In-one x _ here = refl
In-one x y (there i) = elim i [ ]

-- sums of numbers that are equal at the places
pub sum_over-same : (f g : ℕ → ℕ) (ps : List ℕ) → ((p : ℕ) → In p ps → g p ≡ f p) → sum_over g ps ≡ sum_over f ps
sum_over-same f g [] same = refl
sum_over-same f g (p ∷ ps) same =
    let head : g p ≡ f p = same p here in
    omega (arith, sum_over-same f g ps (λ q i. same q (there i)))

-- the sum over two lists
pub sum_over-append : (f : ℕ → ℕ) (ps qs : List ℕ) → sum_over f (ps ++ qs) ≡ sum_over f ps + sum_over f qs
sum_over-append f [] qs = omega arith
sum_over-append f (p ∷ ps) qs = omega (arith, sum_over-append f ps qs)

-- a sum of numbers that are nowhere greater
pub sum_over-le : (f g : ℕ → ℕ) (ps : List ℕ) → ((p : ℕ) → In p ps → g p ≤ f p) → sum_over g ps ≤ sum_over f ps
sum_over-le f g [] less = omega arith
sum_over-le f g (p ∷ ps) less =
    let head : g p ≤ f p = less p here in
    omega (arith, sum_over-le f g ps (λ q i. less q (there i)))

-- a number that is put in front counts once more
pub occ-same : (x : ℕ) (xs : List ℕ) → occ x (x ∷ xs) ≡ 1 + occ x xs
occ-same x xs = ap (λ b. cond b 1 0 + occ x xs) (eq-eqb x x refl)

-- another one in front changes nothing
pub occ-other : (x y : ℕ) (xs : List ℕ) → (x ≡ y → ⊥) → occ x (y ∷ xs) ≡ occ x xs
occ-other x y xs ne =
    let none : 0 + occ x xs ≡ occ x xs = omega arith in
    ap (λ b. cond b 1 0 + occ x xs) (ne_eqb x y ne) ∙ none

-- how often a number is in both lists together
pub occ-append : (x : ℕ) (xs ys : List ℕ) → occ x (xs ++ ys) ≡ occ x xs + occ x ys
occ-append x [] ys = omega arith
occ-append x (y ∷ xs) ys = omega (arith, occ-append x xs ys)

-- a number of the list counts at least once
pub In-occ : (x : ℕ) (xs : List ℕ) → In x xs → 0 < occ x xs
In-occ x [] i = elim i [ ]
In-occ x (_ ∷ xs) here = omega (arith, occ-same x xs)
In-occ x (y ∷ xs) (there i) = omega (arith, In-occ x xs i)

-- a number that counts is one of the list
pub occ-In : (x : ℕ) (xs : List ℕ) → 0 < occ x xs → In x xs
occ-In x [] h = absurd (omega arith)
occ-In x (y ∷ xs) h = elim (cases_eq x y) [
  | inl e ↦ subst (λ z. In x (z ∷ xs)) e here
  | inr ne ↦ there (occ-In x xs (omega (arith, occ-other x y xs ne)))
]

-- a number that isn't one of the list doesn't count
pub occ-none : (x : ℕ) (xs : List ℕ) → (In x xs → ⊥) → occ x xs ≡ 0
occ-none x [] no_one = refl
occ-none x (y ∷ xs) no_one =
    occ-other x y xs (λ e. no_one (subst (λ z. In x (z ∷ xs)) e here)) ∙ occ-none x xs (λ i. no_one (there i))

-- the one item of a list of one
pub only_item : {A : Type 0} (x y : A) → Contains (x ∷ []) y → x ≡ y
only_item {A} x y h = at h.0 h.1 h.2
  where
    at : (k : ℕ) → k < 1 → slice_index_or (x ∷ []) k y ≡ y → x ≡ y
    at zero below e = e
    at (suc k) below e = absurd (omega arith)

-- the two words for an element of a list
pub contains_in : (xs : List ℕ) (x : ℕ) → Contains xs x → In x xs
contains_in [] x c = absurd (omega (arith, c.1))
contains_in (y ∷ xs) x c = elim (Contains-append_cases (y ∷ []) xs x c) [
  | inl one ↦ subst (λ z. In z (y ∷ xs)) (only_item y x one) here
  | inr rest ↦ there (contains_in xs x rest)
]

pub in_contains : (xs : List ℕ) (x : ℕ) → In x xs → Contains xs x
in_contains [] x i = elim i [ ]
in_contains (_ ∷ xs) x here = (0, omega arith, refl)
in_contains (y ∷ xs) x (there i) = Contains-append_right (y ∷ []) xs x (in_contains xs x i)

pub map_in : (f : ℕ → ℕ) (xs : List ℕ) (x : ℕ) → In x xs → In (f x) (map f xs)
map_in f [] x i = elim i [ ]
map_in f (_ ∷ xs) x here = here
map_in f (y ∷ xs) x (there i) = there (map_in f xs x i)

pub in_map : (f : ℕ → ℕ) (xs : List ℕ) (y : ℕ) → In y (map f xs) → (x : ℕ) × (In x xs × (f x ≡ y))
in_map f [] y i = elim i [ ]
in_map f (x ∷ xs) _ here = (x, (here, refl))
in_map f (x ∷ xs) y (there i) = let r = in_map f xs y i in (r.0, (there r.1.0, r.1.1))

-- the first of a list, or a later one
pub first_or_later : (y x : ℕ) (xs : List ℕ) → In x (y ∷ xs) → (x ≡ y) ⊎ In x xs
first_or_later _ x xs here = inl refl
first_or_later y x xs (there i) = inr i
