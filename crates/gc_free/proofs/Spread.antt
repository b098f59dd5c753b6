-- Which run begins or ends at a place, among runs that stand one after another.
use Rattle.std.proofs.Common.{ℕ, zero, suc, ◌≡◌, ◌≤◌, ◌<◌, get_or, length, List, [], ◌∷◌, arith, refl, ap, sym, true, false, inl, inr, Some, None, Bool}
use Rattle.std.proofs.lemmas.Bool.{lt-ltb, le-ltb, eq-eqb, ne_eqb, cases_lt}
use Rattle.std.specs.List.{remove, find}
use Rattle.gc_free.specs.declared.run.Run.{Run}
use Rattle.gc_free.specs.Runs.{IsSpread, end_of, begins_at, ends_at, without}
use Rattle.gc_free.specs.Orders.{count_below}
use Rattle.gc_free.proofs.ByLength.{place_of}

-- none of the runs passes a test: none is found, and all stay
pub record PassesNone (test : Run → Bool) (xs : List Run) : Type 0 where
  pub none : find test xs ≡ None
  pub all : without test xs ≡ xs

pub PassesNone-cons : (test : Run → Bool) (x : Run) (xs : List Run) → test x ≡ false → PassesNone test xs → PassesNone test (x ∷ xs)
PassesNone-cons test x xs e h = record { none = rw e h.none; all = rw e (ap (λ l. x ∷ l) h.all) }

-- the run at an index is the only one that passes
pub record PassesAt (test : Run → Bool) (xs : List Run) (n : ℕ) (d : Run) : Type 0 where
  pub found : find test xs ≡ Some (get_or xs n d)
  pub rest : remove xs n ≡ without test xs

PassesAt-first : (test : Run → Bool) (x : Run) (xs : List Run) (d : Run) → test x ≡ true → PassesNone test xs → PassesAt test (x ∷ xs) 0 d
PassesAt-first test x xs d e h = record { found = rw e; rest = rw e (sym h.all) }

PassesAt-later : (test : Run → Bool) (x : Run) (xs : List Run) (n : ℕ) (d : Run) → test x ≡ false → PassesAt test xs n d → PassesAt test (x ∷ xs) (suc n) d
PassesAt-later test x xs n d e h = record { found = rw e h.found; rest = rw e (ap (λ l. x ∷ l) h.rest) }

-- past a place no run begins there or ends before it
pub none_begins : (p low high : ℕ) (xs : List Run) → p < low → IsSpread low high xs → PassesNone (begins_at p) xs
none_begins p low high [] l up = record { none = refl; all = refl }
none_begins p low high (x ∷ xs) l up =
    let a : low ≤ x.place = up.0 in let b : 0 < x.length = up.1 in
    PassesNone-cons (begins_at p) x xs (ne_eqb x.place p (λ e. omega arith)) (none_begins p (end_of x) high xs (omega arith) up.3)

pub none_ends : (p low high : ℕ) (xs : List Run) → p ≤ low → IsSpread low high xs → PassesNone (ends_at p) xs
none_ends p low high [] l up = record { none = refl; all = refl }
none_ends p low high (x ∷ xs) l up =
    let a : low ≤ x.place = up.0 in let b : 0 < x.length = up.1 in
    PassesNone-cons (ends_at p) x xs (ne_eqb (end_of x) p (λ e. omega arith)) (none_ends p (end_of x) high xs (omega arith) up.3)

pub begins_found : (p low high n : ℕ) (xs : List Run) (d : Run) → IsSpread low high xs → n ≡ count_below place_of p xs → n < length xs
    → (get_or xs n d).place ≡ p → PassesAt (begins_at p) xs n d
begins_found p low high n [] d up e l is = absurd (omega arith)
begins_found p low high zero (x ∷ xs) d up e l is =
    let b : 0 < x.length = up.1 in
    PassesAt-first (begins_at p) x xs d (eq-eqb x.place p is) (none_begins p (end_of x) high xs (omega arith) up.3)
begins_found p low high (suc n) (x ∷ xs) d up e l is =
    elim (cases_lt x.place p) [
      | inl lt ↦
          let e' : suc n ≡ suc (count_below place_of p xs) = rw (lt-ltb x.place p lt) at e in
          PassesAt-later (begins_at p) x xs n d (ne_eqb x.place p (λ e. omega arith)) (begins_found p (end_of x) high n xs d up.3 (omega arith) (omega arith) is)
      | inr le ↦ let e' : suc n ≡ 0 = rw (le-ltb x.place p le) at e in absurd (omega arith)
    ]

pub begins_none : (p low high n : ℕ) (xs : List Run) (d : Run) → IsSpread low high xs → n ≡ count_below place_of p xs
    → (n < length xs → (get_or xs n d).place ≡ p → ⊥) → PassesNone (begins_at p) xs
begins_none p low high n [] d up e other = record { none = refl; all = refl }
begins_none p low high zero (x ∷ xs) d up e other =
    let b : 0 < x.length = up.1 in
    elim (cases_lt x.place p) [
      | inl lt ↦ let e' : zero ≡ suc (count_below place_of p xs) = rw (lt-ltb x.place p lt) at e in absurd (omega arith)
      | inr le ↦
          let ne : x.place ≡ p → ⊥ = other (omega arith) in
          PassesNone-cons (begins_at p) x xs (ne_eqb x.place p ne) (none_begins p (end_of x) high xs (omega arith) up.3)
    ]
begins_none p low high (suc n) (x ∷ xs) d up e other =
    elim (cases_lt x.place p) [
      | inl lt ↦
          let e' : suc n ≡ suc (count_below place_of p xs) = rw (lt-ltb x.place p lt) at e in
          PassesNone-cons (begins_at p) x xs (ne_eqb x.place p (λ e. omega arith)) (begins_none p (end_of x) high n xs d up.3 (omega arith) (λ l is. other (omega arith) is))
      | inr le ↦ let e' : suc n ≡ 0 = rw (le-ltb x.place p le) at e in absurd (omega arith)
    ]

-- what begins no lower than a place ends past it
above_ends_past : (p low high : ℕ) (xs : List Run) → IsSpread low high xs → 0 ≡ count_below place_of p xs → PassesNone (ends_at p) xs
above_ends_past p low high [] up e = record { none = refl; all = refl }
above_ends_past p low high (x ∷ xs) up e =
    let b : 0 < x.length = up.1 in
    elim (cases_lt x.place p) [
      | inl lt ↦ let e' : zero ≡ suc (count_below place_of p xs) = rw (lt-ltb x.place p lt) at e in absurd (omega arith)
      | inr le ↦ PassesNone-cons (ends_at p) x xs (ne_eqb (end_of x) p (λ e. omega arith)) (none_ends p (end_of x) high xs (omega arith) up.3)
    ]

-- where another run begins below the place, the first ends below it
ends_below : (p low high n : ℕ) (xs : List Run) → IsSpread low high xs → suc n ≡ count_below place_of p xs → low < p
ends_below p low high n [] up e = absurd (omega arith)
ends_below p low high n (x ∷ xs) up e =
    let a : low ≤ x.place = up.0 in
    elim (cases_lt x.place p) [
      | inl lt ↦ omega arith
      | inr le ↦ let e' : suc n ≡ 0 = rw (le-ltb x.place p le) at e in absurd (omega arith)
    ]

tail_count : (p n : ℕ) (x : Run) (xs : List Run) → suc n ≡ count_below place_of p (x ∷ xs) → n ≡ count_below place_of p xs
tail_count p n x xs e =
    elim (cases_lt x.place p) [
      | inl lt ↦ let e' : suc n ≡ suc (count_below place_of p xs) = rw (lt-ltb x.place p lt) at e in omega arith
      | inr le ↦ let e' : suc n ≡ 0 = rw (le-ltb x.place p le) at e in absurd (omega arith)
    ]

pub ends_found : (p low high n : ℕ) (xs : List Run) (d : Run) → IsSpread low high xs → suc n ≡ count_below place_of p xs
    → end_of (get_or xs n d) ≡ p → PassesAt (ends_at p) xs n d
ends_found p low high n [] d up e is = absurd (omega arith)
ends_found p low high zero (x ∷ xs) d up e is =
    PassesAt-first (ends_at p) x xs d (eq-eqb (end_of x) p is) (above_ends_past p (end_of x) high xs up.3 (tail_count p zero x xs e))
ends_found p low high (suc n) (x ∷ xs) d up e is =
    let e' = tail_count p (suc n) x xs e in
    let l : end_of x < p = ends_below p (end_of x) high n xs up.3 e' in
    PassesAt-later (ends_at p) x xs n d (ne_eqb (end_of x) p (λ e. omega arith)) (ends_found p (end_of x) high n xs d up.3 e' is)

pub ends_none : (p low high n : ℕ) (xs : List Run) (d : Run) → IsSpread low high xs → suc n ≡ count_below place_of p xs
    → (end_of (get_or xs n d) ≡ p → ⊥) → PassesNone (ends_at p) xs
ends_none p low high n [] d up e other = record { none = refl; all = refl }
ends_none p low high zero (x ∷ xs) d up e other =
    PassesNone-cons (ends_at p) x xs (ne_eqb (end_of x) p other) (above_ends_past p (end_of x) high xs up.3 (tail_count p zero x xs e))
ends_none p low high (suc n) (x ∷ xs) d up e other =
    let e' = tail_count p (suc n) x xs e in
    let l : end_of x < p = ends_below p (end_of x) high n xs up.3 e' in
    PassesNone-cons (ends_at p) x xs (ne_eqb (end_of x) p (λ e. omega arith)) (ends_none p (end_of x) high n xs d up.3 e' other)

pub ends_none_first : (p low high : ℕ) (xs : List Run) → IsSpread low high xs → 0 ≡ count_below place_of p xs → PassesNone (ends_at p) xs
ends_none_first p low high xs up e = above_ends_past p low high xs up e
