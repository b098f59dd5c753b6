-- Putting a run into an order, and taking it out.
use Rattle.std.proofs.Common.{ℕ, zero, suc, ◌≡◌, ◌≤◌, ◌<◌, get_or, length, List, [], ◌∷◌, arith, refl, ap, inl, inr, ◌⊎◌}
use Rattle.std.proofs.lemmas.Bool.{lt-ltb, le-ltb, cases_lt}
use Rattle.std.specs.List.{insert, remove}
use Rattle.std.specs.List.Sorted.{IsNonDecreasingBy}
use Rattle.gc_free.specs.declared.run.Run.{Run}
use Rattle.gc_free.specs.Runs.{insert_by, remove_by}
use Rattle.gc_free.specs.Orders.{count_below}

-- `insert` at the place that a search finds
pub insert_at_count : (key : Run → ℕ) (r : Run) (xs : List Run) → insert xs (count_below key (key r) xs) r ≡ insert_by key r xs
insert_at_count key r [] = refl
insert_at_count key r (x ∷ xs) =
    elim (cases_lt (key x) (key r)) [
      | inl l ↦ rw (lt-ltb (key x) (key r) l) (ap (λ l. x ∷ l) (insert_at_count key r xs))
      | inr l ↦ rw (le-ltb (key x) (key r) l)
    ]

-- `remove` at the place that a search finds
pub remove_at_count : (key : Run → ℕ) (k : ℕ) (xs : List Run) → remove xs (count_below key k xs) ≡ remove_by key k xs
remove_at_count key k [] = refl
remove_at_count key k (x ∷ xs) =
    elim (cases_lt (key x) k) [
      | inl l ↦ rw (lt-ltb (key x) k l) (ap (λ l. x ∷ l) (remove_at_count key k xs))
      | inr l ↦ rw (le-ltb (key x) k l)
    ]

pub count_within : (key : Run → ℕ) (k : ℕ) (xs : List Run) → count_below key k xs ≤ length xs
count_within key k [] = omega arith
count_within key k (x ∷ xs) =
    elim (cases_lt (key x) k) [
      | inl l ↦ rw (lt-ltb (key x) k l) (let le = count_within key k xs in omega arith)
      | inr l ↦ rw (le-ltb (key x) k l) (omega arith)
    ]

-- the keys rise from k on
abbrev pub Rises : (Run → ℕ) → ℕ → List Run → Type 0
Rises key k [] = Unit {0}
Rises key k (x ∷ xs) = (k ≤ key x) × Rises key (key x) xs

pub Rises-lower : (key : Run → ℕ) (k j : ℕ) (xs : List Run) → j ≤ k → Rises key k xs → Rises key j xs
Rises-lower key k j [] l up = tt
Rises-lower key k j (x ∷ xs) l up = (let le : k ≤ key x = up.0 in omega arith, up.1)

pub Rises-insert : (key : Run → ℕ) (k : ℕ) (r : Run) (xs : List Run) → k ≤ key r → Rises key k xs → Rises key k (insert_by key r xs)
Rises-insert key k r [] l up = (l, tt)
Rises-insert key k r (x ∷ xs) l up =
    elim (cases_lt (key x) (key r)) [
      | inl lt ↦ rw (lt-ltb (key x) (key r) lt) (up.0, Rises-insert key (key x) r xs (omega arith) up.1)
      | inr le ↦ rw (le-ltb (key x) (key r) le) (l, (le, up.1))
    ]

Rises-at : (key : Run → ℕ) (k : ℕ) (xs : List Run) (j : ℕ) (d : Run) → Rises key k xs → j < length xs → k ≤ key (get_or xs j d)
Rises-at key k [] j d up l = absurd (omega arith)
Rises-at key k (x ∷ xs) zero d up l = up.0
Rises-at key k (x ∷ xs) (suc j) d up l = let le : k ≤ key x = up.0 in let more = Rises-at key (key x) xs j d up.1 (omega arith) in omega arith

pub Rises-sorted : (key : Run → ℕ) (k : ℕ) (xs : List Run) → Rises key k xs → IsNonDecreasingBy key xs
Rises-sorted key k [] up i j d l h = absurd (omega arith)
Rises-sorted key k (x ∷ xs) up zero zero d l h = omega arith
Rises-sorted key k (x ∷ xs) up zero (suc j) d l h = Rises-at key (key x) xs j d up.1 (omega arith)
Rises-sorted key k (x ∷ xs) up (suc i) zero d l h = absurd (omega arith)
Rises-sorted key k (x ∷ xs) up (suc i) (suc j) d l h = Rises-sorted key (key x) xs up.1 i j d (omega arith) (omega arith)

-- a run of this key is among the runs
abbrev pub Has : (Run → ℕ) → ℕ → List Run → Type 0
Has key k [] = ⊥
Has key k (x ∷ xs) = (key x ≡ k) ⊎ Has key k xs

-- none is where all keys are higher
pub Has-above : (key : Run → ℕ) (k j : ℕ) (xs : List Run) → Rises key j xs → k < j → Has key k xs → ⊥
Has-above key k j [] up l h = h
Has-above key k j (x ∷ xs) up l (inl e) = let le : j ≤ key x = up.0 in omega arith
Has-above key k j (x ∷ xs) up l (inr h) = Has-above key k (key x) xs up.1 (let le : j ≤ key x = up.0 in omega arith) h

-- what was put in comes out again
pub remove_by-insert_same : (key : Run → ℕ) (r : Run) (xs : List Run) → remove_by key (key r) (insert_by key r xs) ≡ xs
remove_by-insert_same key r [] = rw (le-ltb (key r) (key r) (omega arith))
remove_by-insert_same key r (x ∷ xs) =
    elim (cases_lt (key x) (key r)) [
      | inl l ↦ rw (lt-ltb (key x) (key r) l, lt-ltb (key x) (key r) l) (ap (λ l. x ∷ l) (remove_by-insert_same key r xs))
      | inr l ↦ rw (le-ltb (key x) (key r) l, le-ltb (key r) (key r) (omega arith))
    ]

-- two runs of different keys go in in either order
pub insert_by-swap : (key : Run → ℕ) (a b : Run) (xs : List Run) → (key a ≡ key b → ⊥) → insert_by key a (insert_by key b xs) ≡ insert_by key b (insert_by key a xs)
insert_by-swap key a b [] ne =
    elim (cases_lt (key a) (key b)) [
      | inl l ↦ rw (le-ltb (key b) (key a) (omega arith), lt-ltb (key a) (key b) l)
      | inr l ↦ rw (lt-ltb (key b) (key a) (omega arith), le-ltb (key a) (key b) l)
    ]
insert_by-swap key a b (x ∷ xs) ne =
    elim (cases_lt (key x) (key a)) [
      | inl la ↦ elim (cases_lt (key x) (key b)) [
        | inl lb ↦ simp (lt-ltb (key x) (key b) lb, lt-ltb (key x) (key a) la) (ap (λ l. x ∷ l) (insert_by-swap key a b xs ne))
        | inr lb ↦ simp (le-ltb (key x) (key b) lb, lt-ltb (key x) (key a) la, lt-ltb (key b) (key a) (omega arith))
      ]
      | inr la ↦ elim (cases_lt (key x) (key b)) [
        | inl lb ↦ simp (lt-ltb (key x) (key b) lb, le-ltb (key x) (key a) la, lt-ltb (key a) (key b) (omega arith))
        | inr lb ↦ elim (cases_lt (key a) (key b)) [
          | inl l ↦ simp (le-ltb (key x) (key b) lb, le-ltb (key b) (key a) (omega arith), le-ltb (key x) (key a) la, lt-ltb (key a) (key b) l)
          | inr l ↦ simp (le-ltb (key x) (key b) lb, lt-ltb (key b) (key a) (omega arith), le-ltb (key x) (key a) la, le-ltb (key a) (key b) (omega arith))
        ]
      ]
    ]

-- at the front of keys that are no lower
insert_by-front : (key : Run → ℕ) (x : Run) (xs : List Run) → Rises key (key x) xs → insert_by key x xs ≡ x ∷ xs
insert_by-front key x [] up = refl
insert_by-front key x (y ∷ ys) up = rw (le-ltb (key y) (key x) up.0)

-- a run comes out from under another that goes in
pub remove_by-insert_by : (key : Run → ℕ) (k j : ℕ) (x : Run) (xs : List Run) → Rises key j xs → Has key k xs → (key x ≡ k → ⊥)
    → remove_by key k (insert_by key x xs) ≡ insert_by key x (remove_by key k xs)
remove_by-insert_by key k j x [] up has ne = absurd has
remove_by-insert_by key k j x (y ∷ ys) up has ne =
    elim (cases_lt (key y) (key x)) [
      | inl lx ↦ elim (cases_lt (key y) k) [
        | inl lk ↦
            let later : Has key k ys = elim has [ inl e ↦ absurd (omega arith) | inr h ↦ h ] in
            simp (lt-ltb (key y) (key x) lx, lt-ltb (key y) k lk) (ap (λ l. y ∷ l) (remove_by-insert_by key k (key y) x ys up.1 later ne))
        | inr lk ↦ simp (lt-ltb (key y) (key x) lx, le-ltb (key y) k lk)
      ]
      | inr lx ↦ elim (cases_lt (key x) k) [
        | inl lk ↦ elim (cases_lt (key y) k) [
          | inl ly ↦ simp (le-ltb (key y) (key x) lx, lt-ltb (key x) k lk, lt-ltb (key y) k ly)
          | inr ly ↦ simp (le-ltb (key y) (key x) lx, lt-ltb (key x) k lk, le-ltb (key y) k ly, insert_by-front key x ys (Rises-lower key (key y) (key x) ys lx up.1))
        ]
        | inr lk ↦ absurd (elim has [ inl e ↦ ne (omega arith) | inr h ↦ Has-above key k (key y) ys up.1 (let up' = up.0 in omega arith) h ])
      ]
    ]
