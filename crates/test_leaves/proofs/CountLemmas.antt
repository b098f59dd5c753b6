-- How many blocks begin before a place, as a search for the first that doesn't tells it.
use Rattle.std.proofs.Common.{ℕ, ◌≡◌, ◌≤◌, List, [], ◌∷◌, nat_lt, nat_le, length, arith, refl, ◌∙◌, Some, None, cond, inl, inr}
use Rattle.std.specs.List.{position, position_or_len}
use Rattle.std.proofs.lemmas.Bool.{lt-ltb, le-ltb, lt-leb, le-leb, cases_lt}
use Rattle.gc_free.specs.declared.run.Run.{Run}
use Rattle.gc_free.specs.Orders.{count_below}
use Rattle.gc_free.proofs.InsertBy.{count_within}

first_is_count : (place : ℕ) (xs : List Run) → position_or_len (λ block. nat_le place block.place) xs ≡ count_below (λ block. block.place) place xs
first_is_count place [] = refl
first_is_count place (x ∷ xs) =
    elim (cases_lt x.place place) [
      | inl l ↦ rw (lt-ltb x.place place l, lt-leb place x.place l) (let same = first_is_count place xs in omega arith)
      | inr l ↦ rw (le-ltb x.place place l, le-leb place x.place l) refl
    ]

found : (n len k : ℕ) → cond (nat_lt n len) (Some n) None ≡ Some k → k ≡ n
found n len k e =
    elim (cases_lt n len) [
      | inl l ↦ let e' : Some n ≡ Some k = rw (lt-ltb n len l) at e in cc
      | inr l ↦ let e' : None ≡ Some k = rw (le-ltb n len l) at e in absurd (cc)
    ]

missing : (n len : ℕ) → n ≤ len → cond (nat_lt n len) (Some n) None ≡ None → len ≡ n
missing n len le e =
    elim (cases_lt n len) [
      | inl l ↦ let e' : Some n ≡ None = rw (lt-ltb n len l) at e in absurd (cc)
      | inr l ↦ omega arith
    ]

pub count_found : (place k : ℕ) (xs : List Run) → position (λ block. nat_le place block.place) xs ≡ Some k → k ≡ count_below (λ block. block.place) place xs
count_found place k xs e = found (position_or_len (λ block. nat_le place block.place) xs) (length xs) k e ∙ first_is_count place xs

pub count_missing : (place : ℕ) (xs : List Run) → position (λ block. nat_le place block.place) xs ≡ None → length xs ≡ count_below (λ block. block.place) place xs
count_missing place xs e =
    let same = first_is_count place xs in
    missing (position_or_len (λ block. nat_le place block.place) xs) (length xs) (rw same (count_within (λ block. block.place) place xs)) e ∙ same
