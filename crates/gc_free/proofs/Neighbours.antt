-- What the runs near some freed places are, and what is left of the others.
use Rattle.std.proofs.Common.{ℕ, suc, ◌≡◌, ◌≤◌, ◌<◌, List, [], ◌∷◌, ◌++◌, arith, refl, ap, ◌∙◌, cond, not, true, false, Option, Some, None, Bool}
use Rattle.std.specs.Option.{option_or}
use Rattle.std.proofs.lemmas.Bool.{lt-ltb, le-ltb, le-leb, ne_eqb}
use Rattle.std.proofs.lemmas.List.Elements.{filter-append}
use Rattle.std.proofs.lemmas.List.Folds.{find-append}
use Rattle.std.specs.List.{find}
use Rattle.gc_free.specs.declared.run.Run.{Run}
use Rattle.gc_free.specs.Runs.{end_of, insert_run, without, begins_at, ends_at}
use Rattle.gc_free.specs.Space.{covers}
use Rattle.gc_free.proofs.Spread.{PassesNone, PassesNone-cons}
use Rattle.gc_free.proofs.Slots.{Under, Over}

pub Under-without : (test : Run → Bool) (high : ℕ) (xs : List Run) → Under high xs → Under high (without test xs)
Under-without test high [] u = tt
Under-without test high (x ∷ xs) u =
    elim (test x) as (λ b. Under high (cond (not b) (x ∷ without test xs) (without test xs))) [
      | true ↦ Under-without test high xs u.2
      | false ↦ (u.0, u.1, Under-without test high xs u.2)
    ]

pub Over-without : (test : Run → Bool) (low : ℕ) (xs : List Run) → Over low xs → Over low (without test xs)
Over-without test low [] u = tt
Over-without test low (x ∷ xs) u =
    elim (test x) as (λ b. Over low (cond (not b) (x ∷ without test xs) (without test xs))) [
      | true ↦ Over-without test low xs u.2
      | false ↦ (u.0, u.1, Over-without test low xs u.2)
    ]

-- runs under a place pass no test at it or above
pub Under-none_begins : (q high : ℕ) (xs : List Run) → high ≤ q → Under high xs → PassesNone (begins_at q) xs
Under-none_begins q high [] l u = record { none = refl; all = refl }
Under-none_begins q high (x ∷ xs) l u =
    let a : end_of x < high = u.0 in PassesNone-cons (begins_at q) x xs (ne_eqb x.place q (λ e. omega arith)) (Under-none_begins q high xs l u.2)

pub Under-none_ends : (q high : ℕ) (xs : List Run) → high ≤ q → Under high xs → PassesNone (ends_at q) xs
Under-none_ends q high [] l u = record { none = refl; all = refl }
Under-none_ends q high (x ∷ xs) l u =
    let a : end_of x < high = u.0 in PassesNone-cons (ends_at q) x xs (ne_eqb (end_of x) q (λ e. omega arith)) (Under-none_ends q high xs l u.2)

pub Under-none_covers : (q high : ℕ) (xs : List Run) → high ≤ q → Under high xs → find (covers q) xs ≡ None
Under-none_covers q high [] l u = refl
Under-none_covers q high (x ∷ xs) l u =
    let a : end_of x < high = u.0 in simp (le-leb x.place q (omega arith), le-ltb q (end_of x) (omega arith)) (Under-none_covers q high xs l u.2)

-- runs over a place pass none at it or below
pub Over-none_begins : (q low : ℕ) (xs : List Run) → q ≤ low → Over low xs → PassesNone (begins_at q) xs
Over-none_begins q low [] l u = record { none = refl; all = refl }
Over-none_begins q low (x ∷ xs) l u =
    let a : low < x.place = u.0 in PassesNone-cons (begins_at q) x xs (ne_eqb x.place q (λ e. omega arith)) (Over-none_begins q low xs l u.2)

pub Over-none_ends : (q low : ℕ) (xs : List Run) → q ≤ low → Over low xs → PassesNone (ends_at q) xs
Over-none_ends q low [] l u = record { none = refl; all = refl }
Over-none_ends q low (x ∷ xs) l u =
    let a : low < x.place = u.0 in PassesNone-cons (ends_at q) x xs (ne_eqb (end_of x) q (λ e. omega arith)) (Over-none_ends q low xs l u.2)

pub without-append : (test : Run → Bool) (xs ys : List Run) → without test (xs ++ ys) ≡ without test xs ++ without test ys
without-append test xs ys = filter-append (λ r. not (test r)) xs ys

-- none among two lists where none is in either
pub PassesNone-append : (test : Run → Bool) (xs ys : List Run) → PassesNone test xs → PassesNone test ys → PassesNone test (xs ++ ys)
PassesNone-append test [] ys a b = b
PassesNone-append test (x ∷ xs) ys a b = record {
  none = find-append test (x ∷ xs) ys ∙ rw a.none b.none;
  all = without-append test (x ∷ xs) ys ∙ rw (a.all, b.all) refl;
}

-- in the middle, only what is there can pass
pub record InMiddle (test : Run → Bool) (xs ms ys : List Run) : Type 0 where
  pub found : find test (xs ++ (ms ++ ys)) ≡ find test ms
  pub rest : without test (xs ++ (ms ++ ys)) ≡ xs ++ (without test ms ++ ys)

option_or_none : (o : Option Run) → option_or o None ≡ o
option_or_none None = refl
option_or_none (Some x) = refl

pub in_middle : (test : Run → Bool) (xs ms ys : List Run) → PassesNone test xs → PassesNone test ys → InMiddle test xs ms ys
in_middle test xs ms ys a b = record {
  found = find-append test xs (ms ++ ys) ∙ rw a.none (find-append test ms ys ∙ rw b.none (option_or_none (find test ms)));
  rest = without-append test xs (ms ++ ys) ∙ rw a.all (ap (λ l. xs ++ l) (without-append test ms ys ∙ rw b.all refl));
}

-- a run goes in behind those under it and before those over it
pub insert_run-middle : (r : Run) (xs ys : List Run) → Under (suc r.place) xs → Over r.place ys → insert_run r (xs ++ ys) ≡ xs ++ r ∷ ys
insert_run-middle r [] [] u o = refl
insert_run-middle r [] (y ∷ ys) u o = let a : r.place < y.place = o.0 in rw (le-ltb y.place r.place (omega arith))
insert_run-middle r (x ∷ xs) ys u o =
    let a : end_of x < suc r.place = u.0 in let b : 0 < x.length = u.1 in
    rw (lt-ltb x.place r.place (omega arith)) (ap (λ l. x ∷ l) (insert_run-middle r xs ys u.2 o))

pub Under-more : (low high : ℕ) (xs : List Run) → low ≤ high → Under low xs → Under high xs
Under-more low high [] l u = tt
Under-more low high (x ∷ xs) l u = (let a : end_of x < low = u.0 in omega arith, u.1, Under-more low high xs l u.2)

pub Over-less : (low high : ℕ) (xs : List Run) → low ≤ high → Over high xs → Over low xs
Over-less low high [] l u = tt
Over-less low high (x ∷ xs) l u = (let a : high < x.place = u.0 in omega arith, u.1, Over-less low high xs l u.2)
