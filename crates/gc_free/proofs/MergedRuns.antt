-- Freed places merge with the runs that they touch, as the rule says.
use Rattle.std.proofs.Common.{ℕ, suc, ◌≡◌, ◌≤◌, ◌<◌, ◌+◌, ◌-◌, min, List, [], ◌∷◌, ◌++◌, arith, refl, ap, sym, ◌∙◌, eqb, true, false, inl, inr, Option, Some, None, Bool}
use Rattle.std.proofs.lemmas.Bool.{lt-ltb, le-ltb, le-leb, eq-eqb, ne_eqb, cases_lt, or_right}
use Rattle.std.specs.List.{find}
use Rattle.gc_free.specs.declared.run.Run.{Run}
use Rattle.gc_free.specs.Runs.{run, end_of, gap, insert_run, without, begins_at, ends_at}
use Rattle.gc_free.specs.Space.{covers, touches, current_with}
use Rattle.gc_free.specs.Merged.{join, join_if_any, joined, apart_from, current_after, others_after}
use Rattle.gc_free.specs.Kept.{is_current}
use Rattle.gc_free.proofs.Spread.{PassesNone, PassesNone-cons}
use Rattle.gc_free.proofs.Slots.{Under, Over}
use Rattle.gc_free.proofs.Neighbours.{Under-without, Over-without, Under-none_begins, Under-none_ends, Over-none_begins, Over-none_ends, PassesNone-append, without-append, in_middle, insert_run-middle, Under-more, Over-less}

run_same : (p q m n : ℕ) → p ≡ q → m ≡ n → run p m ≡ run q n
run_same p q m n e f = ap (λ x. run x m) e ∙ ap (λ x. run q x) f

pub gap_none : (from to : ℕ) → to ≤ from → gap from to ≡ []
gap_none from to l = rw (le-ltb from to l)

pub gap_some : (from to : ℕ) → from < to → gap from to ≡ run from (to - from) ∷ []
gap_some from to l = rw (lt-ltb from to l)

gap_kept : (q from to : ℕ) → (from ≡ q → ⊥) → without (begins_at q) (gap from to) ≡ gap from to
gap_kept q from to ne =
    elim (cases_lt from to) [
      | inl l ↦ simp (lt-ltb from to l, ne_eqb from q ne)
      | inr l ↦ simp (le-ltb from to l)
    ]

pub gap_dropped : (q from to : ℕ) → from ≡ q → without (begins_at q) (gap from to) ≡ []
gap_dropped q from to e =
    elim (cases_lt from to) [
      | inl l ↦ simp (lt-ltb from to l, eq-eqb from q e)
      | inr l ↦ simp (le-ltb from to l)
    ]

-- what ends before the freed places joins them
left_joins : (b : Run) (a : ℕ) → a ≤ b.place → join_if_any b (find (ends_at b.place) (gap a b.place)) ≡ run a (end_of b - a)
left_joins b a l =
    elim (cases_lt a b.place) [
      | inl some ↦
          simp (lt-ltb a b.place some, eq-eqb (a + (b.place - a)) b.place (omega arith))
          (run_same (min b.place a) a (b.length + (b.place - a)) (end_of b - a) (omega arith) (omega arith))
      | inr none ↦ simp (le-ltb a b.place none) (run_same b.place a b.length (end_of b - a) (omega arith) (omega arith))
    ]

left_gone : (p a : ℕ) → a ≤ p → without (ends_at p) (gap a p) ≡ []
left_gone p a l =
    elim (cases_lt a p) [
      | inl some ↦ simp (lt-ltb a p some, eq-eqb (a + (p - a)) p (omega arith))
      | inr none ↦ simp (le-ltb a p none)
    ]

right_joins : (a e z : ℕ) → a ≤ e → e ≤ z → join_if_any (run a (e - a)) (find (begins_at e) (gap e z)) ≡ run a (z - a)
right_joins a e z l h =
    elim (cases_lt e z) [
      | inl some ↦ simp (lt-ltb e z some, eq-eqb e e refl) (run_same (min a e) a ((e - a) + (z - e)) (z - a) (omega arith) (omega arith))
      | inr none ↦ simp (le-ltb e z none) (run_same a a (e - a) (z - a) refl (omega arith))
    ]

right_gone : (e z : ℕ) → without (begins_at e) (gap e z) ≡ []
right_gone e z = gap_dropped e e z refl

gap_ends_past : (p e z : ℕ) → p < e → PassesNone (ends_at p) (gap e z)
gap_ends_past p e z l =
    elim (cases_lt e z) [
      | inl some ↦ rw (lt-ltb e z some) (PassesNone-cons (ends_at p) (run e (z - e)) [] (ne_eqb (e + (z - e)) p (λ i. omega arith)) (record { none = refl; all = refl }))
      | inr none ↦ rw (le-ltb e z none) (record { none = refl; all = refl })
    ]

-- the runs near the freed places: from `a` on the left, up to `z` on the right
pub record Site (freed : Run) (xs ys : List Run) (lo hi : ℕ) : Type 0 where
  pub under : Under lo xs
  pub over : Over hi ys
  pub left : lo ≤ freed.place
  pub some : 0 < freed.length
  pub right : end_of freed ≤ hi

record JoinsAll (freed : Run) (runs xs ys : List Run) (a z : ℕ) : Type 0 where
  whole : joined freed runs ≡ run a (z - a)
  rest : apart_from freed runs ≡ xs ++ ys

joins_all : (freed : Run) (xs ys : List Run) (lo hi a z : ℕ) → Site freed xs ys lo hi → a ≤ freed.place → end_of freed ≤ z
    → JoinsAll freed (xs ++ (gap a freed.place ++ (gap (end_of freed) z ++ ys))) xs ys a z
joins_all freed xs ys lo hi a z site la lz =
    let p = freed.place in
    let e = end_of freed in
    let left : lo ≤ p = site.left in let some : 0 < freed.length = site.some in let right : e ≤ hi = site.right in
    let runs = xs ++ (gap a p ++ (gap e z ++ ys)) in
    let past = PassesNone-append (ends_at p) (gap e z) ys (gap_ends_past p e z (omega arith)) (Over-none_ends p hi ys (omega arith) site.over) in
    let ends = in_middle (ends_at p) xs (gap a p) (gap e z ++ ys) (Under-none_ends p lo xs left site.under) past in
    let gone : without (ends_at p) runs ≡ xs ++ (gap e z ++ ys) = ends.rest ∙ ap (λ l. xs ++ (l ++ (gap e z ++ ys))) (left_gone p a la) in
    let begins = in_middle (begins_at e) xs (gap e z) ys (Under-none_begins e lo xs (omega arith) site.under) (Over-none_begins e hi ys right site.over) in
    let first : join_if_any freed (find (ends_at p) runs) ≡ run a (e - a) = ap (join_if_any freed) ends.found ∙ left_joins freed a la in
    let second : find (begins_at e) (without (ends_at p) runs) ≡ find (begins_at e) (gap e z) = ap (find (begins_at e)) gone ∙ begins.found in
    record {
      whole = ap (λ r. join_if_any r (find (begins_at e) (without (ends_at p) runs))) first ∙ ap (join_if_any (run a (e - a))) second ∙ right_joins a e z (omega arith) lz;
      rest = ap (without (begins_at e)) gone ∙ begins.rest ∙ ap (λ l. xs ++ (l ++ ys)) (right_gone e z);
    }

-- the freed places lie in the run between the neighbours
pub around_is : (freed : Run) (xs ys : List Run) (lo hi : ℕ) → Site freed xs ys lo hi
    → find (covers freed.place) (xs ++ (gap lo hi ++ ys)) ≡ Some (run lo (hi - lo))
around_is freed [] ys lo hi site =
    let left : lo ≤ freed.place = site.left in let some : 0 < freed.length = site.some in let right : end_of freed ≤ hi = site.right in
    simp (lt-ltb lo hi (omega arith), le-leb lo freed.place left, lt-ltb freed.place (lo + (hi - lo)) (omega arith))
around_is freed (x ∷ xs) ys lo hi site =
    let left : lo ≤ freed.place = site.left in
    let under : end_of x < lo = site.under.0 in
    let more : 0 < x.length = site.under.1 in
    simp (le-leb x.place freed.place (omega arith), le-ltb freed.place (end_of x) (omega arith))
    (around_is freed xs ys lo hi (record { under = site.under.2; over = site.over; left = site.left; some = site.some; right = site.right }))

-- what the merging rule asks of the code's steps
pub record IsMerged (freed : Run) (current : Option Run) (runs all : List Run) : Type 0 where
  pub current_is : current_after freed current runs ≡ current_with freed current (find (covers freed.place) all)
  pub others_are : others_after freed current runs ≡ without (is_current (current_with freed current (find (covers freed.place) all))) all

pub without_none : (xs : List Run) → without (is_current None) xs ≡ xs
without_none [] = refl
without_none (x ∷ xs) = ap (λ l. x ∷ l) (without_none xs)

-- the whole run goes in where nothing is left of it
whole_inserted : (xs ys : List Run) (lo hi : ℕ) → Under lo xs → Over hi ys → lo < hi → insert_run (run lo (hi - lo)) (xs ++ ys) ≡ xs ++ (gap lo hi ++ ys)
whole_inserted xs ys lo hi u o l =
    insert_run-middle (run lo (hi - lo)) xs ys (Under-more lo (suc lo) xs (omega arith) u) (Over-less lo hi ys (omega arith) o)
    ∙ ap (λ g. xs ++ (g ++ ys)) (sym (gap_some lo hi l))

pub merged_none : (freed : Run) (xs ys : List Run) (lo hi : ℕ) → Site freed xs ys lo hi
    → IsMerged freed None (without (is_current None) (xs ++ (gap lo freed.place ++ (gap (end_of freed) hi ++ ys)))) (xs ++ (gap lo hi ++ ys))
merged_none freed xs ys lo hi site =
    let left : lo ≤ freed.place = site.left in let some : 0 < freed.length = site.some in let right : end_of freed ≤ hi = site.right in
    let runs = xs ++ (gap lo freed.place ++ (gap (end_of freed) hi ++ ys)) in
    let joins = joins_all freed xs ys lo hi lo hi site left right in
    record {
      current_is = refl;
      others_are =
          ap (others_after freed None) (without_none runs)
          ∙ ap (λ r. insert_run r (apart_from freed runs)) joins.whole ∙ ap (insert_run (run lo (hi - lo))) joins.rest
          ∙ whole_inserted xs ys lo hi site.under site.over (omega arith) ∙ sym (without_none (xs ++ (gap lo hi ++ ys)));
    }

-- a test takes its runs from each part
without_parts : (test : Run → Bool) (xs g h ys : List Run) → without test (xs ++ (g ++ (h ++ ys))) ≡ without test xs ++ (without test g ++ (without test h ++ without test ys))
without_parts test xs g h ys =
    without-append test xs (g ++ (h ++ ys))
    ∙ ap (λ l. without test xs ++ l) (without-append test g (h ++ ys) ∙ ap (λ l. without test g ++ l) (without-append test h ys))

without_three : (test : Run → Bool) (xs g ys : List Run) → without test (xs ++ (g ++ ys)) ≡ without test xs ++ (without test g ++ without test ys)
without_three test xs g ys = without-append test xs (g ++ ys) ∙ ap (λ l. without test xs ++ l) (without-append test g ys)

pub merged_apart : (freed c : Run) (xs ys : List Run) (lo hi : ℕ) → Site freed xs ys lo hi → touches freed c ≡ false → (lo ≡ c.place → ⊥) → (end_of freed ≡ c.place → ⊥)
    → IsMerged freed (Some c) (without (begins_at c.place) (xs ++ (gap lo freed.place ++ (gap (end_of freed) hi ++ ys)))) (xs ++ (gap lo hi ++ ys))
merged_apart freed c xs ys lo hi site apart ne_left ne_right =
    let left : lo ≤ freed.place = site.left in let some : 0 < freed.length = site.some in let right : end_of freed ≤ hi = site.right in
    let p = freed.place in let e = end_of freed in
    let test = begins_at c.place in
    let xs' = without test xs in let ys' = without test ys in
    let site' : Site freed xs' ys' lo hi = record { under = Under-without test lo xs site.under; over = Over-without test hi ys site.over; left = left; some = some; right = right } in
    let kept : without test (xs ++ (gap lo p ++ (gap e hi ++ ys))) ≡ xs' ++ (gap lo p ++ (gap e hi ++ ys')) =
    without_parts test xs (gap lo p) (gap e hi) ys
    ∙ ap (λ l. xs' ++ (l ++ (without test (gap e hi) ++ ys'))) (gap_kept c.place lo p ne_left)
    ∙ ap (λ l. xs' ++ (gap lo p ++ (l ++ ys'))) (gap_kept c.place e hi ne_right) in
    let joins = joins_all freed xs' ys' lo hi lo hi site' left right in
    let all = xs ++ (gap lo hi ++ ys) in
    record {
      current_is = rw apart refl;
      others_are =
          ap (others_after freed (Some c)) kept
          ∙ rw apart (
          ap (λ r. insert_run r (apart_from freed (xs' ++ (gap lo p ++ (gap e hi ++ ys'))))) joins.whole ∙ ap (insert_run (run lo (hi - lo))) joins.rest
          ∙ whole_inserted xs' ys' lo hi site'.under site'.over (omega arith)
          ∙ sym (without_three test xs (gap lo hi) ys ∙ ap (λ l. xs' ++ (l ++ ys')) (gap_kept c.place lo hi ne_left)));
    }

-- the whole run is current where it takes the current run in
record TakesIn (freed c : Run) (runs xs ys : List Run) (lo hi : ℕ) : Type 0 where
  touching : touches freed c ≡ true
  whole : join (joined freed runs) c ≡ run lo (hi - lo)
  rest : apart_from freed runs ≡ xs ++ ys

merged_in : (freed c : Run) (runs xs ys : List Run) (lo hi : ℕ) → Site freed xs ys lo hi → TakesIn freed c runs xs ys lo hi → IsMerged freed (Some c) runs (xs ++ (gap lo hi ++ ys))
merged_in freed c runs xs ys lo hi site in' =
    let left : lo ≤ freed.place = site.left in let some : 0 < freed.length = site.some in let right : end_of freed ≤ hi = site.right in
    let all = xs ++ (gap lo hi ++ ys) in
    let around : find (covers freed.place) all ≡ Some (run lo (hi - lo)) = around_is freed xs ys lo hi site in
    let none_before = Under-none_begins lo lo xs (omega arith) site.under in
    let none_behind = Over-none_begins lo hi ys (omega arith) site.over in
    let own : without (begins_at lo) all ≡ xs ++ ys =
    without_three (begins_at lo) xs (gap lo hi) ys ∙ ap (λ l. l ++ (without (begins_at lo) (gap lo hi) ++ without (begins_at lo) ys)) none_before.all
    ∙ ap (λ l. xs ++ (l ++ without (begins_at lo) ys)) (gap_dropped lo lo hi refl) ∙ ap (λ l. xs ++ l) none_behind.all in
    record {
      current_is = rw (in'.touching, around) (ap (λ r. Some r) in'.whole);
      others_are = rw (in'.touching, around) (in'.rest ∙ sym own);
    }

pub merged_left : (freed c : Run) (xs ys : List Run) (lo hi : ℕ) → Site freed xs ys lo hi → end_of c ≡ freed.place → c.place ≡ lo
    → IsMerged freed (Some c) (without (begins_at c.place) (xs ++ (gap lo freed.place ++ (gap (end_of freed) hi ++ ys)))) (xs ++ (gap lo hi ++ ys))
merged_left freed c xs ys lo hi site ends begins =
    let left : lo ≤ freed.place = site.left in let some : 0 < freed.length = site.some in let right : end_of freed ≤ hi = site.right in
    let p = freed.place in let e = end_of freed in
    let test = begins_at c.place in
    let none_before = Under-none_begins c.place lo xs (omega arith) site.under in
    let none_behind = Over-none_begins c.place hi ys (omega arith) site.over in
    let runs = without test (xs ++ (gap lo p ++ (gap e hi ++ ys))) in
    let kept : runs ≡ xs ++ (gap p p ++ (gap e hi ++ ys)) =
    without_parts test xs (gap lo p) (gap e hi) ys
    ∙ ap (λ l. l ++ (without test (gap lo p) ++ (without test (gap e hi) ++ without test ys))) none_before.all
    ∙ ap (λ l. xs ++ (l ++ (without test (gap e hi) ++ without test ys))) (gap_dropped c.place lo p (sym begins) ∙ sym (gap_none p p (omega arith)))
    ∙ ap (λ l. xs ++ (gap p p ++ (l ++ without test ys))) (gap_kept c.place e hi (λ i. omega arith))
    ∙ ap (λ l. xs ++ (gap p p ++ (gap e hi ++ l))) none_behind.all in
    let joins = joins_all freed xs ys lo hi p hi site (omega arith) right in
    merged_in freed c runs xs ys lo hi site (record {
      touching = rw (eq-eqb (end_of c) p ends) (or_right (eqb e c.place) true refl);
      whole = ap (λ l. join (joined freed l) c) kept ∙ ap (λ r. join r c) joins.whole ∙ run_same (min p c.place) lo ((hi - p) + c.length) (hi - lo) (omega arith) (omega arith);
      rest = ap (apart_from freed) kept ∙ joins.rest;
    })

pub merged_right : (freed c : Run) (xs ys : List Run) (lo hi : ℕ) → Site freed xs ys lo hi → end_of freed ≡ c.place → end_of c ≡ hi
    → IsMerged freed (Some c) (without (begins_at c.place) (xs ++ (gap lo freed.place ++ (gap (end_of freed) hi ++ ys)))) (xs ++ (gap lo hi ++ ys))
merged_right freed c xs ys lo hi site begins ends =
    let left : lo ≤ freed.place = site.left in let some : 0 < freed.length = site.some in let right : end_of freed ≤ hi = site.right in
    let p = freed.place in let e = end_of freed in
    let test = begins_at c.place in
    let none_before = Under-none_begins c.place lo xs (omega arith) site.under in
    let none_behind = Over-none_begins c.place hi ys (omega arith) site.over in
    let runs = without test (xs ++ (gap lo p ++ (gap e hi ++ ys))) in
    let kept : runs ≡ xs ++ (gap lo p ++ (gap e e ++ ys)) =
    without_parts test xs (gap lo p) (gap e hi) ys
    ∙ ap (λ l. l ++ (without test (gap lo p) ++ (without test (gap e hi) ++ without test ys))) none_before.all
    ∙ ap (λ l. xs ++ (l ++ (without test (gap e hi) ++ without test ys))) (gap_kept c.place lo p (λ i. omega arith))
    ∙ ap (λ l. xs ++ (gap lo p ++ (l ++ without test ys))) (gap_dropped c.place e hi begins ∙ sym (gap_none e e (omega arith)))
    ∙ ap (λ l. xs ++ (gap lo p ++ (gap e e ++ l))) none_behind.all in
    let joins = joins_all freed xs ys lo hi lo e site left (omega arith) in
    merged_in freed c runs xs ys lo hi site (record {
      touching = rw (eq-eqb e c.place begins) refl;
      whole = ap (λ l. join (joined freed l) c) kept ∙ ap (λ r. join r c) joins.whole ∙ run_same (min lo c.place) lo ((e - lo) + c.length) (hi - lo) (omega arith) (omega arith);
      rest = ap (apart_from freed) kept ∙ joins.rest;
    })
