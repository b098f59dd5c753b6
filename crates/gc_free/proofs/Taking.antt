-- A block at the front of a run keeps what a free list keeps.
use Rattle.std.proofs.Common.{ℕ, suc, ◌≡◌, ◌≤◌, ◌<◌, ◌+◌, ◌-◌, length, List, [], ◌∷◌, ◌++◌, arith, refl, ap, sym, ◌∙◌, cond, not, true, false, inl, inr, Option, Some, None, subst, Bool}
use Rattle.std.proofs.lemmas.Bool.{lt-ltb, le-ltb, le-leb, lt-leb, eq-eqb, ne_eqb, cases_lt}
use Rattle.std.specs.List.{AllByRecursion}
use Rattle.gc_free.specs.declared.run.Run.{Run}
use Rattle.gc_free.specs.Runs.{run, end_of, gap, gaps, insert_run, remove_by, without, begins_at, IsSpread}
use Rattle.gc_free.specs.Orders.{shortest_fit, shorter_fit}
use Rattle.gc_free.specs.Space.{IsBetween, IsAligned, AllAligned, run_rest}
use Rattle.gc_free.proofs.ByLength.{In, In-place, place_of}
use Rattle.gc_free.proofs.Spread.{none_begins}
use Rattle.gc_free.proofs.Slots.{lower, upper, before, behind, gaps-split, gaps-around, before-under, behind-over, spread-behind, Under, Over}
use Rattle.gc_free.proofs.Neighbours.{Under-none_begins, Over-none_begins, insert_run-middle, Under-more, Over-less, in_middle}
use Rattle.gc_free.proofs.Between.{between_slot, between_behind, insert_run-slot, spread-insert, aligned-insert, length-slot}
use Rattle.gc_free.proofs.MergedRuns.{gap_none, gap_some, gap_dropped}

-- the runs near a slot: those before it, the one in it, and those behind it
pub record Open (from end : ℕ) (hs ts : List Run) : Type 0 where
  pub under : Under (lower from hs) (before from hs)
  pub over : Over (upper end ts) (behind end ts)

pub open_slot : (from end : ℕ) (hs ts : List Run) → IsSpread from end (hs ++ ts) → Open from end hs ts
open_slot from end hs ts up = record { under = before-under from end hs ts up; over = behind-over (lower from hs) end ts (spread-behind from end hs ts up) }

-- the others than the run in the slot
others_at : (from end q : ℕ) (hs ts : List Run) → Open from end hs ts → q ≡ lower from hs → q ≤ upper end ts
    → without (begins_at q) (gaps from end (hs ++ ts)) ≡ before from hs ++ behind end ts
others_at from end q hs ts at e l =
    let lo = lower from hs in let hi = upper end ts in
    let middle = in_middle (begins_at q) (before from hs) (gap lo hi) (behind end ts) (Under-none_begins q lo (before from hs) (omega arith) at.under) (Over-none_begins q hi (behind end ts) l at.over) in
    ap (without (begins_at q)) (gaps-split from end hs ts) ∙ middle.rest ∙ ap (λ g. before from hs ++ (g ++ behind end ts)) (gap_dropped q lo hi (sym e))

-- a block at the front of the run in a slot
pub record AnswersTake (c : Run) (size from end : ℕ) (held : List Run) : Type 0 where
  pub blocks : IsSpread from end (insert_run (run c.place size) held)
  pub aligned : IsAligned (run c.place size) → AllAligned held → AllAligned (insert_run (run c.place size) held)
  pub count : length (insert_run (run c.place size) held) ≡ suc (length held)
  pub between : IsBetween (run_rest size c) from end (insert_run (run c.place size) held)
  pub others : without (begins_at c.place) (gaps from end held) ≡ without (begins_at (c.place + size)) (gaps from end (insert_run (run c.place size) held))
  pub whole : c.length ≡ size → without (begins_at c.place) (gaps from end held) ≡ gaps from end (insert_run (run c.place size) held)

taken_at : (c : Run) (size from end : ℕ) (hs ts : List Run) → IsSpread from end (hs ++ ts) → c.place ≡ lower from hs → end_of c ≡ upper end ts → 0 < size → size ≤ c.length
    → AnswersTake c size from end (hs ++ ts)
taken_at c size from end hs ts up begins ends some fits =
    let b = run c.place size in
    let lo = lower from hs in let hi = upper end ts in
    let e : insert_run b (hs ++ ts) ≡ hs ++ b ∷ ts = insert_run-slot b from end hs ts up (omega arith) some (omega arith) in
    let at = open_slot from end hs ts up in
    let left : without (begins_at c.place) (gaps from end (hs ++ ts)) ≡ before from hs ++ behind end ts = others_at from end c.place hs ts at begins (omega arith) in
    let around : gaps from end (hs ++ b ∷ ts) ≡ before from hs ++ (gap (end_of b) hi ++ behind end ts) =
    gaps-around from end hs b ts ∙ ap (λ g. before from hs ++ (g ++ (gap (end_of b) hi ++ behind end ts))) (gap_none lo b.place (omega arith)) in
    let middle = in_middle (begins_at (end_of b)) (before from hs) (gap (end_of b) hi) (behind end ts)
    (Under-none_begins (end_of b) lo (before from hs) (omega arith) at.under) (Over-none_begins (end_of b) hi (behind end ts) (omega arith) at.over) in
    record {
      blocks = rw e (spread-insert b from end hs ts up (omega arith) some (omega arith));
      aligned = λ a all. rw e (aligned-insert b hs ts a all);
      count = rw e (length-slot b hs ts);
      between = rw e (between_behind (run_rest size c) from end hs b ts refl (let f : c.place + size + (c.length - size) ≡ c.place + c.length = omega arith in f ∙ ends));
      others = left ∙ sym (ap (λ l. without (begins_at (c.place + size)) (gaps from end l)) e ∙ ap (without (begins_at (end_of b))) around ∙ middle.rest
          ∙ ap (λ g. before from hs ++ (g ++ behind end ts)) (gap_dropped (end_of b) (end_of b) hi refl));
      whole = λ all. left ∙ sym (ap (gaps from end) e ∙ around ∙ ap (λ g. before from hs ++ (g ++ behind end ts)) (gap_none (end_of b) hi (omega arith)));
    }

pub taken : (c : Run) (size from end : ℕ) (held : List Run) → IsSpread from end held → IsBetween c from end held → 0 < size → size ≤ c.length → AnswersTake c size from end held
taken c size from end held up between some fits =
    let s = between_slot c from end held between in
    subst (λ l. IsSpread from end l → AnswersTake c size from end l) (sym s.is) (λ u. taken_at c size from end s.front s.back u s.begins s.ends some fits) up

-- the current run goes back among the others
pub record IsPutBack (c : Run) (from end : ℕ) (held : List Run) : Type 0 where
  pub some : 0 < c.length → insert_run c (without (begins_at c.place) (gaps from end held)) ≡ gaps from end held
  pub empty : c.length ≡ 0 → without (begins_at c.place) (gaps from end held) ≡ gaps from end held
  pub count : 0 < c.length → suc (length (without (begins_at c.place) (gaps from end held))) ≡ length (gaps from end held)

put_back_at : (c : Run) (from end : ℕ) (hs ts : List Run) → IsSpread from end (hs ++ ts) → c.place ≡ lower from hs → end_of c ≡ upper end ts → IsPutBack c from end (hs ++ ts)
put_back_at c from end hs ts up begins ends =
    let lo = lower from hs in let hi = upper end ts in
    let at = open_slot from end hs ts up in
    let left : without (begins_at c.place) (gaps from end (hs ++ ts)) ≡ before from hs ++ behind end ts = others_at from end c.place hs ts at begins (omega arith) in
    let filled : 0 < c.length → gaps from end (hs ++ ts) ≡ before from hs ++ c ∷ behind end ts = λ some.
    gaps-split from end hs ts ∙ ap (λ g. before from hs ++ (g ++ behind end ts))
    (gap_some lo hi (omega arith) ∙ ap (λ r. r ∷ []) (ap (λ p. run p (hi - lo)) (sym begins) ∙ ap (run c.place) (let n : hi - lo ≡ c.length = omega arith in n))) in
    record {
      some = λ some. ap (insert_run c) left
          ∙ insert_run-middle c (before from hs) (behind end ts) (Under-more lo (suc c.place) (before from hs) (omega arith) at.under) (Over-less c.place hi (behind end ts) (omega arith) at.over)
          ∙ sym (filled some);
      empty = λ none. left ∙ sym (gaps-split from end hs ts ∙ ap (λ g. before from hs ++ (g ++ behind end ts)) (gap_none lo hi (omega arith)));
      count = λ some. ap (λ l. suc (length l)) left ∙ sym (length-slot c (before from hs) (behind end ts)) ∙ ap length (sym (filled some));
    }

pub put_back : (c : Run) (from end : ℕ) (held : List Run) → IsSpread from end held → IsBetween c from end held → IsPutBack c from end held
put_back c from end held up between =
    let s = between_slot c from end held between in
    subst (λ l. IsSpread from end l → IsPutBack c from end l) (sym s.is) (λ u. put_back_at c from end s.front s.back u s.begins s.ends) up

-- what a search for the shortest run finds
pub record IsShortest (size : ℕ) (xs : List Run) (r : Run) : Type 0 where
  pub among : In r xs
  pub fits : size ≤ r.length

found_step : (size : ℕ) (x : Run) (xs : List Run) (o : Option Run) (r : Run) → ((z : Run) → o ≡ Some z → IsShortest size xs z) → shorter_fit size x o ≡ Some r
    → IsShortest size (x ∷ xs) r
found_step size x xs None r before e =
    elim (cases_lt x.length size) [
      | inl short ↦ let e' : None ≡ Some r = rw (lt-leb size x.length short) at e in absurd (cc)
      | inr long ↦ let e' : Some x ≡ Some r = rw (le-leb size x.length long) at e in let same : x ≡ r = cc in
          record { among = inl same; fits = subst (λ z. size ≤ z.length) same long }
    ]
found_step size x xs (Some best) r before e =
    let later : Some best ≡ Some r → IsShortest size (x ∷ xs) r = λ f. let i = before r f in record { among = inr i.among; fits = i.fits } in
    elim (cases_lt x.length size) [
      | inl short ↦ later (rw (lt-leb size x.length short) at e)
      | inr long ↦ elim (cases_lt best.length x.length) [
        | inl less ↦ later (rw (le-leb size x.length long, lt-leb x.length best.length less) at e)
        | inr more ↦
            let e' : Some x ≡ Some r = rw (le-leb size x.length long, le-leb x.length best.length more) at e in let same : x ≡ r = cc in
            record { among = inl same; fits = subst (λ z. size ≤ z.length) same long }
      ]
    ]

pub shortest_found : (size : ℕ) (xs : List Run) (r : Run) → shortest_fit size xs ≡ Some r → IsShortest size xs r
shortest_found size [] r e = absurd (cc)
shortest_found size (x ∷ xs) r e = found_step size x xs (shortest_fit size xs) r (λ z f. shortest_found size xs z f) e

-- nothing is found exactly where each run is too short
pub none_step : (size : ℕ) (x : Run) (o : Option Run) → shorter_fit size x o ≡ None → (x.length < size) × (o ≡ None)
none_step size x None e =
    elim (cases_lt x.length size) [
      | inl short ↦ (short, refl)
      | inr long ↦ let e' : Some x ≡ None = rw (le-leb size x.length long) at e in absurd (cc)
    ]
none_step size x (Some best) e =
    elim (cases_lt x.length size) [
      | inl short ↦ let e' : Some best ≡ None = rw (lt-leb size x.length short) at e in absurd (cc)
      | inr long ↦ elim (cases_lt best.length x.length) [
        | inl less ↦ let e' : Some best ≡ None = rw (le-leb size x.length long, lt-leb x.length best.length less) at e in absurd (cc)
        | inr more ↦ let e' : Some x ≡ None = rw (le-leb size x.length long, le-leb x.length best.length more) at e in absurd (cc)
      ]
    ]

pub all_short : (size : ℕ) (xs : List Run) → shortest_fit size xs ≡ None → AllByRecursion (λ r. r.length < size) xs
all_short size [] e = tt
all_short size (x ∷ xs) e = let s = none_step size x (shortest_fit size xs) e in (s.0, all_short size xs s.1)

pub none_fits : (size : ℕ) (xs : List Run) → AllByRecursion (λ r. r.length < size) xs → shortest_fit size xs ≡ None
none_fits size [] all = refl
none_fits size (x ∷ xs) all = rw (none_fits size xs all.1, lt-leb size x.length all.0) refl

-- a run among those that stand apart is taken out by its place
pub remove_by_is_without : (r : Run) (low high : ℕ) (xs : List Run) → IsSpread low high xs → In r xs → remove_by place_of r.place xs ≡ without (begins_at r.place) xs
remove_by_is_without r low high [] up h = absurd h
remove_by_is_without r low high (x ∷ xs) up (inl e) =
    let some : 0 < x.length = up.1 in let same : x.place ≡ r.place = ap (λ z. z.place) e in
    rw (le-ltb x.place r.place (omega arith), eq-eqb x.place r.place same) (sym (none_begins r.place (end_of x) high xs (omega arith) up.3).all)
remove_by_is_without r low high (x ∷ xs) up (inr h) =
    let p = In-place (end_of x) high r xs up.3 h in
    let past : end_of x ≤ r.place = p.0 in let some : 0 < x.length = up.1 in
    rw (lt-ltb x.place r.place (omega arith), ne_eqb x.place r.place (λ e. omega arith)) (ap (λ l. x ∷ l) (remove_by_is_without r (end_of x) high xs up.3 h))

-- THE RUNS STAND APART

spread-append : (low middle high : ℕ) (xs ys : List Run) → low ≤ middle → middle ≤ high → IsSpread low middle xs → IsSpread middle high ys → IsSpread low high (xs ++ ys)
spread-append low middle high [] [] l h a b = tt
spread-append low middle high [] (y ∷ ys) l h a b = (let p : middle ≤ y.place = b.0 in omega arith, b.1, b.2, b.3)
spread-append low middle high (x ∷ xs) ys l h a b =
    let w : end_of x ≤ middle = a.2 in (a.0, a.1, omega arith, spread-append (end_of x) middle high xs ys w h a.3 b)

gap-spread : (from to : ℕ) → IsSpread from to (gap from to)
gap-spread from to =
    elim (cases_lt from to) [
      | inl l ↦ rw (lt-ltb from to l) (omega arith, omega arith, omega arith, tt)
      | inr l ↦ rw (le-ltb from to l) tt
    ]

spread-lower : (low from end : ℕ) (bs : List Run) → low ≤ from → IsSpread from end bs → IsSpread low end bs
spread-lower low from end [] l up = tt
spread-lower low from end (b ∷ bs) l up = (let a : from ≤ b.place = up.0 in omega arith, up.1, up.2, up.3)

pub gaps-spread : (from end : ℕ) (held : List Run) → IsSpread from end held → IsSpread from end (gaps from end held)
gaps-spread from end [] up = gap-spread from end
gaps-spread from end (b ∷ bs) up =
    let some : 0 < b.length = up.1 in let within : end_of b ≤ end = up.2 in
    spread-append from b.place end (gap from b.place) (gaps (end_of b) end bs) up.0 (omega arith) (gap-spread from b.place)
    (spread-lower b.place (end_of b) end (gaps (end_of b) end bs) (omega arith) (gaps-spread (end_of b) end bs up.3))

pub spread-without : (test : Run → Bool) (low high : ℕ) (xs : List Run) → IsSpread low high xs → IsSpread low high (without test xs)
spread-without test low high [] up = tt
spread-without test low high (x ∷ xs) up =
    let some : 0 < x.length = up.1 in let a : low ≤ x.place = up.0 in
    elim (test x) as (λ b. IsSpread low high (cond (not b) (x ∷ without test xs) (without test xs))) [
      | true ↦ spread-lower low (end_of x) high (without test xs) (omega arith) (spread-without test (end_of x) high xs up.3)
      | false ↦ (up.0, up.1, up.2, spread-without test (end_of x) high xs up.3)
    ]

pub spread-widen : (low high low' high' : ℕ) (xs : List Run) → low' ≤ low → high ≤ high' → IsSpread low high xs → IsSpread low' high' xs
spread-widen low high low' high' [] l h up = tt
spread-widen low high low' high' (x ∷ xs) l h up =
    (let a : low ≤ x.place = up.0 in omega arith, up.1, (let w : end_of x ≤ high = up.2 in omega arith), spread-widen (end_of x) high (end_of x) high' xs (omega arith) h up.3)

pub length-without : (test : Run → Bool) (xs : List Run) → length (without test xs) ≤ length xs
length-without test [] = omega arith
length-without test (x ∷ xs) =
    let le = length-without test xs in
    elim (test x) as (λ b. length (cond (not b) (x ∷ without test xs) (without test xs)) ≤ suc (length xs)) [
      | true ↦ omega arith
      | false ↦ omega arith
    ]

length-spread-low : (low high : ℕ) (xs : List Run) → IsSpread low high xs → length xs ≤ high - low
length-spread-low low high [] up = omega arith
length-spread-low low high (x ∷ xs) up =
    let l = length-spread-low (end_of x) high xs up.3 in let a : 0 < x.length = up.1 in let w : end_of x ≤ high = up.2 in let b : low ≤ x.place = up.0 in omega arith

-- blocks of some places are no more than the places
pub length-spread : (low high : ℕ) (xs : List Run) → IsSpread low high xs → length xs ≤ high
length-spread low high [] up = omega arith
length-spread low high (x ∷ xs) up = let l = length-spread-low (end_of x) high xs up.3 in let a : 0 < x.length = up.1 in let w : end_of x ≤ high = up.2 in omega arith
