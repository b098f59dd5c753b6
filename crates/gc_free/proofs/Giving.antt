-- Blocks given back and new capacity keep what a free list keeps.
use Rattle.std.proofs.Common.{ℕ, suc, ◌≡◌, ◌≤◌, ◌<◌, ◌+◌, ◌-◌, max, length, List, [], ◌∷◌, ◌++◌, arith, refl, ap, sym, ◌∙◌, eqb, true, false, inl, inr, Option, Some, None, subst, append-nil}
use Rattle.std.proofs.lemmas.Bool.{eq-eqb, ne_eqb, cases_lt, cases_eq, or_right}
use Rattle.std.specs.List.{Contains, find}
use Rattle.std.specs.Option.{MatchOption}
use Rattle.gc_free.specs.declared.run.Run.{Run}
use Rattle.gc_free.specs.Runs.{run, end_of, gap, gaps, without, begins_at, IsSpread}
use Rattle.gc_free.specs.Space.{IsBetween, AllAligned, touches, covers, current_with}
use Rattle.gc_free.specs.Kept.{is_current}
use Rattle.gc_free.proofs.Slots.{lower, upper, before, behind, gaps-split, gaps-around, before-under, behind-over, spread-behind, lower-ge, Under}
use Rattle.gc_free.proofs.Between.{between_at, beside, spread-remove, without-slot, aligned-remove, length-slot, holding}
use Rattle.gc_free.proofs.MergedRuns.{Site, IsMerged, merged_none, merged_apart, merged_left, merged_right, around_is, gap_none}

-- whether the freed places touch the current run: on the left, on the right, or not at all
pub data Touching (freed c : Run) : Type 0 where
  on_left : end_of c ≡ freed.place → Touching freed c
  on_right : end_of freed ≡ c.place → Touching freed c
  not_at_all : (end_of c ≡ freed.place → ⊥) → (end_of freed ≡ c.place → ⊥) → touches freed c ≡ false → Touching freed c

pub touches_left : (freed c : Run) → end_of c ≡ freed.place → touches freed c ≡ true
touches_left freed c e = rw (eq-eqb (end_of c) freed.place e) (or_right (eqb (end_of freed) c.place) true refl)

pub touches_right : (freed c : Run) → end_of freed ≡ c.place → touches freed c ≡ true
touches_right freed c e = rw (eq-eqb (end_of freed) c.place e) refl

pub touching : (freed c : Run) → Touching freed c
touching freed c =
    elim (cases_eq (end_of c) freed.place) [
      | inl e ↦ on_left e
      | inr l ↦ elim (cases_eq (end_of freed) c.place) [
        | inl e ↦ on_right e
        | inr r ↦ not_at_all l r (rw (ne_eqb (end_of freed) c.place r, ne_eqb (end_of c) freed.place l) refl)
      ]
    ]

-- a block ends where the next begins at the latest
upper_ge : (b : Run) (end : ℕ) (ts : List Run) → end_of b ≤ end → IsSpread (end_of b) end ts → end_of b ≤ upper end ts
upper_ge b end [] l up = l
upper_ge b end (t ∷ ts) l up = up.0

-- the gaps round the places of a block, which lie between two neighbours
pub block_site : (b : Run) (from end : ℕ) (hs ts : List Run) → IsSpread from end (hs ++ b ∷ ts) → Site b (before from hs) (behind end ts) (lower from hs) (upper end ts)
block_site b from end hs ts up =
    let here = spread-behind from end hs (b ∷ ts) up in
    let under = before-under from end hs (b ∷ ts) up in
    record { under = under; over = behind-over (end_of b) end ts here.3; left = here.0; some = here.1; right = upper_ge b end ts here.2 here.3 }

-- what is kept once the block is given back: the current run, which lies between two of the blocks left
pub record IsGiven (b : Run) (current : Option Run) (runs : List Run) (from end : ℕ) (left : List Run) : Type 0 where
  pub merged : IsMerged b current runs (gaps from end left)
  pub between : MatchOption (current_with b current (find (covers b.place) (gaps from end left))) (Unit {0}) (λ c. IsBetween c from end left)

-- the whole run round the freed places lies between the neighbours
whole_between : (lo hi from end : ℕ) (hs ts : List Run) → lo ≡ lower from hs → hi ≡ upper end ts → lo ≤ hi → IsBetween (run lo (hi - lo)) from end (hs ++ ts)
whole_between lo hi from end hs ts e f l = between_at (run lo (hi - lo)) from end hs ts e (let g : lo + (hi - lo) ≡ hi = omega arith in g ∙ f)

given_none : (b : Run) (from end : ℕ) (hs ts : List Run) → IsSpread from end (hs ++ b ∷ ts)
    → IsGiven b None (without (is_current None) (gaps from end (hs ++ b ∷ ts))) from end (hs ++ ts)
given_none b from end hs ts up =
    let site = block_site b from end hs ts up in
    record {
      merged = rw (gaps-split from end hs ts, gaps-around from end hs b ts) (merged_none b (before from hs) (behind end ts) (lower from hs) (upper end ts) site);
      between = tt;
    }

given_some : (b c : Run) (from end : ℕ) (hs ts : List Run) → IsSpread from end (hs ++ b ∷ ts) → IsBetween c from end (hs ++ b ∷ ts)
    → IsGiven b (Some c) (without (is_current (Some c)) (gaps from end (hs ++ b ∷ ts))) from end (hs ++ ts)
given_some b c from end hs ts up between =
    let xs = before from hs in let ys = behind end ts in let lo = lower from hs in let hi = upper end ts in
    let site = block_site b from end hs ts up in
    let left : lo ≤ b.place = site.left in let some : 0 < b.length = site.some in let right : end_of b ≤ hi = site.right in
    let side = beside c b from end hs ts up between in
    let around : find (covers b.place) (gaps from end (hs ++ ts)) ≡ Some (run lo (hi - lo)) = ap (find (covers b.place)) (gaps-split from end hs ts) ∙ around_is b xs ys lo hi site in
    let whole : IsBetween (run lo (hi - lo)) from end (hs ++ ts) = whole_between lo hi from end hs ts refl refl (omega arith) in
    elim (touching b c) [
      | on_left e ↦ record {
        merged = rw (gaps-split from end hs ts, gaps-around from end hs b ts) (merged_left b c xs ys lo hi site e (side.left e));
        between = rw (touches_left b c e, around) whole;
      }
      | on_right e ↦ record {
        merged = rw (gaps-split from end hs ts, gaps-around from end hs b ts) (merged_right b c xs ys lo hi site e (side.right (sym e)));
        between = rw (touches_right b c e, around) whole;
      }
      | not_at_all l r apart ↦ record {
        merged = rw (gaps-split from end hs ts, gaps-around from end hs b ts) (merged_apart b c xs ys lo hi site apart (λ e. l (side.left_back (sym e))) r);
        between = rw apart (side.apart l (λ e. r (sym e)));
      }
    ]

pub given : (b : Run) (current : Option Run) (from end : ℕ) (hs ts : List Run) → IsSpread from end (hs ++ b ∷ ts)
    → MatchOption current (Unit {0}) (λ c. IsBetween c from end (hs ++ b ∷ ts))
    → IsGiven b current (without (is_current current) (gaps from end (hs ++ b ∷ ts))) from end (hs ++ ts)
given b None from end hs ts up between = given_none b from end hs ts up
given b (Some c) from end hs ts up between = given_some b c from end hs ts up between

-- what is true of the blocks left once one is given back
pub record GivenBack (b : Run) (from end : ℕ) (held : List Run) (current : Option Run) : Type 0 where
  pub blocks : IsSpread from end (without (begins_at b.place) held)
  pub aligned : AllAligned (without (begins_at b.place) held)
  pub count : length held ≡ suc (length (without (begins_at b.place) held))
  pub merged : IsGiven b current (without (is_current current) (gaps from end held)) from end (without (begins_at b.place) held)
  pub block : IsSpread from end (b ∷ [])

single : (b : Run) (from end low : ℕ) (bs : List Run) → low ≤ from → IsSpread from end (b ∷ bs) → IsSpread low end (b ∷ [])
single b from end low bs l up = (let a : from ≤ b.place = up.0 in omega arith, up.1, up.2, tt)

given_back_at : (b : Run) (current : Option Run) (from end : ℕ) (hs ts : List Run) → IsSpread from end (hs ++ b ∷ ts) → AllAligned (hs ++ b ∷ ts)
    → MatchOption current (Unit {0}) (λ c. IsBetween c from end (hs ++ b ∷ ts)) → GivenBack b from end (hs ++ b ∷ ts) current
given_back_at b current from end hs ts up aligned between =
    let e : without (begins_at b.place) (hs ++ b ∷ ts) ≡ hs ++ ts = without-slot b from end hs ts up in
    record {
      blocks = rw e (spread-remove b from end hs ts up);
      aligned = rw e (aligned-remove b hs ts aligned);
      count = rw e (length-slot b hs ts);
      merged = rw e (given b current from end hs ts up between);
      block = single b (lower from hs) end from ts (lower-ge from end hs (b ∷ ts) up) (spread-behind from end hs (b ∷ ts) up);
    }

pub given_back : (b : Run) (current : Option Run) (from end : ℕ) (held : List Run) → IsSpread from end held → AllAligned held
    → MatchOption current (Unit {0}) (λ c. IsBetween c from end held) → Contains held b → GivenBack b from end held current
given_back b current from end held up aligned between has =
    let h = holding b held has in
    subst (λ l. IsSpread from end l → AllAligned l → MatchOption current (Unit {0}) (λ c. IsBetween c from end l) → GivenBack b from end l current) (sym h.is)
    (given_back_at b current from end h.front h.back) up aligned between

-- NEW CAPACITY

none_held : (from end : ℕ) (held : List Run) → end < from → IsSpread from end held → held ≡ []
none_held from end [] l up = refl
none_held from end (b ∷ bs) l up = let a : from ≤ b.place = up.0 in let w : end_of b ≤ end = up.2 in absurd (omega arith)

-- all gaps with the last one apart
pub gaps-last : (from end : ℕ) (held : List Run) → gaps from end held ≡ before from held ++ (gap (lower from held) end ++ [])
gaps-last from end held = ap (gaps from end) (sym (append-nil held)) ∙ gaps-split from end held []

-- the last gap up to where new places begin
pub last_gap : (from end : ℕ) (held : List Run) → IsSpread from end held → gap (lower from held) end ≡ gap (lower from held) (max from end)
last_gap from end held up =
    elim (cases_lt end from) [
      | inl l ↦ rw (none_held from end held l up) (gap_none from end (omega arith) ∙ sym (gap_none from (max from end) (omega arith)))
      | inr l ↦ let e : max from end ≡ end = omega arith in rw e refl
    ]

pub before_under_all : (from end : ℕ) (held : List Run) → IsSpread from end held → Under (lower from held) (before from held)
before_under_all from end held up = before-under from end held [] (rw append-nil up)

pub lower_within : (from end : ℕ) (held : List Run) → IsSpread from end held → lower from held ≤ max from end
lower_within from end [] up = omega arith
lower_within from end (b ∷ bs) up = let w : end_of b ≤ end = up.2 in let l = lower_within (end_of b) end bs up.3 in omega arith
