-- The gaps round one place between two neighbours among the blocks.
use Rattle.std.proofs.Common.{ℕ, ◌≡◌, ◌≤◌, ◌<◌, List, [], ◌∷◌, ◌++◌, arith, refl, ap, sym, ◌∙◌, inl, inr, append_assoc, append-nil}
use Rattle.std.proofs.lemmas.Bool.{lt-ltb, le-ltb, cases_lt}
use Rattle.gc_free.specs.declared.run.Run.{Run}
use Rattle.gc_free.specs.Runs.{end_of, gap, gaps, IsSpread}

-- the place after the last of the blocks before, and the place of the first behind
abbrev pub lower : ℕ → List Run → ℕ
lower from [] = from
lower from (b ∷ bs) = lower (end_of b) bs

abbrev pub upper : ℕ → List Run → ℕ
upper end [] = end
upper end (b ∷ bs) = b.place

-- the gaps between the blocks before, and those between the blocks behind
abbrev pub before : ℕ → List Run → List Run
before from [] = []
before from (b ∷ bs) = gap from b.place ++ before (end_of b) bs

abbrev pub behind : ℕ → List Run → List Run
behind end [] = []
behind end (b ∷ bs) = gaps (end_of b) end bs

-- the gaps are those before, the one here, and those behind
pub gaps-split : (from end : ℕ) (hs ts : List Run) → gaps from end (hs ++ ts) ≡ before from hs ++ (gap (lower from hs) (upper end ts) ++ behind end ts)
gaps-split from end [] [] = sym (append-nil (gap from end))
gaps-split from end [] (t ∷ ts) = refl
gaps-split from end (h ∷ hs) ts = ap (λ l. gap from h.place ++ l) (gaps-split (end_of h) end hs ts) ∙ sym (append_assoc (gap from h.place) (before (end_of h) hs) _)

-- with a block here, there is a gap on each side of it
pub gaps-around : (from end : ℕ) (hs : List Run) (b : Run) (ts : List Run)
    → gaps from end (hs ++ b ∷ ts) ≡ before from hs ++ (gap (lower from hs) b.place ++ (gap (end_of b) (upper end ts) ++ behind end ts))
gaps-around from end hs b ts = gaps-split from end hs (b ∷ ts) ∙ ap (λ l. before from hs ++ (gap (lower from hs) b.place ++ l)) (gaps-split (end_of b) end [] ts)

-- each run is of some places, and ends below a place
abbrev pub Under : ℕ → List Run → Type 0
Under high [] = Unit {0}
Under high (r ∷ rs) = (end_of r < high) × (0 < r.length) × Under high rs

-- each run is of some places, and begins above a place
abbrev pub Over : ℕ → List Run → Type 0
Over low [] = Unit {0}
Over low (r ∷ rs) = (low < r.place) × (0 < r.length) × Over low rs

Under-append : (high : ℕ) (xs ys : List Run) → Under high xs → Under high ys → Under high (xs ++ ys)
Under-append high [] ys a b = b
Under-append high (x ∷ xs) ys a b = (a.0, a.1, Under-append high xs ys a.2 b)

Over-append : (low : ℕ) (xs ys : List Run) → Over low xs → Over low ys → Over low (xs ++ ys)
Over-append low [] ys a b = b
Over-append low (x ∷ xs) ys a b = (a.0, a.1, Over-append low xs ys a.2 b)

Under-gap : (high from to : ℕ) → to < high → Under high (gap from to)
Under-gap high from to l =
    elim (cases_lt from to) [
      | inl some ↦ rw (lt-ltb from to some) (omega arith, omega arith, tt)
      | inr none ↦ rw (le-ltb from to none) tt
    ]

Over-gap : (low from to : ℕ) → low < from → Over low (gap from to)
Over-gap low from to l =
    elim (cases_lt from to) [
      | inl some ↦ rw (lt-ltb from to some) (l, omega arith, tt)
      | inr none ↦ rw (le-ltb from to none) tt
    ]

-- blocks before a place end there at the latest
pub lower-ge : (from high : ℕ) (hs ts : List Run) → IsSpread from high (hs ++ ts) → from ≤ lower from hs
lower-ge from high [] ts up = omega arith
lower-ge from high (h ∷ hs) ts up =
    let a : from ≤ h.place = up.0 in let b : 0 < h.length = up.1 in let l = lower-ge (end_of h) high hs ts up.3 in omega arith

pub before-under : (from high : ℕ) (hs ts : List Run) → IsSpread from high (hs ++ ts) → Under (lower from hs) (before from hs)
before-under from high [] ts up = tt
before-under from high (h ∷ hs) ts up =
    let b : 0 < h.length = up.1 in let l = lower-ge (end_of h) high hs ts up.3 in
    Under-append (lower (end_of h) hs) (gap from h.place) (before (end_of h) hs) (Under-gap (lower (end_of h) hs) from h.place (omega arith)) (before-under (end_of h) high hs ts up.3)

pub gaps-over : (low from end : ℕ) (bs : List Run) → low < from → IsSpread from end bs → Over low (gaps from end bs)
gaps-over low from end [] l up = Over-gap low from end l
gaps-over low from end (b ∷ bs) l up =
    let a : from ≤ b.place = up.0 in
    Over-append low (gap from b.place) (gaps (end_of b) end bs) (Over-gap low from b.place l) (gaps-over low (end_of b) end bs (omega arith) up.3)

-- the blocks behind, as a part of them all
pub spread-behind : (from high : ℕ) (hs ts : List Run) → IsSpread from high (hs ++ ts) → IsSpread (lower from hs) high ts
spread-behind from high [] ts up = up
spread-behind from high (h ∷ hs) ts up = spread-behind (end_of h) high hs ts up.3

pub behind-over : (from end : ℕ) (ts : List Run) → IsSpread from end ts → Over (upper end ts) (behind end ts)
behind-over from end [] up = tt
behind-over from end (t ∷ ts) up = let b : 0 < t.length = up.1 in gaps-over t.place (end_of t) end ts (omega arith) up.3
