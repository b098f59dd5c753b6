-- How high a balanced tree is at most.
use Rattle.std.proofs.Common.{◌≡◌, ℕ, zero, suc, ◌+◌, ◌-◌, ◌*◌, ◌≤◌, ◌<◌, ◌^◌, max, Bool, true, false, T, List, [], ◌∷◌, ◌++◌, length, refl, sym, subst, arith, ℤ, pos, negsuc, Less}
use Rattle.std.specs.Prelude.{FitsSigned, ◌⊎◌}
use Rattle.std.proofs.Common.{inl, inr, w64, pow-suc, length-append, ltb-true}
use Rattle.std.specs.Ordering.{int_cmp}
use Rattle.std.specs.Cmp.{int_ranked}
use Rattle.std.specs.FinMap.Entries.{is_sorted}
use Rattle.gc_maps.proofs.Entries.{around}
use Rattle.gc_maps.specs.Trees.{Tree, leaf, node, height, pairs, AreLevel, IsBalanced}

-- one more than the pairs of a tree, which is how many places it has for a new one
abbrev pub places : Tree → ℕ
places t = length (pairs t) + 1

pub places_node : (l : Tree) (k v : ℤ) (r : Tree) → places (node l k v r) ≡ places l + places r
places_node l k v r = let e = length-append (pairs l) ((k, v) ∷ pairs r) in omega (arith, e)

mul_mono : (a b c d : ℕ) → a ≤ b → c ≤ d → a * c ≤ b * d
mul_mono a b c d e f = grind arith

-- of two trees, the first of which is higher by one, or as high
higher_step : (p a b : ℕ) → 2 * p ≤ a * a → p ≤ b * b → 4 * p ≤ (a + b) * (a + b)
higher_step p a b e f = elim (total a b) [
  | inl below ↦ let g = mul_mono a a a b (omega arith) below in omega (arith, e, f, g)
  | inr above ↦ let g = mul_mono b a b b above (omega arith) in omega (arith, e, f, g)
]
  where
    total : (x y : ℕ) → (x ≤ y) ⊎ (y ≤ x)
    total x y = grind arith

same_step : (p a b : ℕ) → p ≤ a * a → p ≤ b * b → 2 * p ≤ (a + b) * (a + b)
same_step p a b e f = omega (arith, e, f)

power_more : (n : ℕ) → 2 ^ (n + 1) ≡ 2 * 2 ^ n
power_more n = let e = pow-suc 2 n in grind (arith, e)

step_of : (hl hr a b : ℕ) → AreLevel hl hr → 2 ^ hl ≤ a * a → 2 ^ hr ≤ b * b → 2 ^ (max hl hr + 1) ≤ (a + b) * (a + b)
step_of hl hr a b level el er = elim (cases hl hr level) [
  | inl same ↦ subst (λ (n : ℕ). 2 ^ (n + 1) ≤ (a + b) * (a + b)) (omega arith) (subst (λ (n : ℕ). n ≤ (a + b) * (a + b)) (sym (power_more hl)) (same_step (2 ^ hl) a b el (subst (λ (n : ℕ). 2 ^ n ≤ b * b) (sym same) er)))
  | inr (inl left) ↦
      let p = power_more hr in
      let q = power_more (hr + 1) in
      let e : 2 * 2 ^ hr ≤ a * a = subst (λ (n : ℕ). n ≤ a * a) p (subst (λ (n : ℕ). 2 ^ n ≤ a * a) left el) in
      let f = higher_step (2 ^ hr) a b e er in
      subst (λ (n : ℕ). 2 ^ (n + 1) ≤ (a + b) * (a + b)) {x = hr + 1} (omega arith) (omega (arith, p, q, f))
  | inr (inr right) ↦
      let p = power_more hl in
      let q = power_more (hl + 1) in
      let e : 2 * 2 ^ hl ≤ b * b = subst (λ (n : ℕ). n ≤ b * b) p (subst (λ (n : ℕ). 2 ^ n ≤ b * b) right er) in
      let f = higher_step (2 ^ hl) b a e el in
      subst (λ (n : ℕ). 2 ^ (n + 1) ≤ (a + b) * (a + b)) {x = hl + 1} (omega arith) (omega (arith, p, q, f))
]
  where
    cases : (x y : ℕ) → AreLevel x y → (x ≡ y) ⊎ ((x ≡ y + 1) ⊎ (y ≡ x + 1))
    cases x y l = let a = l.left in let b = l.right in grind arith

pub square : (t : Tree) → IsBalanced t → 2 ^ height t ≤ places t * places t
square leaf b = omega arith
square (node l k v r) b = rw (places_node l k v r) (step_of (height l) (height r) (places l) (places r) b.level (square l b.in_left) (square r b.in_right))

-- the fewest places of a tree of a height, and of one that is higher by one
record Two : Type 0 where
  this : ℕ
  next : ℕ

fewest : ℕ → Two
fewest zero = record { this = 1; next = 2 }
fewest (suc n) = record { this = (fewest n).next; next = (fewest n).this + (fewest n).next }

fewest_order : (n : ℕ) → ((fewest n).this ≤ (fewest n).next) × ((fewest n).next ≤ 2 * (fewest n).this)
unfolding fewest
fewest_order zero = (omega arith, omega arith)
fewest_order (suc n) = let e = fewest_order n in let f = e.0 in let g = e.1 in (omega arith, omega arith)

fewest_rises : (n k : ℕ) → (fewest n).this ≤ (fewest (k + n)).this
unfolding fewest
fewest_rises n zero = subst (λ (m : ℕ). (fewest n).this ≤ (fewest m).this) {x = n} (omega arith) (omega arith)
fewest_rises n (suc k) =
    let e = fewest_rises n k in
    let f = (fewest_order (k + n)).0 in
    subst (λ (m : ℕ). (fewest n).this ≤ (fewest m).this) {x = suc (k + n)} (omega arith) (omega (arith, e, f))

fewest_step : (hl hr a b : ℕ) → AreLevel hl hr → (fewest hl).this ≤ a → (fewest hr).this ≤ b → (fewest (max hl hr + 1)).this ≤ a + b
unfolding fewest
fewest_step hl hr a b level el er = elim (cases hl hr level) [
  | inl same ↦
      let f = (fewest_order hl).1 in
      let g : (fewest hl).this ≤ b = subst (λ (n : ℕ). (fewest n).this ≤ b) (sym same) er in
      subst (λ (m : ℕ). (fewest m).this ≤ a + b) {x = suc hl} (omega arith) (omega (arith, el, f, g))
  | inr (inl left) ↦
      let f : (fewest (suc hr)).this ≤ a = subst (λ (n : ℕ). (fewest n).this ≤ a) {y = suc hr} (omega arith) el in
      subst (λ (m : ℕ). (fewest m).this ≤ a + b) {x = suc (suc hr)} (omega arith) (omega (arith, er, f))
  | inr (inr right) ↦
      let f : (fewest (suc hl)).this ≤ b = subst (λ (n : ℕ). (fewest n).this ≤ b) {y = suc hl} (omega arith) er in
      subst (λ (m : ℕ). (fewest m).this ≤ a + b) {x = suc (suc hl)} (omega arith) (omega (arith, el, f))
]
  where
    cases : (x y : ℕ) → AreLevel x y → (x ≡ y) ⊎ ((x ≡ y + 1) ⊎ (y ≡ x + 1))
    cases x y l = let a = l.left in let b = l.right in grind arith

fewest_places : (t : Tree) → IsBalanced t → (fewest (height t)).this ≤ places t
unfolding fewest
fewest_places leaf b = omega arith
fewest_places (node l k v r) b = rw (places_node l k v r) (fewest_step (height l) (height r) (places l) (places r) b.level (fewest_places l b.in_left) (fewest_places r b.in_right))

-- numbers of 64 bits, counted from the least one
shifted : ℤ → ℕ
shifted (pos n) = 2 ^ 63 + n
shifted (negsuc n) = 2 ^ 63 - suc n

shifted_within : (x : ℤ) → FitsSigned w64 x → shifted x < 2 ^ 64
unfolding shifted
shifted_within (pos n) f = let e : n < 2 ^ 63 = f.sfits in omega arith
shifted_within (negsuc n) f = let e : n < 2 ^ 63 = f.sfits in omega arith

is_so : (t : Bool) → T t → t ≡ true
is_so true h = refl
is_so false h = absurd h

shifted_less : (x y : ℤ) → FitsSigned w64 x → FitsSigned w64 y → int_cmp x y ≡ Less → shifted x < shifted y
unfolding shifted
shifted_less (pos m) (pos n) f g e = let a = ltb-true m n (is_so _ (int_ranked (pos m) (pos n) Less (sym e)).lt) in omega arith
shifted_less (pos m) (negsuc n) f g e = absurd (cc)
shifted_less (negsuc m) (pos n) f g e = let a : m < 2 ^ 63 = f.sfits in omega arith
shifted_less (negsuc m) (negsuc n) f g e = let b : m < 2 ^ 63 = f.sfits in let a = ltb-true n m (is_so _ (int_ranked (negsuc m) (negsuc n) Less (sym e)).lt) in omega arith

-- the keys are numbers of 64 bits
abbrev pub AllFit : List (ℤ × ℤ) → Type 0
AllFit [] = Unit {0}
AllFit (e ∷ es) = FitsSigned w64 e.0 × AllFit es

-- the first key is no lower than that
AreFrom : ℕ → List (ℤ × ℤ) → Type 0
AreFrom n [] = Unit {0}
AreFrom n (e ∷ es) = n ≤ shifted e.0

next_from : (e : ℤ × ℤ) (es : List (ℤ × ℤ)) → FitsSigned w64 e.0 → AllFit es → T (is_sorted int_cmp (e ∷ es)) → AreFrom (shifted e.0 + 1) es
unfolding AreFrom
next_from e [] f fs h = tt
next_from e (d ∷ es) f fs h = let a = shifted_less e.0 d.0 f fs.0 (around [] e (d ∷ es) h).above.0 in omega (arith, a)

counted : (n : ℕ) (es : List (ℤ × ℤ)) → n ≤ 2 ^ 64 → AllFit es → T (is_sorted int_cmp es) → AreFrom n es → length es + n ≤ 2 ^ 64
unfolding AreFrom
counted n [] low fs h from = omega (arith, low)
counted n (e ∷ es) low fs h from =
    let within = shifted_within e.0 fs.0 in
    let rest = counted (shifted e.0 + 1) es (omega (arith, within)) fs.1 (around [] e es h).behind (next_from e es fs.0 fs.1 h) in
    omega (arith, rest, from)

-- the height of a tree in which 64-bit keys rise is below this
pub most_height : ℕ
most_height = 92

fewest_most : (fewest most_height).this ≡ 19740274219868223167
unfolding fewest most_height
fewest_most = refl

from_none : (es : List (ℤ × ℤ)) → AreFrom 0 es
unfolding AreFrom
from_none [] = tt
from_none (e ∷ es) = omega arith

pub low : (t : Tree) → IsBalanced t → AllFit (pairs t) → T (is_sorted int_cmp (pairs t)) → height t < most_height
low t b fs h =
    let few = counted 0 (pairs t) (omega arith) fs h (from_none (pairs t)) in
    elim (cases (height t) most_height) [
      | inl below ↦ below
      | inr above ↦
          let rise = fewest_rises most_height (height t - most_height) in
          let same : (height t - most_height) + most_height ≡ height t = omega (arith, above) in
          let f : (fewest most_height).this ≤ (fewest (height t)).this = subst (λ (n : ℕ). (fewest most_height).this ≤ (fewest n).this) same rise in
          let g = fewest_places t b in
          let n = fewest_most in
          absurd (omega (arith, few, f, g, n))
    ]
  where
    cases : (x y : ℕ) → (x < y) ⊎ (y ≤ x)
    cases x y = grind arith

-- the same by the number
pub low_height : (t : Tree) → IsBalanced t → AllFit (pairs t) → T (is_sorted int_cmp (pairs t)) → height t < 92
unfolding most_height
low_height t b fs h = low t b fs h

pub fit_append : (xs ys : List (ℤ × ℤ)) → AllFit xs → AllFit ys → AllFit (xs ++ ys)
fit_append [] ys f g = g
fit_append (x ∷ xs) ys f g = (f.0, fit_append xs ys f.1 g)
