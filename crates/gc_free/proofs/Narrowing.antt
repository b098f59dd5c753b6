-- What a binary search keeps, and what it finds at its end.
use Rattle.std.proofs.Common.{ℕ, zero, suc, ◌≡◌, ◌≤◌, ◌<◌, ◌+◌, ◌-◌, ◌*◌, ◌/◌, ◌^◌, get_or, length, List, [], ◌∷◌, arith, ap, ◌∙◌}
use Rattle.std.proofs.lemmas.Bool.{lt-ltb, le-ltb}
use Rattle.std.proofs.lemmas.Nat.{mul-le}
use Rattle.std.proofs.lemmas.List.{get_or_default}
use Rattle.std.proofs.Math.Nat.{pow-suc, pow-zero, mul_assoc}
use Rattle.std.specs.List.Sorted.{IsNonDecreasingBy}
use Rattle.gc_free.specs.declared.run.Run.{Run}
use Rattle.gc_free.specs.Orders.{count_below, IsSearched, HasSearched}

-- all before `low` are below the key, none from `high` on is, and each step halved what is between
pub record IsNarrowed (key : Run → ℕ) (k : ℕ) (runs : List Run) (low high before now : ℕ) : Type 0 where
  pub order : low ≤ high
  pub within : high ≤ length runs
  pub below : (i : ℕ) (d : Run) → i < low → key (get_or runs i d) < k
  pub above : (i : ℕ) (d : Run) → high ≤ i → i < length runs → k ≤ key (get_or runs i d)
  pub rises : before ≤ now
  pub width : 2 ^ (now - before) * (high - low) ≤ length runs
  pub steps : 2 ^ (now - before) ≤ 2 * length runs + 1
  pub least : length runs + 2 ≤ 2 ^ (now - before) * (high - low + 2)

-- one more step doubles the power
doubled : (before now : ℕ) → before ≤ now → 2 ^ (now + 1 - before) ≡ 2 ^ (now - before) * 2
doubled before now le =
    let e : now + 1 - before ≡ suc (now - before) = omega arith in
    ap (λ n. 2 ^ n) e ∙ pow-suc 2 (now - before)

-- and the width is at most half
halved : (p w v n : ℕ) → p * w ≤ n → v * 2 ≤ w → p * 2 * v ≤ n
halved p w v n bound half =
    let e : p * 2 * v ≡ p * (2 * v) = mul_assoc p 2 v in
    let le : p * (2 * v) ≤ p * w = mul-le p (2 * v) p w (omega arith) (omega arith) in
    omega arith

-- what was still to be searched had a run in it
stepped : (p w n : ℕ) → p * w ≤ n → 0 < w → p * 2 ≤ 2 * n + 1
stepped p w n bound some =
    let le : p * 1 ≤ p * w = mul-le p 1 p w (omega arith) (omega arith) in
    omega arith

-- and the width is at least half, but for two
spared : (p w v n : ℕ) → n ≤ p * (w + 2) → w ≤ 2 * v + 2 → n ≤ p * 2 * (v + 2)
spared p w v n least half =
    let e : p * 2 * (v + 2) ≡ p * (2 * (v + 2)) = mul_assoc p 2 (v + 2) in
    let le : p * (w + 2) ≤ p * (2 * (v + 2)) = mul-le p (w + 2) p (2 * (v + 2)) (omega arith) (omega arith) in
    omega arith

pub raised : (key : Run → ℕ) (k : ℕ) (runs : List Run) (low high before now : ℕ) → IsNonDecreasingBy key runs → IsNarrowed key k runs low high before now
    → low < high → (e : Run) (value : ℕ) → value ≡ key (get_or runs (low + (high - low) / 2) e) → value < k
    → IsNarrowed key k runs (low + (high - low) / 2 + 1) high before (now + 1)
raised key k runs low high before now sorted was some e value is less =
    let m : ℕ = low + (high - low) / 2 in
    let order : low ≤ high = was.order in
    let within : high ≤ length runs = was.within in
    let in' : m < high = omega arith in
    let rises : before ≤ now = was.rises in
    let p : ℕ = 2 ^ (now - before) in
    let power : 2 ^ (now + 1 - before) ≡ p * 2 = doubled before now rises in
    record {
      order = omega arith;
      within = within;
      below = λ i d l.
          let le : key (get_or runs i e) ≤ key (get_or runs m e) = sorted i m e (omega arith) (omega arith) in
          let inside : i < length runs = omega arith in
          let same_key : key (get_or runs i d) ≡ key (get_or runs i e) = ap key (get_or_default runs i d e inside) in
          omega arith;
      above = was.above;
      rises = omega arith;
      width = rw power (halved p (high - low) (high - (m + 1)) (length runs) was.width (omega arith));
      steps = rw power (stepped p (high - low) (length runs) was.width (omega arith));
      least = rw power (spared p (high - low) (high - (m + 1)) (length runs + 2) was.least (omega arith));
    }

pub lowered : (key : Run → ℕ) (k : ℕ) (runs : List Run) (low high before now : ℕ) → IsNonDecreasingBy key runs → IsNarrowed key k runs low high before now
    → low < high → (e : Run) (value : ℕ) → value ≡ key (get_or runs (low + (high - low) / 2) e) → k ≤ value
    → IsNarrowed key k runs low (low + (high - low) / 2) before (now + 1)
lowered key k runs low high before now sorted was some e value is more =
    let m : ℕ = low + (high - low) / 2 in
    let order : low ≤ high = was.order in
    let within : high ≤ length runs = was.within in
    let in' : m < high = omega arith in
    let rises : before ≤ now = was.rises in
    let p : ℕ = 2 ^ (now - before) in
    let power : 2 ^ (now + 1 - before) ≡ p * 2 = doubled before now rises in
    record {
      order = omega arith;
      within = omega arith;
      below = was.below;
      above = λ i d l h.
          let le : key (get_or runs m d) ≤ key (get_or runs i d) = sorted m i d l h in
          let inside : m < length runs = omega arith in
          let same_key : key (get_or runs m d) ≡ key (get_or runs m e) = ap key (get_or_default runs m d e inside) in
          omega arith;
      rises = omega arith;
      width = rw power (halved p (high - low) (m - low) (length runs) was.width (omega arith));
      steps = rw power (stepped p (high - low) (length runs) was.width (omega arith));
      least = rw power (spared p (high - low) (m - low) (length runs + 2) was.least (omega arith));
    }

-- the place that splits the runs is the number of those below
counted : (key : Run → ℕ) (k : ℕ) (runs : List Run) (n : ℕ) (d : Run) → n ≤ length runs → ((i : ℕ) → i < n → key (get_or runs i d) < k)
    → ((i : ℕ) → n ≤ i → i < length runs → k ≤ key (get_or runs i d)) → n ≡ count_below key k runs
counted key k [] n d within below above = omega arith
counted key k (x ∷ xs) zero d within below above = rw (le-ltb (key x) k (above 0 (omega arith) (omega arith)))
counted key k (x ∷ xs) (suc n) d within below above =
    rw (lt-ltb (key x) k (below 0 (omega arith)))
    (ap (λ i. suc i) (counted key k xs n d (omega arith) (λ i l. below (suc i) (omega arith)) (λ i l h. above (suc i) (omega arith) (omega arith))))

pub found : (key : Run → ℕ) (k : ℕ) (runs : List Run) (low high before now : ℕ) → IsNarrowed key k runs low high before now → high ≤ low
    → low ≡ count_below key k runs
found key k runs low high before now was le =
    let order : low ≤ high = was.order in
    let within : high ≤ length runs = was.within in
    counted key k runs low (record { place = 0; length = 0 }) (omega arith) (λ i l. was.below i _ l) (λ i l h. was.above i _ (omega arith) h)

pub searched : (key : Run → ℕ) (k : ℕ) (runs : List Run) (low high before now : ℕ) → IsNarrowed key k runs low high before now
    → IsSearched 1 (length runs) before now
searched key k runs low high before now was =
    record { rises = was.rises; bound = rw (pow-suc (2 * length runs + 1) 0, pow-zero (2 * length runs + 1)) (let le : 2 ^ (now - before) ≤ 2 * length runs + 1 = was.steps in omega arith) }

pub has_searched : (key : Run → ℕ) (k : ℕ) (runs : List Run) (low high before now : ℕ) → IsNarrowed key k runs low high before now → high ≤ low
    → HasSearched (length runs) before now
has_searched key k runs low high before now was le =
    let order : low ≤ high = was.order in
    let rises : before ≤ now = was.rises in
    let e : now - before + 1 ≡ suc (now - before) = omega arith in
    let power : 2 ^ (now - before + 1) ≡ 2 ^ (now - before) * 2 = ap (λ n. 2 ^ n) e ∙ pow-suc 2 (now - before) in
    let none : high - low + 2 ≡ 2 = omega arith in
    let least : length runs + 2 ≤ 2 ^ (now - before) * 2 = rw none at was.least in
    omega arith
