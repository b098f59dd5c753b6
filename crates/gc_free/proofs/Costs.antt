-- Searches one after another.
use Rattle.std.proofs.Common.{ℕ, ◌≡◌, ◌≤◌, ◌+◌, ◌-◌, ◌*◌, ◌^◌, arith, ap, ◌∙◌}
use Rattle.std.proofs.lemmas.Nat.{pow-add, mul-le}
use Rattle.std.proofs.Math.Nat.{pow-le-pow_left, pow-le-pow_right, one-le-pow}
use Rattle.gc_free.specs.Orders.{IsSearched, HasSearched}

-- more searches, in more runs, take no fewer steps
pub IsSearched-more : (a b n m before after : ℕ) → a ≤ b → n ≤ m → IsSearched a n before after → IsSearched b m before after
IsSearched-more a b n m before after la ln cost =
    let wider : (2 * n + 1) ^ a ≤ (2 * m + 1) ^ a = pow-le-pow_left (omega arith) a in
    let more : (2 * m + 1) ^ a ≤ (2 * m + 1) ^ b = pow-le-pow_right (omega arith) la in
    let bound : 2 ^ (after - before) ≤ (2 * n + 1) ^ a = cost.bound in
    record { rises = cost.rises; bound = omega arith }

pub IsSearched-both : (a b n before middle after : ℕ) → IsSearched a n before middle → IsSearched b n middle after → IsSearched (a + b) n before after
IsSearched-both a b n before middle after first second =
    let up : before ≤ middle = first.rises in
    let on : middle ≤ after = second.rises in
    let e : after - before ≡ (middle - before) + (after - middle) = omega arith in
    let power : 2 ^ (after - before) ≡ 2 ^ (middle - before) * 2 ^ (after - middle) = ap (λ i. 2 ^ i) e ∙ pow-add 2 (middle - before) (after - middle) in
    let product : 2 ^ (middle - before) * 2 ^ (after - middle) ≤ (2 * n + 1) ^ a * (2 * n + 1) ^ b =
    mul-le (2 ^ (middle - before)) (2 ^ (after - middle)) ((2 * n + 1) ^ a) ((2 * n + 1) ^ b) first.bound second.bound in
    let bound : (2 * n + 1) ^ (a + b) ≡ (2 * n + 1) ^ a * (2 * n + 1) ^ b = pow-add (2 * n + 1) a b in
    record { rises = omega arith; bound = omega arith }

pub IsSearched-none : (a n steps : ℕ) → IsSearched a n steps steps
IsSearched-none a n steps =
    let one : 1 ≤ (2 * n + 1) ^ a = one-le-pow a (2 * n + 1) (omega arith) in
    let e : steps - steps ≡ 0 = omega arith in
    record { rises = omega arith; bound = rw e one }

-- steps before and after a search take none back
pub HasSearched-wider : (n from to before after : ℕ) → before ≤ from → from ≤ to → to ≤ after → HasSearched n from to → HasSearched n before after
HasSearched-wider n from to before after first rises last least =
    let more : 2 ^ (to - from + 1) ≤ 2 ^ (after - before + 1) = pow-le-pow_right (omega arith) (omega arith) in
    omega arith
