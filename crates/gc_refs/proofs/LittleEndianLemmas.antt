-- The bytes of a number add up to it, at every width.
use Rattle.std.proofs.Common.{◌≡◌, ℕ, zero, suc, ◌+◌, ◌*◌, ◌/◌, ◌%◌, ◌^◌, ◌<◌, refl, sym, ap, ◌∙◌, add_comm, lit<}
use Rattle.std.specs.Int.{w128, to_le_bytes, from_le_bytes, sum_through, byte_worth, byte_at}
use Rattle.std.proofs.Math.Arith.{mod-mul}
use Rattle.std.proofs.Math.Nat.{mod-eq_of_lt, one-le-pow, pow-succ'}

-- the lowest bytes of n are the rest of n by the power of 256 above them
pub sum_of_bytes : (n k : ℕ) → sum_through (λ i. byte_worth i (byte_at i n)) k ≡ n % 256 ^ suc k
sum_of_bytes n zero = refl
sum_of_bytes n (suc k) =
    let above : ℕ = 256 ^ suc k in
    let positive : zero < above = one-le-pow (suc k) 256 (lit< tt) in
    let next : 256 ^ suc (suc k) ≡ 256 * above = pow-succ' 256 (suc k) in
    ap (λ low. low + n / above % 256 * above) (sum_of_bytes n k)
    ∙ add_comm (n % above) (n / above % 256 * above)
    ∙ sym (mod-mul n {m = 256} {c = above} (lit< tt) positive)
    ∙ ap (λ power. n % power) (sym next)

-- sixteen bytes of a number are the number
pub from_le_bytes-to_le_bytes_16 : (n : ℕ) → n < 2 ^ 128 → from_le_bytes w128 (to_le_bytes w128 n) ≡ n
from_le_bytes-to_le_bytes_16 n h = sum_of_bytes n 15 ∙ mod-eq_of_lt h
