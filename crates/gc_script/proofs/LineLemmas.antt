-- Where no line feed is found.
use Rattle.std.proofs.Common.{◌≡◌, ◌==◌, ℕ, ◌≤◌, Bool, true, false, not, List, length, Some, None, cond, nat_lt, refl, arith}
use Rattle.std.specs.List.{position, position_or_len}
use Rattle.std.proofs.lemmas.Bool.{ltb-false}
use Rattle.std.proofs.lemmas.List.Sums.{prefix_len-le-length}

unfound_by : (k n : ℕ) (inside : Bool) → nat_lt k n ≡ inside → k ≤ n → cond inside (Some k) None ≡ None → k ≡ n
unfound_by k n true e within none = cc
unfound_by k n false e within none = let past = ltb-false k n e in omega arith

-- where none was found, none stands before the end
pub none_found : (bytes : List ℕ) → position (λ b. b == 10) bytes ≡ None → position_or_len (λ b. b == 10) bytes ≡ length bytes
none_found bytes none =
    let k = position_or_len (λ b. b == 10) bytes in
    unfound_by k (length bytes) (nat_lt k (length bytes)) refl (prefix_len-le-length (λ b. not (b == 10)) bytes) none
