-- What was put into bytes is read back.
use Rattle.std.proofs.Common.{◌≡◌, ℕ, ℤ, pos, negsuc, ◌+◌, ◌*◌, ◌/◌, ◌%◌, ◌<◌, ◌^◌, List, ◌++◌, take, drop, ◌∙◌, ap, arith, FitsSigned, of_z, to_z-of_z}
use Rattle.std.specs.Int.{w32, w64, cast_signed, cast_unsigned, from_le_bytes, to_le_bytes}
use Rattle.std.proofs.lemmas.Nat.{from_le_bytes-to_le_bytes_4, from_le_bytes-to_le_bytes_8}
use Rattle.gc_refs.specs.Header.{Header, header_at, header_bytes, with_spare, spare_bits, kind_part}

pub header_back : (h : Header) (behind : List ℕ) → h.kind_word < 2 ^ 32 → h.type_word < 2 ^ 32 → header_at (header_bytes h ++ behind) ≡ h
header_back h behind k t =
    let first : from_le_bytes w32 (take 4 (header_bytes h ++ behind)) ≡ h.kind_word = from_le_bytes-to_le_bytes_4 h.kind_word k in
    let second : from_le_bytes w32 (take 4 (drop 4 (header_bytes h ++ behind))) ≡ h.type_word = from_le_bytes-to_le_bytes_4 h.type_word t in
    λ i. record { kind_word = first i; type_word = second i }

pub spare_back : (h : Header) (spare : ℕ) → spare < spare_bits → (with_spare spare h).kind_word % spare_bits ≡ spare
spare_back h spare small = omega arith

pub kind_stays : (h : Header) (spare : ℕ) → spare < spare_bits → kind_part (with_spare spare h).kind_word ≡ kind_part h.kind_word
kind_stays h spare small = omega arith

-- the bits of a signed number fit its width
small_32 : (z : ℤ) → FitsSigned w32 z → of_z w32 z < 2 ^ 32
small_32 (pos n) fits =
    let small : n < 2147483648 = fits.sfits in
    omega arith
small_32 (negsuc n) fits = omega arith

small_64 : (z : ℤ) → FitsSigned w64 z → of_z w64 z < 2 ^ 64
small_64 (pos n) fits =
    let small : n < 9223372036854775808 = fits.sfits in
    omega arith
small_64 (negsuc n) fits = omega arith

pub signed_back_32 : (z : ℤ) → FitsSigned w32 z → cast_signed w32 (from_le_bytes w32 (to_le_bytes w32 (cast_unsigned w32 z))) ≡ z
signed_back_32 z fits = ap (cast_signed w32) (from_le_bytes-to_le_bytes_4 (of_z w32 z) (small_32 z fits)) ∙ to_z-of_z fits

pub signed_back_64 : (z : ℤ) → FitsSigned w64 z → cast_signed w64 (from_le_bytes w64 (to_le_bytes w64 (cast_unsigned w64 z))) ≡ z
signed_back_64 z fits = ap (cast_signed w64) (from_le_bytes-to_le_bytes_8 (of_z w64 z) (small_64 z fits)) ∙ to_z-of_z fits
