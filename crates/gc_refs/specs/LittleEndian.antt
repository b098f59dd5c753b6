-- Numbers as bytes, the lowest byte first.
use Rattle.std.specs.Prelude.{ℕ, ℤ, List}
use Rattle.std.specs.Int.{Width, to_le_bytes, from_le_bytes, cast_signed, cast_unsigned}

-- the number that the first bytes of a list are, at that width
abbrev pub unsigned_at : Width → List ℕ → ℕ
unsigned_at = from_le_bytes

-- the same, its highest bit being the sign
abbrev pub signed_at : Width → List ℕ → ℤ
signed_at w bytes = cast_signed w (from_le_bytes w bytes)

-- the bytes of a number
abbrev pub unsigned_bytes : Width → ℕ → List ℕ
unsigned_bytes = to_le_bytes

-- the bytes of a signed number
abbrev pub signed_bytes : Width → ℤ → List ℕ
signed_bytes w z = to_le_bytes w (cast_unsigned w z)
