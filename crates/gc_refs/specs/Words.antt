-- Words of references, and 31-bit numbers.
use Rattle.std.specs.Prelude.{◌≡◌, ℕ, ℤ, pos, negsuc, ◌+◌, ◌-◌, ◌*◌, ◌%◌, ◌<◌, nat_lt, if◌then◌else◌}
use Rattle.std.specs.Int.{w32, cast_unsigned}

-- a 31-bit number is below this number
abbrev pub i31_numbers : ℕ
i31_numbers = 0x80000000

-- half of them stand for themselves, the others for negative numbers
abbrev pub i31_half : ℕ
i31_half = 0x40000000

-- what the 31 bits mean as a signed number, bit 30 being the sign
abbrev pub signed_i31 : ℕ → ℤ
signed_i31 n = if nat_lt n i31_half then pos n else negsuc (i31_numbers - 1 - n)

-- a signed number of 31 bits, from -2^30 to 2^30 - 1
abbrev pub FitsI31 : ℤ → Type 0
FitsI31 (pos n) = n < i31_half
FitsI31 (negsuc n) = n < i31_half

-- the low 31 bits of a signed number
abbrev pub low_i31 : ℤ → ℕ
low_i31 z = cast_unsigned w32 z % i31_numbers

-- the word of a 31-bit number
abbrev pub i31_word : ℕ → ℕ
i31_word n = 2 * n + 1

-- a word is a 31-bit number
abbrev pub IsI31Word : ℕ → Type 0
IsI31Word word = word % 2 ≡ 1

-- the word is no 31-bit number: it is the place of an object where it isn't 0, which is null
abbrev pub IsHeapWord : ℕ → Type 0
IsHeapWord word = word % 2 ≡ 0
