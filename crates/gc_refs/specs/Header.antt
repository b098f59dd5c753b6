-- The header of an object.
use Rattle.std.specs.Prelude.{◌≡◌, ℕ, ◌+◌, ◌*◌, ◌/◌, ◌++◌, List, take, drop}
use Rattle.std.specs.Int.{w32, to_le_bytes, from_le_bytes}
use Rattle.gc_types.specs.declared.kind.VMGcKind.{VMGcKind}
use Rattle.gc_types.specs.Kinds.{kind_bits}

-- the two words of a header
pub record Header : Type 0 where
  pub kind_word : ℕ
  pub type_word : ℕ

-- the spare bits of a kind word are those below this number, 2^26
abbrev pub spare_bits : ℕ
spare_bits = 0x4000000

-- a header of that kind and type, its spare bits 0
abbrev pub header_of : VMGcKind → ℕ → Header
header_of kind ty = record { kind_word = kind_bits kind; type_word = ty }

-- the header with these spare bits
abbrev pub with_spare : ℕ → Header → Header
with_spare spare h = record h { kind_word = h.kind_word / spare_bits * spare_bits + spare }

-- the bytes of a header: its words, the kind word first, each with its lowest byte first
abbrev pub header_bytes : Header → List ℕ
header_bytes h = to_le_bytes w32 h.kind_word ++ to_le_bytes w32 h.type_word

-- the header that the first eight bytes are
abbrev pub header_at : List ℕ → Header
header_at bytes = record { kind_word = from_le_bytes w32 (take 4 bytes); type_word = from_le_bytes w32 (take 4 (drop 4 bytes)) }

-- the upper six bits of a kind word, in place
abbrev pub kind_part : ℕ → ℕ
kind_part word = word / spare_bits * spare_bits

-- a kind word is of that kind
abbrev pub IsOfKind : VMGcKind → ℕ → Type 0
IsOfKind kind word = kind_bits kind ≡ kind_part word
