-- The bits of a kind word.
use Rattle.std.specs.Prelude.{◌≡◌, ℕ, ◌==◌, if◌then◌else◌}
use Rattle.gc_types.specs.declared.kind.VMGcKind.{VMGcKind}
use Rattle.gc_types.specs.declared.kind.VMGcKind.TheVariants.{ExternRef, AnyRef, EqRef, StructRef, ArrayRef, ExnRef}

-- the upper six bits of a kind word, in place
abbrev pub kind_bits : VMGcKind → ℕ
kind_bits ExternRef = 0x40000000
kind_bits AnyRef = 0x80000000
kind_bits EqRef = 0xA0000000
kind_bits StructRef = 0xA4000000
kind_bits ArrayRef = 0xA8000000
kind_bits ExnRef = 0x10000000

-- the kind of these bits; an external object's where they are no kind's
abbrev pub kind_of : ℕ → VMGcKind
kind_of bits =
    if bits == kind_bits AnyRef then AnyRef else
    (if bits == kind_bits EqRef then EqRef else
    (if bits == kind_bits StructRef then StructRef else
    (if bits == kind_bits ArrayRef then ArrayRef else
    (if bits == kind_bits ExnRef then ExnRef else ExternRef))))

-- the bits that tell a kind, and those that a heap may use as it likes
abbrev pub kind_mask : ℕ
kind_mask = 0xFC000000

abbrev pub spare_mask : ℕ
spare_mask = 0x03FFFFFF

-- An object of the first kind is one of the second: structs and arrays are compared by identity,
-- and what is compared so is any reference. External references and exceptions stand apart.
abbrev pub IsKindOf : VMGcKind → VMGcKind → Type 0
IsKindOf StructRef EqRef = Unit {0}
IsKindOf StructRef AnyRef = Unit {0}
IsKindOf ArrayRef EqRef = Unit {0}
IsKindOf ArrayRef AnyRef = Unit {0}
IsKindOf EqRef AnyRef = Unit {0}
IsKindOf x y = x ≡ y
