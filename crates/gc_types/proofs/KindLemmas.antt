-- The bits of a kind tell it.
use Rattle.std.proofs.Common.{◌≡◌, refl, sym, ap, ◌∙◌}
use Rattle.gc_types.specs.declared.kind.VMGcKind.{VMGcKind}
use Rattle.gc_types.specs.declared.kind.VMGcKind.TheVariants.{ExternRef, AnyRef, EqRef, StructRef, ArrayRef, ExnRef}
use Rattle.gc_types.specs.Kinds.{kind_bits, kind_of}

pub kind_of-kind_bits : (kind : VMGcKind) → kind_of (kind_bits kind) ≡ kind
kind_of-kind_bits ExternRef = refl
kind_of-kind_bits AnyRef = refl
kind_of-kind_bits EqRef = refl
kind_of-kind_bits StructRef = refl
kind_of-kind_bits ArrayRef = refl
kind_of-kind_bits ExnRef = refl

-- kinds with the same bits are the same
pub same_kind : (a b : VMGcKind) → kind_bits a ≡ kind_bits b → a ≡ b
same_kind a b e = sym (kind_of-kind_bits a) ∙ ap kind_of e ∙ kind_of-kind_bits b
