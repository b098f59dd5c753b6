use Rattle.std.proofs.Common.{◌≡◌, ℕ, Some}
use Rattle.gc_types.specs.Declarations.{fields_at}
use Rattle.gc_script.specs.Values.{set_operands}
use Rattle.gc_script.specs.declared.objects.ValueTypes.TheVariants as types_of
use Rattle.gc_script.proofs.CheckLemmas.{CheckedSoFar, PlainSoFar}
use Rattle.gc_script.proofs.values.check_fields.Given as goal

abbrev pub invariant-loop-index : goal.invariant-loop-index
invariant-loop-index g l =
    PlainSoFar (set_operands l.registers l.operands) l.index
    × ((ty : ℕ) → fields_at l.store.types ty ≡ Some l.fields → CheckedSoFar g.H.GcHeap.KIND l.store (types_of.Fields ty) (set_operands l.registers l.operands) l.index)
