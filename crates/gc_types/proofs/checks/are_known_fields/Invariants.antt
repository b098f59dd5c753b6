use Rattle.std.proofs.Common.{ℕ, ◌<◌, get_or}
use Rattle.gc_types.specs.declared.value.FieldType.{FieldType}
use Rattle.gc_types.specs.Declarable.{IsKnownField}
use Rattle.gc_types.proofs.checks.are_known_fields.Given as goal

abbrev pub invariant-loop-field : goal.invariant-loop-field
invariant-loop-field l = (k : ℕ) (d : FieldType) → k < l.field-index → IsKnownField l.types (get_or l.fields k d)
