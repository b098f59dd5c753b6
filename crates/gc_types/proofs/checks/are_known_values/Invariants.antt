use Rattle.std.proofs.Common.{ℕ, ◌<◌, get_or}
use Rattle.gc_types.specs.declared.value.ValType.{ValType}
use Rattle.gc_types.specs.Declarable.{IsKnownVal}
use Rattle.gc_types.proofs.checks.are_known_values.Given as goal

abbrev pub invariant-loop-value : goal.invariant-loop-value
invariant-loop-value l = (k : ℕ) (d : ValType) → k < l.value-index → IsKnownVal l.types (get_or l.values k d)
