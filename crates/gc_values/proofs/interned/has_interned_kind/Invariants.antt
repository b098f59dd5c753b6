use Rattle.std.proofs.Common.{◌≡◌, take}
use Rattle.gc_model.specs.SideValues.{no_side_values}
use Rattle.gc_values.specs.RawValues.{raw_side_values}
use Rattle.gc_values.proofs.interned.has_interned_kind.Given as goal

abbrev pub invariant-loop-value : goal.invariant-loop-value
invariant-loop-value l = raw_side_values (take l.value-index l.values) ≡ no_side_values
