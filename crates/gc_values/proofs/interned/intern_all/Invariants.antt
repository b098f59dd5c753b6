use Rattle.std.proofs.Common.{take}
use Rattle.gc_values.specs.Interning.{InternsAll, KeepsRooms, ids_of}
use Rattle.gc_values.specs.RawValues.{raw_side_values}
use Rattle.gc_values.proofs.interned.intern_all.Given as goal

abbrev pub invariant-loop-value : goal.invariant-loop-value
invariant-loop-value l = record {
  interns : InternsAll (ids_of l.initial.interned) (ids_of l.interned) (raw_side_values (take l.value-index l.values));
  room : KeepsRooms l.initial.interned l.interned (raw_side_values (take l.value-index l.values));
}
