use Rattle.gc_store.specs.Stores.{IsSameStore}
use Rattle.gc_image.proofs.TurnLemmas.{InTurn}
use Rattle.gc_load_image.specs.Stages.{KeepsButTypes}
use Rattle.gc_load_image.proofs.declare.declare_types.Given as goal

abbrev pub invariant-loop-command : goal.invariant-loop-command
invariant-loop-command g l = record {
  turn : InTurn l.commands l.store.types l.command-index;
  keeps : KeepsButTypes g.H.GcHeap.KIND l.fn.store l.store;
  same : IsSameStore l.fn.store l.store;
}
