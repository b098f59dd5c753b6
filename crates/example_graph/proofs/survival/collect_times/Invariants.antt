use Rattle.example_graph.specs.Entries.{KeepsEntries}
use Rattle.example_graph.proofs.survival.collect_times.Given as goal

abbrev pub invariant-loop-turn : goal.invariant-loop-turn
invariant-loop-turn g l = KeepsEntries g.H.GcHeap.KIND l.fn.store l.store
