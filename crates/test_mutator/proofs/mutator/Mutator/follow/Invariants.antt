use Rattle.std.proofs.Common.{ℕ, Option, drop}
use Rattle.test_mutator.specs.Fields.{Leads}
use Rattle.test_mutator.proofs.mutator.Mutator.follow.Given as goal

abbrev pub invariant-loop-offset : goal.invariant-loop-offset
invariant-loop-offset g l = (to : Option ℕ) → Leads g.H.GcHeap.KIND (g.H.GcHeap.seen l.self-inside.heap) l.word (drop l.offset-index l.path) to → Leads g.H.GcHeap.KIND (g.H.GcHeap.seen l.self-inside.heap) l.initial.word l.path to
