use Rattle.std.proofs.Common.{◌+◌, ◌-◌, ◌*◌}
use Rattle.gc_heap.specs.References.{word_offsets}
use Rattle.gc_drc.proofs.VisitLemmas.{Going}
use Rattle.gc_drc.proofs.space.CountedSpace.visit_elements.Given as goal

abbrev pub invariant-loop-index : goal.invariant-loop-index
invariant-loop-index g l = Going (λ c places words. g.V.Visitor.state c places l.fn.self l.fn.visitor words) (λ c places words. g.V.Visitor.state c places l.self l.visitor words) l.place (word_offsets 32 l.count) (word_offsets (32 + 4 * l.index) (l.count - l.index))
