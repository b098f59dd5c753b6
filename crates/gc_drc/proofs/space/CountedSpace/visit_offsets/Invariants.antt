use Rattle.std.proofs.Common.{drop}
use Rattle.gc_drc.proofs.VisitLemmas.{Going}
use Rattle.gc_drc.proofs.space.CountedSpace.visit_offsets.Given as goal

abbrev pub invariant-loop-offset : goal.invariant-loop-offset
invariant-loop-offset g l = Going (λ c places words. g.V.Visitor.state c places l.fn.self l.fn.visitor words) (λ c places words. g.V.Visitor.state c places l.self l.visitor words) l.place l.offsets (drop l.offset-index l.offsets)
