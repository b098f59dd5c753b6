use Rattle.std.proofs.Common.{drop}
use Rattle.gc_copying.proofs.ScanLemmas.{Going}
use Rattle.gc_copying.proofs.space.Space.scan_offsets.Given as goal

abbrev pub invariant-loop-offset : goal.invariant-loop-offset
invariant-loop-offset g l = Going l.fn.self l.self l.copy l.offsets (drop l.offset-index l.offsets) l.fn.steps l.steps
