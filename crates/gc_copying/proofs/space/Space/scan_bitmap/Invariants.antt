use Rattle.gc_copying.specs.CopyWords.{bitmap_places}
use Rattle.gc_copying.proofs.OffsetLemmas.{BitsLeft}
use Rattle.gc_copying.proofs.space.Space.scan_bitmap.Given as goal

abbrev pub invariant-loop-rest : goal.invariant-loop-rest
invariant-loop-rest g l = BitsLeft l.fn.self l.self l.copy (bitmap_places l.bits) l.rest l.offset l.fn.steps l.steps

abbrev pub decreases-loop-rest : goal.decreases-loop-rest
decreases-loop-rest g l = l.rest
