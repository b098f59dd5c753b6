use Rattle.gc_heap.specs.References.{word_offsets}
use Rattle.gc_copying.proofs.OffsetLemmas.{ElementsLeft}
use Rattle.gc_copying.proofs.space.Space.scan_elements.Given as goal

abbrev pub invariant-loop-index : goal.invariant-loop-index
invariant-loop-index g l = ElementsLeft l.fn.self l.self l.copy (word_offsets 16 l.count) l.count l.index l.fn.steps l.steps
