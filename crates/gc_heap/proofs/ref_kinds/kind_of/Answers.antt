use Rattle.gc_heap.specs.Objects.{IsHeaderOf}
use Rattle.gc_heap.proofs.KindLemmas.{tells_kind}
use Rattle.gc_heap.proofs.ref_kinds.kind_of.Goals as goal

-- src/ref_kinds.rt:45:1
pub returns-in-Ok-clause-held : goal.returns-in-Ok-clause-held
returns-in-Ok-clause-held g c = λ o e.
    let told : IsHeaderOf g.H.GcHeap.KIND o c.in-Ok.header = c.in-Ok.ensures.held o e in
    tells_kind c.kind.result c.in-Ok.header.kind_word o.kind c.kind.ensures told.kind
