use Rattle.std.proofs.Common.{sym, ◌∙◌}
use Rattle.std.proofs.lemmas.Option.{none-some, same_Some}
use Rattle.gc_heap.specs.Objects.{IsHeaderOf}
use Rattle.gc_heap.proofs.KindLemmas.{tells_kind}
use Rattle.gc_raw_store.proofs.store.GcStore.kind.Goals as goal

pub returns-in-Some-clause-held : goal.returns-in-Some-clause-held
returns-in-Some-clause-held g c = λ o held.
    let told : IsHeaderOf g.H.GcHeap.KIND o c.in-Ok.header = c.in-Ok.ensures.held o held in
    same_Some c.in-Some.kind o.kind (sym c.in-Some.is ∙ tells_kind c.kind.result c.in-Ok.header.kind_word o.kind c.kind.ensures told.kind)

pub returns-in-None-clause-held : goal.returns-in-None-clause-held
returns-in-None-clause-held g c = λ o held.
    let told : IsHeaderOf g.H.GcHeap.KIND o c.in-Ok.header = c.in-Ok.ensures.held o held in
    none-some o.kind (sym c.in-None.is ∙ tells_kind c.kind.result c.in-Ok.header.kind_word o.kind c.kind.ensures told.kind)
