use Rattle.std.proofs.Common.{◌≡◌, ◌%◌, sym, ap, ◌∙◌}
use Rattle.std.specs.Option.{option_copied}
use Rattle.gc_types.specs.Layouts.{trace_at}
use Rattle.gc_refs.specs.Header.{spare_bits}
use Rattle.test_mutator.proofs.WriteLemmas.{tells_typed, tells_traced, spare_of}
use Rattle.test_mutator.proofs.fields.is_plain.Goals as goal

pub returns-in-Copying : goal.returns-in-Copying
returns-in-Copying g c = λ o held.
    let header = c.in-Ok.ensures.held o held in
    tells_traced g.H.GcHeap.KIND c.KIND.result c.args.types.now.declarations o c.reserved_u26.result c.traces_nothing.result c.in-Copying.is c.KIND.ensures
    (spare_of g.H.GcHeap.KIND c.KIND.result o (c.in-Ok.header.kind_word % spare_bits) c.in-Copying.is c.KIND.ensures header.spare ∙ sym c.reserved_u26.ensures) c.traces_nothing.ensures

pub returns-in-Null : goal.returns-in-Null
returns-in-Null g c = λ o held.
    let L = g.H.GcHeap.KIND in
    let types = c.args.types.now.declarations in
    let header = c.in-Ok.ensures.held o held in
    let told : option_copied c.trace_info.result ≡ trace_at L types o.ty = c.trace_info.ensures ∙ ap (λ l. trace_at l types c.type_index.result) c.KIND-in-Null.ensures ∙ ap (trace_at L types) (c.type_index.ensures ∙ header.ty) in
    tells_typed L c.KIND.result types o (option_copied c.trace_info.result) c.names_nothing.result c.in-Null.is c.KIND.ensures told c.names_nothing.ensures
