use Rattle.std.proofs.Common.{◌≡◌, sym, ap, subst, ◌∙◌}
use Rattle.std.specs.List.{Contains}
use Rattle.std.specs.Option.{option_copied}
use Rattle.gc_types.specs.Layouts.{trace_at}
use Rattle.gc_view.specs.Heaps.{HeapObject}
use Rattle.gc_heap.specs.Objects.{array_length}
use Rattle.gc_heap.specs.References.{info_offsets, typed_offsets}
use Rattle.gc_heap.proofs.ReferenceLemmas.{typed_is}
use Rattle.test_mutator.specs.Fields.{HasWord}
use Rattle.test_mutator.proofs.FieldLemmas.{length_readable, length_read}
use Rattle.test_mutator.proofs.fields.has_reference.Goals as goal

pub read_u32-length-requires-clause-inside : goal.read_u32-length-requires-clause-inside
read_u32-length-requires-clause-inside g c =
    let o : HeapObject = c.requires.held.0 in
    let word : HasWord g.H.GcHeap.KIND o c.args.offset = (c.has_words.ensures.held o c.requires.held.1).0 c.if-not-has_words.false in
    length_readable g.H.GcHeap.KIND (g.H.GcHeap.seen c.args.heap.now) c.args.holder.now o c.args.offset c.KIND.result c.struct_base.result c.requires.held.1 word c.KIND.ensures c.struct_base.ensures.value

pub returns : goal.returns
returns g c = λ o held.
    let L = g.H.GcHeap.KIND in
    let types = c.args.types.now.declarations in
    let word : HasWord L o c.args.offset = (c.has_words.ensures.held o held).0 c.if-not-has_words.false in
    let header = c.in-Ok.ensures.held o held in
    let length_is : array_length o ≡ c.read_u32-length.result = length_read L o c.KIND.result c.struct_base.result c.read_u32-length.result c.KIND.ensures c.struct_base.ensures.value (c.read_u32-length.ensures o held) in
    let info : option_copied c.trace_info-info.result ≡ trace_at L types o.ty =
    c.trace_info-info.ensures ∙ ap (λ l. trace_at l types c.type_index.result) c.KIND-2.ensures ∙ ap (trace_at L types) (c.type_index.ensures ∙ header.ty) in
    let same : info_offsets c.KIND-3.result o (option_copied c.trace_info-info.result) ≡ typed_offsets L types o o.kind =
    ap (λ l. info_offsets l o (option_copied c.trace_info-info.result)) c.KIND-3.ensures ∙ ap (info_offsets L o) info ∙ sym (typed_is L types o o.kind word.fields) in (
      λ is. record { word = word; aligned = c.if-offset-ne0.false; among = subst (λ os. Contains os c.args.offset) same ((c.is_reference.ensures o length_is).0 is) },
      λ has. (c.is_reference.ensures o length_is).1 (subst (λ os. Contains os c.args.offset) (sym same) has.among),
    )
