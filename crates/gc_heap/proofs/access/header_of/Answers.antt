use Rattle.std.proofs.Common.{◌+◌, sym, subst, arith, ◌∙◌}
use Rattle.gc_refs.specs.Header.{Header}
use Rattle.gc_heap.specs.Objects.{IsHeaderOf}
use Rattle.gc_view.specs.Bytes.{u32_at}
use Rattle.gc_heap.proofs.AccessLemmas.{header_lies_within}
use Rattle.gc_heap.proofs.LyingLemmas.{header_lies}
use Rattle.gc_heap.proofs.MemoryLemmas.{nothing_held}
use Rattle.gc_heap.proofs.access.header_of.Goals as goal

pub read_header-requires : goal.read_header-requires
read_header-requires g c =
    let lies = header_lies_within g.H.GcHeap.KIND (g.H.GcHeap.seen c.args.heap.now) c.in-Some.memory.now c.args.gc_ref.now c.requires.held.0 (c.in-Some.ensures.lent c.requires.sound) c.requires.held.1 in
    omega (arith, lies, c.as_raw_u32.ensures.value)

pub unreachable-requires : goal.unreachable-requires
unreachable-requires g c =
    nothing_held (g.H.GcHeap.seen c.args.heap.now) c.args.gc_ref.now c.requires.held.0 (c.in-None.ensures.lent c.requires.sound) c.requires.held.1

pub returns : goal.returns
returns g c = λ o held.
    let m = c.in-Some.ensures.lent c.requires.sound in
    let lies = header_lies g.H.GcHeap.KIND c.in-Some.memory.now c.args.gc_ref.now o (m.objects c.args.gc_ref.now o held) in
    subst (λ (h : Header). IsHeaderOf g.H.GcHeap.KIND o h) (sym (c.read_header.ensures ∙ (λ i. record { kind_word = u32_at c.in-Some.memory.now (c.as_raw_u32.ensures.value i); type_word = u32_at c.in-Some.memory.now (c.as_raw_u32.ensures.value i + 4) }))) lies
