use Rattle.gc_types.specs.declared.kind.VMGcKind.TheVariants.{StructRef}
use Rattle.gc_refs.specs.Header.{Header, kind_part, spare_bits}
use Rattle.std.proofs.Common.{◌%◌, sym, ap}
use Rattle.gc_heap.specs.Objects.{zeroed}
use Rattle.test_client.proofs.StayLemmas.{allocated_stays}
use Rattle.test_client.proofs.allocation.make_raw.Goals as goal

pub returns-clause-stays : goal.returns-clause-stays
returns-clause-stays g c =
    let header = c.from_kind_and_index-header.result in
    allocated_stays g.H.GcHeap.KIND (g.H.GcHeap.seen c.args.heap.now) (g.H.GcHeap.seen c.alloc_raw.new.self) (zeroed g.H.GcHeap.KIND StructRef header.type_word (header.kind_word % spare_bits) c.args.size) c.args.size c.alloc_raw.result
    (c.alloc_raw.ensures.allocated StructRef (sym (ap (λ (h : Header). kind_part h.kind_word) c.from_kind_and_index-header.ensures)))
