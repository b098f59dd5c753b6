use Rattle.gc_memory.specs.Offsets.{external_size}
use Rattle.gc_heap.specs.Objects.{external}
use Rattle.gc_raw_store.specs.Allocation.{AddsHost}
use Rattle.test_heaps.proofs.NameLemmas.{names_added}
use Rattle.test_heaps.proofs.stores.make_external.Goals as goal

pub copy_and_drop-requires : goal.copy_and_drop-requires
copy_and_drop-requires g c =
    let made : AddsHost g.H.GcHeap.KIND 7 c.args.store.now c.alloc_externref.new.self c.in-Ok-Ok.external = rw c.in-Ok-Ok.field-0-is at c.in-Ok-Ok.ensures in
    names_added g.H.GcHeap.KIND c.args.store.now.heap c.alloc_externref.new.self.heap c.in-Ok-Ok.external (external_size g.H.GcHeap.KIND) (external made.id) c.is_stored.ensures.heap made.added
