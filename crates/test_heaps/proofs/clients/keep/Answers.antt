use Rattle.gc_heap.specs.Collection.{has_host}
use Rattle.gc_heap.proofs.ClientLemmas.{can_collect_empty}
use Rattle.test_heaps.proofs.clients.keep.Goals as goal

pub keep_number-requires-clause-can : goal.keep_number-requires-clause-can
keep_number-requires-clause-can g c =
    rw (c.in_ok-attach_page.ensures.empty, c.reserve.ensures.roots, c.requires.roots)
    (can_collect_empty g.H.GcHeap.KIND c.declare_struct.new.self.declarations 65536 (has_host c.args.hosts.now.entries))
