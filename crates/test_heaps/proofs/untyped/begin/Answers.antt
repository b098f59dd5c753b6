use Rattle.gc_heap.specs.Collection.{has_host}
use Rattle.gc_heap.proofs.ClientLemmas.{can_collect_empty}
use Rattle.test_heaps.proofs.untyped.begin.Goals as goal

pub returns-clause-can : goal.returns-clause-can
returns-clause-can g c =
    rw (c.in_ok-attach_page.ensures.empty, c.new.ensures) (can_collect_empty g.H.GcHeap.KIND c.new-2.result.declarations 65536 (has_host c.new-3.result.entries))
