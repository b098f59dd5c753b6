use Rattle.gc_view.specs.Pages.{page}
use Rattle.gc_heap.specs.Collection.{has_host}
use Rattle.gc_heap.proofs.ClientLemmas.{can_collect_empty}
use Rattle.test_client.proofs.collections.begin.Goals as goal

pub returns-clause-can : goal.returns-clause-can
returns-clause-can g c = rw (c.in_ok-attach_page.ensures.empty, c.new.ensures) (can_collect_empty g.H.GcHeap.KIND c.args.types.declarations page (has_host c.new-2.result.entries))
