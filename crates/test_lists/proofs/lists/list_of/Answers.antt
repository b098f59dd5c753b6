use Rattle.test_lists.proofs.lists.list_of.Goals as goal
use Rattle.test_lists.proofs.Stays.{empty_list}

pub loop-number-init : goal.loop-number-init
loop-number-init g c = empty_list g.H.GcHeap.KIND c.args.store.now c.args.kit.now c.empty-list.result.root c.empty-list.ensures c.requires
