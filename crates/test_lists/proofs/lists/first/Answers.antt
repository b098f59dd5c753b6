use Rattle.test_lists.proofs.lists.first.Goals as goal
use Rattle.test_lists.proofs.Stays.{list_in}

pub head-requires : goal.head-requires
head-requires g c = record { stands = list_in g.H.GcHeap.KIND c.args.store.now c.requires.0 c.args.list.now.root c.requires.1 }
