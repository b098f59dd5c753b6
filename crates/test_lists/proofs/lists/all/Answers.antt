use Rattle.test_lists.proofs.lists.all.Goals as goal
use Rattle.test_lists.proofs.Stays.{list_in}

pub copy_out-requires : goal.copy_out-requires
copy_out-requires g c = record { stands = list_in g.H.GcHeap.KIND c.args.store.now c.requires.0 c.args.list.now.root c.requires.1 }
