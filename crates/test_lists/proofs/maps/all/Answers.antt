use Rattle.test_lists.proofs.maps.all.Goals as goal
use Rattle.test_lists.proofs.Stays.{map_in}

pub copy_out-requires : goal.copy_out-requires
copy_out-requires g c = record { stands = map_in g.H.GcHeap.KIND c.args.store.now c.requires.0 c.args.map.now.root c.requires.1 }
