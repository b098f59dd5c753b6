use Rattle.test_lists.proofs.maps.find_by.Goals as goal
use Rattle.test_lists.proofs.Stays.{map_in}

pub get-requires : goal.get-requires
get-requires g c = record { stands = map_in g.H.GcHeap.KIND c.args.store.now c.requires.map.0 c.args.map.now.root c.requires.map.1 }
