use Rattle.test_lists.proofs.maps.map_of.Goals as goal
use Rattle.test_lists.proofs.Stays.{empty_map}

pub loop-change-init : goal.loop-change-init
loop-change-init g c = empty_map g.H.GcHeap.KIND c.args.store.now c.args.kit.now c.empty-map.result.root c.empty-map.ensures c.requires
