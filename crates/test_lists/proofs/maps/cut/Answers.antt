use Rattle.std.proofs.Common.{to_z, of_z, w64}
use Rattle.std.specs.FinMap as finite
use Rattle.gc_maps.specs.Maps.{IntMap}
use Rattle.test_lists.proofs.maps.cut.Goals as goal
use Rattle.test_lists.proofs.Stays.{change_stands, kit_in, map_of_in}

pub remove-requires-clause-stands : goal.remove-requires-clause-stands
remove-requires-clause-stands g c = λ kit_own. map_of_in g.H.GcHeap.KIND c.args.store.now c.args.kit.now c.args.map.now.root c.requires

pub remove-requires-clause-kit : goal.remove-requires-clause-kit
remove-requires-clause-kit g c = kit_in g.H.GcHeap.KIND c.args.store.now c.args.kit.now _ c.requires.1

pub returns : goal.returns
returns g c = change_stands g.H.GcHeap.KIND c.args.store.now c.remove.new.store c.args.kit.now c.args.map.now.root c.requires
    (λ (m : IntMap). finite.remove m (to_z w64 (of_z w64 c.args.key))) _ _ _ c.remove.result c.remove.ensures.wrong_store c.remove.ensures.removes
