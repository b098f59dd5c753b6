use Rattle.std.proofs.Common.{to_z, of_z, w64}
use Rattle.std.specs.FinMap as finite
use Rattle.gc_maps.specs.Maps.{IntMap}
use Rattle.test_lists.proofs.maps.put.Goals as goal
use Rattle.test_lists.proofs.Stays.{change_stands, kit_in, map_of_in}

pub insert-requires-clause-stands : goal.insert-requires-clause-stands
insert-requires-clause-stands g c = λ kit_own. map_of_in g.H.GcHeap.KIND c.args.store.now c.args.kit.now c.args.map.now.root c.requires

pub insert-requires-clause-kit : goal.insert-requires-clause-kit
insert-requires-clause-kit g c = kit_in g.H.GcHeap.KIND c.args.store.now c.args.kit.now _ c.requires.1

pub returns : goal.returns
returns g c = change_stands g.H.GcHeap.KIND c.args.store.now c.insert.new.store c.args.kit.now c.args.map.now.root c.requires
    (λ (m : IntMap). finite.insert m (to_z w64 (of_z w64 c.args.key)) (to_z w64 (of_z w64 c.args.value))) _ _ _ c.insert.result c.insert.ensures.wrong_store c.insert.ensures.inserts
