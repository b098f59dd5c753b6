use Rattle.test_lists.proofs.kits.new_kit.Goals as goal
use Rattle.gc_lists.specs.Kits.{MakesKit}
use Rattle.gc_lists.specs.declared.kit.Kit.{Kit}
use Rattle.gc_types.specs.declared.types.TypeFault.{TypeFault}
use Rattle.std.proofs.Common.{Result, subst}
use Rattle.test_lists.proofs.Stays.{list_begun, map_begun}

pub returns-in-Ok-clause-lists : goal.returns-in-Ok-clause-lists
returns-in-Ok-clause-lists g c =
    let held = c.stores_hold_tables.ensures in
    list_begun g.H.GcHeap.KIND held.0 held.1.0 c.new.new.store c.in-Ok.kit
    (subst (λ (r : Result Kit TypeFault). MakesKit g.H.GcHeap.KIND held.0 held.1.0 r c.new.new.store) c.in-Ok.is (c.new.ensures.makes held.0 held.1.0 held.1.1))

pub returns-in-Ok-clause-maps : goal.returns-in-Ok-clause-maps
returns-in-Ok-clause-maps g c =
    let held = c.stores_hold_tables.ensures in
    map_begun g.H.GcHeap.KIND held.0 held.1.0 c.new.new.store c.in-Ok.kit
    (subst (λ (r : Result Kit TypeFault). MakesKit g.H.GcHeap.KIND held.0 held.1.0 r c.new.new.store) c.in-Ok.is (c.new.ensures.makes held.0 held.1.0 held.1.1))
