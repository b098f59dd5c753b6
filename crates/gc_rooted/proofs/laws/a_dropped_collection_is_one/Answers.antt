use Rattle.std.proofs.Common.{◌≡◌, true, sym, subst, rules}
use Rattle.gc_owner.specs.Owners.{Kind, heap_kind}
use Rattle.gc_model.specs.Stores.{StoreView}
use Rattle.gc_store.specs.Collectings.{IsCollected}
use Rattle.gc_store.proofs.Stepping.{gives_collected}
use Rattle.gc_rooted.proofs.laws.a_dropped_collection_is_one.Given.{Over}
use Rattle.gc_rooted.proofs.laws.a_dropped_collection_is_one.Goals as goal
use Rattle.gc_rooted.proofs.laws.a_dropped_collection_is_one.Goals.{After-drop-collecting}

abbrev kind : (g : Over) → Kind g.row.H.Denot g.row.H-State.Denot
kind g = heap_kind g.H.GcHeap.KIND g.H.GcHeap.seen g.H.GcHeap.sound g.H.GcHeap.under_way

-- the store was collected, whatever the name of what stands in its place
collected : (g : Over) (c : After-drop-collecting g) (v : StoreView g.row.D.Denot) → v ≡ c.drop-collecting.new.self.0 → IsCollected g.H.GcHeap.KIND c.args.store.now v
collected g c v is = subst (λ (s : StoreView g.row.D.Denot). IsCollected g.H.GcHeap.KIND c.args.store.now s) (sym is) (
    gives_collected (kind g) c.args.store.now c.collect_increment.new.self.inside c.drop-collecting.new.self.0 0 c.collect_increment.result
    (c.collect_increment.ensures.goes c.args.store.now 0 true c.gc_start-collecting.ensures.starts) c.drop-collecting.ensures.gives
    )

pub returns : goal.returns
returns g c = collected g ((goal.at.returns g c).After-drop-collecting) _ (search rules)
