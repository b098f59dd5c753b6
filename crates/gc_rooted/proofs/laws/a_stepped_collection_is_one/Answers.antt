use Rattle.std.proofs.Common.{◌≡◌, sym, subst, rules}
use Rattle.gc_model.specs.Stores.{StoreView}
use Rattle.gc_store.specs.Collectings.{IsCollected}
use Rattle.gc_rooted.proofs.laws.a_stepped_collection_is_one.Given.{Over}
use Rattle.gc_rooted.proofs.laws.a_stepped_collection_is_one.Goals as goal
use Rattle.gc_rooted.proofs.laws.a_stepped_collection_is_one.Goals.{After-drop-collecting}

-- the store was collected, whatever the name of what stands in its place
collected : (g : Over) (c : After-drop-collecting g) (v : StoreView g.row.D.Denot) → v ≡ c.drop-collecting.new.self.0 → IsCollected g.H.GcHeap.KIND c.args.store.now v
collected g c v is =
    subst (λ (s : StoreView g.row.D.Denot). IsCollected g.H.GcHeap.KIND c.args.store.now s) (sym is)
    (c.drop-collecting.ensures.gives.over c.args.store.now (c.count_increments.ensures.closes c.args.store.now c.gc_start-collecting.ensures.starts))

pub returns-clause-collected : goal.returns-clause-collected
returns-clause-collected g c = collected g ((goal.at.returns-clause-collected g c).After-drop-collecting) _ (search rules)
