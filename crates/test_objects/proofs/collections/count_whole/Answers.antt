use Rattle.std.proofs.Common.{◌≡◌, true, sym, subst, rules, ℕ}
use Rattle.gc_model.specs.Stores.{StoreView}
use Rattle.gc_store.specs.Collectings.{IsCollected}
use Rattle.test_objects.proofs.collections.count_whole.Given.{Over}
use Rattle.test_objects.proofs.collections.count_whole.Goals as goal
use Rattle.test_objects.proofs.collections.count_whole.Goals.{After-drop-collecting}

-- the store was collected, whatever the name of what stands in its place
collected : (g : Over) (c : After-drop-collecting g) (v : StoreView ℕ) → v ≡ c.drop-collecting.new.self.0 → IsCollected g.H.GcHeap.KIND c.args.store.now v
collected g c v is =
    subst (λ (s : StoreView ℕ). IsCollected g.H.GcHeap.KIND c.args.store.now s) (sym is)
    (c.drop-collecting.ensures.gives.over c.args.store.now (c.collect_counted.ensures.closes c.args.store.now 0 true c.gc_start-collecting.ensures.starts))

pub returns-clause-collected : goal.returns-clause-collected
returns-clause-collected g c = collected g ((goal.at.returns-clause-collected g c).After-drop-collecting) _ (search rules)

pub returns-clause-counted : goal.returns-clause-counted
returns-clause-counted g c = c.collect_counted.ensures.counted c.args.store.now c.gc_start-collecting.ensures.starts
