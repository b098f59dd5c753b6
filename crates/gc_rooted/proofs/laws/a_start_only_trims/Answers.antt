use Rattle.std.proofs.Common.{◌≡◌, true, sym, subst, rules}
use Rattle.gc_model.specs.Stores.{StoreView}
use Rattle.gc_store.specs.Collectings.{IsTrimmedStore}
use Rattle.gc_rooted.proofs.laws.a_start_only_trims.Given.{Over}
use Rattle.gc_rooted.proofs.laws.a_start_only_trims.Goals as goal
use Rattle.gc_rooted.proofs.laws.a_start_only_trims.Goals.{After-drop-guard}

-- the store was trimmed, whatever the name of what stands in its place
trimmed : (g : Over) (c : After-drop-guard g) (v : StoreView g.row.D.Denot) → v ≡ c.drop-guard.new.self.0 → IsTrimmedStore g.H.GcHeap.KIND c.args.store.now v
trimmed g c v is =
    subst (λ (s : StoreView g.row.D.Denot). IsTrimmedStore g.H.GcHeap.KIND c.args.store.now s) (sym is) (c.drop-guard.ensures.gives.untouched c.args.store.now true c.gc_start-guard.ensures.starts)

pub returns : goal.returns
returns g c = trimmed g ((goal.at.returns g c).After-drop-guard) _ (search rules)
