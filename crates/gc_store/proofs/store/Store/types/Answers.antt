use Rattle.std.proofs.Common.{ap, ◌∙◌}
use Rattle.gc_model.specs.Stores.{StoreView}
use Rattle.gc_store.proofs.Sound.{own_types}
use Rattle.gc_store.proofs.store.Store.types.Goals as goal

pub returns : goal.returns
returns g c =
    c.types.ensures
    ∙ own_types c.self.inside.owner.seen.types c.self.inside.id.engine c.self.inside.id.number c.self.invariant.engine c.self.invariant.number
    ∙ ap (λ (s : StoreView g.row.D.Denot). record { engine = s.engine; number = s.number; declarations = s.types }) c.self.view_is
