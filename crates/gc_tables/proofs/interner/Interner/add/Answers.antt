use Rattle.std.proofs.Common.{ap}
use Rattle.std.specs.FinMap as finite
use Rattle.gc_tables.proofs.InternLemmas.{index-add}
use Rattle.gc_tables.proofs.interner.Interner.add.Goals as goal

pub invariant_of-self : goal.invariant_of-self
invariant_of-self g c =
    rw c.alloc_reserved-id.ensures.added
    (index-add g.met.K.Eq.laws g.met.K.Exact.exact c.self.inside.values.entries c.self.inside.ids c.insert.new.self c.args.value c.alloc_reserved-id.result c.self.invariant
    c.alloc_reserved-id.ensures.fresh
    (λ id found. c.requires.new (id, rw (← c.self.view_is) found))
    c.in-Ok.ensures.updates.0)
