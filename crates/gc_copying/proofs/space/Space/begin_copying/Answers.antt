use Rattle.gc_copying.proofs.EndLemmas.{can_forward_roots, at_work}
use Rattle.gc_copying.proofs.space.Space.begin_copying.Goals as goal

pub forward_roots-requires : goal.forward_roots-requires
forward_roots-requires g c =
    can_forward_roots c.args.self.now c.flip.new.self c.args.roots.now.roots c.requires c.flip.ensures.memory c.flip.ensures.upper c.flip.ensures.bump c.flip.ensures.objects

pub returns-clause-begun : goal.returns-clause-begun
returns-clause-begun g c s counted is roots_are counts =
    at_work s c.args.self.now c.flip.new.self c.forward_roots.new.self c.args.roots.now.roots c.forward_roots.new.roots.roots counted c.args.steps.now c.forward_roots.new.steps
    is roots_are c.flip.ensures.memory c.flip.ensures.upper c.flip.ensures.bump c.flip.ensures.objects c.flip.ensures.externals
    c.forward_roots.ensures.moved c.forward_roots.ensures.sides c.forward_roots.ensures.ticks counts
