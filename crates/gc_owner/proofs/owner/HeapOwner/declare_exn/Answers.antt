use Rattle.gc_types.specs.Declarations.{exn_type}
use Rattle.gc_owner.proofs.DeclareLemmas.{declared_order, declared_seen}
use Rattle.gc_owner.proofs.owner.HeapOwner.declare_exn.Goals as goal

pub invariant_of-self : goal.invariant_of-self
invariant_of-self g c =
    declared_order g.H.GcHeap.KIND g.H.GcHeap.seen g.H.GcHeap.sound g.H.GcHeap.under_way c.self.inside.heap c.self.inside.types c.self.inside.hosts.entries c.self.inside.roots c.self.inside.last c.self.inside.state g.met.H.GcHeap.is_heap c.args.self.now c.self.invariant c.self.view_is c.requires.idle (exn_type c.args.params.now) c.declare_exn.new.self c.declare_exn.result
    (record { declared = c.declare_exn.ensures.declared; named = c.declare_exn.ensures.named; declarable = c.declare_exn.ensures.declarable; bad = c.declare_exn.ensures.bad; err = c.declare_exn.ensures.err })

pub returns : goal.returns
returns g c =
    declared_seen g.H.GcHeap.KIND g.H.GcHeap.seen g.H.GcHeap.sound g.H.GcHeap.under_way c.self.inside.heap c.self.inside.types c.self.inside.hosts.entries c.self.inside.roots c.self.inside.last c.self.inside.state g.met.H.GcHeap.is_heap c.args.self.now c.self.invariant c.self.view_is c.requires.idle (exn_type c.args.params.now) c.declare_exn.new.self c.declare_exn.result
    (record { declared = c.declare_exn.ensures.declared; named = c.declare_exn.ensures.named; declarable = c.declare_exn.ensures.declarable; bad = c.declare_exn.ensures.bad; err = c.declare_exn.ensures.err })
