use Rattle.gc_types.specs.Declarations.{struct_type}
use Rattle.gc_owner.proofs.DeclareLemmas.{declared_order, declared_seen}
use Rattle.gc_owner.proofs.owner.HeapOwner.declare_struct.Goals as goal

pub invariant_of-self : goal.invariant_of-self
invariant_of-self g c =
    declared_order g.H.GcHeap.KIND g.H.GcHeap.seen g.H.GcHeap.sound g.H.GcHeap.under_way c.self.inside.heap c.self.inside.types c.self.inside.hosts.entries c.self.inside.roots c.self.inside.last c.self.inside.state g.met.H.GcHeap.is_heap c.args.self.now c.self.invariant c.self.view_is c.requires.idle (struct_type c.args.fields.now c.args.supertype c.args.is_final) c.declare_struct.new.self c.declare_struct.result
    (record { declared = c.declare_struct.ensures.declared; named = c.declare_struct.ensures.named; declarable = c.declare_struct.ensures.declarable; bad = c.declare_struct.ensures.bad; err = c.declare_struct.ensures.err })

pub returns : goal.returns
returns g c =
    declared_seen g.H.GcHeap.KIND g.H.GcHeap.seen g.H.GcHeap.sound g.H.GcHeap.under_way c.self.inside.heap c.self.inside.types c.self.inside.hosts.entries c.self.inside.roots c.self.inside.last c.self.inside.state g.met.H.GcHeap.is_heap c.args.self.now c.self.invariant c.self.view_is c.requires.idle (struct_type c.args.fields.now c.args.supertype c.args.is_final) c.declare_struct.new.self c.declare_struct.result
    (record { declared = c.declare_struct.ensures.declared; named = c.declare_struct.ensures.named; declarable = c.declare_struct.ensures.declarable; bad = c.declare_struct.ensures.bad; err = c.declare_struct.ensures.err })
