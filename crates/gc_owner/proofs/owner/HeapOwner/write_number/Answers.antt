use Rattle.gc_owner.proofs.OwnerLemmas.{ready_at}
use Rattle.gc_owner.proofs.WriteLemmas.{number_writable, number_order, number_seen}
use Rattle.gc_owner.proofs.owner.HeapOwner.write_number.Goals as goal

pub write_object_data-requires-clause-sound : goal.write_object_data-requires-clause-sound
write_object_data-requires-clause-sound g c = (ready_at g.H.GcHeap.KIND g.H.GcHeap.seen g.H.GcHeap.sound g.H.GcHeap.under_way c.self.inside.heap c.self.inside.types c.self.inside.hosts.entries c.self.inside.roots c.self.inside.last c.self.inside.state c.args.self.now c.self.invariant c.self.view_is c.requires.idle).sound

pub write_object_data-requires-clause-inside : goal.write_object_data-requires-clause-inside
write_object_data-requires-clause-inside g c = number_writable g.H.GcHeap.KIND g.H.GcHeap.seen g.H.GcHeap.sound g.H.GcHeap.under_way c.self.inside.heap c.self.inside.types c.self.inside.hosts.entries c.self.inside.roots c.self.inside.last c.self.inside.state g.met.H.GcHeap.is_heap c.args.self.now c.self.invariant c.self.view_is c.requires.idle c.args.holder.now c.args.offset _ c.requires.inside

pub invariant_of-self : goal.invariant_of-self
invariant_of-self g c =
    number_order g.H.GcHeap.KIND g.H.GcHeap.seen g.H.GcHeap.sound g.H.GcHeap.under_way c.self.inside.heap c.self.inside.types c.self.inside.hosts.entries c.self.inside.roots c.self.inside.last c.self.inside.state g.met.H.GcHeap.is_heap c.args.self.now c.self.invariant c.self.view_is c.requires.idle c.write_object_data.new.self c.args.holder.now c.args.offset c.args.bytes.now c.requires.inside c.write_object_data.ensures.sound c.write_object_data.ensures.seen

pub returns : goal.returns
returns g c = number_seen g.H.GcHeap.KIND g.H.GcHeap.seen g.H.GcHeap.sound g.H.GcHeap.under_way c.self.inside.heap c.self.inside.types c.self.inside.hosts.entries c.self.inside.roots c.self.inside.last c.self.inside.state g.met.H.GcHeap.is_heap c.args.self.now c.self.invariant c.self.view_is c.requires.idle c.write_object_data.new.self c.args.holder.now c.args.offset c.args.bytes.now c.write_object_data.ensures.seen
