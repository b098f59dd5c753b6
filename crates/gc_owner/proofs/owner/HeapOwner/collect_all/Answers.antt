use Rattle.std.proofs.Common.{ap, ◌∙◌}
use Rattle.gc_owner.proofs.OwnerLemmas.{ready_at, idle_at, collected_order, collected_seen}
use Rattle.gc_owner.proofs.owner.HeapOwner.collect_all.Goals as goal

pub collect_in-last-requires-clause-unlisted : goal.collect_in-last-requires-clause-unlisted
collect_in-last-requires-clause-unlisted g c = (ready_at g.H.GcHeap.KIND g.H.GcHeap.seen g.H.GcHeap.sound g.H.GcHeap.under_way c.self.inside.heap c.self.inside.types c.self.inside.hosts.entries c.self.inside.roots c.self.inside.last c.self.inside.state c.args.self.now c.self.invariant c.self.view_is c.requires.idle).unlisted

pub collect_in-last-requires-clause-placed : goal.collect_in-last-requires-clause-placed
collect_in-last-requires-clause-placed g c = (ready_at g.H.GcHeap.KIND g.H.GcHeap.seen g.H.GcHeap.sound g.H.GcHeap.under_way c.self.inside.heap c.self.inside.types c.self.inside.hosts.entries c.self.inside.roots c.self.inside.last c.self.inside.state c.args.self.now c.self.invariant c.self.view_is c.requires.idle).placed (ap (λ v. v.seen.heap.attached) c.self.view_is ∙ c.requires.attached)

pub collect_in-last-requires-clause-sound : goal.collect_in-last-requires-clause-sound
collect_in-last-requires-clause-sound g c = (ready_at g.H.GcHeap.KIND g.H.GcHeap.seen g.H.GcHeap.sound g.H.GcHeap.under_way c.self.inside.heap c.self.inside.types c.self.inside.hosts.entries c.self.inside.roots c.self.inside.last c.self.inside.state c.args.self.now c.self.invariant c.self.view_is c.requires.idle).sound

pub collect_in-last-requires-clause-attached : goal.collect_in-last-requires-clause-attached
collect_in-last-requires-clause-attached g c = ap (λ v. v.seen.heap.attached) c.self.view_is ∙ c.requires.attached

pub collect_in-last-requires-clause-collectable : goal.collect_in-last-requires-clause-collectable
collect_in-last-requires-clause-collectable g c = (ready_at g.H.GcHeap.KIND g.H.GcHeap.seen g.H.GcHeap.sound g.H.GcHeap.under_way c.self.inside.heap c.self.inside.types c.self.inside.hosts.entries c.self.inside.roots c.self.inside.last c.self.inside.state c.args.self.now c.self.invariant c.self.view_is c.requires.idle).can

pub invariant_of-self : goal.invariant_of-self
invariant_of-self g c = collected_order g.H.GcHeap.KIND g.H.GcHeap.seen g.H.GcHeap.sound g.H.GcHeap.under_way c.self.inside.heap c.self.inside.types c.self.inside.hosts.entries c.self.inside.roots c.self.inside.last c.self.inside.state c.collect_in-last.new.heap c.collect_in-last.new.hosts.entries c.collect_in-last.new.roots c.collect_in-last.result c.collect_in-last.ensures.collected (idle_at g.H.GcHeap.KIND g.H.GcHeap.seen g.H.GcHeap.sound g.H.GcHeap.under_way c.self.inside.heap c.self.inside.types c.self.inside.hosts.entries c.self.inside.roots c.self.inside.last c.self.inside.state c.args.self.now c.self.view_is c.requires.idle) (ready_at g.H.GcHeap.KIND g.H.GcHeap.seen g.H.GcHeap.sound g.H.GcHeap.under_way c.self.inside.heap c.self.inside.types c.self.inside.hosts.entries c.self.inside.roots c.self.inside.last c.self.inside.state c.args.self.now c.self.invariant c.self.view_is c.requires.idle) (ap (λ v. v.seen.heap.attached) c.self.view_is ∙ c.requires.attached) c.collect_in-last.ensures.sound

pub returns : goal.returns
returns g c =
    collected_seen g.H.GcHeap.KIND g.H.GcHeap.seen g.H.GcHeap.sound g.H.GcHeap.under_way c.self.inside.heap c.self.inside.types c.self.inside.hosts.entries c.self.inside.roots c.self.inside.last c.self.inside.state c.collect_in-last.new.heap c.collect_in-last.new.hosts.entries c.collect_in-last.new.roots c.collect_in-last.result c.collect_in-last.ensures.collected c.args.self.now c.self.view_is
    (g.met.H.GcHeap.is_heap c.collect_in-last.new.heap c.collect_in-last.ensures.sound) c.collect_in-last.ensures.values c.collect_in-last.ensures.last
