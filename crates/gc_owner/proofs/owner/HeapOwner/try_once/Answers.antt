use Rattle.std.proofs.Common.{ap, arith, length}
use Rattle.gc_owner.proofs.OwnerLemmas.{ready_at, idle_at}
use Rattle.gc_owner.proofs.MakeLemmas.{told}
use Rattle.gc_owner.proofs.TryLemmas.{can_at, tried_order, tried_by}
use Rattle.gc_owner.proofs.owner.HeapOwner.try_once.Goals as goal

pub new_object-made-requires-clause-told : goal.new_object-made-requires-clause-told
new_object-made-requires-clause-told g c =
    let can = can_at g.H.GcHeap.KIND g.H.GcHeap.seen g.H.GcHeap.sound g.H.GcHeap.under_way c.self.inside.heap c.self.inside.types c.self.inside.hosts.entries c.self.inside.roots c.self.inside.last c.self.inside.state c.args.self.now c.self.view_is c.self.inside.heap c.self.inside.roots c.args.description.now c.requires.can in
    (c.self.inside.types.declarations, (can.object, (can.size, told g.H.GcHeap.KIND _ c.args.description.now can.object can.size can.described)))

pub root_new-requires-clause-room : goal.root_new-requires-clause-room
root_new-requires-clause-room g c = omega (arith, c.requires.can.spare, ap (λ v. v.seen.roots.spare) c.self.view_is)

pub root_new-requires-clause-small : goal.root_new-requires-clause-small
root_new-requires-clause-small g c = omega (arith, c.requires.can.few, ap (λ v. length v.seen.roots.scoped) c.self.view_is)

pub invariant_of-self : goal.invariant_of-self
invariant_of-self g c =
    let can = can_at g.H.GcHeap.KIND g.H.GcHeap.seen g.H.GcHeap.sound g.H.GcHeap.under_way c.self.inside.heap c.self.inside.types c.self.inside.hosts.entries c.self.inside.roots c.self.inside.last c.self.inside.state c.args.self.now c.self.view_is c.self.inside.heap c.self.inside.roots c.args.description.now c.requires.can in
    let r = ready_at g.H.GcHeap.KIND g.H.GcHeap.seen g.H.GcHeap.sound g.H.GcHeap.under_way c.self.inside.heap c.self.inside.types c.self.inside.hosts.entries c.self.inside.roots c.self.inside.last c.self.inside.state c.args.self.now c.self.invariant c.self.view_is c.requires.can.idle in
    tried_order g.H.GcHeap.KIND g.H.GcHeap.seen g.H.GcHeap.sound g.H.GcHeap.under_way c.self.inside.heap c.self.inside.types c.self.inside.hosts.entries c.self.inside.roots c.self.inside.last c.self.inside.state c.args.self.now c.self.view_is c.new_object-made.new.heap c.root_new.new.roots c.args.description.now can.object can.size c.new_object-made.result c.root_new.result
    (idle_at g.H.GcHeap.KIND g.H.GcHeap.seen g.H.GcHeap.sound g.H.GcHeap.under_way c.self.inside.heap c.self.inside.types c.self.inside.hosts.entries c.self.inside.roots c.self.inside.last c.self.inside.state c.args.self.now c.self.view_is c.requires.can.idle) r (g.met.H.GcHeap.is_heap c.self.inside.heap r.sound) c.new_object-made.ensures.sound can can.described
    (c.new_object-made.ensures.allocated c.self.inside.types.declarations can.object can.size (told g.H.GcHeap.KIND _ c.args.description.now can.object can.size can.described)) c.root_new.ensures

pub returns : goal.returns
returns g c = record {
  tried = λ o size described.
      tried_by g.H.GcHeap.KIND g.H.GcHeap.seen g.H.GcHeap.sound g.H.GcHeap.under_way c.self.inside.heap c.self.inside.types c.self.inside.hosts.entries c.self.inside.roots c.self.inside.last c.self.inside.state c.args.self.now c.self.view_is c.new_object-made.new.heap c.root_new.new.roots c.args.description.now o size c.new_object-made.result c.root_new.result
      (λ here. c.new_object-made.ensures.allocated c.self.inside.types.declarations o size (told g.H.GcHeap.KIND _ c.args.description.now o size here)) c.root_new.ensures described;
}
