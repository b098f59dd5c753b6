use Rattle.std.proofs.Common.{length, sym, ap, subst, arith}
use Rattle.gc_view.specs.Heaps.{HeapView, SameHeld}
use Rattle.gc_heap.specs.Collection.{has_host}
use Rattle.gc_owner.specs.RootColumns.{roots_of}
use Rattle.gc_owner.proofs.ListUse.{list_use}
use Rattle.gc_owner.specs.Owners.{raised}
use Rattle.gc_owner.specs.Tracing.{IsCollectable}
use Rattle.gc_owner.proofs.ListedRoots.{few_held}
use Rattle.gc_owner.proofs.WordBarriers.{word_copyable, raised_held}
use Rattle.gc_owner.proofs.OwnerLemmas.{ready_at, idle_at, word_at, changed_order, pushed_kept}
use Rattle.gc_owner.proofs.owner.HeapOwner.push.Goals as goal

pub copy_word-requires-clause-sound : goal.copy_word-requires-clause-sound
copy_word-requires-clause-sound g c = (ready_at g.H.GcHeap.KIND g.H.GcHeap.seen g.H.GcHeap.sound g.H.GcHeap.under_way c.self.inside.heap c.self.inside.types c.self.inside.hosts.entries c.self.inside.roots c.self.inside.last c.self.inside.state c.args.self.now c.self.invariant c.self.view_is c.requires.idle).sound

pub copy_word-requires-clause-can : goal.copy_word-requires-clause-can
copy_word-requires-clause-can g c =
    let r = ready_at g.H.GcHeap.KIND g.H.GcHeap.seen g.H.GcHeap.sound g.H.GcHeap.under_way c.self.inside.heap c.self.inside.types c.self.inside.hosts.entries c.self.inside.roots c.self.inside.last c.self.inside.state c.args.self.now c.self.invariant c.self.view_is c.requires.idle in
    word_copyable g.H.GcHeap.KIND c.self.inside.types.declarations (g.H.GcHeap.seen c.self.inside.heap) (roots_of c.self.inside.roots) (has_host c.self.inside.hosts.entries) (g.met.H.GcHeap.is_heap c.self.inside.heap r.sound) r.can (few_held c.self.inside.roots c.are_few.ensures.few) c.args.word (word_at g.H.GcHeap.KIND g.H.GcHeap.seen g.H.GcHeap.sound g.H.GcHeap.under_way c.self.inside.heap c.self.inside.types c.self.inside.hosts.entries c.self.inside.roots c.self.inside.last c.self.inside.state c.args.self.now c.self.view_is c.args.word c.requires.word)

pub push-requires-clause-room : goal.push-requires-clause-room
push-requires-clause-room g c = omega (arith, c.requires.room, ap (λ v. v.seen.roots.spare) c.self.view_is)

pub push-requires-clause-small : goal.push-requires-clause-small
push-requires-clause-small g c = omega (arith, c.requires.few, ap (λ v. length v.seen.roots.scoped) c.self.view_is)

pub invariant_of-self : goal.invariant_of-self
invariant_of-self g c =
    let r = ready_at g.H.GcHeap.KIND g.H.GcHeap.seen g.H.GcHeap.sound g.H.GcHeap.under_way c.self.inside.heap c.self.inside.types c.self.inside.hosts.entries c.self.inside.roots c.self.inside.last c.self.inside.state c.args.self.now c.self.invariant c.self.view_is c.requires.idle in
    let h : HeapView = g.H.GcHeap.seen c.self.inside.heap in
    changed_order g.H.GcHeap.KIND g.H.GcHeap.seen g.H.GcHeap.sound g.H.GcHeap.under_way c.self.inside.heap c.self.inside.types c.self.inside.hosts.entries c.self.inside.roots c.self.inside.last c.self.inside.state c.copy_word.new.heap c.push.new.self (idle_at g.H.GcHeap.KIND g.H.GcHeap.seen g.H.GcHeap.sound g.H.GcHeap.under_way c.self.inside.heap c.self.inside.types c.self.inside.hosts.entries c.self.inside.roots c.self.inside.last c.self.inside.state c.args.self.now c.self.view_is c.requires.idle) r c.copy_word.ensures.sound
    (subst (SameHeld h) (sym c.copy_word.ensures.seen) (raised_held h c.args.word))
    (subst (λ v. IsCollectable g.H.GcHeap.KIND c.self.inside.types.declarations v (roots_of c.push.new.self) (has_host c.self.inside.hosts.entries)) (sym c.copy_word.ensures.seen)
    (subst (λ rs. IsCollectable g.H.GcHeap.KIND c.self.inside.types.declarations (raised h c.args.word) (roots_of rs) (has_host c.self.inside.hosts.entries)) (sym c.push.ensures.pushed)
    (pushed_kept g.H.GcHeap.KIND c.self.inside.types.declarations h c.self.inside.roots (has_host c.self.inside.hosts.entries) c.args.word r.can (word_at g.H.GcHeap.KIND g.H.GcHeap.seen g.H.GcHeap.sound g.H.GcHeap.under_way c.self.inside.heap c.self.inside.types c.self.inside.hosts.entries c.self.inside.roots c.self.inside.last c.self.inside.state c.args.self.now c.self.view_is c.args.word c.requires.word))))
    (ap list_use c.push.ensures.pushed)
