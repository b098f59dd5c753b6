use Rattle.std.proofs.Common.{subst, false, length, ◌≡◌}
use Rattle.gc_heap.specs.Content.{IsHeap}
use Rattle.gc_owner.specs.RootColumns.{AreFrames}
use Rattle.gc_owner.specs.Owners.{CanBegin}
use Rattle.gc_owner.proofs.OwnerLemmas.{ready_at}
use Rattle.gc_owner.proofs.owner.HeapOwner.is_ready.Goals as goal

pub returns-clause-heap : goal.returns-clause-heap
returns-clause-heap g c = subst (λ v. IsHeap g.H.GcHeap.KIND v.seen.heap) c.self.view_is (g.met.H.GcHeap.is_heap c.self.inside.heap (ready_at g.H.GcHeap.KIND g.H.GcHeap.seen g.H.GcHeap.sound g.H.GcHeap.under_way c.self.inside.heap c.self.inside.types c.self.inside.hosts.entries c.self.inside.roots c.self.inside.last c.self.inside.state c.args.self.now c.self.invariant c.self.view_is c.requires.idle).sound)

pub returns-clause-can : goal.returns-clause-can
returns-clause-can g c = subst (λ v. CanBegin g.H.GcHeap.KIND v.seen) c.self.view_is (ready_at g.H.GcHeap.KIND g.H.GcHeap.seen g.H.GcHeap.sound g.H.GcHeap.under_way c.self.inside.heap c.self.inside.types c.self.inside.hosts.entries c.self.inside.roots c.self.inside.last c.self.inside.state c.args.self.now c.self.invariant c.self.view_is c.requires.idle).can

pub returns-clause-unused : goal.returns-clause-unused
returns-clause-unused g c = subst (λ v. v.seen.heap.attached ≡ false → v.seen.last ≡ 0) c.self.view_is (ready_at g.H.GcHeap.KIND g.H.GcHeap.seen g.H.GcHeap.sound g.H.GcHeap.under_way c.self.inside.heap c.self.inside.types c.self.inside.hosts.entries c.self.inside.roots c.self.inside.last c.self.inside.state c.args.self.now c.self.invariant c.self.view_is c.requires.idle).unused

pub returns-clause-frames : goal.returns-clause-frames
returns-clause-frames g c = subst (λ v. AreFrames v.seen.roots.frames (length v.seen.roots.slots)) c.self.view_is c.are_few.ensures.frames
