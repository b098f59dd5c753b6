use Rattle.std.proofs.Common.{true}
use Rattle.gc_owner.proofs.OwnerLemmas.{ready_at}
use Rattle.gc_owner.proofs.IncrementLemmas.{attached_at, begun_goes, begun_way}
use Rattle.gc_owner.proofs.owner.HeapOwner.begin_all.Goals as goal

pub begin-state-requires-clause-sound : goal.begin-state-requires-clause-sound
begin-state-requires-clause-sound g c = (ready_at g.H.GcHeap.KIND g.H.GcHeap.seen g.H.GcHeap.sound g.H.GcHeap.under_way c.self.inside.heap c.self.inside.types c.self.inside.hosts.entries c.self.inside.roots c.self.inside.last c.self.inside.state c.args.self.now c.self.invariant c.self.view_is c.requires.idle).sound

pub begin-state-requires-clause-attached : goal.begin-state-requires-clause-attached
begin-state-requires-clause-attached g c = attached_at g.H.GcHeap.KIND g.H.GcHeap.seen g.H.GcHeap.sound g.H.GcHeap.under_way c.self.inside.heap c.self.inside.types c.self.inside.hosts.entries c.self.inside.roots c.self.inside.last c.self.inside.state c.args.self.now c.self.invariant c.self.view_is c.requires.idle c.requires.attached g.met.H.GcHeap.is_heap

pub begin-state-requires-clause-open : goal.begin-state-requires-clause-open
begin-state-requires-clause-open g c = (ready_at g.H.GcHeap.KIND g.H.GcHeap.seen g.H.GcHeap.sound g.H.GcHeap.under_way c.self.inside.heap c.self.inside.types c.self.inside.hosts.entries c.self.inside.roots c.self.inside.last c.self.inside.state c.args.self.now c.self.invariant c.self.view_is c.requires.idle).can.collects.open_scopes

pub list_roots-requires : goal.list_roots-requires
list_roots-requires g c = record { unlisted = (ready_at g.H.GcHeap.KIND g.H.GcHeap.seen g.H.GcHeap.sound g.H.GcHeap.under_way c.self.inside.heap c.self.inside.types c.self.inside.hosts.entries c.self.inside.roots c.self.inside.last c.self.inside.state c.args.self.now c.self.invariant c.self.view_is c.requires.idle).unlisted; placed = (ready_at g.H.GcHeap.KIND g.H.GcHeap.seen g.H.GcHeap.sound g.H.GcHeap.under_way c.self.inside.heap c.self.inside.types c.self.inside.hosts.entries c.self.inside.roots c.self.inside.last c.self.inside.state c.args.self.now c.self.invariant c.self.view_is c.requires.idle).placed (attached_at g.H.GcHeap.KIND g.H.GcHeap.seen g.H.GcHeap.sound g.H.GcHeap.under_way c.self.inside.heap c.self.inside.types c.self.inside.hosts.entries c.self.inside.roots c.self.inside.last c.self.inside.state c.args.self.now c.self.invariant c.self.view_is c.requires.idle c.requires.attached g.met.H.GcHeap.is_heap) }

pub invariant_of-self : goal.invariant_of-self
invariant_of-self g c = (
  _,
  (
    0,
    (
      true,
      begun_goes g.H.GcHeap.KIND g.H.GcHeap.seen g.H.GcHeap.sound g.H.GcHeap.under_way c.self.inside.heap c.self.inside.types c.self.inside.hosts.entries c.self.inside.roots c.self.inside.last c.self.inside.state c.args.self.now c.self.invariant c.self.view_is c.requires.idle c.requires.attached g.met.H.GcHeap.is_heap c.list_roots.new.self c.begin-state.result c.list_roots.ensures.listed (λ s sound same can. g.met.H.GcHeap.starts s c.self.inside.heap c.begin-state.result sound c.begin-state.ensures.begun same can),
    ),
  ),
)

pub returns-clause-going : goal.returns-clause-going
returns-clause-going g c =
    begun_way g.H.GcHeap.KIND g.H.GcHeap.seen g.H.GcHeap.sound g.H.GcHeap.under_way c.self.inside.heap c.self.inside.types c.self.inside.hosts.entries c.self.inside.roots c.self.inside.last c.self.inside.state c.args.self.now c.self.invariant c.self.view_is c.requires.idle c.requires.attached g.met.H.GcHeap.is_heap c.list_roots.new.self c.begin-state.result c.list_roots.ensures.listed c.list_roots.ensures.unused
    (λ s sound same can. g.met.H.GcHeap.starts s c.self.inside.heap c.begin-state.result sound c.begin-state.ensures.begun same can)
