use Rattle.std.specs.FinMap.{len}
use Rattle.std.proofs.Common.{ℕ, Result, Ok, Err, ap, arith, subst, ◌∙◌}
use Rattle.gc_memory.specs.Offsets.{external_size}
use Rattle.gc_heap.specs.Heap.{AddsObject, LacksRoom}
use Rattle.gc_heap.specs.Objects.{external}
use Rattle.gc_raw_store.specs.Stores.{GcStoreView}
use Rattle.gc_raw_store.proofs.PairLemmas.{few_hosts}
use Rattle.gc_raw_store.proofs.StoreLemmas.{allocated_as, fault_same, full_never, host_refused, same_back, stored_back, stored_host, value_back, value_in}
use Rattle.gc_raw_store.proofs.store.GcStore.alloc_externref.Given as given
use Rattle.gc_raw_store.proofs.store.GcStore.alloc_externref.Goals.{In-Ok-Ok, After-take_back}
use Rattle.gc_raw_store.proofs.store.GcStore.alloc_externref.Goals as goal

added : (g : given.Over) (c : In-Ok-Ok g) → AddsObject g.H.GcHeap.KIND (g.H.GcHeap.seen c.self.inside.heap) (g.H.GcHeap.seen c.alloc_externref.new.self) c.in-Ok-Ok.external (external c.in-Ok.id) (external_size g.H.GcHeap.KIND)
added g c = allocated_as g.H.GcHeap.KIND (g.H.GcHeap.seen c.self.inside.heap) (g.H.GcHeap.seen c.alloc_externref.new.self) (external c.in-Ok.id) (external_size g.H.GcHeap.KIND)
    c.alloc_externref.result (Ok (Ok c.in-Ok-Ok.external)) c.alloc_externref.ensures.allocated (c.in-Ok-Ok.is ∙ ap (λ (r : Result ℕ ℕ). Ok r) c.in-Ok-Ok.field-0-is)

lacking : (g : given.Over) (c : After-take_back g) → LacksRoom g.H.GcHeap.KIND (g.H.GcHeap.seen c.self.inside.heap) (g.H.GcHeap.seen c.alloc_externref.new.self) c.in-Ok-Err.need (external_size g.H.GcHeap.KIND)
lacking g c = allocated_as g.H.GcHeap.KIND (g.H.GcHeap.seen c.self.inside.heap) (g.H.GcHeap.seen c.alloc_externref.new.self) (external c.in-Ok.id) (external_size g.H.GcHeap.KIND)
    c.alloc_externref.result (Ok (Err c.in-Ok-Err.need)) c.alloc_externref.ensures.allocated (c.in-Ok-Err.is ∙ ap (λ (r : Result ℕ ℕ). Ok r) c.in-Ok-Err.field-0-is)

pub unreachable-requires : goal.unreachable-requires
unreachable-requires g c = full_never {D = g.row.D.Denot} c.args.value c.in-Err-Full.field-0-0 c.in-Err-Full.field-0 (len c.self.inside.hosts.entries) c.in-Err-Full.field-0-is c.in-Err-Full.ensures.full c.in-Err-Full.ensures.returned
    (few_hosts {D = g.row.D.Denot} g.H.GcHeap.KIND (g.H.GcHeap.seen c.self.inside.heap) c.self.inside.hosts.entries (g.met.H.GcHeap.is_heap c.self.inside.heap c.self.invariant.sound) c.self.invariant.paired)

pub invariant_of-self-in-Ok-Ok : goal.invariant_of-self-in-Ok-Ok
invariant_of-self-in-Ok-Ok g c = stored_host {D = g.row.D.Denot} {was = g.H.GcHeap.sound c.self.inside.heap} {is = g.H.GcHeap.sound c.alloc_externref.new.self} g.H.GcHeap.KIND (g.H.GcHeap.seen c.self.inside.heap) (g.H.GcHeap.seen c.alloc_externref.new.self)
    c.self.inside.hosts.entries c.alloc.new.self.entries c.in-Ok.id c.args.value c.self.invariant c.alloc_externref.ensures.sound c.in-Ok.ensures.fresh c.in-Ok.ensures.added
    c.in-Ok-Ok.external (let bound = c.into_raw-bounded.ensures.bound in let value = c.into_raw-bounded.ensures.value in omega arith) (added g c)

pub take_back-requires : goal.take_back-requires
take_back-requires g c = value_in {D = g.row.D.Denot} {was = g.H.GcHeap.sound c.self.inside.heap} {is = g.H.GcHeap.sound c.alloc_externref.new.self} g.H.GcHeap.KIND (g.H.GcHeap.seen c.self.inside.heap) (g.H.GcHeap.seen c.alloc_externref.new.self)
    c.self.inside.hosts.entries c.alloc.new.self.entries c.in-Ok.id c.args.value c.self.invariant c.alloc_externref.ensures.sound c.in-Ok.ensures.fresh c.in-Ok.ensures.added

pub invariant_of-self-in-Ok-Err : goal.invariant_of-self-in-Ok-Err
invariant_of-self-in-Ok-Err g c = stored_back {D = g.row.D.Denot} {was = g.H.GcHeap.sound c.self.inside.heap} {is = g.H.GcHeap.sound c.alloc_externref.new.self} g.H.GcHeap.KIND (g.H.GcHeap.seen c.self.inside.heap) (g.H.GcHeap.seen c.alloc_externref.new.self)
    c.self.inside.hosts.entries c.alloc.new.self.entries c.in-Ok.id c.args.value c.self.invariant c.alloc_externref.ensures.sound c.in-Ok.ensures.fresh c.in-Ok.ensures.added
    c.take_back.new.hosts.entries c.take_back.ensures.removed (lacking g c).same

pub take_back-dropped-requires : goal.take_back-dropped-requires
take_back-dropped-requires g c = value_in {D = g.row.D.Denot} {was = g.H.GcHeap.sound c.self.inside.heap} {is = g.H.GcHeap.sound c.alloc_externref.new.self} g.H.GcHeap.KIND (g.H.GcHeap.seen c.self.inside.heap) (g.H.GcHeap.seen c.alloc_externref.new.self)
    c.self.inside.hosts.entries c.alloc.new.self.entries c.in-Ok.id c.args.value c.self.invariant c.alloc_externref.ensures.sound c.in-Ok.ensures.fresh c.in-Ok.ensures.added

pub invariant_of-self-in-Err : goal.invariant_of-self-in-Err
invariant_of-self-in-Err g c = stored_back {D = g.row.D.Denot} {was = g.H.GcHeap.sound c.self.inside.heap} {is = g.H.GcHeap.sound c.alloc_externref.new.self} g.H.GcHeap.KIND (g.H.GcHeap.seen c.self.inside.heap) (g.H.GcHeap.seen c.alloc_externref.new.self)
    c.self.inside.hosts.entries c.alloc.new.self.entries c.in-Ok.id c.args.value c.self.invariant c.alloc_externref.ensures.sound c.in-Ok.ensures.fresh c.in-Ok.ensures.added
    c.take_back-dropped.new.hosts.entries c.take_back-dropped.ensures.removed
    (fault_same g.H.GcHeap.KIND (g.H.GcHeap.seen c.self.inside.heap) (g.H.GcHeap.seen c.alloc_externref.new.self) (external c.in-Ok.id) (external_size g.H.GcHeap.KIND) c.in-Err.fault c.in-Err.ensures.allocated)

pub returns-in-Ok-Err : goal.returns-in-Ok-Err
returns-in-Ok-Err g c = (
  value_back {D = g.row.D.Denot} {was = g.H.GcHeap.sound c.self.inside.heap} {is = g.H.GcHeap.sound c.alloc_externref.new.self} g.H.GcHeap.KIND (g.H.GcHeap.seen c.self.inside.heap) (g.H.GcHeap.seen c.alloc_externref.new.self)
      c.self.inside.hosts.entries c.alloc.new.self.entries c.in-Ok.id c.args.value c.self.invariant c.alloc_externref.ensures.sound c.in-Ok.ensures.fresh c.in-Ok.ensures.added
      c.take_back.result c.take_back.ensures.value,
  (
    subst (λ (s : GcStoreView g.row.D.Denot). LacksRoom g.H.GcHeap.KIND s.heap (g.H.GcHeap.seen c.alloc_externref.new.self) c.in-Ok-Err.need (external_size g.H.GcHeap.KIND)) c.self.view_is (lacking g c),
    same_back {D = g.row.D.Denot} {was = g.H.GcHeap.sound c.self.inside.heap} {is = g.H.GcHeap.sound c.alloc_externref.new.self} g.H.GcHeap.KIND (g.H.GcHeap.seen c.self.inside.heap) (g.H.GcHeap.seen c.alloc_externref.new.self)
        c.self.inside.hosts.entries c.alloc.new.self.entries c.in-Ok.id c.args.value c.self.invariant c.alloc_externref.ensures.sound c.in-Ok.ensures.fresh c.in-Ok.ensures.added
        c.args.self.now c.take_back.new.hosts.entries c.self.view_is c.take_back.ensures.removed (lacking g c).same,
  ),
)

pub returns-in-Err : goal.returns-in-Err
returns-in-Err g c = host_refused {D = g.row.D.Denot} g.H.GcHeap.KIND c.args.value c.args.self.now (record { heap = g.H.GcHeap.seen c.alloc_externref.new.self; hosts = c.take_back-dropped.new.hosts.entries })
    (g.H.GcHeap.seen c.self.inside.heap) (g.H.GcHeap.seen c.alloc_externref.new.self) (external c.in-Ok.id) c.in-Err.fault c.in-Err.ensures.allocated
    (same_back {D = g.row.D.Denot} {was = g.H.GcHeap.sound c.self.inside.heap} {is = g.H.GcHeap.sound c.alloc_externref.new.self} g.H.GcHeap.KIND (g.H.GcHeap.seen c.self.inside.heap) (g.H.GcHeap.seen c.alloc_externref.new.self)
    c.self.inside.hosts.entries c.alloc.new.self.entries c.in-Ok.id c.args.value c.self.invariant c.alloc_externref.ensures.sound c.in-Ok.ensures.fresh c.in-Ok.ensures.added
    c.args.self.now c.take_back-dropped.new.hosts.entries c.self.view_is c.take_back-dropped.ensures.removed
    (fault_same g.H.GcHeap.KIND (g.H.GcHeap.seen c.self.inside.heap) (g.H.GcHeap.seen c.alloc_externref.new.self) (external c.in-Ok.id) (external_size g.H.GcHeap.KIND) c.in-Err.fault c.in-Err.ensures.allocated))
