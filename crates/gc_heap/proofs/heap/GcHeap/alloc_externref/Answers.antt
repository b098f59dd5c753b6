use Rattle.std.proofs.Common.{ℕ, Err, Ok, Result, ap, refl, subst, sym, ◌∙◌}
use Rattle.gc_types.specs.declared.kind.VMGcKind.TheVariants.{ExternRef}
use Rattle.gc_memory.specs.Offsets.{external_size}
use Rattle.gc_heap.specs.Heap.{AddsObject, Allocated}
use Rattle.gc_heap.specs.Objects.{external}
use Rattle.gc_heap.proofs.MakingLemmas.{allocated_as, external_kind}
use Rattle.gc_heap.proofs.heap.GcHeap.alloc_externref.Goals as goal

pub returns-in-Ok-Ok-clause-allocated : goal.returns-in-Ok-Ok-clause-allocated
returns-in-Ok-Ok-clause-allocated g c =
    let kind = g.Self.GcHeap.KIND in
    let old = g.Self.GcHeap.seen c.args.self.now in
    let new = g.Self.GcHeap.seen c.alloc_object.new.self in
    let size = c.from-size.ensures ∙ c.external_size.ensures ∙ ap external_size c.KIND.ensures in
    let told = allocated_as kind old new (external c.args.host_data) (external c.args.host_data) c.from-size.result (external_size kind) (Ok c.in-Ok-Ok.field-0) refl size
    (c.in-Ok-Ok.ensures.allocated ExternRef (external_kind c.externref.result c.externref.ensures)) in
    subst (λ (q : ℕ). AddsObject kind old new q (external c.args.host_data) (external_size kind)) (sym c.new_unchecked.ensures)
    (subst (λ (r : Result ℕ ℕ). Allocated kind old new (external c.args.host_data) (external_size kind) (Ok r)) c.in-Ok-Ok.field-0-is told)

pub returns-in-Ok-Err-clause-allocated : goal.returns-in-Ok-Err-clause-allocated
returns-in-Ok-Err-clause-allocated g c =
    let kind = g.Self.GcHeap.KIND in
    let old = g.Self.GcHeap.seen c.args.self.now in
    let new = g.Self.GcHeap.seen c.alloc_object.new.self in
    let size = c.from-size.ensures ∙ c.external_size.ensures ∙ ap external_size c.KIND.ensures in
    let told = allocated_as kind old new (external c.args.host_data) (external c.args.host_data) c.from-size.result (external_size kind) (Ok c.in-Ok-Err.field-0) refl size
    (c.in-Ok-Err.ensures.allocated ExternRef (external_kind c.externref.result c.externref.ensures)) in
    subst (λ (r : Result ℕ ℕ). Allocated kind old new (external c.args.host_data) (external_size kind) (Ok r)) c.in-Ok-Err.field-0-is told

pub returns-in-Err-clause-allocated : goal.returns-in-Err-clause-allocated
returns-in-Err-clause-allocated g c =
    let kind = g.Self.GcHeap.KIND in
    let old = g.Self.GcHeap.seen c.args.self.now in
    let new = g.Self.GcHeap.seen c.alloc_object.new.self in
    let size = c.from-size.ensures ∙ c.external_size.ensures ∙ ap external_size c.KIND.ensures in
    let told = allocated_as kind old new (external c.args.host_data) (external c.args.host_data) c.from-size.result (external_size kind) (Err c.in-Err.fault) refl size
    (c.in-Err.ensures.allocated ExternRef (external_kind c.externref.result c.externref.ensures)) in
    told
