use Rattle.std.proofs.Common.{ℕ, Err, Ok, Result, ap, subst, sym, ◌∙◌}
use Rattle.gc_types.specs.declared.kind.VMGcKind.TheVariants.{ArrayRef}
use Rattle.gc_heap.specs.Heap.{AddsObject, Allocated, array_size, new_array}
use Rattle.gc_heap.specs.Making.{made}
use Rattle.gc_heap.specs.Rules.{array_spare}
use Rattle.gc_heap.specs.declared.new_object.FirstWord.TheVariants as first
use Rattle.gc_heap.proofs.MakingLemmas.{allocated_as, made_array}
use Rattle.gc_heap.proofs.heap.GcHeap.alloc_uninit_array.Goals as goal

pub returns-in-Ok-Ok-clause-allocated : goal.returns-in-Ok-Ok-clause-allocated
returns-in-Ok-Ok-clause-allocated g c =
    let kind = g.Self.GcHeap.KIND in
    let old = g.Self.GcHeap.seen c.args.self.now in
    let new = g.Self.GcHeap.seen c.alloc_object.new.self in
    let layout = c.args.layout.now in
    let header = c.array_header-header in
    let size = c.array_bytes-size.ensures in
    let spare = header.ensures.spare ∙ ap (λ k. array_spare k layout.elems_are_gc_refs) c.KIND.ensures in
    let array = new_array kind c.args.ty c.args.length layout in
    let told = allocated_as kind old new (made kind ArrayRef header.result (first.Length c.args.length) c.array_bytes-size.result) array c.array_bytes-size.result (array_size layout c.args.length) (Ok c.in-Ok-Ok.field-0)
    (made_array kind header.result c.args.ty c.args.length c.array_bytes-size.result layout header.ensures.ty spare size) size (c.in-Ok-Ok.ensures.allocated ArrayRef header.ensures.kind) in
    subst (λ (q : ℕ). AddsObject kind old new q array (array_size layout c.args.length)) (sym c.new_unchecked.ensures)
    (subst (λ (r : Result ℕ ℕ). Allocated kind old new array (array_size layout c.args.length) (Ok r)) c.in-Ok-Ok.field-0-is told)

pub returns-in-Ok-Err-clause-allocated : goal.returns-in-Ok-Err-clause-allocated
returns-in-Ok-Err-clause-allocated g c =
    let kind = g.Self.GcHeap.KIND in
    let old = g.Self.GcHeap.seen c.args.self.now in
    let new = g.Self.GcHeap.seen c.alloc_object.new.self in
    let layout = c.args.layout.now in
    let header = c.array_header-header in
    let size = c.array_bytes-size.ensures in
    let spare = header.ensures.spare ∙ ap (λ k. array_spare k layout.elems_are_gc_refs) c.KIND.ensures in
    let array = new_array kind c.args.ty c.args.length layout in
    let told = allocated_as kind old new (made kind ArrayRef header.result (first.Length c.args.length) c.array_bytes-size.result) array c.array_bytes-size.result (array_size layout c.args.length) (Ok c.in-Ok-Err.field-0)
    (made_array kind header.result c.args.ty c.args.length c.array_bytes-size.result layout header.ensures.ty spare size) size (c.in-Ok-Err.ensures.allocated ArrayRef header.ensures.kind) in
    subst (λ (r : Result ℕ ℕ). Allocated kind old new array (array_size layout c.args.length) (Ok r)) c.in-Ok-Err.field-0-is told

pub returns-in-Err-clause-allocated : goal.returns-in-Err-clause-allocated
returns-in-Err-clause-allocated g c =
    let kind = g.Self.GcHeap.KIND in
    let old = g.Self.GcHeap.seen c.args.self.now in
    let new = g.Self.GcHeap.seen c.alloc_object.new.self in
    let layout = c.args.layout.now in
    let header = c.array_header-header in
    let size = c.array_bytes-size.ensures in
    let spare = header.ensures.spare ∙ ap (λ k. array_spare k layout.elems_are_gc_refs) c.KIND.ensures in
    let array = new_array kind c.args.ty c.args.length layout in
    let told = allocated_as kind old new (made kind ArrayRef header.result (first.Length c.args.length) c.array_bytes-size.result) array c.array_bytes-size.result (array_size layout c.args.length) (Err c.in-Err.fault)
    (made_array kind header.result c.args.ty c.args.length c.array_bytes-size.result layout header.ensures.ty spare size) size (c.in-Err.ensures.allocated ArrayRef header.ensures.kind) in
    told
