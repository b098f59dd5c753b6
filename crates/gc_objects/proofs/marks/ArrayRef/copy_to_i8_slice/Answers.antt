use Rattle.std.proofs.Common.{length, sym, ◌∙◌}
use Rattle.gc_objects.specs.Answered.{IsNamedArray}
use Rattle.gc_objects.proofs.TypeLemmas.{array_declared}
use Rattle.gc_objects.proofs.ArrayLemmas.{array_told, element_here}
use Rattle.gc_objects.proofs.Copying.{copies_no_root, copies_no_bytes, copies_no_room, copies_all}
use Rattle.gc_objects.proofs.marks.ArrayRef.copy_to_i8_slice.Goals as goal

pub returns-in-Err-clause-copies : goal.returns-in-Err-clause-copies
returns-in-Err-clause-copies g c t holds =
    copies_no_root c.args.store.now t c.root_index-root.result (g.R.RootedGcRef.index c.args.this.now) c.root_index-root.ensures (length c.args.dst.now) c.args.dst.now
    (IsNamedArray t) c.array_at.result c.in-Err.fault c.accessed.result c.in-Err.is c.accessed.ensures (c.array_at.ensures.answers t holds)

pub element_of-requires : goal.element_of-requires
element_of-requires g c = (array_declared g.H.GcHeap.KIND c.args.store.now c.root_index-root.result c.in-Ok.array.ty c.in-Ok.array.len c.in-Ok.ensures.found).1

pub returns-then-not-is_i8-clause-copies : goal.returns-then-not-is_i8-clause-copies
returns-then-not-is_i8-clause-copies g c t holds =
    copies_no_bytes c.args.store.now t c.root_index-root.result (g.R.RootedGcRef.index c.args.this.now) c.root_index-root.ensures (length c.args.dst.now) c.args.dst.now c.in-Ok.array
    (array_told c.args.store.now t c.root_index-root.result c.in-Ok.array c.array_at.result c.in-Ok.is (c.array_at.ensures.answers t holds)) c.element_of.result
    (element_here g.H.GcHeap.KIND c.args.store.now t holds c.in-Ok.array.ty c.element_of.result c.element_of.ensures)
    (λ of_bytes. cc (sym (c.is_i8.ensures.1 of_bytes) ∙ c.if-not-is_i8.true))

pub returns-then-array-dst-clause-copies : goal.returns-then-array-dst-clause-copies
returns-then-array-dst-clause-copies g c t holds =
    copies_no_room c.args.store.now t c.root_index-root.result (g.R.RootedGcRef.index c.args.this.now) c.root_index-root.ensures (length c.args.dst.now) c.args.dst.now c.in-Ok.array
    (array_told c.args.store.now t c.root_index-root.result c.in-Ok.array c.array_at.result c.in-Ok.is (c.array_at.ensures.answers t holds)) c.element_of.result
    (element_here g.H.GcHeap.KIND c.args.store.now t holds c.in-Ok.array.ty c.element_of.result c.element_of.ensures)
    (c.is_i8.ensures.0 c.if-not-is_i8.false) c.if-array-dst.true

pub returns-clause-copies : goal.returns-clause-copies
returns-clause-copies g c t holds =
    copies_all c.args.store.now t c.root_index-root.result (g.R.RootedGcRef.index c.args.this.now) c.root_index-root.ensures (length c.args.dst.now) c.copy_bytes.new.dst c.in-Ok.array
    (array_told c.args.store.now t c.root_index-root.result c.in-Ok.array c.array_at.result c.in-Ok.is (c.array_at.ensures.answers t holds)) c.element_of.result
    (element_here g.H.GcHeap.KIND c.args.store.now t holds c.in-Ok.array.ty c.element_of.result c.element_of.ensures)
    (c.is_i8.ensures.0 c.if-not-is_i8.false) c.if-array-dst.false (c.copy_bytes.ensures t holds)
