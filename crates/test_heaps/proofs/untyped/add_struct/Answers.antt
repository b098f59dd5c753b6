use Rattle.gc_types.specs.declared.kind.VMGcKind.TheVariants.{StructRef}
use Rattle.gc_refs.specs.Header.{spare_bits}
use Rattle.std.proofs.Common.{◌∙◌, ◌++◌, ◌%◌, false, ap, [], ◌∷◌}
use Rattle.gc_roots.specs.Roots.{root}
use Rattle.gc_heap.specs.Objects.{zeroed}
use Rattle.gc_heap.specs.Heap.{AddsObject}
use Rattle.gc_heap.specs.Collection.{has_host}
use Rattle.test_heaps.proofs.UntypedLemmas.{struct_added}
use Rattle.test_heaps.proofs.untyped.add_struct.Goals as goal

pub returns-in-Ok-clause-can : goal.returns-in-Ok-clause-can
returns-in-Ok-clause-can g c =
    let L = g.H.GcHeap.KIND in
    let header = c.header_with-header.result in
    let old = g.H.GcHeap.seen c.args.heap.now in
    let new = g.H.GcHeap.seen c.alloc_raw.new.self in
    let spare = header.kind_word % spare_bits in
    let added : AddsObject L old new c.in-Ok.object (zeroed L StructRef header.type_word spare c.args.size) c.args.size = rw c.in-Ok.is at (c.in_ok-object.ensures.allocated StructRef c.header_with-header.ensures.kind) in
    struct_added L c.args.around.now.types.declarations old new c.args.around.now.roots.roots c.add_vmgcref_root.new.self.roots (has_host c.args.around.now.hosts.entries)
    c.in-Ok.object header.type_word spare c.args.bitmap c.args.size
    c.requires.copying (g.met.H.GcHeap.is_heap c.args.heap.now c.requires.sound) added c.header_with-header.ensures.spare c.requires.bits
    (c.add_vmgcref_root.ensures.roots ∙ ap (λ rs. rs ++ root 0 false c.in-Ok.object ∷ []) c.in_ok-reserve.ensures.roots) c.requires.can
