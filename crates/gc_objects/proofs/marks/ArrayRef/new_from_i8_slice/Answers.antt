use Rattle.std.proofs.Common.{ap, sym, ◌∙◌}
use Rattle.gc_types.specs.Declarations.{TypeName}
use Rattle.gc_objects.specs.declared.marks.ArrayRef.{ArrayRef}
use Rattle.gc_objects.proofs.ArrayMaking.{has_elements, bytes_may_be, bytes_refused, bytes_make, bytes_kind}
use Rattle.gc_objects.proofs.TypeLemmas.{name_own}
use Rattle.gc_objects.proofs.marks.ArrayRef.new_from_i8_slice.Goals as goal

pub element_of-requires : goal.element_of-requires
element_of-requires g c =
    has_elements c.args.store.now c.index-index.result c.args.allocator.now (c.index-index.ensures ∙ ap (λ (n : TypeName). n.index) c.ty-ty.ensures)
    (name_own c.args.store.now c.args.allocator.now c.ty-ty.result c.ty-ty.ensures c.engine.result c.number.result c.carries_id.result c.engine.ensures c.number.ensures c.carries_id.ensures c.if-not-carries_id.false) c.requires

pub returns-then-not-is_i8-clause-makes : goal.returns-then-not-is_i8-clause-makes
returns-then-not-is_i8-clause-makes g c t a holds =
    bytes_refused ArrayRef g.H.GcHeap.KIND c.args.store.now.alloc_counter c.args.store.now t a (g.L.ResourceLimiter.limits c.args.limiter.now) holds c.index-index.result c.args.allocator.now (c.index-index.ensures ∙ ap (λ (n : TypeName). n.index) c.ty-ty.ensures) c.element_of.result c.element_of.ensures
    (name_own c.args.store.now c.args.allocator.now c.ty-ty.result c.ty-ty.ensures c.engine.result c.number.result c.carries_id.result c.engine.ensures c.number.ensures c.carries_id.ensures c.if-not-carries_id.false)
    c.args.elems.now (λ of_bytes. cc (sym (c.is_i8.ensures.1 of_bytes) ∙ c.if-not-is_i8.true))

pub make_bytes-made-requires : goal.make_bytes-made-requires
make_bytes-made-requires g c = bytes_may_be g.row.D.Denot g.H.GcHeap.KIND c.args.store.now c.index-index.result c.element_of.result c.element_of.ensures (c.is_i8.ensures.0 c.if-not-is_i8.false) c.args.elems.now

pub returns-clause-makes : goal.returns-clause-makes
returns-clause-makes g c t a holds =
    bytes_make ArrayRef g.H.GcHeap.KIND c.args.store.now.alloc_counter c.args.store.now t a (g.L.ResourceLimiter.limits c.args.limiter.now) holds c.index-index.result c.args.allocator.now (c.index-index.ensures ∙ ap (λ (n : TypeName). n.index) c.ty-ty.ensures) c.element_of.result c.element_of.ensures
    (name_own c.args.store.now c.args.allocator.now c.ty-ty.result c.ty-ty.ensures c.engine.result c.number.result c.carries_id.result c.engine.ensures c.number.ensures c.carries_id.ensures c.if-not-carries_id.false)
    c.args.elems.now (c.is_i8.ensures.0 c.if-not-is_i8.false) (g.L.ResourceLimiter.limits c.make_bytes-made.new.limiter) c.make_bytes-made.new.store c.make_bytes-made.result (c.make_bytes-made.ensures.makes t a holds) c.handed.result c.handed.ensures.answer

pub handed-requires : goal.handed-requires
handed-requires g c =
    let t = c.stores_hold_tables.ensures.0 in
    let a = c.stores_hold_tables.ensures.1.0 in
    let holds = c.stores_hold_tables.ensures.1.1 in
    bytes_kind ArrayRef g.H.GcHeap.KIND c.args.store.now.alloc_counter c.args.store.now t a (g.L.ResourceLimiter.limits c.args.limiter.now) holds c.index-index.result c.args.allocator.now (c.index-index.ensures ∙ ap (λ (n : TypeName). n.index) c.ty-ty.ensures) c.element_of.result c.element_of.ensures
    (name_own c.args.store.now c.args.allocator.now c.ty-ty.result c.ty-ty.ensures c.engine.result c.number.result c.carries_id.result c.engine.ensures c.number.ensures c.carries_id.ensures c.if-not-carries_id.false)
    c.args.elems.now (c.is_i8.ensures.0 c.if-not-is_i8.false) (g.L.ResourceLimiter.limits c.make_bytes-made.new.limiter) c.make_bytes-made.new.store c.make_bytes-made.result (c.make_bytes-made.ensures.makes t a holds)
