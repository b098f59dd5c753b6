use Rattle.std.proofs.Common.{ap, ◌∙◌}
use Rattle.gc_types.specs.Declarations.{TypeName}
use Rattle.gc_objects.specs.declared.marks.ArrayRef.{ArrayRef}
use Rattle.gc_objects.specs.Kinds.{is_type_of}
use Rattle.gc_objects.specs.Given.{is_own_of}
use Rattle.gc_objects.proofs.Naming.{both, found_true}
use Rattle.gc_objects.proofs.Pushing.{held_table}
use Rattle.gc_objects.proofs.ArrayMaking.{has_elements, filling_may_be, filling_refused, filling_makes, filling_kind}
use Rattle.gc_objects.proofs.TypeLemmas.{name_own}
use Rattle.gc_objects.proofs.marks.ArrayRef.new.Goals as goal

pub element_of-requires : goal.element_of-requires
element_of-requires g c =
    has_elements c.args.store.now c.index-index.result c.args.allocator.now (c.index-index.ensures ∙ ap (λ (n : TypeName). n.index) c.ty-ty.ensures)
    (name_own c.args.store.now c.args.allocator.now c.ty-ty.result c.ty-ty.ensures c.engine.result c.number.result c.carries_id.result c.engine.ensures c.number.ensures c.carries_id.ensures c.if-not-carries_id.false) c.requires

pub make-made-requires : goal.make-made-requires
make-made-requires g c =
    filling_may_be g.row.D.Denot g.H.GcHeap.KIND c.args.store.now c.index-index.result c.element_of.result c.element_of.ensures c.args.elem.now c.args.len c.raw_of.result c.raw_of.ensures c.in-Ok.ensures.stores

pub returns-in-Ok-clause-makes : goal.returns-in-Ok-clause-makes
returns-in-Ok-clause-makes g c t a holds =
    filling_makes ArrayRef g.H.GcHeap.KIND c.args.store.now.alloc_counter c.args.store.now t a (g.L.ResourceLimiter.limits c.args.limiter.now) holds c.index-index.result c.args.allocator.now (c.index-index.ensures ∙ ap (λ (n : TypeName). n.index) c.ty-ty.ensures) c.element_of.result c.element_of.ensures c.args.elem.now c.args.len
    (both (is_type_of c.args.store.now c.args.allocator.now) (is_own_of c.args.store.now c.args.elem.now c.args.len) (name_own c.args.store.now c.args.allocator.now c.ty-ty.result c.ty-ty.ensures c.engine.result c.number.result c.carries_id.result c.engine.ensures c.number.ensures c.carries_id.ensures c.if-not-carries_id.false) (found_true c.is_own_of.ensures c.if-not-is_own_of.false))
    (g.L.ResourceLimiter.limits c.make-made.new.limiter) c.make-made.new.store c.make-made.result c.raw_of.result c.raw_of.ensures (c.in-Ok.ensures.checks t (held_table g.H.GcHeap.KIND c.args.store.now t a holds)) (λ o is. c.make-made.ensures.makes t a o holds is) c.handed.result c.handed.ensures.answer

pub handed-requires : goal.handed-requires
handed-requires g c =
    let t = c.stores_hold_tables.ensures.0 in
    let a = c.stores_hold_tables.ensures.1.0 in
    let holds = c.stores_hold_tables.ensures.1.1 in
    filling_kind ArrayRef g.H.GcHeap.KIND c.args.store.now.alloc_counter c.args.store.now t a (g.L.ResourceLimiter.limits c.args.limiter.now) holds c.index-index.result c.args.allocator.now (c.index-index.ensures ∙ ap (λ (n : TypeName). n.index) c.ty-ty.ensures) c.element_of.result c.element_of.ensures c.args.elem.now c.args.len
    (both (is_type_of c.args.store.now c.args.allocator.now) (is_own_of c.args.store.now c.args.elem.now c.args.len) (name_own c.args.store.now c.args.allocator.now c.ty-ty.result c.ty-ty.ensures c.engine.result c.number.result c.carries_id.result c.engine.ensures c.number.ensures c.carries_id.ensures c.if-not-carries_id.false) (found_true c.is_own_of.ensures c.if-not-is_own_of.false))
    (g.L.ResourceLimiter.limits c.make-made.new.limiter) c.make-made.new.store c.make-made.result c.raw_of.result c.raw_of.ensures (c.in-Ok.ensures.checks t (held_table g.H.GcHeap.KIND c.args.store.now t a holds)) (λ o is. c.make-made.ensures.makes t a o holds is)

pub returns-in-Err-clause-makes : goal.returns-in-Err-clause-makes
returns-in-Err-clause-makes g c t a holds =
    filling_refused ArrayRef g.H.GcHeap.KIND c.args.store.now.alloc_counter c.args.store.now t a (g.L.ResourceLimiter.limits c.args.limiter.now) holds c.index-index.result c.args.allocator.now (c.index-index.ensures ∙ ap (λ (n : TypeName). n.index) c.ty-ty.ensures) c.element_of.result c.element_of.ensures c.args.elem.now c.args.len
    (both (is_type_of c.args.store.now c.args.allocator.now) (is_own_of c.args.store.now c.args.elem.now c.args.len) (name_own c.args.store.now c.args.allocator.now c.ty-ty.result c.ty-ty.ensures c.engine.result c.number.result c.carries_id.result c.engine.ensures c.number.ensures c.carries_id.ensures c.if-not-carries_id.false) (found_true c.is_own_of.ensures c.if-not-is_own_of.false))
    c.in-Err.why c.allocated_value.result c.allocated_value.ensures (c.in-Err.ensures.checks t (held_table g.H.GcHeap.KIND c.args.store.now t a holds))
