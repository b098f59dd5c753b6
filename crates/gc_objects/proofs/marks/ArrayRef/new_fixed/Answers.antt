use Rattle.std.proofs.Common.{ap, ◌∙◌}
use Rattle.gc_types.specs.Declarations.{TypeName}
use Rattle.gc_objects.specs.declared.marks.ArrayRef.{ArrayRef}
use Rattle.gc_objects.specs.Kinds.{is_type_of}
use Rattle.gc_objects.specs.Given.{are_own}
use Rattle.gc_objects.proofs.Naming.{both, found_true}
use Rattle.gc_objects.proofs.Pushing.{held_table}
use Rattle.gc_objects.proofs.ArrayMaking.{has_element, elements_may_be, elements_refused, elements_make, elements_kind}
use Rattle.gc_objects.proofs.TypeLemmas.{name_own}
use Rattle.gc_objects.proofs.marks.ArrayRef.new_fixed.Goals as goal

pub make_elements-made-requires : goal.make_elements-made-requires
make_elements-made-requires g c =
    let element = has_element c.args.store.now c.index-index.result c.args.allocator.now (c.index-index.ensures ∙ ap (λ (n : TypeName). n.index) c.ty-ty.ensures)
    (name_own c.args.store.now c.args.allocator.now c.ty-ty.result c.ty-ty.ensures c.engine.result c.number.result c.carries_id.result c.engine.ensures c.number.ensures c.carries_id.ensures c.if-not-carries_id.false) c.requires in
    elements_may_be g.row.D.Denot g.H.GcHeap.KIND c.args.store.now c.index-index.result element.0 element.1 c.args.elems.now c.in-Ok.ensures.stores

pub returns-in-Ok-clause-makes : goal.returns-in-Ok-clause-makes
returns-in-Ok-clause-makes g c t a holds =
    let element = has_element c.args.store.now c.index-index.result c.args.allocator.now (c.index-index.ensures ∙ ap (λ (n : TypeName). n.index) c.ty-ty.ensures)
    (name_own c.args.store.now c.args.allocator.now c.ty-ty.result c.ty-ty.ensures c.engine.result c.number.result c.carries_id.result c.engine.ensures c.number.ensures c.carries_id.ensures c.if-not-carries_id.false) c.requires in
    elements_make ArrayRef g.H.GcHeap.KIND c.args.store.now.alloc_counter c.args.store.now t a (g.L.ResourceLimiter.limits c.args.limiter.now) holds c.index-index.result c.args.allocator.now (c.index-index.ensures ∙ ap (λ (n : TypeName). n.index) c.ty-ty.ensures) element.0 element.1 c.args.elems.now
    (both (is_type_of c.args.store.now c.args.allocator.now) (are_own c.args.store.now c.args.elems.now) (name_own c.args.store.now c.args.allocator.now c.ty-ty.result c.ty-ty.ensures c.engine.result c.number.result c.carries_id.result c.engine.ensures c.number.ensures c.carries_id.ensures c.if-not-carries_id.false) (found_true c.are_own.ensures c.if-not-are_own.false))
    (g.L.ResourceLimiter.limits c.make_elements-made.new.limiter) c.make_elements-made.new.store c.make_elements-made.result (c.in-Ok.ensures.checks t (held_table g.H.GcHeap.KIND c.args.store.now t a holds)) (λ o is. c.make_elements-made.ensures.makes t a o holds is) c.handed.result c.handed.ensures.answer

pub handed-requires : goal.handed-requires
handed-requires g c =
    let element = has_element c.args.store.now c.index-index.result c.args.allocator.now (c.index-index.ensures ∙ ap (λ (n : TypeName). n.index) c.ty-ty.ensures)
    (name_own c.args.store.now c.args.allocator.now c.ty-ty.result c.ty-ty.ensures c.engine.result c.number.result c.carries_id.result c.engine.ensures c.number.ensures c.carries_id.ensures c.if-not-carries_id.false) c.requires in
    let t = c.stores_hold_tables.ensures.0 in
    let a = c.stores_hold_tables.ensures.1.0 in
    let holds = c.stores_hold_tables.ensures.1.1 in
    elements_kind ArrayRef g.H.GcHeap.KIND c.args.store.now.alloc_counter c.args.store.now t a (g.L.ResourceLimiter.limits c.args.limiter.now) holds c.index-index.result c.args.allocator.now (c.index-index.ensures ∙ ap (λ (n : TypeName). n.index) c.ty-ty.ensures) element.0 element.1 c.args.elems.now
    (both (is_type_of c.args.store.now c.args.allocator.now) (are_own c.args.store.now c.args.elems.now) (name_own c.args.store.now c.args.allocator.now c.ty-ty.result c.ty-ty.ensures c.engine.result c.number.result c.carries_id.result c.engine.ensures c.number.ensures c.carries_id.ensures c.if-not-carries_id.false) (found_true c.are_own.ensures c.if-not-are_own.false))
    (g.L.ResourceLimiter.limits c.make_elements-made.new.limiter) c.make_elements-made.new.store c.make_elements-made.result (c.in-Ok.ensures.checks t (held_table g.H.GcHeap.KIND c.args.store.now t a holds)) (λ o is. c.make_elements-made.ensures.makes t a o holds is)

pub returns-in-Err-clause-makes : goal.returns-in-Err-clause-makes
returns-in-Err-clause-makes g c t a holds =
    let element = has_element c.args.store.now c.index-index.result c.args.allocator.now (c.index-index.ensures ∙ ap (λ (n : TypeName). n.index) c.ty-ty.ensures)
    (name_own c.args.store.now c.args.allocator.now c.ty-ty.result c.ty-ty.ensures c.engine.result c.number.result c.carries_id.result c.engine.ensures c.number.ensures c.carries_id.ensures c.if-not-carries_id.false) c.requires in
    elements_refused ArrayRef g.H.GcHeap.KIND c.args.store.now.alloc_counter c.args.store.now t a (g.L.ResourceLimiter.limits c.args.limiter.now) holds c.index-index.result c.args.allocator.now (c.index-index.ensures ∙ ap (λ (n : TypeName). n.index) c.ty-ty.ensures) element.0 element.1 c.args.elems.now
    (both (is_type_of c.args.store.now c.args.allocator.now) (are_own c.args.store.now c.args.elems.now) (name_own c.args.store.now c.args.allocator.now c.ty-ty.result c.ty-ty.ensures c.engine.result c.number.result c.carries_id.result c.engine.ensures c.number.ensures c.carries_id.ensures c.if-not-carries_id.false) (found_true c.are_own.ensures c.if-not-are_own.false))
    c.in-Err.why c.allocated_value.result c.allocated_value.ensures (c.in-Err.ensures.checks t (held_table g.H.GcHeap.KIND c.args.store.now t a holds))
