use Rattle.std.proofs.Common.{◌≡◌, length, Some, true, refl, ap, ◌∙◌}
use Rattle.std.specs.Prelude.{option_map}
use Rattle.gc_types.specs.declared.kind.VMGcKind.TheVariants as kinds
use Rattle.gc_types.specs.Declarations.{TypeName, struct_fields_at}
use Rattle.gc_model.specs.Policy.{policy_state}
use Rattle.gc_objects.specs.declared.marks.StructRef.{StructRef}
use Rattle.gc_objects.specs.Kinds.{is_type_of}
use Rattle.gc_objects.specs.Given.{are_own}
use Rattle.gc_objects.specs.Makes.{StructCauses, AsksStruct, are_given_own}
use Rattle.gc_objects.proofs.Naming.{both, found_true}
use Rattle.gc_objects.proofs.Pushing.{held_table}
use Rattle.gc_objects.proofs.MakeLemmas.{makes_no_value, makes_handed, asked_kind, refused_before}
use Rattle.gc_objects.proofs.StructMaking.{struct_may_be, struct_cause, struct_asked, struct_made_of}
use Rattle.gc_objects.proofs.TypeLemmas.{carries_type}
use Rattle.gc_objects.proofs.marks.StructRef.new.Given as given
use Rattle.gc_objects.proofs.marks.StructRef.new.Goals as goal
use Rattle.gc_objects.proofs.marks.StructRef.new.Goals.{After-check_values}

index_is : (g : given.Over) (c : After-check_values g) → c.index-index.result ≡ c.args.allocator.now.index
index_is g c = c.index-index.ensures ∙ ap (λ (n : TypeName). n.index) c.ty-ty.ensures

of_store : (g : given.Over) (c : After-check_values g) → is_type_of c.args.store.now c.args.allocator.now ≡ true
of_store g c =
    found_true
    (carries_type c.args.store.now c.args.allocator.now c.engine.result c.number.result c.carries_id.result (c.engine.ensures ∙ ap (λ (n : TypeName). n.engine) c.ty-ty.ensures) (c.number.ensures ∙ ap (λ (n : TypeName). n.number) c.ty-ty.ensures) c.carries_id.ensures)
    c.if-not-carries_id.false

own : (g : given.Over) (c : After-check_values g) → are_given_own c.args.store.now c.args.allocator.now c.args.fields.now ≡ true
own g c = both (is_type_of c.args.store.now c.args.allocator.now) (are_own c.args.store.now c.args.fields.now) (of_store g c) (found_true c.are_own.ensures c.if-not-are_own.false)

counted : (g : given.Over) (c : After-check_values g) → option_map length (struct_fields_at c.args.store.now.types c.index-index.result) ≡ Some (length c.args.fields.now)
counted g c = c.has_field_count.ensures.0 c.if-not-has_field_count.false

pub make_of-made-requires : goal.make_of-made-requires
make_of-made-requires g c =
    let at = (goal.at.make_of-made-requires g c).After-check_values in
    struct_may_be g.H.GcHeap.KIND c.args.store.now c.index-index.result c.args.allocator.now (index_is g at) c.args.fields.now (own g at) (of_store g at) c.requires (counted g at) c.in-Ok.ensures.stores

pub handed-requires : goal.handed-requires
handed-requires g c =
    let at = (goal.at.handed-requires g c).After-check_values in
    let t = c.stores_hold_tables.ensures.0 in
    let a = c.stores_hold_tables.ensures.1.0 in
    let holds = c.stores_hold_tables.ensures.1.1 in
    let table = held_table g.H.GcHeap.KIND c.args.store.now t a holds in
    let checks = c.in-Ok.ensures.checks t table in
    asked_kind g.H.GcHeap.KIND c.args.store.now.alloc_counter c.args.store.now c.make_of-made.new.store t a (g.L.ResourceLimiter.limits c.args.limiter.now) (g.L.ResourceLimiter.limits c.make_of-made.new.limiter) holds _ kinds.StructRef refl c.make_of-made.result
    (c.make_of-made.ensures.makes t a _ holds (struct_made_of g.H.GcHeap.KIND c.args.store.now c.index-index.result c.args.allocator.now (index_is g at) c.args.fields.now (own g at) (of_store g at) c.requires (counted g at) t table checks))

pub returns-in-Ok-clause-makes : goal.returns-in-Ok-clause-makes
returns-in-Ok-clause-makes g c t a holds =
    let at = (goal.at.returns-in-Ok-clause-makes g c).After-check_values in
    let table = held_table g.H.GcHeap.KIND c.args.store.now t a holds in
    let checks = c.in-Ok.ensures.checks t table in
    makes_handed (StructCauses c.args.store.now t c.args.allocator.now c.args.fields.now) (AsksStruct c.args.store.now t c.args.allocator.now c.args.fields.now) g.H.GcHeap.KIND c.args.store.now.alloc_counter c.args.store.now c.make_of-made.new.store t a (g.L.ResourceLimiter.limits c.args.limiter.now) (g.L.ResourceLimiter.limits c.make_of-made.new.limiter) holds
    _ (struct_asked g.H.GcHeap.KIND c.args.store.now c.index-index.result c.args.allocator.now (index_is g at) c.args.fields.now (own g at) (of_store g at) c.requires (counted g at) t table checks) c.handed.result c.make_of-made.result c.handed.ensures.answer
    (c.make_of-made.ensures.makes t a _ holds (struct_made_of g.H.GcHeap.KIND c.args.store.now c.index-index.result c.args.allocator.now (index_is g at) c.args.fields.now (own g at) (of_store g at) c.requires (counted g at) t table checks))

pub returns-in-Err-clause-makes : goal.returns-in-Err-clause-makes
returns-in-Err-clause-makes g c t a holds =
    let at = (goal.at.returns-in-Err-clause-makes g c).After-check_values in
    let table = held_table g.H.GcHeap.KIND c.args.store.now t a holds in
    makes_no_value StructRef (StructCauses c.args.store.now t c.args.allocator.now c.args.fields.now) (AsksStruct c.args.store.now t c.args.allocator.now c.args.fields.now) g.H.GcHeap.KIND c.args.store.now.alloc_counter (policy_state t a (g.L.ResourceLimiter.limits c.args.limiter.now)) (g.L.ResourceLimiter.limits c.args.limiter.now) c.args.store.now
    c.in-Err.why c.allocated_value.result c.allocated_value.ensures (struct_cause g.H.GcHeap.KIND c.args.store.now c.index-index.result c.args.allocator.now (index_is g at) c.args.fields.now (own g at) (of_store g at) c.requires (counted g at) t table c.in-Err.why (c.in-Err.ensures.checks t table))
    (refused_before g.H.GcHeap.KIND c.args.store.now t a (g.L.ResourceLimiter.limits c.args.limiter.now) holds)
