use Rattle.std.proofs.Common.{refl, subst, ℕ}
use Rattle.gc_values.specs.declared.root.GcRootIndex.{GcRootIndex}
use Rattle.gc_objects.specs.Answered.{HasField}
use Rattle.gc_objects.specs.Reads.{IsOutside}
use Rattle.gc_objects.specs.Writes.{WritesAs}
use Rattle.gc_objects.proofs.Pushing.{held_table}
use Rattle.gc_objects.proofs.StructLemmas.{no_field, typed_field, typed_found}
use Rattle.gc_objects.proofs.SetLemmas.{root_own, value_own, is_constant, is_mutable, has_type, may_write, sets_no_root, sets_outside, sets_constant, sets_no_value, sets_by_store}
use Rattle.gc_objects.proofs.marks.StructRef.set_field.Goals as goal

pub returns-in-Err-clause-sets : goal.returns-in-Err-clause-sets
returns-in-Err-clause-sets g c t a holds =
    sets_no_root g.H.GcHeap.KIND c.args.store.now c.args.store.now t a c.root_index-root.result (g.R.RootedGcRef.index c.args.this.now) c.root_index-root.ensures c.args.index c.args.value (λ (h : GcRootIndex). IsOutside c.args.store.now t h c.args.index)
    (root_own c.args.store.now c.root_index-root.result c.is_of_store.result c.is_of_store.ensures c.if-not-is_of_store.false) (value_own c.args.store.now c.args.value c.is_own.result c.is_own.ensures c.if-not-is_own.false)
    (HasField t c.args.index) c.field_at.result c.in-Err.fault c.accessed.result c.in-Err.is c.accessed.ensures (c.field_at.ensures.answers t (held_table g.H.GcHeap.KIND c.args.store.now t a holds))

pub returns-in-None-clause-sets : goal.returns-in-None-clause-sets
returns-in-None-clause-sets g c t a holds =
    sets_outside g.H.GcHeap.KIND c.args.store.now c.args.store.now t a c.root_index-root.result (g.R.RootedGcRef.index c.args.this.now) c.root_index-root.ensures c.args.index c.args.value (λ (h : GcRootIndex). IsOutside c.args.store.now t h c.args.index)
    (root_own c.args.store.now c.root_index-root.result c.is_of_store.result c.is_of_store.ensures c.if-not-is_of_store.false) (value_own c.args.store.now c.args.value c.is_own.result c.is_own.ensures c.if-not-is_own.false)
    (no_field g.H.GcHeap.KIND c.args.store.now c.root_index-root.result c.root_index-root.result refl c.args.index t c.field_at.result (c.field_at.ensures.answers t (held_table g.H.GcHeap.KIND c.args.store.now t a holds)) c.in-Ok.found c.in-Ok.is c.in-None.is)

pub returns-then-not-is_var-clause-sets : goal.returns-then-not-is_var-clause-sets
returns-then-not-is_var-clause-sets g c t a holds =
    let typed = typed_field g.H.GcHeap.KIND c.args.store.now c.root_index-root.result c.root_index-root.result refl c.args.index t c.field_at.result (c.field_at.ensures.answers t (held_table g.H.GcHeap.KIND c.args.store.now t a holds)) c.in-Ok.found c.in-Some.named c.in-Ok.is c.in-Some.is in
    sets_constant g.H.GcHeap.KIND c.args.store.now c.args.store.now t a c.root_index-root.result (g.R.RootedGcRef.index c.args.this.now) c.root_index-root.ensures c.args.index c.args.value (λ (h : GcRootIndex). IsOutside c.args.store.now t h c.args.index)
    (root_own c.args.store.now c.root_index-root.result c.is_of_store.result c.is_of_store.ensures c.if-not-is_of_store.false) (value_own c.args.store.now c.args.value c.is_own.result c.is_own.ensures c.if-not-is_own.false)
    c.in-Some.named.field (has_type c.args.store.now t c.root_index-root.result c.args.index c.in-Some.named.field typed.1)
    (is_constant c.in-Some.named.field.mutability c.is_var.result c.if-not-is_var.true c.is_var.ensures)

pub write-requires : goal.write-requires
write-requires g c =
    may_write g.row.D.Denot g.H.GcHeap.KIND c.args.store.now c.root_index-root.result c.in-Some.named.index c.in-Some.named.field c.args.value
    (typed_found g.row.D.Denot g.H.GcHeap.KIND c.args.store.now c.root_index-root.result c.in-Ok.found c.in-Some.named c.in-Some.is c.in-Ok.ensures.typed) c.in-Ok-check_value.ensures.stores
    (is_mutable c.in-Some.named.field.mutability c.is_var.result c.if-not-is_var.false c.is_var.ensures)

pub returns-in-Ok-check_value-clause-sets : goal.returns-in-Ok-check_value-clause-sets
returns-in-Ok-check_value-clause-sets g c t a holds =
    let typed = typed_field g.H.GcHeap.KIND c.args.store.now c.root_index-root.result c.root_index-root.result refl c.args.index t c.field_at.result (c.field_at.ensures.answers t (held_table g.H.GcHeap.KIND c.args.store.now t a holds)) c.in-Ok.found c.in-Some.named c.in-Ok.is c.in-Some.is in
    let goes = c.in-Ok-check_value.ensures.checks t (held_table g.H.GcHeap.KIND c.args.store.now t a holds) in
    sets_by_store g.H.GcHeap.KIND c.args.store.now c.write.new.store t a c.root_index-root.result (g.R.RootedGcRef.index c.args.this.now) c.root_index-root.ensures c.args.index c.args.value (λ (h : GcRootIndex). IsOutside c.args.store.now t h c.args.index)
    (root_own c.args.store.now c.root_index-root.result c.is_of_store.result c.is_of_store.ensures c.if-not-is_of_store.false) (value_own c.args.store.now c.args.value c.is_own.result c.is_own.ensures c.if-not-is_own.false)
    c.in-Some.named.field typed.1 (is_mutable c.in-Some.named.field.mutability c.is_var.result c.if-not-is_var.false c.is_var.ensures) goes.0 goes.1
    c.write.result (subst (λ (n : ℕ). WritesAs g.H.GcHeap.KIND c.args.store.now c.write.new.store t a c.root_index-root.result n c.args.value c.write.result) typed.0 (c.write.ensures.writes t a holds))

pub returns-in-Err-check_value-clause-sets : goal.returns-in-Err-check_value-clause-sets
returns-in-Err-check_value-clause-sets g c t a holds =
    let typed = typed_field g.H.GcHeap.KIND c.args.store.now c.root_index-root.result c.root_index-root.result refl c.args.index t c.field_at.result (c.field_at.ensures.answers t (held_table g.H.GcHeap.KIND c.args.store.now t a holds)) c.in-Ok.found c.in-Some.named c.in-Ok.is c.in-Some.is in
    sets_no_value g.H.GcHeap.KIND c.args.store.now c.args.store.now t a c.root_index-root.result (g.R.RootedGcRef.index c.args.this.now) c.root_index-root.ensures c.args.index c.args.value (λ (h : GcRootIndex). IsOutside c.args.store.now t h c.args.index)
    (root_own c.args.store.now c.root_index-root.result c.is_of_store.result c.is_of_store.ensures c.if-not-is_of_store.false) (value_own c.args.store.now c.args.value c.is_own.result c.is_own.ensures c.if-not-is_own.false)
    c.in-Some.named.field (has_type c.args.store.now t c.root_index-root.result c.args.index c.in-Some.named.field typed.1)
    (is_mutable c.in-Some.named.field.mutability c.is_var.result c.if-not-is_var.false c.is_var.ensures)
    c.in-Err-check_value.why c.accessed_value.result c.accessed_value.ensures (c.in-Err-check_value.ensures.checks t (held_table g.H.GcHeap.KIND c.args.store.now t a holds))
