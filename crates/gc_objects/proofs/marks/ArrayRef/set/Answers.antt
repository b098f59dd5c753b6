use Rattle.gc_objects.specs.Answered.{IsNamedArray}
use Rattle.gc_objects.specs.Writes.{IsPastEnd}
use Rattle.gc_objects.proofs.Pushing.{held_table}
use Rattle.gc_objects.proofs.TypeLemmas.{array_declared}
use Rattle.gc_objects.proofs.ArrayLemmas.{array_told, element_here, element_has_type, element_typed, element_past, element_found}
use Rattle.gc_objects.proofs.SetLemmas.{root_own, value_own, is_constant, is_mutable, may_write, sets_no_root, sets_outside, sets_constant, sets_no_value, sets_by_store}
use Rattle.gc_objects.proofs.marks.ArrayRef.set.Goals as goal

pub returns-in-Err-clause-sets : goal.returns-in-Err-clause-sets
returns-in-Err-clause-sets g c t a holds =
    sets_no_root g.H.GcHeap.KIND c.args.store.now c.args.store.now t a c.root_index-root.result (g.R.RootedGcRef.index c.args.this.now) c.root_index-root.ensures c.args.index c.args.value (λ h. IsPastEnd c.args.store.now t h c.args.index c.args.value)
    (root_own c.args.store.now c.root_index-root.result c.is_of_store.result c.is_of_store.ensures c.if-not-is_of_store.false) (value_own c.args.store.now c.args.value c.is_own.result c.is_own.ensures c.if-not-is_own.false)
    (IsNamedArray t) c.array_at.result c.in-Err.fault c.accessed.result c.in-Err.is c.accessed.ensures (c.array_at.ensures.answers t (held_table g.H.GcHeap.KIND c.args.store.now t a holds))

pub element_of-element-requires : goal.element_of-element-requires
element_of-element-requires g c = (array_declared g.H.GcHeap.KIND c.args.store.now c.root_index-root.result c.in-Ok.array.ty c.in-Ok.array.len c.in-Ok.ensures.found).1

pub returns-then-not-is_var-clause-sets : goal.returns-then-not-is_var-clause-sets
returns-then-not-is_var-clause-sets g c t a holds =
    let table = held_table g.H.GcHeap.KIND c.args.store.now t a holds in
    let is = array_told c.args.store.now t c.root_index-root.result c.in-Ok.array c.array_at.result c.in-Ok.is (c.array_at.ensures.answers t table) in
    let declared = element_here g.H.GcHeap.KIND c.args.store.now t table c.in-Ok.array.ty c.element_of-element.result c.element_of-element.ensures in
    sets_constant g.H.GcHeap.KIND c.args.store.now c.args.store.now t a c.root_index-root.result (g.R.RootedGcRef.index c.args.this.now) c.root_index-root.ensures c.args.index c.args.value (λ h. IsPastEnd c.args.store.now t h c.args.index c.args.value)
    (root_own c.args.store.now c.root_index-root.result c.is_of_store.result c.is_of_store.ensures c.if-not-is_of_store.false) (value_own c.args.store.now c.args.value c.is_own.result c.is_own.ensures c.if-not-is_own.false)
    c.element_of-element.result (element_has_type c.args.store.now t c.root_index-root.result c.in-Ok.array is c.args.index c.element_of-element.result declared)
    (is_constant c.element_of-element.result.mutability c.is_var.result c.if-not-is_var.true c.is_var.ensures)

pub returns-in-Err-check_value-clause-sets : goal.returns-in-Err-check_value-clause-sets
returns-in-Err-check_value-clause-sets g c t a holds =
    let table = held_table g.H.GcHeap.KIND c.args.store.now t a holds in
    let is = array_told c.args.store.now t c.root_index-root.result c.in-Ok.array c.array_at.result c.in-Ok.is (c.array_at.ensures.answers t table) in
    let declared = element_here g.H.GcHeap.KIND c.args.store.now t table c.in-Ok.array.ty c.element_of-element.result c.element_of-element.ensures in
    sets_no_value g.H.GcHeap.KIND c.args.store.now c.args.store.now t a c.root_index-root.result (g.R.RootedGcRef.index c.args.this.now) c.root_index-root.ensures c.args.index c.args.value (λ h. IsPastEnd c.args.store.now t h c.args.index c.args.value)
    (root_own c.args.store.now c.root_index-root.result c.is_of_store.result c.is_of_store.ensures c.if-not-is_of_store.false) (value_own c.args.store.now c.args.value c.is_own.result c.is_own.ensures c.if-not-is_own.false)
    c.element_of-element.result (element_has_type c.args.store.now t c.root_index-root.result c.in-Ok.array is c.args.index c.element_of-element.result declared)
    (is_mutable c.element_of-element.result.mutability c.is_var.result c.if-not-is_var.false c.is_var.ensures)
    c.in-Err-check_value.why c.accessed_value.result c.accessed_value.ensures (c.in-Err-check_value.ensures.checks t table)

pub returns-then-index-array-clause-sets : goal.returns-then-index-array-clause-sets
returns-then-index-array-clause-sets g c t a holds =
    let table = held_table g.H.GcHeap.KIND c.args.store.now t a holds in
    let is = array_told c.args.store.now t c.root_index-root.result c.in-Ok.array c.array_at.result c.in-Ok.is (c.array_at.ensures.answers t table) in
    let declared = element_here g.H.GcHeap.KIND c.args.store.now t table c.in-Ok.array.ty c.element_of-element.result c.element_of-element.ensures in
    sets_outside g.H.GcHeap.KIND c.args.store.now c.args.store.now t a c.root_index-root.result (g.R.RootedGcRef.index c.args.this.now) c.root_index-root.ensures c.args.index c.args.value (λ h. IsPastEnd c.args.store.now t h c.args.index c.args.value)
    (root_own c.args.store.now c.root_index-root.result c.is_of_store.result c.is_of_store.ensures c.if-not-is_of_store.false) (value_own c.args.store.now c.args.value c.is_own.result c.is_own.ensures c.if-not-is_own.false) (
      record {
        field = c.element_of-element.result;
        has = element_has_type c.args.store.now t c.root_index-root.result c.in-Ok.array is c.args.index c.element_of-element.result declared;
        mutable = is_mutable c.element_of-element.result.mutability c.is_var.result c.if-not-is_var.false c.is_var.ensures;
        found = c.in-Ok-check_value.ensures.checks t table;
      },
      element_past c.args.store.now t c.root_index-root.result c.in-Ok.array is c.args.index c.if-index-array.true,
    )

pub write-requires : goal.write-requires
write-requires g c =
    may_write g.row.D.Denot g.H.GcHeap.KIND c.args.store.now c.root_index-root.result c.args.index c.element_of-element.result c.args.value
    (element_found g.H.GcHeap.KIND c.args.store.now c.root_index-root.result c.in-Ok.array c.in-Ok.ensures.found c.args.index c.element_of-element.result c.element_of-element.ensures c.if-index-array.false)
    c.in-Ok-check_value.ensures.stores (is_mutable c.element_of-element.result.mutability c.is_var.result c.if-not-is_var.false c.is_var.ensures)

pub returns-clause-sets : goal.returns-clause-sets
returns-clause-sets g c t a holds =
    let table = held_table g.H.GcHeap.KIND c.args.store.now t a holds in
    let is = array_told c.args.store.now t c.root_index-root.result c.in-Ok.array c.array_at.result c.in-Ok.is (c.array_at.ensures.answers t table) in
    let declared = element_here g.H.GcHeap.KIND c.args.store.now t table c.in-Ok.array.ty c.element_of-element.result c.element_of-element.ensures in
    let goes = c.in-Ok-check_value.ensures.checks t table in
    sets_by_store g.H.GcHeap.KIND c.args.store.now c.write.new.store t a c.root_index-root.result (g.R.RootedGcRef.index c.args.this.now) c.root_index-root.ensures c.args.index c.args.value (λ h. IsPastEnd c.args.store.now t h c.args.index c.args.value)
    (root_own c.args.store.now c.root_index-root.result c.is_of_store.result c.is_of_store.ensures c.if-not-is_of_store.false) (value_own c.args.store.now c.args.value c.is_own.result c.is_own.ensures c.if-not-is_own.false)
    c.element_of-element.result (element_typed c.args.store.now t c.root_index-root.result c.in-Ok.array is c.args.index c.element_of-element.result declared c.if-index-array.false)
    (is_mutable c.element_of-element.result.mutability c.is_var.result c.if-not-is_var.false c.is_var.ensures) goes.0 goes.1 c.write.result (c.write.ensures.writes t a holds)
