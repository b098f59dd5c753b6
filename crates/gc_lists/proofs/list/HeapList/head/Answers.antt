use Rattle.std.proofs.Common.{◌≡◌, ℤ, List, Some, Result, Ok, sym, ap, ◌∙◌, subst}
use Rattle.std.specs.List.{slice_get}
use Rattle.gc_model.proofs.AccountLemmas.{some_account}
use Rattle.gc_model.specs.Values.{numeric, i64}
use Rattle.gc_values.specs.declared.root.RawValue.{RawValue}
use Rattle.gc_values.specs.declared.root.RootFault.{RootFault}
use Rattle.gc_store.specs.Values.{ReadsValue}
use Rattle.gc_lists.proofs.list.HeapList.head.Goals as goal
use Rattle.gc_lists.proofs.CellReads.{version_cell, has_number, can_read_number, number_read, number_leaves, number_never, back, empty_list}

pub returns-in_default-clause-head : goal.returns-in_default-clause-head
returns-in_default-clause-head g c = λ t xs holds stands. ap (λ (ys : List ℤ). Ok (slice_get ys 0)) (sym (empty_list c.args.store.now t c.args.self.now.root xs c.in_default.is stands))

pub read_value-requires : goal.read_value-requires
read_value-requires g c =
    let in_one = c.requires.stands (sym c.is_version_of.ensures ∙ c.if-not-is_version_of.false) in
    let names = version_cell g.H.GcHeap.KIND c.args.store.now in_one.table in_one.holds c.in-Some.root c.args.self.now.root in_one.numbers c.in-Some.is in_one.stands in
    can_read_number c.args.store.now in_one.table c.in-Some.root in_one.numbers names g.H.GcHeap.KIND in_one.holds

pub returns-in-Ok-clause-head : goal.returns-in-Ok-clause-head
returns-in-Ok-clause-head g c = λ t xs holds stands.
    let names = version_cell g.H.GcHeap.KIND c.args.store.now t holds c.in-Some.root c.args.self.now.root xs c.in-Some.is stands in
    let some = some_account g.H.GcHeap.KIND c.args.store.now t holds in
    let reads = subst (λ (r : Result RawValue RootFault). ReadsValue g.H.GcHeap.KIND t some.0 (numeric i64 names.cell.bits) r c.read_value.new.self) c.in-Ok.is
    (c.read_value.ensures.reads t some.0 (numeric i64 names.cell.bits) some.1 (has_number c.args.store.now t c.in-Some.root xs names)) in
    let same : c.number_in.result ≡ names.number =
    number_read c.read_value.new.self t names.cell.bits c.in-Ok.value names.number c.number_in.result reads.1.0 names.cell.number_is c.number_in.ensures (record { sfits = c.number_in.type_inv }) in
    ap (λ (n : ℤ). Ok (Some n)) (back c.number_in.result (record { sfits = c.number_in.type_inv }) ∙ same) ∙ ap (λ (ys : List ℤ). Ok (slice_get ys 0)) (sym names.whole)

pub returns-in-Ok-clause-keeps : goal.returns-in-Ok-clause-keeps
returns-in-Ok-clause-keeps g c = λ t a xs holds stands.
    let names = version_cell g.H.GcHeap.KIND c.args.store.now t (holds.place, holds.holds) c.in-Some.root c.args.self.now.root xs c.in-Some.is stands in
    number_leaves g.H.GcHeap.KIND t a names.cell.bits c.read_value.result c.read_value.new.self
    (c.read_value.ensures.reads t a (numeric i64 names.cell.bits) holds (has_number c.args.store.now t c.in-Some.root xs names))

pub returns-in-Err-clause-head : goal.returns-in-Err-clause-head
returns-in-Err-clause-head g c = λ t xs holds stands.
    let names = version_cell g.H.GcHeap.KIND c.args.store.now t holds c.in-Some.root c.args.self.now.root xs c.in-Some.is stands in
    let some = some_account g.H.GcHeap.KIND c.args.store.now t holds in
    absurd (number_never g.H.GcHeap.KIND t some.0 names.cell.bits c.in-Err.fault c.read_value.new.self
    (subst (λ (r : Result RawValue RootFault). ReadsValue g.H.GcHeap.KIND t some.0 (numeric i64 names.cell.bits) r c.read_value.new.self) c.in-Err.is
    (c.read_value.ensures.reads t some.0 (numeric i64 names.cell.bits) some.1 (has_number c.args.store.now t c.in-Some.root xs names))))

pub returns-in-Err-clause-keeps : goal.returns-in-Err-clause-keeps
returns-in-Err-clause-keeps g c = λ t a xs holds stands.
    let names = version_cell g.H.GcHeap.KIND c.args.store.now t (holds.place, holds.holds) c.in-Some.root c.args.self.now.root xs c.in-Some.is stands in
    number_leaves g.H.GcHeap.KIND t a names.cell.bits c.read_value.result c.read_value.new.self
    (c.read_value.ensures.reads t a (numeric i64 names.cell.bits) holds (has_number c.args.store.now t c.in-Some.root xs names))
