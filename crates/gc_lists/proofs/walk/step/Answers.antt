use Rattle.std.proofs.Common.{◌≡◌, Result, sym, ◌∙◌, subst}
use Rattle.std.specs.Prelude.{FitsSigned}
use Rattle.std.specs.Int.{w64, cast_signed, cast_unsigned}
use Rattle.gc_owner.specs.declared.entry.GcClass.TheVariants.{Any}
use Rattle.gc_model.specs.Values.{numeric, i64, reference}
use Rattle.gc_model.proofs.AccountLemmas.{some_account}
use Rattle.gc_values.specs.declared.root.RawValue.{RawValue}
use Rattle.gc_values.specs.declared.root.RootFault.{RootFault}
use Rattle.gc_store.specs.Values.{ReadsValue}
use Rattle.gc_lists.proofs.walk.step.Goals as goal
use Rattle.gc_lists.proofs.CellReads.{can_read_number, can_read_next, has_number, has_next, number_read, number_leaves, number_never, back}
use Rattle.gc_lists.proofs.Walking.{cell_moved, steps_on, step_refused}

pub read_value-requires : goal.read_value-requires
read_value-requires g c = can_read_number c.args.store.now c.requires.table c.args.cell c.requires.numbers c.requires.names g.H.GcHeap.KIND c.requires.holds

pub returns-in-Err-clause-steps : goal.returns-in-Err-clause-steps
returns-in-Err-clause-steps g c = λ t a xs holds names.
    absurd (number_never g.H.GcHeap.KIND t a names.cell.bits c.in-Err.fault c.read_value.new.self
    (subst (λ (r : Result RawValue RootFault). ReadsValue g.H.GcHeap.KIND t a (numeric i64 names.cell.bits) r c.read_value.new.self) c.in-Err.is
    (c.read_value.ensures.reads t a (numeric i64 names.cell.bits) holds (has_number c.args.store.now t c.args.cell xs names))))

pub read_value-requires-2 : goal.read_value-requires-2
read_value-requires-2 g c =
    let t = c.requires.table in
    let names = c.requires.names in
    let some = some_account g.H.GcHeap.KIND c.args.store.now t c.requires.holds in
    let holds = number_leaves g.H.GcHeap.KIND t some.0 names.cell.bits c.read_value.result c.read_value.new.self
    (c.read_value.ensures.reads t some.0 (numeric i64 names.cell.bits) some.1 (has_number c.args.store.now t c.args.cell c.requires.numbers names)) in
    can_read_next c.read_value.new.self t c.args.cell c.requires.numbers (cell_moved c.args.store.now c.read_value.new.self t c.args.cell c.requires.numbers c.read_value.ensures.same names)
    g.H.GcHeap.KIND (holds.place, holds.holds)

pub returns-in-Ok-read_value-clause-steps : goal.returns-in-Ok-read_value-clause-steps
returns-in-Ok-read_value-clause-steps g c = λ t a xs holds names.
    let reads = subst (λ (r : Result RawValue RootFault). ReadsValue g.H.GcHeap.KIND t a (numeric i64 names.cell.bits) r c.read_value.new.self) c.in-Ok.is
    (c.read_value.ensures.reads t a (numeric i64 names.cell.bits) holds (has_number c.args.store.now t c.args.cell xs names)) in
    let same : c.number_in-number.result ≡ names.number = number_read c.read_value.new.self t names.cell.bits c.in-Ok.value names.number c.number_in-number.result reads.1.0 names.cell.number_is c.number_in-number.ensures
    (record { sfits = c.number_in-number.type_inv }) in
    let there = reads.1.1 in
    let moved = cell_moved c.args.store.now c.read_value.new.self t c.args.cell xs c.read_value.ensures.same names in
    let next_reads = subst (λ (r : Result RawValue RootFault). ReadsValue g.H.GcHeap.KIND t a (reference Any names.next) r c.read_value-2.new.self) c.in-Ok-read_value.is
    (c.read_value-2.ensures.reads t a (reference Any names.next) there (has_next c.read_value.new.self t c.args.cell xs moved)) in
    steps_on g.H.GcHeap.KIND c.read_value.new.self t a (there.place, there.holds) names.number (cast_signed w64 (cast_unsigned w64 c.number_in-number.result))
    (back c.number_in-number.result (record { sfits = c.number_in-number.type_inv }) ∙ same)
    (subst (FitsSigned w64) (sym (back c.number_in-number.result (record { sfits = c.number_in-number.type_inv }))) (record { sfits = c.number_in-number.type_inv })) c.read_value-2.new.self
    names.next names.rest c.in-Ok-read_value.value c.handle.result names.after next_reads c.handle.ensures

pub returns-in-Err-read_value-clause-steps : goal.returns-in-Err-read_value-clause-steps
returns-in-Err-read_value-clause-steps g c = λ t a xs holds names.
    let reads = subst (λ (r : Result RawValue RootFault). ReadsValue g.H.GcHeap.KIND t a (numeric i64 names.cell.bits) r c.read_value.new.self) c.in-Ok.is
    (c.read_value.ensures.reads t a (numeric i64 names.cell.bits) holds (has_number c.args.store.now t c.args.cell xs names)) in
    let same : c.number_in-number.result ≡ names.number = number_read c.read_value.new.self t names.cell.bits c.in-Ok.value names.number c.number_in-number.result reads.1.0 names.cell.number_is c.number_in-number.ensures
    (record { sfits = c.number_in-number.type_inv }) in
    let there = reads.1.1 in
    let moved = cell_moved c.args.store.now c.read_value.new.self t c.args.cell xs c.read_value.ensures.same names in
    let next_reads = subst (λ (r : Result RawValue RootFault). ReadsValue g.H.GcHeap.KIND t a (reference Any names.next) r c.read_value-2.new.self) c.in-Err-read_value.is
    (c.read_value-2.ensures.reads t a (reference Any names.next) there (has_next c.read_value.new.self t c.args.cell xs moved)) in
    step_refused g.H.GcHeap.KIND c.read_value.new.self t a (there.place, there.holds) names.number c.number_in-number.result same (record { sfits = c.number_in-number.type_inv }) c.read_value-2.new.self
    names.next c.in-Err-read_value.fault c.refused-in-Err-read_value.result next_reads c.refused-in-Err-read_value.ensures
