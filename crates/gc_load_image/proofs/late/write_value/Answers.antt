use Rattle.std.proofs.Common.{◌≡◌, ◌<◌, List, Some, length, refl, sym, ◌∙◌, subst, arith}
use Rattle.std.specs.List.{slice_get}
use Rattle.std.proofs.lemmas.Option.{same_Some, slice_get_within}
use Rattle.gc_values.specs.declared.root.RawValue.TheVariants as raw
use Rattle.gc_image.specs.declared.image.ImageValue.{ImageValue}
use Rattle.gc_image.specs.declared.image.ObjectLine.{ObjectLine}
use Rattle.gc_image.specs.Well.{line_values}
use Rattle.gc_image.proofs.ElementLemmas.{item_found}
use Rattle.gc_load_image.proofs.LateLemmas.{goes_none, goes_written, keeps_ok, may_write, named_inside, writing_kept, writing_written}
use Rattle.gc_load_image.proofs.late.write_value.Given.{Over}
use Rattle.gc_load_image.proofs.late.write_value.Goals.{After-late_reference, In-Some, After-write_value-written}
use Rattle.gc_load_image.proofs.late.write_value.Goals as goal

line_is : (g : Over) (c : After-late_reference g) → slice_get c.args.objects.now c.args.number ≡ Some c.index-objects-number.result
line_is g c = item_found c.args.objects.now c.args.number c.index-objects-number.result (slice_get_within c.args.objects.now c.args.number c.requires.value.line c.requires.value.line_is) c.index-objects-number.is

value_is : (g : Over) (c : After-late_reference g) → slice_get (line_values c.index-objects-number.result) c.args.index ≡ Some c.index-values_of-index.result
value_is g c =
    let same : c.requires.value.line ≡ c.index-objects-number.result = same_Some c.requires.value.line c.index-objects-number.result (sym c.requires.value.line_is ∙ line_is g c) in
    let inside : c.args.index < length (line_values c.index-objects-number.result) = subst (λ (x : ObjectLine). c.args.index < length (line_values x)) same c.requires.value.inside in
    let here : c.args.index < length c.values_of.result.now = subst (λ (vs : List ImageValue). c.args.index < length vs) (sym c.values_of.ensures) inside in
    subst (λ (vs : List ImageValue). slice_get vs c.args.index ≡ Some c.index-values_of-index.result) c.values_of.ensures
    (item_found c.values_of.result.now c.args.index c.index-values_of-index.result here c.index-values_of-index.is)

pub handle_at-holder-requires : goal.handle_at-holder-requires
handle_at-holder-requires g c =
    let at = (goal.at.handle_at-holder-requires g c).After-late_reference in
    let inside = slice_get_within c.args.objects.now c.args.number c.index-objects-number.result (line_is g at) in
    let all = c.requires.all in
    omega (arith, inside, all)

pub handle_at-requires : goal.handle_at-requires
handle_at-requires g c =
    let at = (goal.at.handle_at-requires g c).After-late_reference in
    let inside = named_inside g.H.GcHeap.KIND c.args.objects.now c.args.handles.now c.args.number c.args.index c.args.store.now c.requires.writing c.index-objects-number.result (line_is g at) c.index-values_of-index.result (value_is g at)
    c.in-Some.class c.in-Some.named c.in-Some.ensures.0 c.requires.well in
    let all = c.requires.all in
    omega (arith, inside, all)

pub write_value-written-requires : goal.write_value-written-requires
write_value-written-requires g c =
    let at = (goal.at.write_value-written-requires g c).After-late_reference in
    may_write g.H.GcHeap.KIND c.args.objects.now c.args.handles.now c.args.number c.args.index c.args.store.now c.requires.writing c.index-objects-number.result (line_is g at) c.index-values_of-index.result (value_is g at)
    c.in-Some.class c.in-Some.named c.in-Some.ensures.0 c.requires.well c.handle_at-holder.result c.handle_at.result c.handle_at-holder.ensures c.handle_at.ensures c.in-Some.ensures.1

pub returns-in-Some-clause-writing : goal.returns-in-Some-clause-writing
returns-in-Some-clause-writing g c =
    let at = (goal.at.returns-in-Some-clause-writing g c).After-late_reference in
    writing_written g.H.GcHeap.KIND c.args.objects.now c.args.handles.now c.args.number c.args.index c.args.store.now c.requires.writing c.index-objects-number.result (line_is g at) c.index-values_of-index.result (value_is g at)
    c.in-Some.class c.in-Some.named c.in-Some.ensures.0 c.requires.well c.handle_at-holder.result c.handle_at.result c.handle_at-holder.ensures c.handle_at.ensures
    c.write_value-written.new.self c.write_value-written.ensures.same
    (keeps_ok g.H.GcHeap.KIND c.args.store.now c.write_value-written.new.self c.requires.writing.table c.requires.writing.account c.handle_at-holder.result c.args.index (raw.Ref c.in-Some.class (Some c.handle_at.result)) c.write_value-written.result (c.write_value-written.ensures.ok refl)
    (c.write_value-written.ensures.writes c.requires.writing.table c.requires.writing.account c.requires.writing.standing.holds))

pub returns-in-Some-clause-goes : goal.returns-in-Some-clause-goes
returns-in-Some-clause-goes g c =
    let at = (goal.at.returns-in-Some-clause-goes g c).After-late_reference in
    goes_written g.H.GcHeap.KIND c.args.objects.now c.args.handles.now c.args.number c.args.index c.args.store.now c.requires.writing c.index-objects-number.result (line_is g at) c.index-values_of-index.result (value_is g at)
    c.in-Some.class c.in-Some.named c.in-Some.ensures.0 c.requires.well c.handle_at-holder.result c.handle_at.result c.handle_at-holder.ensures c.handle_at.ensures
    c.write_value-written.new.self c.write_value-written.ensures.same
    (keeps_ok g.H.GcHeap.KIND c.args.store.now c.write_value-written.new.self c.requires.writing.table c.requires.writing.account c.handle_at-holder.result c.args.index (raw.Ref c.in-Some.class (Some c.handle_at.result)) c.write_value-written.result (c.write_value-written.ensures.ok refl)
    (c.write_value-written.ensures.writes c.requires.writing.table c.requires.writing.account c.requires.writing.standing.holds))

pub returns-in_default-clause-writing : goal.returns-in_default-clause-writing
returns-in_default-clause-writing g c =
    let at = (goal.at.returns-in_default-clause-writing g c).After-late_reference in
    writing_kept g.H.GcHeap.KIND c.args.objects.now c.args.handles.now c.args.number c.args.index c.args.store.now c.requires.writing c.index-objects-number.result (line_is g at) c.index-values_of-index.result (value_is g at)
    (rw c.in_default.is at c.late_reference.ensures)

pub returns-in_default-clause-goes : goal.returns-in_default-clause-goes
returns-in_default-clause-goes g c = goes_none c.args.store.now
