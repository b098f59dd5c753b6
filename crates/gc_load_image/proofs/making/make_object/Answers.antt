use Rattle.std.proofs.Common.{◌≡◌, ◌+◌, ℕ, List, Some, Result, map, length, sym, ◌∙◌, subst, arith}
use Rattle.std.specs.List.{slice_get}
use Rattle.gc_types.specs.Declarations.{Declaration}
use Rattle.gc_values.specs.declared.root.GcRootIndex.{GcRootIndex}
use Rattle.gc_values.specs.declared.root.RawValue.{RawValue}
use Rattle.gc_image.specs.declared.image.ImageValue.{ImageValue}
use Rattle.gc_image.specs.declared.image.ObjectLine.{ObjectLine}
use Rattle.gc_image.specs.Text.{FitsImageValue}
use Rattle.gc_image.specs.Well.{IsWellObject, as_object, line_values}
use Rattle.gc_load_image.specs.declared.fault.LoadFault.{LoadFault}
use Rattle.gc_load_image.specs.Loads.{line_count}
use Rattle.gc_load_image.specs.Stages.{AreInRange, CanPlaceLine, FailedValues, FoundValues, IsLineObject, MakesNext, early_object}
use Rattle.gc_load_image.proofs.LineLemmas.{line_can, line_is}
use Rattle.gc_load_image.proofs.MakingLemmas.{are_made, makes_next, values_stop}
use Rattle.gc_load_image.proofs.PushedRoots.{same_twice}
use Rattle.gc_load_image.proofs.TypeLemmas.{err_is}
use Rattle.gc_load_image.proofs.making.make_object.Given.{Over}
use Rattle.gc_load_image.proofs.making.make_object.Goals.{After-as_slice}
use Rattle.gc_load_image.proofs.making.make_object.Goals as goal

in_range : (objects : List ObjectLine) (k : ℕ) (line : ObjectLine) → AreInRange objects → slice_get objects k ≡ Some line → (vs : List ImageValue) → vs ≡ line_values line → (index : ℕ) (v : ImageValue) → slice_get vs index ≡ Some v → FitsImageValue v
in_range objects k line range here vs are index v e = range k line here index v (subst (λ (xs : List ImageValue). slice_get xs index ≡ Some v) are e)

found_of : (g : Over) (c : After-as_slice g) → FoundValues g.H.GcHeap.KIND c.args.handles.now (line_values c.args.line.now) c.args.store.now c.requires.making.table c.requires.making.account c.in_ok-raws.raws.items c.raw_values.new.store
found_of g c =
    subst (λ (vs : List ImageValue). FoundValues g.H.GcHeap.KIND c.args.handles.now vs c.args.store.now c.requires.making.table c.requires.making.account c.in_ok-raws.raws.items c.raw_values.new.store) c.values_of.ensures
    (c.in_ok-raws.ensures.finds c.requires.making.table c.requires.making.account c.requires.making.standing (in_range c.args.objects.now (length c.args.handles.now) c.args.line.now c.requires.range c.requires.here c.values_of.result.now c.values_of.ensures))

well_of : (g : Over) (c : After-as_slice g) → IsWellObject c.raw_values.new.store.types (map as_object c.args.objects.now) (length c.args.handles.now) c.args.line.now
well_of g c =
    let p = (found_of g c).pushes in
    let same = p.standing.holds.holds.types ∙ p.types ∙ sym c.requires.making.standing.holds.holds.types in
    subst (λ (ts : List Declaration). IsWellObject ts (map as_object c.args.objects.now) (length c.args.handles.now) c.args.line.now) (sym same) (c.requires.well (length c.args.handles.now) c.args.line.now c.requires.here)

line_goes : (g : Over) (c : After-as_slice g) → CanPlaceLine g.H.GcHeap.KIND c.raw_values.new.store c.args.line.now c.as_slice.result.now
line_goes g c =
    let found = found_of g c in
    let p = found.pushes in
    subst (CanPlaceLine g.H.GcHeap.KIND c.raw_values.new.store c.args.line.now) (sym c.as_slice.ensures.value)
    (line_can g.H.GcHeap.KIND c.raw_values.new.store p.table (p.standing.holds.place, p.standing.holds.holds) c.args.objects.now (length c.args.handles.now)
    (are_made g.H.GcHeap.KIND c.args.objects.now c.args.handles.now c.args.line.now c.args.store.now c.raw_values.new.store c.raw_values.new.store c.requires.making c.requires.well c.requires.here p)
    c.args.line.now (well_of g c) c.in_ok-raws.raws.items found.stand)

line_of : (g : Over) (c : After-as_slice g) → IsLineObject c.raw_values.new.store (found_of g c).pushes.table c.args.line.now c.as_slice.result.now (early_object (length c.args.handles.now) c.args.line.now)
line_of g c =
    let found = found_of g c in
    let p = found.pushes in
    subst (λ (rs : List RawValue). IsLineObject c.raw_values.new.store p.table c.args.line.now rs (early_object (length c.args.handles.now) c.args.line.now)) (sym c.as_slice.ensures.value)
    (line_is g.H.GcHeap.KIND c.raw_values.new.store p.table (p.standing.holds.place, p.standing.holds.holds) c.args.objects.now (length c.args.handles.now)
    (are_made g.H.GcHeap.KIND c.args.objects.now c.args.handles.now c.args.line.now c.args.store.now c.raw_values.new.store c.raw_values.new.store c.requires.making c.requires.well c.requires.here p)
    c.args.line.now (well_of g c) c.in_ok-raws.raws.items found.stand)

pub allocate_line-requires : goal.allocate_line-requires
allocate_line-requires g c = line_goes g (goal.at.allocate_line-requires g c).After-as_slice

pub returns-clause-makes : goal.returns-clause-makes
returns-clause-makes g c =
    let at = (goal.at.returns-clause-makes g c).After-as_slice in
    let p = (found_of g at).pushes in
    makes_next g.H.GcHeap.KIND c.args.objects.now c.args.handles.now c.args.line.now c.args.store.now c.raw_values.new.store c.allocate_line.new.store c.requires.making c.requires.well c.requires.here p
    c.raw_values.new.store.alloc_counter (g.L.ResourceLimiter.limits c.args.limiter.now) (g.L.ResourceLimiter.limits c.allocate_line.new.limiter) c.allocate_line.ensures.same c.allocate_line.result
    (c.allocate_line.ensures.places p.table c.requires.making.account (early_object (length c.args.handles.now) c.args.line.now) p.standing.holds (line_of g at))

pub returns-in_err-raws-clause-makes : goal.returns-in_err-raws-clause-makes
returns-in_err-raws-clause-makes g c =
    let why = c.in_err-raws.field-0.0 in
    let failed : FailedValues g.H.GcHeap.KIND c.args.handles.now (line_values c.args.line.now) c.args.store.now c.requires.making.table c.requires.making.account why c.raw_values.new.store =
    subst (λ (vs : List ImageValue). FailedValues g.H.GcHeap.KIND c.args.handles.now vs c.args.store.now c.requires.making.table c.requires.making.account why c.raw_values.new.store) c.values_of.ensures
    (c.in_err-raws.ensures.finds c.requires.making.table c.requires.making.account c.requires.making.standing (in_range c.args.objects.now (length c.args.handles.now) c.args.line.now c.requires.range c.requires.here c.values_of.result.now c.values_of.ensures)) in
    let limits = g.L.ResourceLimiter.limits c.args.limiter.now in
    subst (λ (r : Result GcRootIndex LoadFault). MakesNext g.H.GcHeap.KIND c.args.objects.now c.args.handles.now c.args.line.now limits limits c.args.store.now r c.raw_values.new.store) (sym (err_is c.from_residual.result why c.from_residual.ensures.1))
    (values_stop g.H.GcHeap.KIND c.args.handles.now c.args.store.now.types c.args.objects.now limits (line_count c.args.line.now) (1 + line_count c.args.line.now) c.args.store.now c.requires.making.table c.requires.making.account why c.raw_values.new.store
    (omega arith) (sym c.requires.making.standing.holds.holds.types) failed.pushes failed.cause)

pub returns-clause-same : goal.returns-clause-same
returns-clause-same g c = same_twice c.args.store.now c.raw_values.new.store c.allocate_line.new.store c.raw_values.ensures.same c.allocate_line.ensures.same
