use Rattle.std.proofs.Common.{map, Option, sym, ap, ◌∙◌}
use Rattle.std.proofs.lemmas.Option.{slice_get_past}
use Rattle.gc_types.specs.declared.value.HeapType.{HeapType}
use Rattle.gc_types.specs.Subtyping.{supertypes_of}
use Rattle.gc_model.specs.Fits.{reference_fits}
use Rattle.gc_image.specs.declared.image.ImageReference.{ImageReference}
use Rattle.gc_image.specs.Steps.{type_fits}
use Rattle.gc_image.specs.Well.{as_object, as_reference}
use Rattle.gc_image.proofs.ElementLemmas.{item_found}
use Rattle.gc_image.proofs.FitLemmas.{absent_object, object_fits}
use Rattle.gc_image.proofs.fits.reference_fits.Goals as goal

pub returns-in-Some : goal.returns-in-Some
returns-in-Some c =
    c.own_fits-in-Some.ensures ∙ ap (λ (o : Option HeapType). type_fits (supertypes_of c.args.types.now.declarations) o c.args.ty.now.heap_type) c.own_type.ensures
    ∙ object_fits c.args.types.now.declarations c.args.objects.now c.args.ty.now c.args.class c.in-Object.number c.in-Some.object.now
    (item_found c.args.objects.now c.in-Object.number c.in-Some.object.now c.in-Some.ensures.lookup.3.0 c.in-Some.ensures.lookup.1)
    ∙ ap (λ (r : ImageReference). reference_fits c.args.types.now.declarations (map as_object c.args.objects.now) c.args.ty.now c.args.class (as_reference r)) (sym c.in-Object.is)

pub returns-in-None : goal.returns-in-None
returns-in-None c =
    absent_object c.args.types.now.declarations c.args.objects.now c.args.ty.now c.args.class c.in-Object.number (slice_get_past c.args.objects.now c.in-Object.number c.in-None.ensures.lookup.3)
    ∙ ap (λ (r : ImageReference). reference_fits c.args.types.now.declarations (map as_object c.args.objects.now) c.args.ty.now c.args.class (as_reference r)) (sym c.in-Object.is)
