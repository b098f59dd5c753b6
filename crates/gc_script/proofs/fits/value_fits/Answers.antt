use Rattle.std.proofs.Common.{◌≡◌, Option, None, sym, ap, ◌∙◌, subst}
use Rattle.gc_values.specs.declared.root.GcRootIndex.{GcRootIndex}
use Rattle.gc_types.specs.declared.value.ValType.{ValType}
use Rattle.gc_model.specs.Fits.{fits_type}
use Rattle.gc_script.specs.Values.{raw_slot, TellsHandle}
use Rattle.gc_script.proofs.FitLemmas.{numbers_fit, slot_handle}
use Rattle.gc_script.proofs.ValueLemmas.{slot_stands}
use Rattle.gc_script.proofs.fits.value_fits.Goals as goal

pub returns-in-Ref : goal.returns-in-Ref
returns-in-Ref g c t v holds live stands tells =
    c.reference_fits.ensures t v c.in-Some.slot.1 holds (slot_stands c.args.store.now t c.args.value.now v c.in-Some.slot.0 c.in-Some.slot.1 (sym c.in-Some.ensures) stands)
    (subst (λ (h : Option GcRootIndex). TellsHandle c.args.store.now t h c.args.object.now) (slot_handle c.args.value.now c.in-Some.slot.0 c.in-Some.slot.1 (sym c.in-Some.ensures)) tells)
    ∙ ap (λ (ty : ValType). fits_type t.types t.objects ty v) (sym c.in-Ref.is)

pub returns-in-None : goal.returns-in-None
returns-in-None g c t v holds plain stands tells =
    let none : raw_slot c.args.value.now ≡ None = search in
    c.number_fits.ensures ∙ numbers_fit c.args.store.now t c.args.ty.now c.args.value.now v none plain stands
