use Rattle.std.proofs.Common.{inl, inr, ◌≡◌, ◌++◌, ◌∷◌, [], refl, sym, subst, rules}
use Rattle.gc_owner.specs.declared.entry.GcClass.{GcClass}
use Rattle.gc_model.specs.Values.{reference}
use Rattle.gc_paths.proofs.Growing.{err_is}
use Rattle.gc_image.specs.declared.image.ImageValue.{ImageValue}
use Rattle.gc_save_image.specs.GlobalSteps.{AddsLine, IsUnset}
use Rattle.gc_save_image.specs.Parts.{found_handles}
use Rattle.gc_save_image.specs.Progress.{AnswersImagePart, ImageGoesOn, SaysValue}
use Rattle.gc_save_image.proofs.ObjectKinds.{err_part}
use Rattle.gc_save_image.proofs.Taken.{keeps_itself, goes_more}
use Rattle.gc_save_image.proofs.SaySlots.{unset_empty, set_full}
use Rattle.gc_save_image.proofs.globals.add_line.Goals as goal

pub returns-then-is_unset : goal.returns-then-is_unset
returns-then-is_unset g c b told count slot progress is leads = record {
  told = told;
  kept = keeps_itself told;
  progress = progress;
  done = inl (unset_empty g.H.GcHeap.KIND c.args.store.now progress.holds.now b.place progress.holds.there.0 slot c.args.read is (subst (IsUnset c.args.read) c.if-is_unset.true c.is_unset.ensures), refl);
}

pub returns-in_err-value : goal.returns-in_err-value
returns-in_err-value g c b told count slot progress is leads =
    subst (λ r. AnswersImagePart g.H.GcHeap.KIND b (λ (done : Unit {0}). ImageGoesOn g.H.GcHeap.KIND b told count c.args.store.now (found_handles c.take_reference.new.found) (λ then. AddsLine then c.args.lines.now.items c.args.lines.now.items c.args.index slot)) ⊥ r c.args.store.now)
    (sym (err_is c.from_residual.result c.in_err-value.field-0.0 c.from_residual.ensures.1))
    (err_part g.H.GcHeap.KIND b
    (λ (x : ImageValue). ImageGoesOn g.H.GcHeap.KIND b told count c.args.store.now (found_handles c.take_reference.new.found) (λ then. SaysValue then (reference c.args.read.class slot.reference) x))
    (λ (done : Unit {0}). ImageGoesOn g.H.GcHeap.KIND b told count c.args.store.now (found_handles c.take_reference.new.found) (λ then. AddsLine then c.args.lines.now.items c.args.lines.now.items c.args.index slot))
    ⊥ c.in_err-value.field-0.0 c.args.store.now (c.in_err-value.ensures b told count slot.reference progress is.stands leads))

pub returns-in-Ok : goal.returns-in-Ok
returns-in-Ok g c b told count slot progress is leads =
    let items : c.extend_from_slice.new.self.items ≡ c.args.lines.now.items ++ record { index = c.args.index; value = c.in_ok-value.value } ∷ [] = search rules in
    goes_more g.H.GcHeap.KIND b told count c.args.store.now (found_handles c.args.found.now) progress (found_handles c.take_reference.new.found)
    (λ then. SaysValue then (reference c.args.read.class slot.reference) c.in_ok-value.value)
    (λ then. AddsLine then c.args.lines.now.items c.extend_from_slice.new.self.items c.args.index slot)
    (λ then says. inr (record {
      value = c.in_ok-value.value;
      is = items;
      says = subst (λ (k : GcClass). SaysValue then (reference k slot.reference) c.in_ok-value.value) is.class says;
      is_set = set_full g.H.GcHeap.KIND c.args.store.now progress.holds.now b.place progress.holds.there.0 slot c.args.read is (subst (IsUnset c.args.read) c.if-is_unset.false c.is_unset.ensures);
    }))
    (c.in_ok-value.ensures b told count slot.reference progress is.stands leads)

pub returns-in-Err : goal.returns-in-Err
returns-in-Err g c b told count slot progress is leads = (count, (c.in_ok-value.ensures b told count slot.reference progress is.stands leads).progress.holds)
