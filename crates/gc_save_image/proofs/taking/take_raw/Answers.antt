use Rattle.std.proofs.Common.{◌≡◌, refl, sym, subst, Some, None, Option}
use Rattle.gc_owner.specs.declared.entry.GcClass.{GcClass}
use Rattle.gc_model.specs.Stores.{StoreView}
use Rattle.gc_model.specs.Table.{Table}
use Rattle.gc_model.specs.Values.{Reference, Value, null, reference}
use Rattle.gc_values.specs.declared.root.GcRootIndex.{GcRootIndex}
use Rattle.gc_values.specs.declared.root.RawValue.{RawValue}
use Rattle.gc_values.specs.declared.root.RawValue.TheVariants as raw
use Rattle.gc_store.specs.Slots.{HandleStands}
use Rattle.gc_store.specs.Values.{RawStands}
use Rattle.gc_save_image.specs.Parts.{found_handles}
use Rattle.gc_save_image.specs.Progress.{AnswersImagePart, ImageGoesOn, SaysValue}
use Rattle.gc_save_image.specs.Steps.{LeadsOn}
use Rattle.gc_save_image.proofs.taking.take_raw.Goals as goal

-- the reference that a read one stands for
record StandsFor {D : Type 0} (s : StoreView D) (t : Table D) (class : GcClass) (handle : Option GcRootIndex) (v : Value) : Type 0 where
  q : Reference
  stands : HandleStands s t handle q
  is : v ≡ reference class q

stands_for : {D : Type 0} (s : StoreView D) (t : Table D) (class : GcClass) (handle : Option GcRootIndex) (v : Value) → RawStands s t (raw.Ref class handle) v → StandsFor s t class handle v
stands_for s t class None v stands = record { q = null; stands = refl; is = stands }
stands_for s t class (Some h) v stands = record { q = stands.root; stands = stands.named; is = stands.is }

pub returns-in-Ref : goal.returns-in-Ref
returns-in-Ref g c b told count v progress stands leads =
    let one = stands_for c.args.store.now progress.holds.now c.in-Ref.class c.in-Ref.handle v (subst (λ (r : RawValue). RawStands c.args.store.now progress.holds.now r v) c.in-Ref.is stands) in
    subst (λ (w : Value). AnswersImagePart g.H.GcHeap.KIND b (λ x. ImageGoesOn g.H.GcHeap.KIND b told count c.args.store.now (found_handles c.take_reference.new.found) (λ then. SaysValue then w x)) ⊥ c.take_reference.result c.args.store.now) (sym one.is)
    (c.take_reference.ensures b told count one.q progress one.stands (subst (LeadsOn b) one.is leads))
