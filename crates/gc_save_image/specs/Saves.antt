-- What saving an image answers.
use Rattle.std.specs.Prelude.{◌≡◌, ◌<◌, ℕ, List, Option, None, Some, Result, Ok, Err, true, length, slice_get}
use Rattle.gc_types.specs.declared.value.FieldType.{FieldType}
use Rattle.gc_owner.specs.declared.entry.GcClass.{GcClass}
use Rattle.gc_model.specs.Reach.{object_values}
use Rattle.gc_model.specs.Stored.{value_type}
use Rattle.gc_model.specs.Table.{Table}
use Rattle.gc_model.specs.Values.{Object, at, reference}
use Rattle.gc_image.specs.Images.{ImagesText, IsGlobal}
use Rattle.gc_image.specs.Well.{is_early}
use Rattle.gc_image_write.specs.InTurn.{IsInTurn}
use Rattle.gc_image_write.specs.Plain.{ArePlain}
use Rattle.gc_save_image.specs.Answers.{LacksImageRoots}
use Rattle.gc_save_image.specs.declared.fault.SaveFault.{SaveFault}
use Rattle.gc_save_image.specs.declared.fault.SaveFault.TheVariants as fault

-- An object must have another from the start: one of its values names it, whose field or element is constant or not nullable.
pub record NeedsEarly {D : Type 0} (t : Table D) (from to : ℕ) : Type 0 where
  pub object : Object D
  pub there : slice_get t.objects from ≡ Some object
  pub index : ℕ
  pub class : GcClass
  pub named : slice_get (object_values object) index ≡ Some (reference class (at to))
  pub field : FieldType
  pub field_is : value_type t.types object index ≡ Some field
  pub early : is_early field ≡ true

-- Some objects that the globals reach each need another of them from the start, or themselves. As they are finitely many, some of them need
-- each other in a circle, of which none can be made first.
pub record IsTangled {D : Type 0} (t : Table D) : Type 0 where
  pub positions : List ℕ
  pub some : 0 < length positions
  pub reached : (k p : ℕ) → slice_get positions k ≡ Some p → IsGlobal t p
  pub each : (k p : ℕ) → slice_get positions k ≡ Some p → (j : ℕ) × (q : ℕ) × ((slice_get positions j ≡ Some q) × NeedsEarly t p q)

-- The bytes are the text of an image of the table whose objects stand in the order that the rule gives; none of the tests refuses the table.
pub record Saved (t : Table ℕ) (bytes : List ℕ) : Type 0 where
  pub images : ImagesText t bytes
  pub in_turn : IsInTurn images.image images.images.well
  pub plain : ArePlain t.types
  pub room : ¬ LacksImageRoots t
  pub apart : ¬ IsTangled t

-- why nothing is saved: the first test that refuses
abbrev pub RefusesSave : Table ℕ → SaveFault → Type 0
RefusesSave t fault.NotPlain = ¬ ArePlain t.types
RefusesSave t fault.RootsFull = ArePlain t.types × LacksImageRoots t
RefusesSave t fault.Tangled = ArePlain t.types × (¬ LacksImageRoots t) × IsTangled t
RefusesSave t fault.Memory = Unit {0}

-- why nothing was written: there is no order, or no memory
abbrev pub Unwritten : {A E : Type 0} → Result (Option A) E → SaveFault → Type 0
Unwritten (Ok (Some x)) why = ⊥
Unwritten (Ok None) why = why ≡ fault.Tangled
Unwritten (Err e) why = why ≡ fault.Memory
