-- What the parts of the search are given and answer.
use Rattle.std.specs.Prelude.{◌≡◌, ◌<◌, ◌^◌, ◌+◌, ℕ, true, List, Option, Some, None, Result, Ok, Err, length, slice_get}
use Rattle.gc_types.specs.declared.kind.Layouts.{Layouts}
use Rattle.gc_types.specs.declared.value.FieldType.{FieldType}
use Rattle.gc_types.specs.declared.value.StorageType.TheVariants as storage
use Rattle.gc_types.specs.Declarations.{Declaration, elem_at}
use Rattle.gc_model.specs.Reach.{object_values, value_references}
use Rattle.gc_model.specs.Stores.{StoreView}
use Rattle.gc_model.specs.Table.{Table}
use Rattle.gc_model.specs.Values.{Object, Reference, Value, at, null, small, struct, array, host, exception}
use Rattle.gc_model.specs.Words.{Placing}
use Rattle.std.specs.List.{AllByRecursion, Contains}
use Rattle.gc_values.specs.declared.root.GcRootIndex.{GcRootIndex}
use Rattle.gc_values.specs.declared.root.RootFault.{RootFault}
use Rattle.gc_values.specs.declared.root.RootFault.TheVariants as root
use Rattle.gc_values.specs.declared.root.RootedObject.{RootedObject}
use Rattle.gc_values.specs.declared.root.RootedObject.TheVariants as rooted
use Rattle.gc_store.specs.Bytes.{CopiesBytes}
use Rattle.gc_store.specs.Roots.{IsObject}
use Rattle.gc_paths.specs.Answers.{LacksRoots}
use Rattle.gc_paths.specs.Progress.{Basis, values_count}
use Rattle.gc_image.specs.declared.image.ImageReference.{ImageReference}
use Rattle.gc_image.specs.declared.image.ImageReference.TheVariants as image_reference
use Rattle.gc_image.specs.declared.image.ImageValue.{ImageValue}
use Rattle.gc_image.specs.declared.image.ObjectLine.{ObjectLine}
use Rattle.gc_image.specs.declared.image.ObjectLine.TheVariants as line
use Rattle.gc_image.specs.Images.{IsGlobal}
use Rattle.gc_image.specs.Well.{IsPacked}
use Rattle.gc_save_image.specs.declared.collect_fault.CollectFault.{CollectFault}
use Rattle.gc_save_image.specs.declared.collect_fault.CollectFault.TheVariants as fault
use Rattle.gc_save_image.specs.Parts.{FoundHandles, NumbersObject, SameFound}
use Rattle.gc_save_image.specs.Progress.{AnswersImagePart, ImageGoesOn, ImageProgress, SaysObject}

-- the object that a reference is has a number, and a small integer is itself
abbrev pub MakesImageReference : Placing → Reference → GcRootIndex → FoundHandles → FoundHandles → ImageReference → Type 0
MakesImageReference place null handle old new x = ⊥
MakesImageReference place (small n) handle old new x = (x ≡ image_reference.Small n) × (n < 2 ^ 31) × SameFound old new
MakesImageReference place (at p) handle old new x =
    (word : ℕ) × (number : ℕ) × ((place p ≡ Some word) × (number < 2 ^ 64) × (x ≡ image_reference.Object number) × NumbersObject old new word handle number)

-- Only want of memory is refused.
abbrev pub TakesImageReference : Placing → Reference → GcRootIndex → FoundHandles → FoundHandles → Result ImageReference CollectFault → Type 0
TakesImageReference place r handle old new (Ok x) = MakesImageReference place r handle old new x
TakesImageReference place r handle old new (Err why) = why ≡ fault.Memory

-- why nothing is collected where a root isn't made
abbrev pub collect_fault : RootFault → CollectFault
collect_fault root.WrongStore = fault.Memory
collect_fault root.Unrooted = fault.Memory
collect_fault root.RootsFull = fault.RootsFull
collect_fault root.Memory = fault.Memory

-- what a value names is reached
abbrev pub LeadsOn : {D : Type 0} → Basis D → Value → Type 0
LeadsOn b v = (p : ℕ) → Contains (value_references v) (at p) → IsGlobal b.table p

-- the object with that number
pub record IsNumberedObject {D : Type 0} (b : Basis D) (told : List ℕ) (number : ℕ) (object : Object D) : Type 0 where
  pub position : ℕ
  pub there : slice_get told number ≡ Some position
  pub object_is : slice_get b.table.objects position ≡ Some object

-- in some search, that is an object's number
pub record CanTakeObjectLine (D : Type 0) (layouts : Layouts) (s : StoreView D) (f : FoundHandles) (number : ℕ) : Type 0 where
  pub basis : Basis D
  pub told : List ℕ
  pub count : ℕ
  pub progress : ImageProgress layouts basis told count s f
  pub object : Object D
  pub reading : IsNumberedObject basis told number object

-- and the object has a value of that index
pub record CanTakeImageValue (D : Type 0) (layouts : Layouts) (s : StoreView D) (f : FoundHandles) (number index : ℕ) : Type 0 where
  pub can : CanTakeObjectLine D layouts s f number
  pub value : Value
  pub value_at : slice_get (object_values can.object) index ≡ Some value

-- and it has so many values
pub record CanTakeValues (D : Type 0) (layouts : Layouts) (s : StoreView D) (f : FoundHandles) (number count : ℕ) : Type 0 where
  pub can : CanTakeObjectLine D layouts s f number
  pub count_is : count ≡ length (object_values can.object)

-- and this says what it is
pub record CanTakeKind (layouts : Layouts) (s : StoreView ℕ) (f : FoundHandles) (number : ℕ) (kind : RootedObject) : Type 0 where
  pub can : CanTakeObjectLine ℕ layouts s f number
  pub kind_is : IsObject (Some can.object) kind

-- it is an array of that type and length, whose elements are bytes
abbrev pub IsOfBytes : List Declaration → RootedObject → ℕ × ℕ → Type 0
IsOfBytes types kind found = (kind ≡ rooted.Array found.0 found.1) × IsPacked (elem_at types found.0) true

-- it is none
abbrev pub NoBytes : List Declaration → RootedObject → Type 0
NoBytes types kind = (ty len : ℕ) (elem : FieldType) → kind ≡ rooted.Array ty len → elem_at types ty ≡ Some elem → ¬ (elem.element_type ≡ storage.I8)

-- the line of an object that is no array of bytes, with these words
abbrev pub IsWordsLine : Option (Object ℕ) → List ImageValue → ObjectLine → Type 0
IsWordsLine None words l = ⊥
IsWordsLine (Some (struct ty values)) words l = l ≡ line.Struct ty words
IsWordsLine (Some (array ty values)) words l = l ≡ line.Array ty words
IsWordsLine (Some (host number)) words l = (l ≡ line.Host number) × (number < 2 ^ 64)
IsWordsLine (Some (exception ty tag values)) words l = (l ≡ line.Exn ty tag words) × (tag.instance < 2 ^ 32) × (tag.index < 2 ^ 32)

-- the line of an array of bytes, which are the values of the array that a handle names
abbrev pub IsBytesLine : StoreView ℕ → Table ℕ → GcRootIndex → ℕ → ObjectLine → Type 0
IsBytesLine s t handle ty l = (bytes : List ℕ) × (l ≡ line.Bytes ty bytes) × AllByRecursion (λ b. b < 2 ^ 8) bytes × CopiesBytes s t handle bytes

-- What taking an object whose values are so many answers.
abbrev pub TakesObjectLine : Layouts → Basis ℕ → List ℕ → ℕ → Object ℕ → Result ObjectLine CollectFault → StoreView ℕ → FoundHandles → Type 0
TakesObjectLine layouts b told start o result s f =
    AnswersImagePart layouts b (λ (l : ObjectLine). ImageGoesOn layouts b told (start + values_count (object_values o)) s f (λ then. SaysObject b.table.types then o l))
    (LacksRoots b.table (start + values_count (object_values o))) result s
