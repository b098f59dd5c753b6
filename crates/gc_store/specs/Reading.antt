-- What a read of an object finds.
use Rattle.std.specs.Prelude.{◌≡◌, ℕ, ◌<◌, Option, Some, Result, Ok, Err, slice_get}
use Rattle.gc_types.specs.declared.kind.Layouts.{Layouts}
use Rattle.gc_owner.specs.declared.entry.GcClass.{GcClass}
use Rattle.gc_model.specs.Values.{Reference, at, Value, reference, Object}
use Rattle.gc_model.specs.Reach.{object_values}
use Rattle.gc_model.specs.Table.{Table}
use Rattle.gc_model.specs.Stores.{StoreView}
use Rattle.gc_model.specs.Forms.{naming}
use Rattle.gc_model.specs.Holds.{Holds, Placing, IsWord}
use Rattle.gc_model.specs.Accounts.{Account, IsAccount}
use Rattle.gc_values.specs.declared.stored.Found.{Found}
use Rattle.gc_values.specs.declared.root.GcRootIndex.{GcRootIndex}
use Rattle.gc_values.specs.declared.root.RawValue.{RawValue}
use Rattle.gc_values.specs.declared.root.RawValue.TheVariants as raw
use Rattle.gc_values.specs.declared.root.RootFault.{RootFault}
use Rattle.gc_store.specs.Roots.{HasValue, IsRootWord}
use Rattle.gc_store.specs.Values.{ReadsValue}
use Rattle.gc_values.specs.Kept.{FoundStands}

-- what is found is the value of the table, for each table and placing that the store holds
abbrev pub FindsValue : (D : Type 0) → Layouts → StoreView D → GcRootIndex → ℕ → Found → Type 0
FindsValue D layouts s handle index x =
    (t : Table D) (place : Placing) (v : Value) → Holds layouts s t place → HasValue s t handle index v → FoundStands (naming place s.ids) x v

-- the object with that word has that value at that index: a field of a struct or an exception, or an element of an array
pub record HasValueIn {D : Type 0} (t : Table D) (place : Placing) (word index : ℕ) (value : Value) : Type 0 where
  pub position : ℕ
  pub is_word : IsWord place (at position) word
  pub object : Object D
  pub object_is : slice_get t.objects position ≡ Some object
  pub value_at : slice_get (object_values object) index ≡ Some value

-- the word is that of an object with a value at that index, in some table that the store holds
pub record CanReadIn (D : Type 0) (layouts : Layouts) (s : StoreView D) (word index : ℕ) : Type 0 where
  pub table : Table D
  pub place : Placing
  pub holds : Holds layouts s table place
  pub value : Value
  pub has : HasValueIn table place word index value

-- what is found by a word is the value of the table, for each table and placing that the store holds
abbrev pub FindsValueIn : (D : Type 0) → Layouts → StoreView D → ℕ → ℕ → Found → Type 0
FindsValueIn D layouts s word index x =
    (t : Table D) (place : Placing) (v : Value) → Holds layouts s t place → HasValueIn t place word index v → FoundStands (naming place s.ids) x v

-- what was found is a value now, in some table that the store holds
pub record IsFoundHere (D : Type 0) (layouts : Layouts) (s : StoreView D) (found : Found) : Type 0 where
  pub table : Table D
  pub place : Placing
  pub holds : Holds layouts s table place
  pub value : Value
  pub stands : FoundStands (naming place s.ids) found value

-- a word is 0, or that of a root of some table that the store holds
abbrev pub IsReferenceWord : (D : Type 0) → Layouts → StoreView D → ℕ → Type 0
IsReferenceWord D layouts s word = 0 < word → IsRootWord D layouts s word

-- a reference that is answered, as a value of that class
abbrev pub reference_value : GcClass → Result (Option GcRootIndex) RootFault → Result RawValue RootFault
reference_value class (Ok handle) = Ok (raw.Ref class handle)
reference_value class (Err fault) = Err fault

-- Reading a reference with that word, as one of any class, answers this and leaves this.
abbrev pub ReadsReference : {D : Type 0} → Layouts → StoreView D → ℕ → Result (Option GcRootIndex) RootFault → StoreView D → Type 0
ReadsReference {D} layouts old word answer new =
    (t : Table D) (place : Placing) (a : Account) (class : GcClass) (r : Reference) → Holds layouts old t place → IsAccount layouts old place a
    → IsWord place r word
    → ReadsValue layouts t a (reference class r) (reference_value class answer) new
