-- What calls that read a field or an element answer and leave.
use Rattle.std.specs.Prelude.{◌≡◌, ℕ, ◌≤◌, true, false, Some, Result, Ok, Err, length, slice_get}
use Rattle.gc_types.specs.declared.kind.Layouts.{Layouts}
use Rattle.gc_types.specs.declared.value.FieldType.{FieldType}
use Rattle.gc_model.specs.Values.{at, Value, Object}
use Rattle.gc_model.specs.Reach.{object_values}
use Rattle.gc_model.specs.Stored.{value_type}
use Rattle.gc_model.specs.Holds.{HoldsTable}
use Rattle.gc_model.specs.Table.{Table}
use Rattle.gc_model.specs.Stores.{StoreView}
use Rattle.gc_model.specs.Accounts.{Account}
use Rattle.gc_values.specs.declared.root.GcRootIndex.{GcRootIndex}
use Rattle.gc_values.specs.declared.root.RootFault.{RootFault}
use Rattle.gc_values.specs.declared.root.RootFault.TheVariants as root_fault
use Rattle.gc_store.specs.Roots.{is_of_store, NamesReference, NamesNothing, HasValue}
use Rattle.gc_store.specs.Values.{ReadsValue}
use Rattle.gc_objects.specs.declared.faults.AccessFault.{AccessFault}
use Rattle.gc_objects.specs.declared.faults.AccessFault.TheVariants as fault
use Rattle.gc_objects.specs.declared.val.Val.{Val}
use Rattle.gc_objects.specs.Given.{raw_of}

-- the handle names an object that has no value of that index
pub record IsOutside {D : Type 0} (s : StoreView D) (t : Table D) (handle : GcRootIndex) (index : ℕ) : Type 0 where
  pub position : ℕ
  pub named : NamesReference s t handle (at position)
  pub object : Object D
  pub object_is : slice_get t.objects position ≡ Some object
  pub outside : length (object_values object) ≤ index

-- the handle names an object with a value of that index, of that type
pub record IsTypedAt {D : Type 0} (s : StoreView D) (t : Table D) (handle : GcRootIndex) (index : ℕ) (field : FieldType) : Type 0 where
  pub value : Value
  pub has : HasValue s t handle index value
  pub field_is : value_type t.types has.object index ≡ Some field

-- so in some table that the store holds
pub record IsTypedSomewhere (D : Type 0) (layouts : Layouts) (s : StoreView D) (handle : GcRootIndex) (index : ℕ) (field : FieldType) : Type 0 where
  pub table : Table D
  pub holds : HoldsTable layouts s table
  pub typed : IsTypedAt s table handle index field

-- what reading that value answers and leaves
abbrev pub ReadsAs : {D : Type 0} → Layouts → Table D → Account → Value → Result Val RootFault → StoreView D → Type 0
ReadsAs layouts t a x (Ok v) new = ReadsValue layouts t a x (Ok (raw_of v)) new
ReadsAs layouts t a x (Err why) new = ReadsValue layouts t a x (Err why) new

-- the handle names an object with a value of that index, which no root is made for
abbrev pub FailsToRead : {D : Type 0} → Layouts → StoreView D → Table D → Account → GcRootIndex → ℕ → RootFault → StoreView D → Type 0
FailsToRead layouts old t a handle index why new = (x : Value) × (HasValue old t handle index x × ReadsAs layouts t a x (Err why) new)

-- What reading a value of the object that a handle names answers and leaves.
abbrev pub ReadsAt : {D : Type 0} → Layouts → StoreView D → Table D → Account → GcRootIndex → ℕ → Result Val AccessFault → StoreView D → Type 0
ReadsAt layouts old t a handle index (Ok v) new = (x : Value) × (HasValue old t handle index x × ReadsAs layouts t a x (Ok v) new)
ReadsAt layouts old t a handle index (Err fault.WrongStore) new = is_of_store old handle ≡ false
ReadsAt layouts old t a handle index (Err fault.Unrooted) new = (is_of_store old handle ≡ true) × NamesNothing old t handle
ReadsAt layouts old t a handle index (Err fault.OutOfBounds) new = IsOutside old t handle index
ReadsAt layouts old t a handle index (Err fault.Immutable) new = ⊥
ReadsAt layouts old t a handle index (Err fault.TypeMismatch) new = ⊥
ReadsAt layouts old t a handle index (Err fault.LengthMismatch) new = ⊥
ReadsAt layouts old t a handle index (Err fault.NotI8Array) new = ⊥
ReadsAt layouts old t a handle index (Err fault.RootsFull) new = FailsToRead layouts old t a handle index root_fault.RootsFull new
ReadsAt layouts old t a handle index (Err fault.FuncTableFull) new = ⊥
ReadsAt layouts old t a handle index (Err fault.ContTableFull) new = ⊥
ReadsAt layouts old t a handle index (Err fault.Memory) new = FailsToRead layouts old t a handle index root_fault.Memory new
