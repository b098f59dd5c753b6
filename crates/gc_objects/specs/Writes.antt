-- What calls that write a field or an element answer and leave.
use Rattle.std.specs.Prelude.{◌≡◌, ◌⊎◌, ℕ, ◌&&◌, Bool, true, false, [], ◌∷◌, Result, Ok, Err, Some, is_some, slice_get}
use Rattle.gc_types.specs.declared.kind.Layouts.{Layouts}
use Rattle.gc_types.specs.declared.value.FieldType.{FieldType}
use Rattle.gc_types.specs.declared.value.Mutability.{Mutability}
use Rattle.gc_types.specs.declared.value.Mutability.TheVariants.{Const, Var}
use Rattle.gc_model.specs.Values.{at, Value, Object}
use Rattle.gc_model.specs.SideValues.{SideValues, side_values, functions_full, conts_full}
use Rattle.gc_model.specs.Stored.{stored, value_type}
use Rattle.gc_model.specs.Table.{Table, write}
use Rattle.gc_model.specs.Stores.{StoreView}
use Rattle.gc_model.specs.Accounts.{Account, HoldsAccount}
use Rattle.gc_values.specs.declared.root.GcRootIndex.{GcRootIndex}
use Rattle.gc_values.specs.declared.faults.WriteFault.TheVariants as write_fault
use Rattle.gc_store.specs.Roots.{is_of_store, NamesReference, NamesNothing, HasValue}
use Rattle.gc_store.specs.Values.{WritesValue}
use Rattle.gc_objects.specs.declared.faults.AccessFault.{AccessFault}
use Rattle.gc_objects.specs.declared.faults.AccessFault.TheVariants as fault
use Rattle.gc_objects.specs.declared.val.Val.{Val}
use Rattle.gc_objects.specs.declared.val.Val.TheVariants as val
use Rattle.gc_objects.specs.Given.{raw_of, is_own, Goes, ValIsGone, Misfits}
use Rattle.gc_objects.specs.Reads.{IsOutside}

-- the handle and that of the value are the store's
abbrev pub are_own_both : {D : Type 0} → StoreView D → GcRootIndex → Val → Bool
are_own_both s handle v = is_of_store s handle && is_own s v

-- the handle names an object whose values of that index are of a type: a field of it, or an element whatever the index is
pub record HasType {D : Type 0} (s : StoreView D) (t : Table D) (handle : GcRootIndex) (index : ℕ) (field : FieldType) : Type 0 where
  pub position : ℕ
  pub named : NamesReference s t handle (at position)
  pub object : Object D
  pub object_is : slice_get t.objects position ≡ Some object
  pub field_is : value_type t.types object index ≡ Some field

-- such a type, of that mutability, and something that is found of it
pub record TypedAs {D : Type 0} (s : StoreView D) (t : Table D) (handle : GcRootIndex) (index : ℕ)
    (mutability : Mutability) (finds : FieldType → Type 0) : Type 0 where
  pub field : FieldType
  pub has : HasType s t handle index field
  pub mutable : field.mutability ≡ mutability
  pub found : finds field

-- a mutable field or element is there that the value goes into, so that all tests passed but that of ids
pub record GoesThere {D : Type 0} (s : StoreView D) (t : Table D) (handle : GcRootIndex) (index : ℕ) (v : Val) : Type 0 where
  pub before : Value
  pub has : HasValue s t handle index before
  pub field : FieldType
  pub field_is : value_type t.types has.object index ≡ Some field
  pub mutable : field.mutability ≡ Var
  pub value : Value
  pub goes : Goes s t (Some field) v value

-- no id is left for a value that isn't interned yet: for a function, or for a continuation
abbrev pub lacks_id : {D : Type 0} → (SideValues → SideValues → Bool) → Table D → Value → Bool
lacks_id full t x = full (side_values (x ∷ [])) t.interned

-- the field or element has the value now, as its type keeps it
pub record WritesThere {D : Type 0} (layouts : Layouts) (old : StoreView D) (t : Table D) (a : Account) (handle : GcRootIndex)
    (index : ℕ) (v : Val) (new : StoreView D) : Type 0 where
  pub there : GoesThere old t handle index v
  pub has_function_id : lacks_id functions_full t there.value ≡ false
  pub has_cont_id : lacks_id conts_full t there.value ≡ false
  pub holds : HoldsAccount layouts new (write there.has.position index (stored there.field.element_type there.value) t) a

-- no id is left for the value
pub record LacksId {D : Type 0} (full : SideValues → SideValues → Bool) (s : StoreView D) (t : Table D) (handle : GcRootIndex) (index : ℕ) (v : Val) : Type 0 where
  pub there : GoesThere s t handle index v
  pub lacks : lacks_id full t there.value ≡ true

-- a value that gets an id where it is written: a function, or none, or a continuation
abbrev pub takes_id : Val → Bool
takes_id (val.FuncRef f) = true
takes_id (val.ContRef c) = is_some c
takes_id _ = false

-- such a value goes there: for no other one memory is taken
pub record TakesId {D : Type 0} (s : StoreView D) (t : Table D) (handle : GcRootIndex) (index : ℕ) (v : Val) : Type 0 where
  pub there : GoesThere s t handle index v
  pub takes : takes_id v ≡ true

-- the value's root is gone, or it doesn't fit, where the field or element is mutable
abbrev pub LosesValue : {D : Type 0} → StoreView D → Table D → GcRootIndex → ℕ → Val → Type 0
LosesValue s t handle index v = TypedAs s t handle index Var (λ field. ValIsGone s t v)

abbrev pub RefusesValue : {D : Type 0} → StoreView D → Table D → GcRootIndex → ℕ → Val → Type 0
RefusesValue s t handle index v = TypedAs s t handle index Var (λ field. Misfits s t (Some field) v)

-- an element past the end, where all other tests of writing it passed
abbrev pub IsPastEnd : {D : Type 0} → StoreView D → Table D → GcRootIndex → ℕ → Val → Type 0
IsPastEnd s t handle index v = TypedAs s t handle index Var (λ field. (x : Value) × Goes s t (Some field) v x) × IsOutside s t handle index

-- What writing a value of the object that a handle names answers and leaves. Where there is no value of the index, is for
-- the kind of the object: a field is looked for before its type is asked, an element last.
abbrev pub Sets : {D : Type 0} → Type 0 → Layouts → StoreView D → Table D → Account → GcRootIndex → ℕ → Val → Result (Unit {0}) AccessFault
    → StoreView D → Type 0
Sets Outside layouts old t a handle index v (Ok done) new = (are_own_both old handle v ≡ true) × WritesThere layouts old t a handle index v new
Sets Outside layouts old t a handle index v (Err fault.WrongStore) new = are_own_both old handle v ≡ false
Sets Outside layouts old t a handle index v (Err fault.Unrooted) new =
    (are_own_both old handle v ≡ true) × (NamesNothing old t handle ⊎ LosesValue old t handle index v)
Sets Outside layouts old t a handle index v (Err fault.OutOfBounds) new = (are_own_both old handle v ≡ true) × Outside
Sets Outside layouts old t a handle index v (Err fault.Immutable) new =
    (are_own_both old handle v ≡ true) × TypedAs old t handle index Const (λ field. Unit {0})
Sets Outside layouts old t a handle index v (Err fault.TypeMismatch) new = (are_own_both old handle v ≡ true) × RefusesValue old t handle index v
Sets Outside layouts old t a handle index v (Err fault.LengthMismatch) new = ⊥
Sets Outside layouts old t a handle index v (Err fault.NotI8Array) new = ⊥
Sets Outside layouts old t a handle index v (Err fault.RootsFull) new = ⊥
Sets Outside layouts old t a handle index v (Err fault.FuncTableFull) new = (are_own_both old handle v ≡ true) × LacksId functions_full old t handle index v
Sets Outside layouts old t a handle index v (Err fault.ContTableFull) new = (are_own_both old handle v ≡ true) × LacksId conts_full old t handle index v
Sets Outside layouts old t a handle index v (Err fault.Memory) new = (are_own_both old handle v ≡ true) × TakesId old t handle index v

-- What the store answers to a write whose tests all passed, and leaves, by the faults of such a call: memory is wanted for
-- values that get ids alone.
abbrev pub WritesAs : {D : Type 0} → Layouts → StoreView D → StoreView D → Table D → Account → GcRootIndex → ℕ → Val → Result (Unit {0}) AccessFault
    → Type 0
WritesAs layouts old new t a handle index v (Ok done) = WritesValue layouts old new t a handle index (raw_of v) (Ok done)
WritesAs layouts old new t a handle index v (Err fault.WrongStore) = ⊥
WritesAs layouts old new t a handle index v (Err fault.Unrooted) = ⊥
WritesAs layouts old new t a handle index v (Err fault.OutOfBounds) = ⊥
WritesAs layouts old new t a handle index v (Err fault.Immutable) = ⊥
WritesAs layouts old new t a handle index v (Err fault.TypeMismatch) = ⊥
WritesAs layouts old new t a handle index v (Err fault.LengthMismatch) = ⊥
WritesAs layouts old new t a handle index v (Err fault.NotI8Array) = ⊥
WritesAs layouts old new t a handle index v (Err fault.RootsFull) = ⊥
WritesAs layouts old new t a handle index v (Err fault.FuncTableFull) = WritesValue layouts old new t a handle index (raw_of v) (Err write_fault.FuncTableFull)
WritesAs layouts old new t a handle index v (Err fault.ContTableFull) = WritesValue layouts old new t a handle index (raw_of v) (Err write_fault.ContTableFull)
WritesAs layouts old new t a handle index v (Err fault.Memory) = takes_id v ≡ true

abbrev pub SetsField : {D : Type 0} → Layouts → StoreView D → Table D → Account → GcRootIndex → ℕ → Val → Result (Unit {0}) AccessFault → StoreView D → Type 0
SetsField layouts old t a handle index v result new = Sets (IsOutside old t handle index) layouts old t a handle index v result new

abbrev pub SetsElement : {D : Type 0} → Layouts → StoreView D → Table D → Account → GcRootIndex → ℕ → Val → Result (Unit {0}) AccessFault → StoreView D → Type 0
SetsElement layouts old t a handle index v result new = Sets (IsPastEnd old t handle index v) layouts old t a handle index v result new
