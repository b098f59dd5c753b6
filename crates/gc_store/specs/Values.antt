-- The values that go in and out of a store.
use Rattle.std.specs.Prelude.{◌≡◌, ℕ, ℤ, Bool, true, false, List, [], ◌∷◌, Some, None, Result, Ok, Err, length, slice_get}
use Rattle.std.specs.Int.{w32, w64}
use Rattle.gc_types.specs.declared.value.FieldType.{FieldType}
use Rattle.gc_types.specs.declared.value.Mutability.TheVariants.{Var}
use Rattle.gc_types.specs.declared.value.StorageType.{StorageType}
use Rattle.gc_types.specs.declared.kind.Layouts.{Layouts}
use Rattle.gc_owner.specs.declared.entry.GcClass.{GcClass}
use Rattle.gc_model.specs.Values.{Reference, null, small, at, Value, numeric, i32, i64, f32, f64, v128, function, continuation, reference, number_bits}
use Rattle.gc_model.specs.SideValues.{SideValues, side_values, functions_full, conts_full}
use Rattle.gc_model.specs.Fits.{fits}
use Rattle.gc_model.specs.Stored.{stored, value_type}
use Rattle.gc_model.specs.Table.{Table, write}
use Rattle.gc_model.specs.Live.{roots_full}
use Rattle.gc_model.specs.Reads.{makes_root, after_read}
use Rattle.gc_model.specs.Stores.{StoreView}
use Rattle.gc_model.specs.Holds.{HoldsTable}
use Rattle.gc_values.specs.declared.root.GcRootIndex.{GcRootIndex}
use Rattle.gc_values.specs.declared.root.RawValue.{RawValue}
use Rattle.gc_values.specs.declared.root.RawValue.TheVariants as raw
use Rattle.gc_values.specs.declared.root.RootFault.{RootFault}
use Rattle.gc_values.specs.declared.root.RootFault.TheVariants as fault
use Rattle.gc_values.specs.declared.faults.WriteFault.{WriteFault}
use Rattle.gc_values.specs.declared.faults.WriteFault.TheVariants as write_fault
use Rattle.gc_model.specs.Accounts.{Account, HoldsAccount}
use Rattle.gc_store.specs.Roots.{NamesReference, HasValue, handle_of}

-- the handle is live, and the value is what its root names
pub record RootStands {D : Type 0} (s : StoreView D) (t : Table D) (class : GcClass) (handle : GcRootIndex) (v : Value) : Type 0 where
  pub root : Reference
  pub named : NamesReference s t handle root
  pub is : v ≡ reference class root

-- a value that is given to the store stands for one of the table
abbrev pub RawStands : {D : Type 0} → StoreView D → Table D → RawValue → Value → Type 0
RawStands s t (raw.I32 n) v = v ≡ numeric i32 (number_bits w32 n)
RawStands s t (raw.I64 n) v = v ≡ numeric i64 (number_bits w64 n)
RawStands s t (raw.F32 n) v = v ≡ numeric f32 n
RawStands s t (raw.F64 n) v = v ≡ numeric f64 n
RawStands s t (raw.V128 n) v = v ≡ numeric v128 n
RawStands s t (raw.Func f) v = v ≡ function f
RawStands s t (raw.Cont c) v = v ≡ continuation c
RawStands s t (raw.Ref class None) v = v ≡ reference class null
RawStands s t (raw.Ref class (Some handle)) v = RootStands s t class handle v

-- the same of lists
pub record AllStand {D : Type 0} (s : StoreView D) (t : Table D) (raws : List RawValue) (values : List Value) : Type 0 where
  pub same_count : length raws ≡ length values
  pub each : (i : ℕ) (r : RawValue) (v : Value) → slice_get raws i ≡ Some r → slice_get values i ≡ Some v → RawStands s t r v

-- the handle is live in a table that the store holds
pub record IsLive (D : Type 0) (layouts : Layouts) (s : StoreView D) (handle : GcRootIndex) : Type 0 where
  pub table : Table D
  pub holds : HoldsTable layouts s table
  pub root : Reference
  pub named : NamesReference s table handle root

-- a value's handle is live
abbrev pub NamesLive : (D : Type 0) → Layouts → StoreView D → RawValue → Type 0
NamesLive D layouts s (raw.I32 n) = Unit {0}
NamesLive D layouts s (raw.I64 n) = Unit {0}
NamesLive D layouts s (raw.F32 n) = Unit {0}
NamesLive D layouts s (raw.F64 n) = Unit {0}
NamesLive D layouts s (raw.V128 n) = Unit {0}
NamesLive D layouts s (raw.Func f) = Unit {0}
NamesLive D layouts s (raw.Cont c) = Unit {0}
NamesLive D layouts s (raw.Ref class None) = Unit {0}
NamesLive D layouts s (raw.Ref class (Some handle)) = IsLive D layouts s handle

-- A value may be put into a field or an element of that type: its handle is live, and it fits the type, in each table
-- that the store holds.
pub record CanStore (D : Type 0) (layouts : Layouts) (s : StoreView D) (ty : StorageType) (r : RawValue) : Type 0 where
  pub live : NamesLive D layouts s r
  pub fits : (t : Table D) (v : Value) → HoldsTable layouts s t → RawStands s t r v → fits t.types t.objects ty v ≡ true

-- the value that a read answers, whose new root is the newest one
abbrev pub IsReadAs : {D : Type 0} → StoreView D → Table D → Value → RawValue → Type 0
IsReadAs s t (numeric i32 n) r = (z : ℤ) × ((r ≡ raw.I32 z) × (n ≡ number_bits w32 z))
IsReadAs s t (numeric i64 n) r = (z : ℤ) × ((r ≡ raw.I64 z) × (n ≡ number_bits w64 z))
IsReadAs s t (numeric f32 n) r = r ≡ raw.F32 n
IsReadAs s t (numeric f64 n) r = r ≡ raw.F64 n
IsReadAs s t (numeric v128 n) r = r ≡ raw.V128 n
IsReadAs s t (function f) r = r ≡ raw.Func f
IsReadAs s t (continuation c) r = r ≡ raw.Cont c
IsReadAs s t (reference class null) r = r ≡ raw.Ref class None
IsReadAs s t (reference class (small n)) r = r ≡ raw.Ref class (Some (handle_of s (length t.scoped) t.drops))
IsReadAs s t (reference class (at p)) r = r ≡ raw.Ref class (Some (handle_of s (length t.scoped) t.drops))

-- What reading that value of the table answers and leaves. Only a read that makes a root can be refused.
abbrev pub ReadsValue : {D : Type 0} → Layouts → Table D → Account → Value → Result RawValue RootFault → StoreView D → Type 0
ReadsValue layouts t a v (Ok r) new =
    (makes_root v ≡ true → roots_full t ≡ false) × (IsReadAs new t v r × HoldsAccount layouts new (after_read v t) a)
ReadsValue layouts t a v (Err fault.WrongStore) new = ⊥
ReadsValue layouts t a v (Err fault.Unrooted) new = ⊥
ReadsValue layouts t a v (Err fault.RootsFull) new = (makes_root v ≡ true) × ((roots_full t ≡ true) × HoldsAccount layouts new t a)
ReadsValue layouts t a v (Err fault.Memory) new = (makes_root v ≡ true) × HoldsAccount layouts new t a

-- a value may be written there: the handle names an object with a value at that index, which may be changed and of whose type it is
pub record CanWrite (D : Type 0) (layouts : Layouts) (s : StoreView D) (handle : GcRootIndex) (index : ℕ) (r : RawValue) : Type 0 where
  pub table : Table D
  pub holds : HoldsTable layouts s table
  pub before : Value
  pub has : HasValue s table handle index before
  pub field : FieldType
  pub field_is : value_type table.types has.object index ≡ Some field
  pub can_store : CanStore D layouts s field.element_type r
  pub mutable : field.mutability ≡ Var

-- the object that the handle names in a table that the store held keeps the value there now, as its type says
abbrev pub KeepsValue : {D : Type 0} → Layouts → StoreView D → StoreView D → Table D → Account → GcRootIndex → ℕ → RawValue → Type 0
KeepsValue layouts old new t a handle index r =
    (before v : Value) (has : HasValue old t handle index before) (field : FieldType) → value_type t.types has.object index ≡ Some field
    → RawStands old t r v → HoldsAccount layouts new (write has.position index (stored field.element_type v) t) a

-- it is a function value, or a continuation, that isn't interned yet, and as many are as may be
abbrev pub IsPastIds : {D : Type 0} → (SideValues → SideValues → Bool) → StoreView D → Table D → RawValue → Bool → Type 0
IsPastIds full old t r answer = (v : Value) → RawStands old t r v → full (side_values (v ∷ [])) t.interned ≡ answer

-- it gets an id, where it has none
pub record HasId {D : Type 0} (old : StoreView D) (t : Table D) (r : RawValue) : Type 0 where
  pub functions : IsPastIds functions_full old t r false
  pub conts : IsPastIds conts_full old t r false

-- What writing a value answers and leaves, for a table and an account that the store held.
abbrev pub WritesValue : {D : Type 0} → Layouts → StoreView D → StoreView D → Table D → Account → GcRootIndex → ℕ → RawValue → Result (Unit {0}) WriteFault → Type 0
WritesValue layouts old new t a handle index r (Ok done) = KeepsValue layouts old new t a handle index r × HasId old t r
WritesValue layouts old new t a handle index r (Err write_fault.FuncTableFull) = IsPastIds functions_full old t r true × HoldsAccount layouts new t a
WritesValue layouts old new t a handle index r (Err write_fault.ContTableFull) = IsPastIds conts_full old t r true × HoldsAccount layouts new t a
WritesValue layouts old new t a handle index r (Err write_fault.Memory) = HoldsAccount layouts new t a
