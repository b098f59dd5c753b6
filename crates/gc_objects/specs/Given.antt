-- The values that calls are given, and what their tests find.
use Rattle.std.specs.Prelude.{◌≡◌, ℕ, ◌<◌, ◌==◌, ◌||◌, Bool, true, false, List, Option, Some, None, Result, Ok, Err, length, slice_get}
use Rattle.std.specs.List.{list_all}
use Rattle.std.specs.Option.{option_and_then}
use Rattle.gc_types.specs.declared.kind.Layouts.{Layouts}
use Rattle.gc_types.specs.declared.kind.VMGcKind.{VMGcKind}
use Rattle.gc_types.specs.declared.kind.VMGcKind.TheVariants as kinds
use Rattle.gc_types.specs.declared.value.FieldType.{FieldType}
use Rattle.gc_types.specs.Declarations.{Declaration, fields_at, elem_at}
use Rattle.gc_owner.specs.declared.entry.GcClass.{GcClass}
use Rattle.gc_owner.specs.declared.entry.GcClass.TheVariants.{Any, Extern, Exn}
use Rattle.gc_model.specs.Values.{Value}
use Rattle.gc_model.specs.Fits.{fits}
use Rattle.gc_model.specs.Table.{Table}
use Rattle.gc_model.specs.Stores.{StoreView}
use Rattle.gc_values.specs.declared.root.GcRootIndex.{GcRootIndex}
use Rattle.gc_values.specs.declared.root.RawValue.{RawValue}
use Rattle.gc_values.specs.declared.root.RawValue.TheVariants as raw
use Rattle.gc_rooted.specs.declared.rooted.Rooted.{Rooted}
use Rattle.gc_store.specs.Roots.{is_of_store, NamesNothing}
use Rattle.gc_store.specs.Values.{IsLive, RawStands, CanStore}
use Rattle.gc_values.specs.RawValues.{raw_handle}
use Rattle.gc_store.specs.Kinds.{NamesKind, IsScopedOfKind}
use Rattle.gc_objects.specs.declared.checks.ValueTypes.{ValueTypes}
use Rattle.gc_objects.specs.declared.checks.ValueTypes.TheVariants as value_types
use Rattle.gc_objects.specs.declared.faults.ValueFault.{ValueFault}
use Rattle.gc_objects.specs.declared.faults.ValueFault.TheVariants as value_fault
use Rattle.gc_objects.specs.declared.val.Val.{Val}
use Rattle.gc_objects.specs.declared.val.Val.TheVariants as val

-- the root of a handle, where there is one
abbrev pub root_of_handle : {T : Type 0} → Option (Rooted T) → Option GcRootIndex
root_of_handle None = None
root_of_handle (Some handle) = Some handle.index

-- a value as the store takes it
abbrev pub raw_of : Val → RawValue
raw_of (val.I32 n) = raw.I32 n
raw_of (val.I64 n) = raw.I64 n
raw_of (val.F32 n) = raw.F32 n
raw_of (val.F64 n) = raw.F64 n
raw_of (val.V128 n) = raw.V128 n
raw_of (val.FuncRef f) = raw.Func f
raw_of (val.ContRef c) = raw.Cont c
raw_of (val.ExternRef handle) = raw.Ref Extern (root_of_handle handle)
raw_of (val.AnyRef handle) = raw.Ref Any (root_of_handle handle)
raw_of (val.ExnRef handle) = raw.Ref Exn (root_of_handle handle)

-- the root that a value names, where it does
abbrev pub named_root : Val → Option GcRootIndex
named_root v = raw_handle (raw_of v)

abbrev pub is_own_root : {D : Type 0} → StoreView D → Option GcRootIndex → Bool
is_own_root s None = true
is_own_root s (Some handle) = is_of_store s handle

-- whether a value has no handle of another store, and so of several
abbrev pub is_own : {D : Type 0} → StoreView D → Val → Bool
is_own s v = is_own_root s (named_root v)

abbrev pub are_own : {D : Type 0} → StoreView D → List Val → Bool
are_own s vs = list_all (is_own s) vs

-- a value that is given for so many elements; where there are none, it isn't looked at
abbrev pub is_own_of : {D : Type 0} → StoreView D → Val → ℕ → Bool
is_own_of s v count = (count == 0) || is_own s v

-- a value stands for one of the table
abbrev pub ValStands : {D : Type 0} → StoreView D → Table D → Val → Value → Type 0
ValStands s t v x = RawStands s t (raw_of v) x

-- the root of a value is gone
abbrev pub RawIsGone : {D : Type 0} → StoreView D → Table D → RawValue → Type 0
RawIsGone s t r = (handle : GcRootIndex) × ((raw_handle r ≡ Some handle) × NamesNothing s t handle)

abbrev pub ValIsGone : {D : Type 0} → StoreView D → Table D → Val → Type 0
ValIsGone s t v = RawIsGone s t (raw_of v)

-- the root stands in some table that the store holds, where there is one
abbrev pub RootIsLive : (D : Type 0) → Layouts → StoreView D → Option GcRootIndex → Type 0
RootIsLive D layouts s None = Unit {0}
RootIsLive D layouts s (Some handle) = IsLive D layouts s handle

-- whether a value goes into a field or an element: it fits the type, where there is one
abbrev pub goes : {D : Type 0} → Table D → Option FieldType → Value → Bool
goes t None x = false
goes t (Some field) x = fits t.types t.objects field.element_type x

-- a value that is given stands for that one of the table, and goes where it is meant to
pub record Goes {D : Type 0} (s : StoreView D) (t : Table D) (field : Option FieldType) (v : Val) (x : Value) : Type 0 where
  pub stands : ValStands s t v x
  pub fits : goes t field x ≡ true

-- a value that is given has a live root or needs none, and doesn't go where it is meant to
pub record Misfits {D : Type 0} (s : StoreView D) (t : Table D) (field : Option FieldType) (v : Val) : Type 0 where
  pub value : Value
  pub stands : ValStands s t v value
  pub fits_not : goes t field value ≡ false

-- a value that is found live stands for one of the table; else its root is gone
abbrev pub IsLiveOrGone : {D : Type 0} → StoreView D → Table D → Val → Bool → Type 0
IsLiveOrGone s t v true = (x : Value) × ValStands s t v x
IsLiveOrGone s t v false = ValIsGone s t v

-- what the tests of a value find, in their order
abbrev pub ChecksValue : {D : Type 0} → StoreView D → Table D → Option FieldType → Val → Result (Unit {0}) ValueFault → Type 0
ChecksValue s t field v (Ok done) = (x : Value) × Goes s t field v x
ChecksValue s t field v (Err value_fault.Unrooted) = ValIsGone s t v
ChecksValue s t field v (Err value_fault.TypeMismatch) = Misfits s t field v

-- the same of a value for so many elements
abbrev pub ChecksFilling : {D : Type 0} → StoreView D → Table D → Option FieldType → Val → ℕ → Result (Unit {0}) ValueFault → Type 0
ChecksFilling s t field v count (Ok done) = (x : Value) × (0 < count → Goes s t field v x)
ChecksFilling s t field v count (Err why) = (0 < count) × ChecksValue s t field v (Err why)

-- The type of the value of an index: of a field of a struct or an exception, or of an element whatever the index is.
abbrev pub field_types : List Declaration → ℕ → ℕ → Option FieldType
field_types types ty index = option_and_then (λ fields. slice_get fields index) (fields_at types ty)

abbrev pub element_types : List Declaration → ℕ → ℕ → Option FieldType
element_types types ty index = elem_at types ty

abbrev pub types_of : List Declaration → ValueTypes → ℕ → Option FieldType
types_of types (value_types.Fields ty) = field_types types ty
types_of types (value_types.Elements ty) = element_types types ty

-- all values go, each into its own, and stand for those of the table
pub record AllGo {D : Type 0} (s : StoreView D) (t : Table D) (types : ℕ → Option FieldType) (vs : List Val) (xs : List Value) : Type 0 where
  pub same_count : length vs ≡ length xs
  pub each : (i : ℕ) (v : Val) (x : Value) → slice_get vs i ≡ Some v → slice_get xs i ≡ Some x → Goes s t (types i) v x

-- the value at that index is the first that doesn't go
pub record IsFirst {D : Type 0} (s : StoreView D) (t : Table D) (types : ℕ → Option FieldType) (vs : List Val) (index : ℕ) (v : Val) : Type 0 where
  pub value_at : slice_get vs index ≡ Some v
  pub before : (i : ℕ) (w : Val) → i < index → slice_get vs i ≡ Some w → (x : Value) × Goes s t (types i) w x

-- the first value that doesn't go has a root that is gone, or fits not
abbrev pub FirstGone : {D : Type 0} → StoreView D → Table D → (ℕ → Option FieldType) → List Val → Type 0
FirstGone s t types vs = (index : ℕ) × ((v : Val) × (IsFirst s t types vs index v × ValIsGone s t v))

abbrev pub FirstMisfit : {D : Type 0} → StoreView D → Table D → (ℕ → Option FieldType) → List Val → Type 0
FirstMisfit s t types vs = (index : ℕ) × ((v : Val) × (IsFirst s t types vs index v × Misfits s t (types index) v))

-- what the tests of values find
abbrev pub ChecksValues : {D : Type 0} → StoreView D → Table D → (ℕ → Option FieldType) → List Val → Result (Unit {0}) ValueFault → Type 0
ChecksValues s t types vs (Ok done) = (xs : List Value) × AllGo s t types vs xs
ChecksValues s t types vs (Err value_fault.Unrooted) = FirstGone s t types vs
ChecksValues s t types vs (Err value_fault.TypeMismatch) = FirstMisfit s t types vs

-- a value may be stored where it is meant to go, and so each of several
abbrev pub CanStoreAs : (D : Type 0) → Layouts → StoreView D → Option FieldType → Val → Type 0
CanStoreAs D layouts s None v = ⊥
CanStoreAs D layouts s (Some field) v = CanStore D layouts s field.element_type (raw_of v)

abbrev pub AllStorable : (D : Type 0) → Layouts → StoreView D → (ℕ → Option FieldType) → List Val → Type 0
AllStorable D layouts s types vs =
    (i : ℕ) (v : Val) → slice_get vs i ≡ Some v → CanStoreAs D layouts s (types i) v

abbrev pub RootNamesKind : (D : Type 0) → Layouts → StoreView D → VMGcKind → Option GcRootIndex → Type 0
RootNamesKind D layouts s kind None = Unit {0}
RootNamesKind D layouts s kind (Some handle) = NamesKind D layouts s kind handle

-- the kind that handles of a class are given as
abbrev pub class_kind : GcClass → VMGcKind
class_kind Any = kinds.AnyRef
class_kind Extern = kinds.ExternRef
class_kind Exn = kinds.ExnRef

-- a scoped root of that kind, where there is one
abbrev pub RootIsOfKind : (D : Type 0) → Layouts → StoreView D → VMGcKind → Option GcRootIndex → Type 0
RootIsOfKind D layouts s kind None = Unit {0}
RootIsOfKind D layouts s kind (Some handle) = IsScopedOfKind D layouts s kind handle

-- a value that the store gave: a reference that isn't null is a scoped root, of the kind of its class
abbrev pub IsGiven : (D : Type 0) → Layouts → StoreView D → RawValue → Type 0
IsGiven D layouts s (raw.I32 n) = Unit {0}
IsGiven D layouts s (raw.I64 n) = Unit {0}
IsGiven D layouts s (raw.F32 n) = Unit {0}
IsGiven D layouts s (raw.F64 n) = Unit {0}
IsGiven D layouts s (raw.V128 n) = Unit {0}
IsGiven D layouts s (raw.Func f) = Unit {0}
IsGiven D layouts s (raw.Cont c) = Unit {0}
IsGiven D layouts s (raw.Ref class root) = RootIsOfKind D layouts s (class_kind class) root

-- the handle of a value names what it is given as
abbrev pub ValNamesKind : (D : Type 0) → Layouts → StoreView D → Val → Type 0
ValNamesKind D layouts s (val.I32 n) = Unit {0}
ValNamesKind D layouts s (val.I64 n) = Unit {0}
ValNamesKind D layouts s (val.F32 n) = Unit {0}
ValNamesKind D layouts s (val.F64 n) = Unit {0}
ValNamesKind D layouts s (val.V128 n) = Unit {0}
ValNamesKind D layouts s (val.FuncRef f) = Unit {0}
ValNamesKind D layouts s (val.ContRef c) = Unit {0}
ValNamesKind D layouts s (val.ExternRef handle) = RootNamesKind D layouts s kinds.ExternRef (root_of_handle handle)
ValNamesKind D layouts s (val.AnyRef handle) = RootNamesKind D layouts s kinds.AnyRef (root_of_handle handle)
ValNamesKind D layouts s (val.ExnRef handle) = RootNamesKind D layouts s kinds.ExnRef (root_of_handle handle)
