-- What questions about a handle or a value are answered. They change nothing.
use Rattle.std.specs.Prelude.{◌≡◌, ◌↔◌, IsTrue, ℕ, ◌≤◌, ◌&&◌, Bool, true, false, List, Option, Some, None, Result, Ok, Err, map, length, slice_get}
use Rattle.gc_types.specs.declared.value.FieldType.{FieldType}
use Rattle.gc_types.specs.declared.value.StorageType.TheVariants as storage
use Rattle.gc_types.specs.declared.value.ValType.{ValType}
use Rattle.gc_types.specs.declared.kind.Layouts.{Layouts}
use Rattle.gc_types.specs.Declarations.{Declaration, TypeName, elem_at}
use Rattle.gc_types.specs.Subtyping.{supertypes_of, Meets}
use Rattle.gc_model.specs.Values.{Reference, null, small, at, Value, Object, struct, array, host, exception}
use Rattle.gc_model.specs.Fits.{fits_type}
use Rattle.gc_model.specs.Reach.{object_values}
use Rattle.gc_model.specs.Stored.{byte_value, value_type}
use Rattle.gc_model.specs.Table.{Table}
use Rattle.gc_model.specs.Stores.{StoreView}
use Rattle.gc_model.specs.Accounts.{Account}
use Rattle.gc_values.specs.declared.root.GcRootIndex.{GcRootIndex}
use Rattle.gc_values.specs.declared.root.RawValue.{RawValue}
use Rattle.gc_values.specs.declared.root.RootFault.{RootFault}
use Rattle.gc_values.specs.declared.root.RootFault.TheVariants as fault
use Rattle.gc_values.specs.declared.root.RootedObject.{RootedObject}
use Rattle.gc_values.specs.declared.root.RootedObject.TheVariants as rooted
use Rattle.gc_rooted.specs.declared.rooted.Rooted.{Rooted}
use Rattle.gc_store.specs.Roots.{is_of_store, NamesReference, NamesNothing}
use Rattle.gc_store.specs.Bytes.{NamesBytes}
use Rattle.gc_store.specs.Handles.{PushesRoot}
use Rattle.gc_store.specs.Values.{RawStands}
use Rattle.gc_values.specs.RawValues.{raw_handle}
use Rattle.gc_objects.specs.declared.faults.AccessFault.{AccessFault}
use Rattle.gc_objects.specs.declared.faults.AccessFault.TheVariants as access
use Rattle.gc_objects.specs.declared.places.NamedArray.{NamedArray}
use Rattle.gc_objects.specs.declared.places.NamedField.{NamedField}
use Rattle.gc_objects.specs.declared.val.Val.{Val}
use Rattle.gc_objects.specs.Kinds.{is_type_of}
use Rattle.gc_objects.specs.Given.{raw_of, is_own_root, field_types, RawIsGone}

-- A question about what a handle names: `WrongStore` exactly where not all that is given is the store's, then `Unrooted` where
-- the handle isn't live; else an answer that tells of the reference.
abbrev pub Answers : {D A : Type 0} → StoreView D → Table D → Bool → GcRootIndex → (Reference → A → Type 0) → Result A RootFault → Type 0
Answers s t own handle Tells (Ok answer) = (own ≡ true) × ((r : Reference) × (NamesReference s t handle r × Tells r answer))
Answers s t own handle Tells (Err fault.WrongStore) = own ≡ false
Answers s t own handle Tells (Err fault.Unrooted) = (own ≡ true) × NamesNothing s t handle
Answers s t own handle Tells (Err fault.RootsFull) = ⊥
Answers s t own handle Tells (Err fault.Memory) = ⊥

-- the object that a reference names
abbrev pub named_object : {D : Type 0} → Table D → Reference → Option (Object D)
named_object t null = None
named_object t (small n) = None
named_object t (at p) = slice_get t.objects p

-- the reference is a struct, or an array, of the type with that index
abbrev pub IsStruct : {D : Type 0} → Table D → Reference → ℕ → Type 0
IsStruct t r ty = (values : List Value) × (named_object t r ≡ Some (struct ty values))

abbrev pub IsArray : {D : Type 0} → Table D → Reference → ℕ → Type 0
IsArray t r ty = (values : List Value) × (named_object t r ≡ Some (array ty values))

-- an array of so many elements
abbrev pub IsNamedArray : {D : Type 0} → Table D → Reference → NamedArray → Type 0
IsNamedArray t r named = (values : List Value) × ((named_object t r ≡ Some (array named.ty values)) × (named.len ≡ length values))

abbrev pub HasLength : {D : Type 0} → Table D → Reference → ℕ → Type 0
HasLength t r n = (ty : ℕ) × IsNamedArray t r (record { ty = ty; len = n })

-- the field of a struct or exception type with that index, where there is one
abbrev pub IsFieldOf : List Declaration → ℕ → ℕ → Option NamedField → Type 0
IsFieldOf types ty index None = field_types types ty index ≡ None
IsFieldOf types ty index (Some named) = (named.index ≡ index) × (field_types types ty index ≡ Some named.field)

-- the object that a reference names has a value of that index, of that type; or it has none
pub record IsField {D : Type 0} (t : Table D) (index : ℕ) (r : Reference) (named : NamedField) : Type 0 where
  pub object : Object D
  pub object_is : named_object t r ≡ Some object
  pub value : Value
  pub value_at : slice_get (object_values object) index ≡ Some value
  pub index_is : named.index ≡ index
  pub field_is : value_type t.types object index ≡ Some named.field

pub record IsPast {D : Type 0} (t : Table D) (index : ℕ) (r : Reference) : Type 0 where
  pub object : Object D
  pub object_is : named_object t r ≡ Some object
  pub past : length (object_values object) ≤ index

abbrev pub HasField : {D : Type 0} → Table D → ℕ → Reference → Option NamedField → Type 0
HasField t index r None = IsPast t index r
HasField t index r (Some named) = IsField t index r named

-- the type is that of the store with that index
abbrev pub type_named : {D : Type 0} → StoreView D → ℕ → TypeName
type_named s index = record { engine = s.engine; number = s.number; index = index }

-- the name of the object's type
abbrev pub HasTypeNamed : {D : Type 0} → StoreView D → (Reference → ℕ → Type 0) → Reference → TypeName → Type 0
HasTypeNamed s IsOf r name = (ty : ℕ) × (IsOf r ty × (name ≡ type_named s ty))

-- whether the object's type is the other one, or one of its subtypes
abbrev pub MatchesType : {D : Type 0} → Table D → (Reference → ℕ → Type 0) → ℕ → Reference → Bool → Type 0
MatchesType t IsOf other r answer = (ty : ℕ) × (IsOf r ty × (IsTrue answer ↔ Meets (supertypes_of t.types) ty other))

-- what the store says of a reference that is a 31-bit number, a struct or an array
abbrev pub i31_in : RootedObject → Option ℕ
i31_in (rooted.I31 n) = Some n
i31_in (rooted.Struct ty) = None
i31_in (rooted.Array ty count) = None
i31_in rooted.Host = None
i31_in (rooted.Exn ty tag) = None

abbrev pub struct_in : RootedObject → Option ℕ
struct_in (rooted.I31 n) = None
struct_in (rooted.Struct ty) = Some ty
struct_in (rooted.Array ty count) = None
struct_in rooted.Host = None
struct_in (rooted.Exn ty tag) = None

abbrev pub named_array_in : RootedObject → Option NamedArray
named_array_in (rooted.I31 n) = None
named_array_in (rooted.Struct ty) = None
named_array_in (rooted.Array ty count) = Some (record { ty = ty; len = count })
named_array_in rooted.Host = None
named_array_in (rooted.Exn ty tag) = None

-- the 31-bit number that a reference is, where it is one
abbrev pub IsNumber : Reference → Option ℕ → Type 0
IsNumber null answer = ⊥
IsNumber (small n) answer = answer ≡ Some n
IsNumber (at p) answer = answer ≡ None

abbrev pub is_some_struct : {D : Type 0} → Option (Object D) → Bool
is_some_struct None = false
is_some_struct (Some (struct ty values)) = true
is_some_struct (Some (array ty values)) = false
is_some_struct (Some (host value)) = false
is_some_struct (Some (exception ty tag values)) = false

abbrev pub is_some_array : {D : Type 0} → Option (Object D) → Bool
is_some_array None = false
is_some_array (Some (struct ty values)) = false
is_some_array (Some (array ty values)) = true
is_some_array (Some (host value)) = false
is_some_array (Some (exception ty tag values)) = false

-- the same root under another type, exactly where a test holds of it
abbrev pub IsSameRoot : {T : Type 0} → GcRootIndex → Bool → Option (Rooted T) → Type 0
IsSameRoot root holds None = holds ≡ false
IsSameRoot root holds (Some handle) = (holds ≡ true) × (handle.index ≡ root)

abbrev pub IsStructRoot : {D T : Type 0} → Table D → GcRootIndex → Reference → Option (Rooted T) → Type 0
IsStructRoot t root r answer = IsSameRoot root (is_some_struct (named_object t r)) answer

abbrev pub IsArrayRoot : {D T : Type 0} → Table D → GcRootIndex → Reference → Option (Rooted T) → Type 0
IsArrayRoot t root r answer = IsSameRoot root (is_some_array (named_object t r)) answer

-- a handle and a type are the store's
abbrev pub are_own_names : {D : Type 0} → StoreView D → GcRootIndex → TypeName → Bool
are_own_names s handle ty = is_of_store s handle && is_type_of s ty

-- a new scoped root for a reference, by a typed handle
abbrev pub PushesHandle : {D T : Type 0} → Layouts → Table D → Account → Reference → Result (Rooted T) RootFault → StoreView D → Type 0
PushesHandle layouts t a r (Ok handle) new = PushesRoot layouts t a r (Ok handle.index) new
PushesHandle layouts t a r (Err why) new = PushesRoot layouts t a r (Err why) new

-- what the test of a value's handle finds: `WrongStore` where it is another store's, `Unrooted` where it isn't live
abbrev pub ChecksHandle : {D : Type 0} → StoreView D → Table D → RawValue → Result (Unit {0}) RootFault → Type 0
ChecksHandle s t r (Ok done) = (is_own_root s (raw_handle r) ≡ true) × ((x : Value) × RawStands s t r x)
ChecksHandle s t r (Err fault.WrongStore) = is_own_root s (raw_handle r) ≡ false
ChecksHandle s t r (Err fault.Unrooted) = (is_own_root s (raw_handle r) ≡ true) × RawIsGone s t r
ChecksHandle s t r (Err fault.RootsFull) = ⊥
ChecksHandle s t r (Err fault.Memory) = ⊥

-- whether a value, as the store takes it, fits a type
abbrev pub RawFitsType : {D : Type 0} → StoreView D → Table D → ValType → RawValue → Result Bool RootFault → Type 0
RawFitsType s t ty r (Ok answer) = (is_own_root s (raw_handle r) ≡ true) × ((x : Value) × (RawStands s t r x × (answer ≡ fits_type t.types t.objects ty x)))
RawFitsType s t ty r (Err why) = ChecksHandle s t r (Err why)

-- whether a value fits a type
abbrev pub ValFitsType : {D : Type 0} → StoreView D → Table D → ValType → Val → Result Bool RootFault → Type 0
ValFitsType s t ty v result = RawFitsType s t ty (raw_of v) result

-- the handle names an array whose elements are not of 8 bits
pub record NamesOther {D : Type 0} (s : StoreView D) (t : Table D) (handle : GcRootIndex) : Type 0 where
  pub position : ℕ
  pub named : NamesReference s t handle (at position)
  pub ty : ℕ
  pub values : List Value
  pub object_is : slice_get t.objects position ≡ Some (array ty values)
  pub element : FieldType
  pub declared : elem_at t.types ty ≡ Some element
  pub not_bytes : ¬ (element.element_type ≡ storage.I8)

-- the elements of an array of bytes, where there is room for so many
abbrev pub CopiesTo : {D : Type 0} → StoreView D → Table D → GcRootIndex → ℕ → List ℕ → Result (Unit {0}) AccessFault → Type 0
CopiesTo s t handle room bytes (Ok done) = (values : List Value) × (NamesBytes s t handle values × ((length values ≡ room) × (values ≡ map byte_value bytes)))
CopiesTo s t handle room bytes (Err access.WrongStore) = is_of_store s handle ≡ false
CopiesTo s t handle room bytes (Err access.Unrooted) = (is_of_store s handle ≡ true) × NamesNothing s t handle
CopiesTo s t handle room bytes (Err access.NotI8Array) = NamesOther s t handle
CopiesTo s t handle room bytes (Err access.LengthMismatch) = (values : List Value) × (NamesBytes s t handle values × ¬ (length values ≡ room))
CopiesTo s t handle room bytes (Err access.OutOfBounds) = ⊥
CopiesTo s t handle room bytes (Err access.Immutable) = ⊥
CopiesTo s t handle room bytes (Err access.TypeMismatch) = ⊥
CopiesTo s t handle room bytes (Err access.RootsFull) = ⊥
CopiesTo s t handle room bytes (Err access.FuncTableFull) = ⊥
CopiesTo s t handle room bytes (Err access.ContTableFull) = ⊥
CopiesTo s t handle room bytes (Err access.Memory) = ⊥
