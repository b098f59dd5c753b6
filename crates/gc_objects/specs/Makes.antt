-- What calls that make objects answer and leave.
use Rattle.std.specs.Prelude.{◌≡◌, ℕ, ◌<◌, ◌^◌, ◌&&◌, Bool, true, false, List, Option, Some, Result, Ok, Err, map, length, replicate}
use Rattle.gc_types.specs.declared.kind.Layouts.{Layouts}
use Rattle.gc_types.specs.declared.value.FieldType.{FieldType}
use Rattle.gc_types.specs.declared.value.StorageType.TheVariants as storage
use Rattle.gc_types.specs.Declarations.{TypeName, elem_at}
use Rattle.gc_model.specs.Values.{at, Value, Object, struct, array, exception, object_values}
use Rattle.gc_model.specs.Allocation.{Limits, too_large}
use Rattle.gc_model.specs.Stored.{stored, stored_in, byte_value}
use Rattle.gc_model.specs.Table.{Table, make}
use Rattle.gc_model.specs.Stores.{StoreView}
use Rattle.gc_model.specs.Policy.{PolicyState}
use Rattle.gc_values.specs.declared.root.GcRootIndex.{GcRootIndex}
use Rattle.gc_rooted.specs.declared.rooted.Rooted.{Rooted}
use Rattle.gc_values.specs.declared.faults.PlaceFault.{PlaceFault}
use Rattle.gc_values.specs.declared.faults.PlaceFault.TheVariants as place
use Rattle.gc_store.specs.Places.{Places, PlacesObject, RefusesPlace, HasIds, size_in_table}
use Rattle.gc_values.specs.declared.request.Place.{Place}
use Rattle.gc_values.specs.declared.request.Place.TheVariants as request
use Rattle.gc_store.specs.Requests.{struct_fields_of, exn_fields_of, element_of, CanPlaceStruct, CanPlaceException, CanPlaceElements}
use Rattle.gc_store.specs.Values.{AllStand}
use Rattle.gc_store.specs.Roots.{NamesReference}
use Rattle.gc_objects.specs.declared.faults.AllocFault.{AllocFault}
use Rattle.gc_objects.specs.declared.faults.AllocFault.TheVariants as fault
use Rattle.gc_objects.specs.declared.val.Val.{Val}
use Rattle.gc_objects.specs.Kinds.{is_type_of}
use Rattle.gc_objects.specs.Given.{raw_of, is_own_of, are_own, field_types, element_types, Goes, AllGo, ValIsGone, Misfits, FirstGone, FirstMisfit}

-- the faults of a call that gives nothing back
abbrev pub Fault : Type 0
Fault = AllocFault (Unit {0})

-- what the store answered, by the faults of such a call
abbrev pub place_answer : Result GcRootIndex PlaceFault → Result GcRootIndex Fault
place_answer (Ok root) = Ok root
place_answer (Err place.FuncTableFull) = Err fault.FuncTableFull
place_answer (Err place.ContTableFull) = Err fault.ContTableFull
place_answer (Err place.TooLarge) = Err fault.TooLarge
place_answer (Err place.RootsFull) = Err fault.RootsFull
place_answer (Err (place.HeapOutOfMemory f)) = Err (fault.HeapOutOfMemory f)
place_answer (Err place.Memory) = Err fault.Memory

-- the answer of such a call by the root of its handle
abbrev pub handle_answer : {T : Type 0} → Result (Rooted T) Fault → Result GcRootIndex Fault
handle_answer (Ok handle) = Ok handle.index
handle_answer (Err why) = Err why

-- No heap can hold the object. There are ids for its function values and continuations, which are looked at before its size,
-- but behind an array's length that doesn't fit 32 bits.
pub record RefusesLarge {D : Type 0} (layouts : Layouts) (o : Object D) (p : PolicyState D) (limits' : Limits) (new : StoreView D) : Type 0 where
  pub large : too_large layouts (size_in_table layouts o p.table) ≡ true
  pub has_ids : length (object_values o) < 2 ^ 32 → HasIds o p.table
  pub refuses : RefusesPlace layouts p limits' new

-- what the store answers and leaves, by the faults of such a call; no test refuses any more
abbrev pub MakesAsked : {D : Type 0} → Layouts → Option ℕ → Object D → PolicyState D → Limits → Result GcRootIndex Fault → StoreView D → Type 0
MakesAsked layouts counter o p limits' (Ok root) new = PlacesObject layouts counter o p limits' root new
MakesAsked layouts counter o p limits' (Err fault.WrongStore) new = ⊥
MakesAsked layouts counter o p limits' (Err fault.FieldCount) new = ⊥
MakesAsked layouts counter o p limits' (Err fault.NotI8Array) new = ⊥
MakesAsked layouts counter o p limits' (Err fault.Unrooted) new = ⊥
MakesAsked layouts counter o p limits' (Err fault.TypeMismatch) new = ⊥
MakesAsked layouts counter o p limits' (Err fault.FuncTableFull) new = Places layouts counter o p limits' (Err place.FuncTableFull) new
MakesAsked layouts counter o p limits' (Err fault.ContTableFull) new = Places layouts counter o p limits' (Err place.ContTableFull) new
MakesAsked layouts counter o p limits' (Err fault.TooLarge) new = RefusesLarge layouts o p limits' new
MakesAsked layouts counter o p limits' (Err fault.RootsFull) new = Places layouts counter o p limits' (Err place.RootsFull) new
MakesAsked layouts counter o p limits' (Err (fault.HeapOutOfMemory f)) new = Places layouts counter o p limits' (Err (place.HeapOutOfMemory f)) new
MakesAsked layouts counter o p limits' (Err fault.Memory) new = Places layouts counter o p limits' (Err place.Memory) new

-- an object may have these values, one for each field or element
abbrev pub CanMakeOf : (D : Type 0) → Layouts → StoreView D → Place → List Val → Type 0
CanMakeOf D layouts s (request.Struct ty) vs = CanPlaceStruct D layouts s ty (map raw_of vs)
CanMakeOf D layouts s (request.Exn ty tag) vs = CanPlaceException D layouts s ty (map raw_of vs)
CanMakeOf D layouts s (request.Array ty count) vs = CanPlaceElements D layouts s ty count (map raw_of vs)

-- an array of these elements
abbrev pub IsArrayOf : {D : Type 0} → StoreView D → Table D → ℕ → List Val → Object D → Type 0
IsArrayOf s t ty vs o = (xs : List Value) × (AllStand s t (map raw_of vs) xs × (o ≡ array ty (map (stored (element_of t.types ty)) xs)))

-- the object of these values
abbrev pub IsMadeOf : {D : Type 0} → StoreView D → Table D → Place → List Val → Object D → Type 0
IsMadeOf s t (request.Struct ty) vs o = (xs : List Value) × (AllStand s t (map raw_of vs) xs × (o ≡ struct ty (stored_in (struct_fields_of t.types ty) xs)))
IsMadeOf s t (request.Exn ty tag) vs o = (xs : List Value) × (AllStand s t (map raw_of vs) xs
    × (o ≡ exception ty tag (stored_in (exn_fields_of t.types ty) xs)))
IsMadeOf s t (request.Array ty count) vs o = IsArrayOf s t ty vs o

-- the object was made, and the handle names it
pub record MakesObject {D : Type 0} (asks : Object D → Type 0) (layouts : Layouts) (counter : Option ℕ) (p : PolicyState D) (limits' : Limits)
    (handle : GcRootIndex) (new : StoreView D) : Type 0 where
  pub object : Object D
  pub asked : asks object
  pub placed : PlacesObject layouts counter object p limits' handle new
  pub named : NamesReference new (make object placed.after.table) handle (at (length p.table.objects))

-- all tests passed, and the store refused the object
abbrev pub RefusesAsked : {D : Type 0} → (Object D → Type 0) → Layouts → Option ℕ → PolicyState D → Limits → PlaceFault → StoreView D → Type 0
RefusesAsked {D} asks layouts counter p limits' why new = (o : Object D) × (asks o × Places layouts counter o p limits' (Err why) new)

-- all tests passed, and no heap can hold the object
abbrev pub RefusesAsLarge : {D : Type 0} → (Object D → Type 0) → Layouts → PolicyState D → Limits → StoreView D → Type 0
RefusesAsLarge {D} asks layouts p limits' new = (o : Object D) × (asks o × RefusesLarge layouts o p limits' new)

-- What a call that makes an object answers and leaves, for a table and an account that the store held: by the cause of each
-- refusal that its tests give, which changes nothing; and by the object that is asked for where all tests passed.
abbrev pub Makes : {D T : Type 0} → (Fault → Type 0) → (Object D → Type 0) → Layouts → Option ℕ → PolicyState D → Limits
    → Result (Rooted T) Fault → StoreView D → Type 0
Makes causes asks layouts counter p limits' (Ok handle) new = MakesObject asks layouts counter p limits' handle.index new
Makes causes asks layouts counter p limits' (Err fault.WrongStore) new = causes fault.WrongStore × RefusesPlace layouts p limits' new
Makes causes asks layouts counter p limits' (Err fault.FieldCount) new = causes fault.FieldCount × RefusesPlace layouts p limits' new
Makes causes asks layouts counter p limits' (Err fault.NotI8Array) new = causes fault.NotI8Array × RefusesPlace layouts p limits' new
Makes causes asks layouts counter p limits' (Err fault.Unrooted) new = causes fault.Unrooted × RefusesPlace layouts p limits' new
Makes causes asks layouts counter p limits' (Err fault.TypeMismatch) new = causes fault.TypeMismatch × RefusesPlace layouts p limits' new
Makes causes asks layouts counter p limits' (Err fault.FuncTableFull) new = RefusesAsked asks layouts counter p limits' place.FuncTableFull new
Makes causes asks layouts counter p limits' (Err fault.ContTableFull) new = RefusesAsked asks layouts counter p limits' place.ContTableFull new
Makes causes asks layouts counter p limits' (Err fault.TooLarge) new = RefusesAsLarge asks layouts p limits' new
Makes causes asks layouts counter p limits' (Err fault.RootsFull) new = RefusesAsked asks layouts counter p limits' place.RootsFull new
Makes causes asks layouts counter p limits' (Err (fault.HeapOutOfMemory f)) new = RefusesAsked asks layouts counter p limits' (place.HeapOutOfMemory f) new
Makes causes asks layouts counter p limits' (Err fault.Memory) new = RefusesAsked asks layouts counter p limits' place.Memory new

-- the allocator and the handles of all values are the store's
abbrev pub are_given_own : {D : Type 0} → StoreView D → TypeName → List Val → Bool
are_given_own s ty vs = is_type_of s ty && are_own s vs

-- what a test of a list of values finds, where all that comes before it passed: what is given is the store's, and there are as many
-- values as there have to be
pub record Tests {D : Type 0} (s : StoreView D) (ty : TypeName) (vs : List Val) (counted finds : Type 0) : Type 0 where
  pub own : are_given_own s ty vs ≡ true
  pub count : counted
  pub found : finds

-- there is a value for each field
abbrev pub HasAllFields : {D : Type 0} → Table D → TypeName → List Val → Type 0
HasAllFields t ty vs = length vs ≡ length (struct_fields_of t.types ty.index)

-- why a struct is refused: the tests in their order, each value's root before its type
abbrev pub StructCauses : {D : Type 0} → StoreView D → Table D → TypeName → List Val → Fault → Type 0
StructCauses s t ty vs fault.WrongStore = are_given_own s ty vs ≡ false
StructCauses s t ty vs fault.FieldCount = Tests s ty vs (Unit {0}) (¬ HasAllFields t ty vs)
StructCauses s t ty vs fault.Unrooted = Tests s ty vs (HasAllFields t ty vs) (FirstGone s t (field_types t.types ty.index) vs)
StructCauses s t ty vs fault.TypeMismatch = Tests s ty vs (HasAllFields t ty vs) (FirstMisfit s t (field_types t.types ty.index) vs)
StructCauses s t ty vs _ = ⊥

-- a struct of these values is asked for
pub record AsksStruct {D : Type 0} (s : StoreView D) (t : Table D) (ty : TypeName) (vs : List Val) (o : Object D) : Type 0 where
  pub own : are_given_own s ty vs ≡ true
  pub counted : HasAllFields t ty vs
  pub values : List Value
  pub go : AllGo s t (field_types t.types ty.index) vs values
  pub object_is : o ≡ struct ty.index (stored_in (struct_fields_of t.types ty.index) values)

-- why an array of listed elements is refused
abbrev pub ElementsCauses : {D : Type 0} → StoreView D → Table D → TypeName → List Val → Fault → Type 0
ElementsCauses s t ty vs fault.WrongStore = are_given_own s ty vs ≡ false
ElementsCauses s t ty vs fault.Unrooted = Tests s ty vs (Unit {0}) (FirstGone s t (element_types t.types ty.index) vs)
ElementsCauses s t ty vs fault.TypeMismatch = Tests s ty vs (Unit {0}) (FirstMisfit s t (element_types t.types ty.index) vs)
ElementsCauses s t ty vs _ = ⊥

-- an array of these elements is asked for
pub record AsksElements {D : Type 0} (s : StoreView D) (t : Table D) (ty : TypeName) (vs : List Val) (o : Object D) : Type 0 where
  pub own : are_given_own s ty vs ≡ true
  pub values : List Value
  pub go : AllGo s t (element_types t.types ty.index) vs values
  pub object_is : o ≡ array ty.index (map (stored (element_of t.types ty.index)) values)

-- the allocator and the handle of a value for so many elements are the store's
abbrev pub is_filling_own : {D : Type 0} → StoreView D → TypeName → Val → ℕ → Bool
is_filling_own s ty v count = is_type_of s ty && is_own_of s v count

-- why an array of one value is refused, where it has elements
pub record TestsFilling {D : Type 0} (s : StoreView D) (ty : TypeName) (v : Val) (count : ℕ) (finds : Type 0) : Type 0 where
  pub own : is_filling_own s ty v count ≡ true
  pub some : 0 < count
  pub found : finds

abbrev pub FillingCauses : {D : Type 0} → StoreView D → Table D → TypeName → Val → ℕ → Fault → Type 0
FillingCauses s t ty v count fault.WrongStore = is_filling_own s ty v count ≡ false
FillingCauses s t ty v count fault.Unrooted = TestsFilling s ty v count (ValIsGone s t v)
FillingCauses s t ty v count fault.TypeMismatch = TestsFilling s ty v count (Misfits s t (elem_at t.types ty.index) v)
FillingCauses s t ty v count _ = ⊥

-- an array of so many elements is asked for, each of that value
pub record AsksFilling {D : Type 0} (s : StoreView D) (t : Table D) (ty : TypeName) (v : Val) (count : ℕ) (o : Object D) : Type 0 where
  pub own : is_filling_own s ty v count ≡ true
  pub value : Value
  pub goes : 0 < count → Goes s t (elem_at t.types ty.index) v value
  pub object_is : o ≡ array ty.index (replicate count (stored (element_of t.types ty.index) value))

-- the array's elements are of 8 bits
abbrev pub OfBytes : {D : Type 0} → Table D → TypeName → Type 0
OfBytes t ty = (element : FieldType) × ((elem_at t.types ty.index ≡ Some element) × (element.element_type ≡ storage.I8))

-- why an array of bytes is refused
abbrev pub BytesCauses : {D : Type 0} → StoreView D → Table D → TypeName → Fault → Type 0
BytesCauses s t ty fault.WrongStore = is_type_of s ty ≡ false
BytesCauses s t ty fault.NotI8Array = (is_type_of s ty ≡ true) × ¬ OfBytes t ty
BytesCauses s t ty _ = ⊥

-- an array of these bytes is asked for
pub record AsksBytes {D : Type 0} (s : StoreView D) (t : Table D) (ty : TypeName) (bytes : List ℕ) (o : Object D) : Type 0 where
  pub own : is_type_of s ty ≡ true
  pub of_bytes : OfBytes t ty
  pub object_is : o ≡ array ty.index (map byte_value bytes)
