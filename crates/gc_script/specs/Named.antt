-- What registers name, as it is found.
use Rattle.std.specs.Prelude.{◌≡◌, ℕ, ◌<◌, ◌≤◌, ◌==◌, Bool, true, false, List, Option, Some, None, Result, Ok, Err, length, slice_get, unwrap_or, if◌then◌else◌}
use Rattle.std.specs.Option.{option_map, option_and_then}
use Rattle.gc_types.specs.declared.kind.Layouts.{Layouts}
use Rattle.gc_types.specs.declared.value.FieldType.{FieldType}
use Rattle.gc_types.specs.Declarations.{Declaration, fields_at, elem_at}
use Rattle.gc_model.specs.Values.{Reference, at, Object}
use Rattle.gc_model.specs.Reach.{object_values}
use Rattle.gc_model.specs.Stored.{value_type}
use Rattle.gc_model.specs.Table.{Table}
use Rattle.gc_model.specs.Stores.{StoreView}
use Rattle.gc_model.specs.Holds.{HoldsTable}
use Rattle.gc_commands.specs.declared.reply.Refusal.{Refusal}
use Rattle.gc_values.specs.declared.root.GcRootIndex.{GcRootIndex}
use Rattle.gc_values.specs.declared.root.RawValue.{RawValue}
use Rattle.gc_values.specs.declared.root.RootedObject.{RootedObject}
use Rattle.gc_values.specs.declared.root.RootedObject.TheVariants as rooted
use Rattle.gc_store.specs.Roots.{NamesReference}
use Rattle.gc_script.specs.declared.objects.NamedObject.{NamedObject}
use Rattle.gc_script.specs.declared.objects.ValueTypes.{ValueTypes}
use Rattle.gc_script.specs.declared.objects.ValueTypes.TheVariants as types_of
use Rattle.gc_script.specs.declared.objects.Wanted.{Wanted}
use Rattle.gc_script.specs.declared.objects.Wanted.TheVariants as wanted
use Rattle.gc_script.specs.Slots.{register_at}
use Rattle.gc_script.specs.State.{State}
use Rattle.gc_script.specs.Given.{target, reference_target, is_struct, is_array, is_exception, has_fields, names_kind}
use Rattle.gc_script.specs.Steps.{first_failing, target_tests}

-- the objects of the table that a command is for
abbrev pub wants : Wanted → Object ℕ → Bool
wants wanted.Struct = is_struct
wants wanted.Array = is_array
wants wanted.Exception = is_exception
wants wanted.WithFields = has_fields

-- the same by what the store says of a root
abbrev pub takes : Wanted → RootedObject → Bool
takes wanted.Struct (rooted.Struct ty) = true
takes wanted.Array (rooted.Array ty n) = true
takes wanted.Exception (rooted.Exn ty tag) = true
takes wanted.WithFields (rooted.Struct ty) = true
takes wanted.WithFields (rooted.Exn ty tag) = true
takes _ _ = false

-- how many fields a type has; 0 where it has none
abbrev pub count_of_fields : List Declaration → ℕ → ℕ
count_of_fields types ty = unwrap_or (option_map length (fields_at types ty)) 0

-- the types of the values at each index
abbrev pub type_at : List Declaration → ValueTypes → ℕ → Option FieldType
type_at types (types_of.Fields ty) index = option_and_then (λ (fields : List FieldType). slice_get fields index) (fields_at types ty)
type_at types (types_of.Elements element) index = Some element

abbrev pub with_fields : List Declaration → GcRootIndex → ℕ → NamedObject
with_fields types root ty = record { root = root; count = count_of_fields types ty; types = types_of.Fields ty }

abbrev pub with_elements : GcRootIndex → ℕ → FieldType → NamedObject
with_elements root n element = record { root = root; count = n; types = types_of.Elements element }

-- an object by what the store says of its root
abbrev pub described : List Declaration → GcRootIndex → RootedObject → Option NamedObject
described types root (rooted.I31 n) = None
described types root (rooted.Struct ty) = Some (with_fields types root ty)
described types root (rooted.Array ty n) = option_map (with_elements root n) (elem_at types ty)
described types root rooted.Host = None
described types root (rooted.Exn ty tag) = Some (with_fields types root ty)

-- the root is that of an object of the table, which has so many values of these types
pub record DescribesObject (s : StoreView ℕ) (t : Table ℕ) (found : NamedObject) : Type 0 where
  pub position : ℕ
  pub named : NamesReference s t found.root (at position)
  pub object : Object ℕ
  pub object_is : slice_get t.objects position ≡ Some object
  pub counted : length (object_values object) ≡ found.count
  pub typed : (index : ℕ) → value_type t.types object index ≡ type_at t.types found.types index

-- so in some table that the store holds, and the object is one of these
pub record IsNamedSomewhere (layouts : Layouts) (s : StoreView ℕ) (kind : Wanted) (found : NamedObject) : Type 0 where
  pub table : Table ℕ
  pub holds : HoldsTable layouts s table
  pub names : DescribesObject s table found
  pub of_kind : wants kind names.object ≡ true

-- the reference is that of an object that is found, or names none of these
abbrev pub TellsObject : StoreView ℕ → Table ℕ → Wanted → Reference → Option NamedObject → Type 0
TellsObject s t kind r (Some found) = (names : DescribesObject s t found) × ((r ≡ at names.position) × (wants kind names.object ≡ true))
TellsObject s t kind r None = names_kind (wants kind) (reference_target t (Some r)) ≡ false

-- so in each table that the store holds where the root is live
abbrev pub IsNamedEverywhere : Layouts → StoreView ℕ → Wanted → NamedObject → Type 0
IsNamedEverywhere layouts s kind found = (t : Table ℕ) (r : Reference) → HoldsTable layouts s t → NamesReference s t found.root r → TellsObject s t kind r (Some found)

-- the object that a register names in a state, whose tests pass
pub record FoundObject (store : StoreView ℕ) (s : State) (kind : Wanted) (r : ℕ) (found : NamedObject) : Type 0 where
  pub passes : first_failing (target_tests (wants kind) s r) ≡ None
  pub names : DescribesObject store s.table found
  pub is_target : target s r ≡ Some (record { position = names.position; object = names.object })
  pub of_kind : wants kind names.object ≡ true

-- a register names one of these, or the tests say why not
abbrev pub FindsObject : StoreView ℕ → State → Wanted → ℕ → Result NamedObject Refusal → Type 0
FindsObject store s kind r (Ok found) = FoundObject store s kind r found
FindsObject store s kind r (Err why) = first_failing (target_tests (wants kind) s r) ≡ Some why

-- there is room for a register, where one is named
abbrev pub HasRegister : Option ℕ → List (Option RawValue) → Type 0
HasRegister None slots = Unit {0}
HasRegister (Some d) slots = d < length slots

-- there is none for the register that is named
abbrev pub LacksRegister : Option ℕ → List (Option RawValue) → Type 0
LacksRegister None slots = ⊥
LacksRegister (Some d) slots = length slots ≤ d

-- what a register holds once a value was put into one, where one is named and there is a value that it may hold
abbrev pub register_with : Option ℕ → Option RawValue → List (Option RawValue) → ℕ → Option RawValue
register_with None value slots d = register_at slots d
register_with (Some k) None slots d = register_at slots d
register_with (Some k) (Some value) slots d = if d == k then Some value else register_at slots d
