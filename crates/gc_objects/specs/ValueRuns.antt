-- Reading the values of an object one by one, from the first to the last.
use Rattle.std.specs.Prelude.{◌≡◌, ℕ, ◌+◌, ◌≤◌, ◌<◌, Bool, true, false, List, [], ◌∷◌, Option, Some, None, IfSome, drop, length, slice_get, if◌then◌else◌}
use Rattle.std.specs.List.{flat_map}
use Rattle.gc_types.specs.declared.kind.Layouts.{Layouts}
use Rattle.gc_types.specs.declared.value.FieldType.{FieldType}
use Rattle.gc_types.specs.Layouts.{is_gc_storage}
use Rattle.gc_model.specs.Values.{at, Value, Object}
use Rattle.gc_model.specs.Reach.{object_values, value_references}
use Rattle.gc_model.specs.Reads.{after_read}
use Rattle.gc_model.specs.Table.{Table}
use Rattle.gc_model.specs.Stores.{StoreView}
use Rattle.gc_model.specs.Accounts.{Account, HoldsAccount}
use Rattle.gc_values.specs.declared.root.GcRootIndex.{GcRootIndex}
use Rattle.gc_store.specs.RootRoom.{roots_left}
use Rattle.gc_store.specs.Roots.{is_of_store, NamesReference, NamesNothing}
use Rattle.gc_store.specs.Stores.{IsSameStore, scoped_places}
use Rattle.gc_store.specs.Values.{IsReadAs}
use Rattle.gc_objects.specs.declared.faults.AccessFault.{AccessFault}
use Rattle.gc_objects.specs.declared.faults.AccessFault.TheVariants as fault
use Rattle.gc_objects.specs.declared.val.Val.{Val}
use Rattle.gc_objects.specs.Given.{raw_of, ValNamesKind}

-- how many of these values are references, null or not
abbrev pub reference_value_count : List Value → ℕ
reference_value_count values = length (flat_map value_references values)

-- how many of these fields keep references
abbrev pub is_reference_field : Option FieldType → Bool
is_reference_field None = false
is_reference_field (Some field) = is_gc_storage field.element_type

abbrev pub one_if : Bool → ℕ
one_if b = if b then 1 else 0

abbrev pub reference_fields : List FieldType → ℕ
reference_fields [] = 0
reference_fields (field ∷ fields) = one_if (is_gc_storage field.element_type) + reference_fields fields

-- the handle names an object
pub record HandleNamesObject {D : Type 0} (s : StoreView D) (t : Table D) (handle : GcRootIndex) : Type 0 where
  pub position : ℕ
  pub named : NamesReference s t handle (at position)
  pub object : Object D
  pub object_is : slice_get t.objects position ≡ Some object

-- it has so many values, so many references among them
pub record HasCounts {D : Type 0} (s : StoreView D) (t : Table D) (handle : GcRootIndex) (len references : ℕ) : Type 0 where
  pub names : HandleNamesObject s t handle
  pub len_is : len ≡ length (object_values names.object)
  pub references_are : references ≡ reference_value_count (object_values names.object)

-- An object whose values are being read: the store, a root of the object, the index of the next value, and how many
-- there are.
pub record ValueRun (D : Type 0) : Type 0 where
  pub store : StoreView D
  pub root : GcRootIndex
  pub next : ℕ
  pub len : ℕ

abbrev pub run_of : {D : Type 0} → StoreView D → GcRootIndex → ℕ → ℕ → ValueRun D
run_of s root next len = record { store = s; root = root; next = next; len = len }

-- The store holds that table, with that account, and in it these values of the object are left, in their order.
pub record HasLeft {D : Type 0} (layouts : Layouts) (run : ValueRun D) (t : Table D) (a : Account) (left : List Value) : Type 0 where
  pub holds : HoldsAccount layouts run.store t a
  pub names : HandleNamesObject run.store t run.root
  pub len_is : run.len ≡ length (object_values names.object)
  pub within : run.next ≤ run.len
  pub left_is : drop run.next (object_values names.object) ≡ left

-- Where these values are left, the first is given and the others are left, or none where there are none. A reference that isn't
-- null gets a scoped root.
abbrev pub GivesFirst : {D : Type 0} → Layouts → Table D → Account → List Value → Option Val → ValueRun D → Type 0
GivesFirst layouts t a [] None new = HasLeft layouts new t a []
GivesFirst layouts t a [] (Some v) new = ⊥
GivesFirst layouts t a (x ∷ left) None new = ⊥
GivesFirst layouts t a (x ∷ left) (Some v) new = IsReadAs new.store t x (raw_of v) × HasLeft layouts new (after_read x t) a left

-- All values that are left can be given: as many roots as there are references among them may still be made, and there is room
-- for these.
pub record CanGive (D : Type 0) (layouts : Layouts) (run : ValueRun D) : Type 0 where
  pub table : Table D
  pub account : Account
  pub left : List Value
  pub has : HasLeft layouts run table account left
  pub may_root : reference_value_count left ≤ roots_left table
  pub room : reference_value_count left ≤ run.store.spare

-- what asking for the next value gives and leaves
pub record GivesNext (D : Type 0) (layouts : Layouts) (old : ValueRun D) (given : Option Val) (new : ValueRun D) : Type 0 where
  pub first : (t : Table D) (a : Account) (left : List Value) → HasLeft layouts old t a left → GivesFirst layouts t a left given new
  pub kind : IfSome given (ValNamesKind D layouts new.store)
  pub ready : CanGive D layouts new
  pub same : IsSameStore old.store new.store
  pub spare : scoped_places old.store ≤ scoped_places new.store

-- all values of the object that the handle names are left
pub record LeavesAll {D : Type 0} (layouts : Layouts) (old : StoreView D) (t : Table D) (a : Account) (handle : GcRootIndex) (run : ValueRun D) : Type 0 where
  pub names : HandleNamesObject old t handle
  pub all : HasLeft layouts run t a (object_values names.object)
  pub may_root : reference_value_count (object_values names.object) ≤ roots_left t

-- Why the values are not read: as many roots as there are references among them may no longer be made, or no room is found for
-- these.
abbrev pub RefusesValues : {D : Type 0} → StoreView D → Table D → GcRootIndex → AccessFault → Type 0
RefusesValues s t handle fault.WrongStore = is_of_store s handle ≡ false
RefusesValues s t handle fault.Unrooted = (is_of_store s handle ≡ true) × NamesNothing s t handle
RefusesValues s t handle fault.OutOfBounds = ⊥
RefusesValues s t handle fault.Immutable = ⊥
RefusesValues s t handle fault.TypeMismatch = ⊥
RefusesValues s t handle fault.LengthMismatch = ⊥
RefusesValues s t handle fault.NotI8Array = ⊥
RefusesValues s t handle fault.RootsFull = (named : HandleNamesObject s t handle) × (roots_left t < reference_value_count (object_values named.object))
RefusesValues s t handle fault.FuncTableFull = ⊥
RefusesValues s t handle fault.ContTableFull = ⊥
RefusesValues s t handle fault.Memory =
    (named : HandleNamesObject s t handle) × ((reference_value_count (object_values named.object) ≤ roots_left t) × (s.spare < reference_value_count (object_values named.object)))

-- nothing of the store changed, but that there may be room for more scoped roots
pub record LeavesRoom {D : Type 0} (old new : StoreView D) : Type 0 where
  pub rest : new ≡ record old { spare = new.spare }
  pub more : old.spare ≤ new.spare
