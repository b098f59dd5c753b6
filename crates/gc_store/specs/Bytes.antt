-- The bytes of arrays of small integers.
use Rattle.std.specs.Prelude.{◌≡◌, ℕ, List, Some, map, length, slice_get}
use Rattle.gc_types.specs.declared.value.FieldType.{FieldType}
use Rattle.gc_types.specs.declared.value.StorageType.TheVariants as storage
use Rattle.gc_types.specs.declared.kind.Layouts.{Layouts}
use Rattle.gc_types.specs.Declarations.{elem_at}
use Rattle.gc_model.specs.Values.{at, Value, array}
use Rattle.gc_model.specs.Stored.{byte_value}
use Rattle.gc_model.specs.Table.{Table}
use Rattle.gc_model.specs.Stores.{StoreView}
use Rattle.gc_model.specs.Holds.{HoldsTable}
use Rattle.gc_values.specs.declared.root.GcRootIndex.{GcRootIndex}
use Rattle.gc_store.specs.Roots.{NamesReference}

-- the handle names an array of 8-bit elements with these values
pub record NamesBytes {D : Type 0} (s : StoreView D) (t : Table D) (handle : GcRootIndex) (values : List Value) : Type 0 where
  pub position : ℕ
  pub named : NamesReference s t handle (at position)
  pub ty : ℕ
  pub object_is : slice_get t.objects position ≡ Some (array ty values)
  pub element : FieldType
  pub declared : elem_at t.types ty ≡ Some element
  pub of_bytes : element.element_type ≡ storage.I8

-- the handle names such an array of so many elements, in some table that the store holds
pub record CanCopyBytes (D : Type 0) (layouts : Layouts) (s : StoreView D) (handle : GcRootIndex) (count : ℕ) : Type 0 where
  pub table : Table D
  pub holds : HoldsTable layouts s table
  pub values : List Value
  pub bytes : NamesBytes s table handle values
  pub same_count : length values ≡ count

-- the bytes are those of the array that the handle names in a table
abbrev pub CopiesBytes : {D : Type 0} → StoreView D → Table D → GcRootIndex → List ℕ → Type 0
CopiesBytes s t handle bytes = (values : List Value) → NamesBytes s t handle values → values ≡ map byte_value bytes
