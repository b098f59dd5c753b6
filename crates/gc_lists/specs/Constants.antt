-- What is constant in a table: its types, and the values of cells and nodes.
use Rattle.std.specs.Prelude.{◌≡◌, ℕ, Some, slice_get}
use Rattle.gc_types.specs.declared.value.FieldType.{FieldType}
use Rattle.gc_types.specs.declared.value.Mutability.TheVariants.{Var}
use Rattle.gc_types.specs.Declarations.{Declaration}
use Rattle.gc_model.specs.Stored.{value_type}
use Rattle.gc_model.specs.Values.{Object, Reference}
use Rattle.gc_model.specs.Table.{Table}
use Rattle.gc_lists.specs.Kits.{IsCellType, IsNodeType}
use Rattle.gc_lists.specs.Cells.{cell, node}

-- What is constant in the first table is in the second as it was.
pub record KeepsConstants {D : Type 0} (t t' : Table D) : Type 0 where
  pub types : (ty : ℕ) (d : Declaration) → slice_get t.types ty ≡ Some d → slice_get t'.types ty ≡ Some d
  pub cells : (p ty bits : ℕ) (next : Reference) → IsCellType t.types ty → slice_get t.objects p ≡ Some (cell ty bits next) → slice_get t'.objects p ≡ Some (cell ty bits next)
  pub nodes : (p ty key value height : ℕ) (left right : Reference) → IsNodeType t.types ty → slice_get t.objects p ≡ Some (node ty key value height left right)
      → slice_get t'.objects p ≡ Some (node ty key value height left right)

-- the value at that index of the object at that position may be changed, which a write to it asks for
pub record IsMutable {D : Type 0} (t : Table D) (position index : ℕ) : Type 0 where
  pub object : Object D
  pub object_is : slice_get t.objects position ≡ Some object
  pub field : FieldType
  pub field_is : value_type t.types object index ≡ Some field
  pub mutable : field.mutability ≡ Var
