-- The tag of an exception lies in front of its fields.
use Rattle.std.specs.Prelude.{◌≡◌, ℕ, List, length}
use Rattle.gc_types.specs.declared.value.Tag.{Tag}
use Rattle.gc_types.specs.declared.value.ValType.{ValType}
use Rattle.gc_types.specs.Declarations.{exn_of}
use Rattle.gc_view.specs.Bytes.{SameBytes, u32_at}
use Rattle.gc_view.specs.Heaps.{HeapObject}
use Rattle.gc_owner.specs.Owners.{OwnerView}
use Rattle.gc_values.specs.HeldSlots.{IsHeldOf}

-- the bytes of an exception begin with that tag
pub record BeginsWithTag (tag : Tag) (bytes : List ℕ) : Type 0 where
  pub instance : u32_at bytes 0 ≡ tag.instance
  pub index : u32_at bytes 4 ≡ tag.index

-- and are as before behind it
pub record IsTagged (tag : Tag) (before after : List ℕ) : Type 0 where
  pub has : BeginsWithTag tag after
  pub behind : SameBytes before after 8 (length before)

-- an exception of a declared type is held at a place of an owner
pub record IsExceptionAt {D : Type 0} (v : OwnerView D) (place : ℕ) : Type 0 where
  pub object : HeapObject
  pub params : List ValType
  pub count : ℕ
  pub is : IsHeldOf v.types.declarations v.heap place object (exn_of params) count
