-- Writes to held objects.
use Rattle.std.specs.Prelude.{◌≡◌, ◌⊎◌, ℕ, ◌+◌, ◌≤◌, List, Some, Contains}
use Rattle.std.specs.Int.{w32, to_le_bytes}
use Rattle.std.specs.FinMap.{get}
use Rattle.gc_types.specs.declared.kind.Layouts.{Layouts}
use Rattle.gc_view.specs.Heaps.{HeapObject}
use Rattle.gc_heap.specs.Extents.{writable_offset, held_size, HasFields}
use Rattle.gc_heap.specs.References.{typed_offsets}
use Rattle.gc_heap.specs.Heap.{put_object, with_data}
use Rattle.gc_owner.specs.Owners.{OwnerView}

-- So many bytes at an offset of a held object lie in the part that its holder may write, apart from each
-- reference that its type tells.
pub record IsNumberPlace {D : Type 0} (layouts : Layouts) (v : OwnerView D) (place offset count : ℕ) : Type 0 where
  pub object : HeapObject
  pub held : get v.heap.content place ≡ Some object
  pub fields : HasFields object.kind
  pub from : writable_offset layouts object.kind ≤ offset
  pub to : offset + count ≤ held_size layouts object
  pub apart : (x : ℕ) → Contains (typed_offsets layouts v.types.declarations object object.kind) x → (x + 4 ≤ offset) ⊎ (offset + count ≤ x)

-- A reference of a held object lies there, by the object's type.
pub record IsReferencePlace {D : Type 0} (layouts : Layouts) (v : OwnerView D) (place offset : ℕ) : Type 0 where
  pub object : HeapObject
  pub held : get v.heap.content place ≡ Some object
  pub among : Contains (typed_offsets layouts v.types.declarations object object.kind) offset

-- these bytes were written, and nothing else changed
abbrev pub WritesBytes : {D : Type 0} → Layouts → OwnerView D → OwnerView D → ℕ → ℕ → List ℕ → Type 0
WritesBytes layouts old new place offset bytes =
    (o : HeapObject) → get old.heap.content place ≡ Some o → new ≡ record old { heap = put_object old.heap place (with_data layouts o offset bytes) }

-- a word was written, and nothing else changed but counts
abbrev pub WritesWord : {D : Type 0} → Layouts → OwnerView D → OwnerView D → ℕ → ℕ → ℕ → Type 0
WritesWord layouts old new place offset word =
    (o : HeapObject) → get old.heap.content place ≡ Some o
    → new ≡ record old { heap = record (put_object old.heap place (with_data layouts o offset (to_le_bytes w32 word))) { counts = new.heap.counts } }
