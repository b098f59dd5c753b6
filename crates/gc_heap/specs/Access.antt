-- Numbers in the data of held objects.
use Rattle.std.specs.Prelude.{◌≡◌, ℕ, ◌+◌, ◌-◌, ◌≤◌, List, Some}
use Rattle.std.specs.FinMap as finite
use Rattle.gc_types.specs.declared.kind.Layouts.{Layouts}
use Rattle.gc_types.specs.Layouts.{struct_base}
use Rattle.gc_refs.specs.Views.{part_of}
use Rattle.gc_view.specs.Heaps.{HeapObject, HeapView}
use Rattle.gc_heap.specs.Objects.{held_size, HasFields}
use Rattle.gc_heap.specs.Heap.{with_data, put_object}

-- so many bytes at an offset of a held struct, array or exception lie in its data
pub record IsReadable (layouts : Layouts) (h : HeapView) (place offset count : ℕ) : Type 0 where
  pub object : HeapObject
  pub held : finite.get h.content place ≡ Some object
  pub has_fields : HasFields object.kind
  pub from : struct_base layouts ≤ offset
  pub to : offset + count ≤ held_size layouts object

-- so many bytes at an offset of an object, which is counted from its first byte
abbrev pub data_part : Layouts → HeapObject → ℕ → ℕ → List ℕ
data_part layouts object offset count = part_of object.bytes (offset - struct_base layouts) count

-- a read of so many bytes at an offset of the object that is held there gives the number that they are
abbrev pub ReadsData : {A : Type 0} → Layouts → HeapView → ℕ → ℕ → ℕ → (List ℕ → A) → A → Type 0
ReadsData layouts h place offset count number value =
    (object : HeapObject) → finite.get h.content place ≡ Some object → value ≡ number (data_part layouts object offset count)

-- a write puts these bytes at an offset of the object that is held there, and changes nothing else
abbrev pub WritesData : Layouts → HeapView → HeapView → ℕ → ℕ → List ℕ → Type 0
WritesData layouts old new place offset bytes =
    (object : HeapObject) → finite.get old.content place ≡ Some object → new ≡ put_object old place (with_data layouts object offset bytes)
