-- What an allocation makes, of a header, a first word and a size.
use Rattle.std.specs.Prelude.{List, None, Option, Some, ℕ, ◌%◌, ◌+◌, ◌-◌, ◌<◌, ◌^◌, ◌≡◌, ◌≤◌}
use Rattle.gc_types.specs.declared.kind.Layouts.{Layouts}
use Rattle.gc_types.specs.declared.kind.VMGcKind.{VMGcKind}
use Rattle.gc_types.specs.declared.kind.VMGcKind.TheVariants.{ArrayRef, ExternRef}
use Rattle.gc_types.specs.declared.layout.GcArrayLayout.{GcArrayLayout}
use Rattle.gc_types.specs.Layouts.{array_base}
use Rattle.gc_refs.specs.Header.{Header, IsOfKind, header_of, spare_bits}
use Rattle.gc_memory.specs.Offsets.{array_length_offset, external_size, host_id_offset}
use Rattle.gc_view.specs.Bytes.{put_u32}
use Rattle.gc_view.specs.Heaps.{HeapObject}
use Rattle.gc_heap.specs.Heap.{CanAllocate, array_size}
use Rattle.gc_heap.specs.Objects.{external, zeroed, zeroed_array}
use Rattle.gc_heap.specs.Rules.{ArrayTraces, array_spare}
use Rattle.gc_heap.specs.declared.new_object.FirstWord.{FirstWord}
use Rattle.gc_heap.specs.declared.new_object.FirstWord.TheVariants as first

-- the number that the data of a new object begins with, where it is told
abbrev pub first_word : FirstWord → Option ℕ
first_word first.Zero = None
first_word (first.Length count) = Some count
first_word (first.Host id) = Some (id + 1)

-- where that word ends, counted from the object's first byte
abbrev pub word_end : Layouts → FirstWord → ℕ
word_end layouts first.Zero = 0
word_end layouts (first.Length count) = array_length_offset layouts + 4
word_end layouts (first.Host id) = host_id_offset layouts + 4

-- the bytes with that word in the object at a place
abbrev pub with_first_word : Layouts → List ℕ → ℕ → FirstWord → List ℕ
with_first_word layouts bytes place first.Zero = bytes
with_first_word layouts bytes place (first.Length count) = put_u32 bytes (place + array_length_offset layouts) count
with_first_word layouts bytes place (first.Host id) = put_u32 bytes (place + host_id_offset layouts) (id + 1)

-- a new object of that kind
abbrev pub made : Layouts → VMGcKind → Header → FirstWord → ℕ → HeapObject
made layouts kind header first.Zero size = zeroed layouts kind header.type_word (header.kind_word % spare_bits) size
made layouts kind header (first.Length count) size = zeroed_array layouts header.type_word (header.kind_word % spare_bits) count size
made layouts kind header (first.Host id) size = external id

-- An array of that length may be made with that header and size: they are those of its layout.
pub record IsNewArray (layouts : Layouts) (header : Header) (count size : ℕ) : Type 0 where
  pub layout : GcArrayLayout
  pub is_kind : IsOfKind ArrayRef header.kind_word
  pub spare : header.kind_word % spare_bits ≡ array_spare layouts layout.elems_are_gc_refs
  pub least : array_base layouts ≤ layout.base_size
  pub traces : ArrayTraces layouts layout
  pub size_is : size ≡ array_size layout count
  pub small : count < 2 ^ 32

-- An object may be made with that header, first word and size.
abbrev pub CanMake : Layouts → Header → FirstWord → ℕ → Type 0
CanMake layouts header first.Zero size = CanAllocate layouts header size
CanMake layouts header (first.Length count) size = IsNewArray layouts header count size
CanMake layouts header (first.Host id) size = (header ≡ header_of ExternRef (2 ^ 32 - 1)) × (size ≡ external_size layouts)
