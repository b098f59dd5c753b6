-- What a heap's calls do, as seen by its content.
use Rattle.std.specs.Prelude.{Bool, Err, List, None, Ok, Result, Some, false, true, ℕ, ◌%◌, ◌*◌, ◌+◌, ◌-◌, ◌<◌, ◌≡◌, ◌≤◌, ◌⊎◌}
use Rattle.std.specs.FinMap as finite
use Rattle.std.specs.FinSet as finset
use Rattle.gc_types.specs.declared.kind.VMGcKind.TheVariants.{ArrayRef, ExnRef, StructRef}
use Rattle.gc_types.specs.declared.layout.GcArrayLayout.{GcArrayLayout}
use Rattle.gc_types.specs.declared.layout.GcStructLayout.{GcStructLayout}
use Rattle.gc_types.specs.declared.kind.Layouts.{Layouts}
use Rattle.gc_types.specs.declared.kind.VMGcKind.{VMGcKind}
use Rattle.gc_types.specs.Kinds.{kind_bits}
use Rattle.gc_types.specs.Layouts.{ref_offsets, struct_base}
use Rattle.gc_refs.specs.Header.{Header, IsOfKind, kind_part, spare_bits}
use Rattle.gc_view.specs.Heaps.{HeapObject, HeapView, detached_in}
use Rattle.gc_view.specs.Sizes.{alignment, need_of}
use Rattle.gc_view.specs.Bytes.{put_bytes}
pub use Rattle.gc_view.specs.Sizes.{IsTooLarge}
use Rattle.gc_heap.specs.Extents.{HasFields, first_offset, held_size, writable_offset}
use Rattle.gc_heap.specs.Rules.{SpareFits, array_spare, struct_spare}
use Rattle.gc_heap.specs.declared.fault.HeapFault.{HeapFault}
use Rattle.gc_heap.specs.Objects.{zeroed, zeroed_array}
use Rattle.gc_heap.specs.declared.fault.HeapFault.TheVariants as fault
pub use Rattle.gc_heap.specs.Space.{EndsAt, IsFree}
pub use Rattle.gc_heap.specs.Rules.{HasRoom, IsPlaceFor, allocated_after, allocated_at_first, allocated_in_more, counts_with, given_back, with_spare_of}

-- an empty heap of so many bytes, in which so many scopes stand that forbid a collection
abbrev pub empty_heap : Layouts → ℕ → ℕ → HeapView
empty_heap layouts bytes scopes = record (detached_in scopes) {
  attached = true;
  capacity = bytes;
  allocated = allocated_at_first layouts bytes;
}

-- the heap with so many bytes more
abbrev pub grown : Layouts → HeapView → ℕ → HeapView
grown layouts h bytes = record h {
  capacity = h.capacity + bytes;
  allocated = allocated_in_more layouts h bytes;
}

-- the heap with one more object
abbrev pub with_object : Layouts → HeapView → ℕ → HeapObject → ℕ → HeapView
with_object layouts h place object size = record h {
  content = finite.insert h.content place object;
  allocated = allocated_after layouts h.allocated size;
  counts = counts_with layouts h.counts place;
}

-- The place of a new object: a multiple of 16 and not 0, at which no object is held.
pub record IsNewPlace (h : HeapView) (place : ℕ) : Type 0 where
  pub aligned : place % alignment ≡ 0
  pub not_null : 0 < place
  pub free : finite.get h.content place ≡ None

-- An object was added at a new place.
pub record AddsObject (layouts : Layouts) (old new : HeapView) (place : ℕ) (object : HeapObject) (size : ℕ) : Type 0 where
  pub small : IsTooLarge layouts size → ⊥
  pub room : HasRoom layouts old size
  pub fresh : IsNewPlace old place
  pub lies : IsPlaceFor layouts old place size
  pub added : new ≡ with_object layouts old place object size

-- There was no room; the answer says how many bytes it takes.
pub record LacksRoom (layouts : Layouts) (old new : HeapView) (need : ℕ) (size : ℕ) : Type 0 where
  pub small : IsTooLarge layouts size → ⊥
  pub no_room : HasRoom layouts old size → ⊥
  pub asked : need ≡ need_of layouts size
  pub same : new ≡ old

-- what an allocation of that object, of so many bytes, answers and does
abbrev pub Allocated : Layouts → HeapView → HeapView → HeapObject → ℕ → Result (Result ℕ ℕ) HeapFault → Type 0
Allocated layouts old new object size (Ok (Ok place)) = AddsObject layouts old new place object size
Allocated layouts old new object size (Ok (Err need)) = LacksRoom layouts old new need size
Allocated layouts old new object size (Err fault.TooLarge) = IsTooLarge layouts size × (new ≡ old)
Allocated layouts old new object size (Err fault.Memory) = new ≡ old

-- the kind of an exception, or of a struct
abbrev pub exn_or_struct : Bool → VMGcKind
exn_or_struct true = ExnRef
exn_or_struct false = StructRef

-- the kind of an object with that layout
abbrev pub layout_kind : GcStructLayout → VMGcKind
layout_kind layout = exn_or_struct layout.is_exception

-- a new object of that type and layout
abbrev pub new_struct : Layouts → ℕ → GcStructLayout → HeapObject
new_struct layouts ty layout = zeroed layouts (layout_kind layout) ty (struct_spare layouts (ref_offsets layout.fields)) layout.size

-- the bytes of an array of that length
abbrev pub array_size : GcArrayLayout → ℕ → ℕ
array_size layout count = layout.base_size + count * layout.elem_size

-- a new array of that type, length and layout
abbrev pub new_array : Layouts → ℕ → ℕ → GcArrayLayout → HeapObject
new_array layouts ty count layout =
    zeroed_array layouts ty (array_spare layouts layout.elems_are_gc_refs) count (array_size layout count)

-- so many bytes at an offset of a held object lie in the part that its holder may write
pub record IsWritable (layouts : Layouts) (h : HeapView) (place offset count : ℕ) : Type 0 where
  pub object : HeapObject
  pub held : finite.get h.content place ≡ Some object
  pub from : writable_offset layouts object.kind ≤ offset
  pub to : offset + count ≤ held_size layouts object

-- the object with other bytes at an offset
abbrev pub with_data : Layouts → HeapObject → ℕ → List ℕ → HeapObject
with_data layouts object offset bytes = record object { bytes = put_bytes object.bytes (offset - struct_base layouts) bytes }

-- the heap with another object at a place
abbrev pub put_object : HeapView → ℕ → HeapObject → HeapView
put_object h place object = record h { content = finite.insert h.content place object }

-- An object may be allocated with that header and size: it is a struct, an array or an exception, not
-- smaller than one without fields, and its spare bits are such as its heap takes.
pub record CanAllocate (layouts : Layouts) (header : Header) (size : ℕ) : Type 0 where
  pub kind : VMGcKind
  pub is_kind : IsOfKind kind header.kind_word
  pub has_fields : HasFields kind
  pub least : first_offset layouts kind ≤ size
  pub spare : SpareFits layouts kind size (header.kind_word % spare_bits)

-- the kinds that the two calls that give back take
abbrev pub IsStructOrExn : VMGcKind → Type 0
IsStructOrExn kind = (kind ≡ StructRef) ⊎ (kind ≡ ExnRef)

abbrev pub IsArrayKind : VMGcKind → Type 0
IsArrayKind kind = kind ≡ ArrayRef

-- A held object of such a kind may be given back: where it is counted, its maker's word alone names it.
pub record CanGiveBack (h : HeapView) (place : ℕ) (is_kind : VMGcKind → Type 0) : Type 0 where
  pub object : HeapObject
  pub held : finite.get h.content place ≡ Some object
  pub kind : is_kind object.kind
  pub one_name : (n : ℕ) → finite.get h.counts.counted place ≡ Some n → n ≡ 1
  pub not_shown : finset.contains h.counts.shown place ≡ false
  pub not_queued : finset.contains h.counts.queued place ≡ false

-- a header has the kind and the type of an object
pub record IsSameHeader (o : HeapObject) (header : Header) : Type 0 where
  pub kind : kind_part header.kind_word ≡ kind_bits o.kind
  pub ty : header.type_word ≡ o.ty
