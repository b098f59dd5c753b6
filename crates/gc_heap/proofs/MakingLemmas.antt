-- What an allocation may make.
use Rattle.std.proofs.Common.{◌≡◌, ℕ, ◌+◌, ◌-◌, ◌%◌, ◌≤◌, ◌^◌, List, Result, length, refl, sym, ap, subst, ◌∙◌, arith}
use Rattle.gc_types.specs.declared.kind.Layouts.{Layouts}
use Rattle.gc_types.specs.declared.kind.Layouts.TheVariants.{Null, Counting, Copying}
use Rattle.gc_types.specs.declared.kind.VMGcKind.{VMGcKind}
use Rattle.gc_types.specs.declared.kind.VMGcKind.TheVariants.{ExternRef, AnyRef, EqRef, StructRef, ArrayRef, ExnRef}
use Rattle.gc_types.specs.declared.layout.GcArrayLayout.{GcArrayLayout}
use Rattle.gc_types.specs.declared.layout.GcStructLayout.{GcStructLayout}
use Rattle.gc_types.specs.Layouts.{array_base, exception_base, ref_offsets, struct_base}
use Rattle.gc_refs.specs.Header.{Header, IsOfKind, header_of, kind_part, spare_bits}
use Rattle.gc_heap.specs.Extents.{HasFields, IsObjectKind, first_offset}
use Rattle.gc_memory.specs.Offsets.{array_length_offset, external_size, host_id_offset}
use Rattle.gc_view.proofs.ByteLemmas.{length-put_u32}
use Rattle.gc_view.specs.Heaps.{HeapObject, HeapView}
use Rattle.gc_heap.specs.Heap.{Allocated, CanAllocate, array_size, layout_kind, new_array}
use Rattle.gc_heap.specs.Making.{CanMake, made, with_first_word, word_end}
use Rattle.gc_heap.specs.Objects.{zeroed_array}
use Rattle.gc_heap.specs.Rules.{LayoutTraces, array_spare, struct_spare}
use Rattle.gc_heap.specs.declared.fault.HeapFault.{HeapFault}
use Rattle.gc_heap.specs.declared.new_object.FirstWord.{FirstWord}
use Rattle.gc_heap.specs.declared.new_object.FirstWord.TheVariants as first
use Rattle.gc_heap.proofs.TraceLemmas.{can_allocate_struct, kind_fields}

pub object_kind_of : (k : VMGcKind) → HasFields k → IsObjectKind k
object_kind_of ExternRef h = absurd h
object_kind_of AnyRef h = h
object_kind_of EqRef h = h
object_kind_of StructRef h = h
object_kind_of ArrayRef h = h
object_kind_of ExnRef h = h

pub not_external : (k : VMGcKind) → HasFields k → k ≡ ExternRef → ⊥
not_external k h e = subst HasFields e h

-- an array is as large as its layout's base at least
pub array_least : (layout : GcArrayLayout) (count n : ℕ) → n ≤ layout.base_size → n ≤ array_size layout count
array_least layout count n h = omega arith

-- an external object's header has its kind
pub external_kind : (header : Header) → header ≡ header_of ExternRef (2 ^ 32 - 1) → IsOfKind ExternRef header.kind_word
external_kind header is = ap (λ (h : Header). kind_part h.kind_word) (sym is)

-- what is answered of an object and a size is answered of equal ones
pub allocated_as : (layouts : Layouts) (old new : HeapView) (o x : HeapObject) (n m : ℕ) (r : Result (Result ℕ ℕ) HeapFault) → o ≡ x → n ≡ m
    → Allocated layouts old new o n r → Allocated layouts old new x m r
allocated_as layouts old new o x n m r same size told = subst (λ k. Allocated layouts old new x k r) size (subst (λ y. Allocated layouts old new y n r) same told)

-- an array of a layout is made of that layout's header
pub made_array : (layouts : Layouts) (h : Header) (ty count size : ℕ) (layout : GcArrayLayout) → h.type_word ≡ ty
    → h.kind_word % spare_bits ≡ array_spare layouts layout.elems_are_gc_refs → size ≡ array_size layout count
    → made layouts ArrayRef h (first.Length count) size ≡ new_array layouts ty count layout
made_array layouts h ty count size layout type_is spare size_is =
    ap (λ (n : ℕ). zeroed_array layouts n (h.kind_word % spare_bits) count size) type_is
    ∙ ap (λ (n : ℕ). zeroed_array layouts ty n count size) spare
    ∙ ap (λ (n : ℕ). zeroed_array layouts ty (array_spare layouts layout.elems_are_gc_refs) count n) size_is

-- an object of a layout may be made with that layout's spare bits
pub can_make_struct : (layouts : Layouts) (layout : GcStructLayout) (h : Header) → first_offset layouts (layout_kind layout) ≤ layout.size
    → LayoutTraces layouts layout (first_offset layouts (layout_kind layout)) → IsOfKind (layout_kind layout) h.kind_word
    → h.kind_word % spare_bits ≡ struct_spare layouts (ref_offsets layout.fields) → CanAllocate layouts h layout.size
can_make_struct Null layout h least traces kind spare =
    record { kind = layout_kind layout; is_kind = kind; has_fields = kind_fields layout.is_exception; least = least; spare = spare }
can_make_struct Counting layout h least traces kind spare =
    record { kind = layout_kind layout; is_kind = kind; has_fields = kind_fields layout.is_exception; least = least; spare = spare }
can_make_struct Copying layout h least traces kind spare = can_allocate_struct layout h least traces kind spare

array_first : (layouts : Layouts) → array_base layouts ≡ array_length_offset layouts + 4
array_first Null = refl
array_first Counting = refl
array_first Copying = refl

exception_first : (layouts : Layouts) → struct_base layouts ≤ exception_base layouts
exception_first Null = omega arith
exception_first Counting = omega arith
exception_first Copying = omega arith

-- The bytes of an external object, and what lies in it.
record IsExternal (layouts : Layouts) : Type 0 where
  pub least : struct_base layouts ≤ host_id_offset layouts + 4
  pub word : host_id_offset layouts + 4 ≤ external_size layouts

external_first : (layouts : Layouts) → IsExternal layouts
external_first Null = record { least = omega arith; word = omega arith }
external_first Counting = record { least = omega arith; word = omega arith }
external_first Copying = record { least = omega arith; word = omega arith }

first_least : (layouts : Layouts) (k : VMGcKind) → struct_base layouts ≤ first_offset layouts k
first_least layouts ExternRef = (external_first layouts).least
first_least layouts AnyRef = omega arith
first_least layouts EqRef = omega arith
first_least layouts StructRef = omega arith
first_least layouts ArrayRef = let is = array_first layouts in omega arith
first_least layouts ExnRef = exception_first layouts

-- the first word of an object that may be made lies in it
pub word_fits : (layouts : Layouts) (h : Header) (word : FirstWord) (size : ℕ) → CanMake layouts h word size → word_end layouts word ≤ size
word_fits layouts h first.Zero size can = omega arith
word_fits layouts h (first.Length count) size can =
    subst (λ n. n ≤ size) (array_first layouts) (subst (λ n. array_base layouts ≤ n) (sym can.size_is) (array_least can.layout count (array_base layouts) can.least))
word_fits layouts h (first.Host id) size can = subst (λ n. host_id_offset layouts + 4 ≤ n) (sym can.1) (external_first layouts).word

-- and so do the words that every object has
pub made_least : (layouts : Layouts) (h : Header) (word : FirstWord) (size : ℕ) → CanMake layouts h word size → struct_base layouts ≤ size
made_least layouts h first.Zero size can = let first = first_least layouts can.kind in let least = can.least in omega arith
made_least layouts h (first.Length count) size can = let fits = word_fits layouts h (first.Length count) size can in omega arith
made_least layouts h (first.Host id) size can =
    let fits = word_fits layouts h (first.Host id) size can in
    let least = (external_first layouts).least in omega arith

-- an object that may be made has a kind
pub made_kind : (layouts : Layouts) (h : Header) (word : FirstWord) (size : ℕ) → CanMake layouts h word size → (k : VMGcKind) × IsOfKind k h.kind_word
made_kind layouts h first.Zero size can = (can.kind, can.is_kind)
made_kind layouts h (first.Length count) size can = (ArrayRef, can.is_kind)
made_kind layouts h (first.Host id) size can = (ExternRef, external_kind h can.0)

-- a first word that is written leaves the number of bytes
pub with_word-length : (layouts : Layouts) (bytes : List ℕ) (place : ℕ) (word : FirstWord) → place + word_end layouts word ≤ length bytes
    → length (with_first_word layouts bytes place word) ≡ length bytes
with_word-length layouts bytes place first.Zero inside = refl
with_word-length layouts bytes place (first.Length count) inside = length-put_u32 bytes (place + array_length_offset layouts) count (omega arith)
with_word-length layouts bytes place (first.Host id) inside = length-put_u32 bytes (place + host_id_offset layouts) (id + 1) (omega arith)
