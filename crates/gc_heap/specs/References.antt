-- Where the references of an object lie.
use Rattle.std.specs.Prelude.{All, Bool, List, None, Option, Some, [], bit_or, false, if◌then◌else◌, map, nat_le, suc, true, zero, ℕ, ◌%◌, ◌*◌, ◌++◌, ◌+◌, ◌-◌, ◌/◌, ◌==◌, ◌^◌, ◌∷◌, ◌≡◌, ◌≤◌, ◌⊎◌}
use Rattle.gc_types.specs.declared.kind.VMGcKind.TheVariants.{AnyRef, ArrayRef, EqRef, ExnRef, ExternRef, StructRef}
use Rattle.gc_types.specs.declared.kind.Layouts.TheVariants.{Copying, Counting, Null}
use Rattle.gc_types.specs.Declarations.{Declaration}
use Rattle.gc_types.specs.declared.layout.GcArrayLayout.{GcArrayLayout}
use Rattle.gc_types.specs.declared.layout.GcStructLayout.{GcStructLayout}
use Rattle.gc_types.specs.declared.kind.Layouts.{Layouts}
use Rattle.gc_types.specs.declared.layout.TraceInfo.{TraceInfo}
use Rattle.gc_types.specs.declared.kind.VMGcKind.{VMGcKind}
use Rattle.gc_types.specs.Layouts.{array_base, array_layout_at, layout_at, struct_base, trace_at}
use Rattle.gc_types.specs.declared.layout.TraceInfo.TheVariants as trace
use Rattle.gc_refs.specs.Trace.{form_of}
use Rattle.gc_view.specs.Heaps.{HeapObject}
use Rattle.gc_view.specs.Bytes.{u32_at}
use Rattle.gc_heap.specs.Extents.{array_length, held_size}

-- so many offsets of words that follow each other from an offset on
abbrev pub word_offsets : ℕ → ℕ → List ℕ
word_offsets from zero = []
word_offsets from (suc n) = from ∷ word_offsets (from + 4) n

-- offsets of words inside a range, one behind the other
abbrev pub Spaced : ℕ → ℕ → List ℕ → Type 0
Spaced lo hi [] = Unit {0}
Spaced lo hi (o ∷ os) = (lo ≤ o) × (o + 4 ≤ hi) × Spaced (o + 4) hi os

-- an offset, where the lowest bit is set
abbrev pub if_bit : ℕ → ℕ → List ℕ
if_bit bits offset = if bits % 2 == 1 then offset ∷ [] else []

-- the offsets that the lowest bits of a bitmap name, from the lowest bit on: bit s the word at 4 * s
-- behind the first
abbrev pub bit_offsets : ℕ → ℕ → ℕ → List ℕ
bit_offsets from zero bits = []
bit_offsets from (suc n) bits = if_bit bits from ++ bit_offsets (from + 4) n (bits / 2)

-- the offsets that a bitmap names in an object of a copying heap
abbrev pub bitmap_offsets : ℕ → List ℕ
bitmap_offsets bits = bit_offsets (struct_base Copying) 23 bits

-- the offsets of an array's elements where they are references
abbrev pub element_offsets : Layouts → HeapObject → List ℕ
element_offsets layouts o = word_offsets (array_base layouts) (array_length o)

-- the offsets that the trace info of a type names
abbrev pub info_offsets : Layouts → HeapObject → Option TraceInfo → List ℕ
info_offsets layouts o None = []
info_offsets layouts o (Some (trace.Struct offsets)) = offsets
info_offsets layouts o (Some (trace.Array true)) = element_offsets layouts o
info_offsets layouts o (Some (trace.Array false)) = []

-- the offsets of an object's references by its type; an external object has none
abbrev pub typed_offsets : Layouts → List Declaration → HeapObject → VMGcKind → List ℕ
typed_offsets layouts types o ExternRef = []
typed_offsets layouts types o AnyRef = []
typed_offsets layouts types o EqRef = []
typed_offsets layouts types o StructRef = info_offsets layouts o (trace_at layouts types o.ty)
typed_offsets layouts types o ArrayRef = info_offsets layouts o (trace_at layouts types o.ty)
typed_offsets layouts types o ExnRef = info_offsets layouts o (trace_at layouts types o.ty)

-- the offsets of an object's references by its trace word: a bitmap, an array, or out of line
abbrev pub traced_offsets : List Declaration → HeapObject → List ℕ
traced_offsets types o =
    if form_of o.spare == 0 then bitmap_offsets o.spare else
    (if form_of o.spare == 1 then (if o.spare % 2 == 1 then element_offsets Copying o else []) else
    typed_offsets Copying types o o.kind)

-- The offsets of an object's references: by its trace word in a copying heap, else by its type.
abbrev pub reference_offsets : Layouts → List Declaration → HeapObject → List ℕ
reference_offsets Null types o = typed_offsets Null types o o.kind
reference_offsets Counting types o = typed_offsets Counting types o o.kind
reference_offsets Copying types o = traced_offsets types o

-- the word that lies at an offset of an object
abbrev pub word_in : Layouts → HeapObject → ℕ → ℕ
word_in layouts o offset = u32_at o.bytes (offset - struct_base layouts)

-- the words of an object's references, null and 31-bit numbers among them
abbrev pub references : Layouts → List Declaration → HeapObject → List ℕ
references layouts types o = map (word_in layouts o) (reference_offsets layouts types o)

-- The trace word of an object of that kind and size, with the copied bit clear: a struct or an
-- exception has a bitmap of words inside it or is out of line, an array has the form of an array.
abbrev pub IsTraceWord : VMGcKind → ℕ → ℕ → Type 0
IsTraceWord ExternRef size word = ⊥
IsTraceWord AnyRef size word = ⊥
IsTraceWord EqRef size word = ⊥
IsTraceWord StructRef size word =
    ((form_of word ≡ 0) × All (λ offset. offset + 4 ≤ size) (bitmap_offsets word)) ⊎ (form_of word ≡ 2)
IsTraceWord ArrayRef size word = form_of word ≡ 1
IsTraceWord ExnRef size word =
    ((form_of word ≡ 0) × All (λ offset. offset + 4 ≤ size) (bitmap_offsets word)) ⊎ (form_of word ≡ 2)

-- the bitmap that names these offsets
abbrev pub bitmap_of : List ℕ → ℕ
bitmap_of [] = 0
bitmap_of (offset ∷ offsets) = bit_or (2 ^ ((offset - struct_base Copying) / 4)) (bitmap_of offsets)

-- a reference lies past the last one that a bitmap can name
abbrev pub is_past_bitmap : List ℕ → Bool
is_past_bitmap [] = false
is_past_bitmap (offset ∷ offsets) = if nat_le offset 100 then is_past_bitmap offsets else true

-- A reference of a layout lies at a multiple of 4, behind the first free offset and inside the size.
pub record IsTraceable (first size offset : ℕ) : Type 0 where
  pub aligned : offset % 4 ≡ 0
  pub from : first ≤ offset
  pub to : offset + 4 ≤ size

-- a struct or an exception of that size holds a layout of its kind
pub record HoldsLayout (is_exception : Bool) (size : ℕ) (layout : Option GcStructLayout) : Type 0 where
  pub is : GcStructLayout
  pub stands : layout ≡ Some is
  pub kind : is.is_exception ≡ is_exception
  pub fits : is.size ≤ size

-- an array of that length and size holds a layout
pub record HoldsArrayLayout (count size : ℕ) (layout : Option GcArrayLayout) : Type 0 where
  pub is : GcArrayLayout
  pub stands : layout ≡ Some is
  pub fits : is.base_size + count * is.elem_size ≤ size

-- the type of an object stands among the types, with a layout that the object holds
abbrev pub HoldsType : Layouts → List Declaration → HeapObject → VMGcKind → Type 0
HoldsType layouts types o ExternRef = Unit {0}
HoldsType layouts types o AnyRef = Unit {0}
HoldsType layouts types o EqRef = Unit {0}
HoldsType layouts types o StructRef = HoldsLayout false (held_size layouts o) (layout_at layouts types o.ty)
HoldsType layouts types o ArrayRef = HoldsArrayLayout (array_length o) (held_size layouts o) (array_layout_at layouts types o.ty)
HoldsType layouts types o ExnRef = HoldsLayout true (held_size layouts o) (layout_at layouts types o.ty)
