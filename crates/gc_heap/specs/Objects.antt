-- New objects, and what the bytes of an object tell.
use Rattle.std.specs.Prelude.{List, drop, length, replicate, take, ℕ, ◌%◌, ◌++◌, ◌+◌, ◌-◌, ◌^◌, ◌≡◌}
use Rattle.std.specs.Int.{to_le_bytes, w32}
use Rattle.gc_types.specs.declared.kind.VMGcKind.TheVariants.{ArrayRef, ExternRef}
use Rattle.gc_types.specs.declared.kind.Layouts.{Layouts}
use Rattle.gc_types.specs.declared.kind.VMGcKind.{VMGcKind}
use Rattle.gc_types.specs.Layouts.{array_base, struct_base}
use Rattle.gc_types.specs.Kinds.{kind_bits}
use Rattle.gc_refs.specs.Header.{Header, kind_part, spare_bits}
use Rattle.gc_memory.specs.Offsets.{stored_size}
use Rattle.gc_view.specs.Heaps.{HeapObject}
use Rattle.gc_view.specs.Bytes.{u32_at}
pub use Rattle.gc_heap.specs.Extents.{HasFields, IsObjectKind, array_length, data_offset, first_offset, held_size, host_id, size_with, writable_offset}
pub use Rattle.gc_heap.specs.Rules.{SizeWordIs, SpareIs}

-- A new struct, array or exception: its data is 0.
abbrev pub zeroed : Layouts → VMGcKind → ℕ → ℕ → ℕ → HeapObject
zeroed layouts kind ty spare size = record {
  kind = kind;
  ty = ty;
  spare = spare;
  bytes = replicate (stored_size layouts size - struct_base layouts) 0;
}

-- a new array: its length, and elements that are 0
abbrev pub zeroed_array : Layouts → ℕ → ℕ → ℕ → ℕ → HeapObject
zeroed_array layouts ty spare count size = record {
  kind = ArrayRef;
  ty = ty;
  spare = spare;
  bytes = to_le_bytes w32 count ++ replicate (stored_size layouts size - array_base layouts) 0;
}

-- a new external object with that host id
abbrev pub external : ℕ → HeapObject
external id = record { kind = ExternRef; ty = 2 ^ 32 - 1; spare = 0; bytes = to_le_bytes w32 (id + 1) }

-- the header of an object tells its kind, its type and its spare bits
pub record IsHeaderOf (layouts : Layouts) (o : HeapObject) (header : Header) : Type 0 where
  pub kind : kind_part header.kind_word ≡ kind_bits o.kind
  pub ty : header.type_word ≡ o.ty
  pub spare : SpareIs layouts o (header.kind_word % spare_bits)

-- all bytes of an object, from its first one on: its header, its size and its data lie in them
pub record IsObjectData (layouts : Layouts) (o : HeapObject) (bytes : List ℕ) : Type 0 where
  pub size : length bytes ≡ held_size layouts o
  pub header : IsHeaderOf layouts o (record { kind_word = u32_at bytes 0; type_word = u32_at bytes 4 })
  pub size_word : SizeWordIs layouts o bytes
  pub data_is : take (length o.bytes) (drop (data_offset layouts o.kind) bytes) ≡ o.bytes
