-- An object as it lies in the bytes of a memory, and what the words there tell of it.
use Rattle.std.specs.Prelude.{ℕ, ◌≡◌, ◌+◌, ◌%◌, ◌≤◌, List, drop, length, take}
use Rattle.gc_types.specs.declared.kind.Layouts.{Layouts}
use Rattle.gc_types.specs.declared.kind.Layouts.TheVariants.{Null, Counting, Copying}
use Rattle.gc_types.specs.Layouts.{struct_base}
use Rattle.gc_refs.specs.Header.{spare_bits}
use Rattle.gc_memory.specs.Offsets.{counting_size_offset, copying_size_offset}
use Rattle.gc_view.specs.Bytes.{u32_at}
use Rattle.gc_view.specs.Heaps.{HeapObject}
use Rattle.gc_heap.specs.Content.{LiesAtPlace}
use Rattle.gc_heap.specs.Extents.{held_size}
use Rattle.gc_heap.specs.Objects.{IsObjectData}

-- the object lies at a place of the memory, whole, and its bytes are there
pub record LiesIn (layouts : Layouts) (bytes : List ℕ) (place : ℕ) (o : HeapObject) : Type 0 where
  pub lies : LiesAtPlace layouts (length bytes) place o
  pub object : IsObjectData layouts o (take (held_size layouts o) (drop place bytes))

-- the size that the words at a place tell: a null heap keeps it in the spare bits of the kind word
abbrev pub told_size : Layouts → List ℕ → ℕ → ℕ
told_size Null bytes place = u32_at bytes place % spare_bits
told_size Counting bytes place = u32_at bytes (place + counting_size_offset)
told_size Copying bytes place = u32_at bytes (place + copying_size_offset)

-- the range begins at the place, has room for the words that every object has, and lies in the memory
pub record IsRange (layouts : Layouts) (bytes : List ℕ) (place start end : ℕ) : Type 0 where
  pub start_is : start ≡ place
  pub least : place + struct_base layouts ≤ end
  pub inside : end ≤ length bytes
