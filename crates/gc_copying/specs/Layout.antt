-- The words of an object of a copying heap, and where the halves of its memory lie.
use Rattle.std.specs.Prelude.{ℕ, ◌+◌, ◌-◌, ◌%◌, Bool, List, take, drop, length}
use Rattle.gc_types.specs.declared.kind.VMGcKind.{VMGcKind}
use Rattle.gc_types.specs.declared.kind.VMGcKind.TheVariants.{ExternRef, AnyRef, EqRef, StructRef, ArrayRef, ExnRef}
use Rattle.gc_types.specs.Kinds.{kind_of}
use Rattle.gc_refs.specs.Header.{spare_bits, kind_part}
use Rattle.gc_memory.specs.Words.{word}
use Rattle.gc_memory.specs.Chains.{places}
use Rattle.gc_view.specs.Heaps.{HeapObject}
use Rattle.gc_copying.specs.Spaces.{half_start, half_skipped}

-- where the first object of the active half lies
abbrev pub copying_first_place : ℕ → Bool → ℕ
copying_first_place capacity upper = half_start capacity upper + half_skipped capacity

-- the bytes of the object at a place
abbrev pub copying_size_at : List ℕ → ℕ → ℕ
copying_size_at bytes place = word bytes (place + 8)

-- the places of the objects of the active half, which ends at a bump place
abbrev pub places_in : List ℕ → Bool → ℕ → List ℕ
places_in bytes upper bump = places (copying_size_at bytes) (copying_first_place (length bytes) upper) bump

-- the kind of the object at a place
unfoldable pub copying_kind_at : List ℕ → ℕ → VMGcKind
copying_kind_at bytes place = kind_of (kind_part (word bytes place))

-- the data of an object of that kind: the host id of an external object, else all bytes behind the
-- size word
unfoldable pub copying_data_at : List ℕ → ℕ → VMGcKind → List ℕ
copying_data_at bytes place ExternRef = take 4 (drop (place + 16) bytes)
copying_data_at bytes place AnyRef = take (copying_size_at bytes place - 12) (drop (place + 12) bytes)
copying_data_at bytes place EqRef = take (copying_size_at bytes place - 12) (drop (place + 12) bytes)
copying_data_at bytes place StructRef = take (copying_size_at bytes place - 12) (drop (place + 12) bytes)
copying_data_at bytes place ArrayRef = take (copying_size_at bytes place - 12) (drop (place + 12) bytes)
copying_data_at bytes place ExnRef = take (copying_size_at bytes place - 12) (drop (place + 12) bytes)

-- the object at a place
abbrev pub copying_object_at : List ℕ → ℕ → HeapObject
copying_object_at bytes place = record {
  kind = copying_kind_at bytes place;
  ty = word bytes (place + 4);
  spare = word bytes place % spare_bits;
  bytes = copying_data_at bytes place (copying_kind_at bytes place);
}
