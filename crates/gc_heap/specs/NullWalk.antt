-- A memory whose objects follow each other from a first place on, as in the null heap: each begins
-- with its kind word, whose spare bits are its size, and its type word.
use Rattle.std.specs.Prelude.{◌≡◌, ℕ, zero, suc, ◌+◌, ◌-◌, ◌%◌, ◌<◌, ◌≤◌, List, [], ◌∷◌, ◌++◌, take, drop, replicate, length, Option, Some, None}
use Rattle.std.specs.Int.{w32, to_le_bytes}
use Rattle.gc_types.specs.declared.kind.Layouts.TheVariants.{Null}
use Rattle.gc_types.specs.declared.kind.VMGcKind.{VMGcKind}
use Rattle.gc_types.specs.declared.kind.VMGcKind.TheVariants.{ExternRef}
use Rattle.gc_types.specs.Kinds.{kind_bits, kind_of}
use Rattle.gc_types.specs.Layouts.{round_up}
use Rattle.gc_refs.specs.Header.{Header, spare_bits, kind_part, IsOfKind}
use Rattle.gc_tables.specs.SideTables.{max_entries}
use Rattle.gc_view.specs.Sizes.{alignment}
use Rattle.gc_view.specs.Bytes.{u32_at}
use Rattle.gc_view.specs.Heaps.{HeapObject}
use Rattle.gc_view.specs.Bytes.{SameBytes}
use Rattle.gc_heap.specs.Objects.{first_offset, IsObjectKind}
use Rattle.gc_memory.specs.Offsets.{header_size}

-- where the first object lies: place 0 is null
abbrev pub bump_first_place : ℕ
bump_first_place = 16

-- the bytes of the object at a place
unfoldable pub bump_size_at : List ℕ → ℕ → ℕ
bump_size_at bytes place = u32_at bytes place % spare_bits

-- the object at a place
unfoldable pub bump_object_at : List ℕ → ℕ → HeapObject
bump_object_at bytes place = record {
  kind = kind_of (kind_part (u32_at bytes place));
  ty = u32_at bytes (place + 4);
  spare = 0;
  bytes = take (bump_size_at bytes place - header_size) (drop (place + header_size) bytes);
}

-- where the object behind the one at a place begins
abbrev pub place_after : List ℕ → ℕ → ℕ
place_after bytes place = round_up (place + bump_size_at bytes place) alignment

-- so many objects with their places, from a place on
abbrev pub entries : ℕ → List ℕ → ℕ → List (ℕ × HeapObject)
entries zero bytes place = []
entries (suc n) bytes place = (place, bump_object_at bytes place) ∷ entries n bytes (place_after bytes place)

-- an external object holds a host id alone: the number that stands for an id, which is the id plus 1
pub record HasBumpHost (o : HeapObject) : Type 0 where
  pub size : length o.bytes ≡ 4
  pub from : 0 < u32_at o.bytes 0
  pub to : u32_at o.bytes 0 ≤ max_entries

-- A whole object lies at a place, and its kind word tells its kind.
pub record BumpLiesAt (bytes : List ℕ) (place : ℕ) : Type 0 where
  pub kind : kind_part (u32_at bytes place) ≡ kind_bits (bump_object_at bytes place).kind
  pub is_kind : IsObjectKind (bump_object_at bytes place).kind
  pub first : first_offset Null (bump_object_at bytes place).kind ≤ bump_size_at bytes place
  pub host : (bump_object_at bytes place).kind ≡ ExternRef → HasBumpHost (bump_object_at bytes place)
  pub inside : place + bump_size_at bytes place ≤ length bytes

-- so many objects follow each other from a place to an end
abbrev pub Follow : ℕ → List ℕ → ℕ → ℕ → Type 0
Follow zero bytes place end = place ≡ end
Follow (suc n) bytes place end = BumpLiesAt bytes place × Follow n bytes (place_after bytes place) end

-- the data of a new object of so many bytes: zeros, behind its first word where that is told
abbrev pub data_with : Option ℕ → ℕ → List ℕ
data_with None size = replicate (size - header_size) 0
data_with (Some word) size = to_le_bytes w32 word ++ replicate (size - (header_size + 4)) 0

-- where the first word of the data ends
abbrev pub bump_word_end : Option ℕ → ℕ
bump_word_end None = header_size
bump_word_end (Some word) = header_size + 4

-- a new object of that kind and type
abbrev pub placed : VMGcKind → ℕ → Option ℕ → ℕ → HeapObject
placed kind ty word size = record { kind = kind; ty = ty; spare = 0; bytes = data_with word size }

-- An object may be made with that header, first word and size.
pub record IsNew (header : Header) (word : Option ℕ) (size : ℕ) : Type 0 where
  pub kind : VMGcKind
  pub is_kind : IsOfKind kind header.kind_word
  pub object_kind : IsObjectKind kind
  pub least : first_offset Null kind ≤ size
  pub room : bump_word_end word ≤ size
  pub host : kind ≡ ExternRef → HasBumpHost (placed kind header.type_word word size)

-- An object of so many bytes was written at a place, and what lies before it stays.
pub record AppendsObject (before after : List ℕ) (place : ℕ) (object : HeapObject) (size : ℕ) : Type 0 where
  pub below : SameBytes before after bump_first_place place
  pub lies : BumpLiesAt after place
  pub size_is : bump_size_at after place ≡ size
  pub object_is : bump_object_at after place ≡ object

-- the header whose words lie at a place
abbrev pub header_in : List ℕ → ℕ → Header
header_in bytes place = record { kind_word = u32_at bytes place; type_word = u32_at bytes (place + 4) }
