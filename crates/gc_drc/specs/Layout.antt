-- The words of an object of a counting heap.
use Rattle.std.specs.Prelude.{◌≡◌, ℕ, ◌+◌, ◌-◌, ◌*◌, ◌/◌, ◌%◌, ◌<◌, ◌≤◌, List, take, drop}
use Rattle.gc_types.specs.declared.kind.Layouts.TheVariants.{Counting}
use Rattle.gc_types.specs.declared.kind.VMGcKind.{VMGcKind}
use Rattle.gc_types.specs.declared.kind.VMGcKind.TheVariants.{ExternRef}
use Rattle.gc_types.specs.Kinds.{kind_of}
use Rattle.gc_types.specs.Layouts.{round_up}
use Rattle.gc_refs.specs.Header.{spare_bits, kind_part, IsOfKind}
use Rattle.gc_tables.specs.SideTables.{max_entries}
use Rattle.gc_memory.specs.Words.{word, word64}
use Rattle.gc_view.specs.Sizes.{alignment}
use Rattle.gc_view.specs.Heaps.{HeapObject}
use Rattle.gc_heap.specs.Objects.{first_offset, IsObjectKind}

-- the count word of the object at a place, its size, and the bytes of its block
abbrev pub count_at : List ℕ → ℕ → ℕ
count_at bytes place = word64 bytes (place + 8)

abbrev pub counting_size_at : List ℕ → ℕ → ℕ
counting_size_at bytes place = word bytes (place + 20)

abbrev pub block_of : ℕ → ℕ
block_of size = round_up size alignment

-- the three bits of the heap's own in a kind word: 1 marked, 2 on the list of shown words, 4 queued
abbrev pub flags_at : List ℕ → ℕ → ℕ
flags_at bytes place = word bytes place % 8

-- the kind of the object at a place
unfoldable pub counting_kind_at : List ℕ → ℕ → VMGcKind
counting_kind_at bytes place = kind_of (kind_part (word bytes place))

-- the data of the object at a place: all bytes behind the link word
abbrev pub counting_data_at : List ℕ → ℕ → List ℕ
counting_data_at bytes place = take (counting_size_at bytes place - 28) (drop (place + 28) bytes)

-- the object at a place; its spare bits are those above the heap's own three
abbrev pub counting_object_at : List ℕ → ℕ → HeapObject
counting_object_at bytes place = record {
  kind = counting_kind_at bytes place;
  ty = word bytes (place + 4);
  spare = word bytes place % spare_bits / 8 * 8;
  bytes = counting_data_at bytes place;
}

-- An external object has 32 bytes, and its host id is one that the table of host values may give.
pub record HasCountingHost (bytes : List ℕ) (place : ℕ) : Type 0 where
  pub size : counting_size_at bytes place ≡ 32
  pub from : 0 < word bytes (place + 28)
  pub to : word bytes (place + 28) ≤ max_entries

-- A whole object stands at a place.
pub record IsCountingWhole (bytes : List ℕ) (place : ℕ) : Type 0 where
  pub kind : IsOfKind (counting_kind_at bytes place) (word bytes place)
  pub object_kind : IsObjectKind (counting_kind_at bytes place)
  pub least : first_offset Counting (counting_kind_at bytes place) ≤ counting_size_at bytes place
  pub external : counting_kind_at bytes place ≡ ExternRef → HasCountingHost bytes place
