-- What an allocation writes.
use Rattle.std.specs.Prelude.{◌≡◌, ℕ, ◌+◌, ◌-◌, ◌≤◌, ◌<◌, ◌^◌, List, length, take, drop, replicate}
use Rattle.gc_types.specs.declared.kind.Layouts.TheVariants.{Copying}
use Rattle.gc_types.specs.Layouts.{round_up}
use Rattle.gc_refs.specs.Header.{Header}
use Rattle.gc_memory.specs.Words.{word}
use Rattle.gc_memory.specs.Changes.{Wrote}
use Rattle.gc_view.specs.Sizes.{alignment}
use Rattle.gc_view.specs.Heaps.{HeapView}
use Rattle.gc_heap.specs.Heap.{IsTooLarge, HasRoom}
use Rattle.gc_view.specs.Sizes.{need_of}
use Rattle.gc_copying.specs.declared.blocks.Room.{Room}
use Rattle.gc_copying.specs.declared.blocks.Room.TheVariants as room

-- What lets an object be written behind the last one.
pub record CanPlaceBehind (bytes : List ℕ) (bump objects block : ℕ) : Type 0 where
  pub begun : 0 < bump
  pub least : 16 ≤ block
  pub room : bump + block ≤ length bytes
  pub small : bump + block < 2 ^ 32
  pub count : objects < 2 ^ 32

-- so many bytes were written at a place: a header, their number, and zeros
pub record WritesCopyingBlock (before after : List ℕ) (place : ℕ) (header : Header) (size : ℕ) : Type 0 where
  pub around : Wrote before after place size
  pub kind_word : word after place ≡ header.kind_word
  pub type_word : word after (place + 4) ≡ header.type_word
  pub size_word : word after (place + 8) ≡ size
  pub zeros : take (size - 12) (drop (place + 12) after) ≡ replicate (size - 12) 0

-- What is found of an object of that size: it fits, and takes so many bytes; the heap would have to grow
-- by so many; or no heap can hold it.
abbrev pub TellsRoom : HeapView → ℕ → Room → Type 0
TellsRoom h size (room.Fits block) = (IsTooLarge Copying size → ⊥) × (HasRoom Copying h size × (block ≡ round_up size alignment))
TellsRoom h size (room.Lacks need) = (IsTooLarge Copying size → ⊥) × ((HasRoom Copying h size → ⊥) × (need ≡ need_of Copying size))
TellsRoom h size room.TooLarge = IsTooLarge Copying size
