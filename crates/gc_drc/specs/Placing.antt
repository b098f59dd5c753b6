-- What an allocation takes and writes.
use Rattle.std.specs.Prelude.{◌≡◌, ℕ, ◌+◌, ◌-◌, ◌≤◌, ◌<◌, ◌^◌, All, List, length, take, drop, replicate, Some, Result, Ok, Err}
use Rattle.gc_types.specs.declared.kind.Layouts.TheVariants.{Counting}
use Rattle.gc_refs.specs.Header.{Header}
use Rattle.gc_memory.specs.Words.{word}
use Rattle.gc_memory.specs.Changes.{Wrote}
use Rattle.gc_free.specs.Runs.{run, insert_run}
use Rattle.gc_free.specs.Space.{IsSound, free_runs}
use Rattle.gc_free.specs.Space as free_list
use Rattle.gc_heap.specs.Heap.{IsTooLarge}
use Rattle.gc_view.specs.Sizes.{need_of}
use Rattle.gc_heap.specs.declared.fault.HeapFault.{HeapFault}
use Rattle.gc_heap.specs.declared.fault.HeapFault.TheVariants as fault
use Rattle.gc_drc.specs.declared.space.CountedSpace.{CountedSpace}
use Rattle.gc_drc.specs.declared.blocks.NewBlock.{NewBlock}
use Rattle.gc_drc.specs.Layout.{count_at, counting_size_at, block_of}

-- the free list holds one block more, at the place that it gives
pub record TakesBlock (before after : CountedSpace) (place size : ℕ) : Type 0 where
  pub rest : after ≡ record before { free = after.free }
  pub given : (free_list.take (block_of size) before.free.space).place ≡ Some place
  pub held : after.free.space.held ≡ insert_run (run place (block_of size)) before.free.space.held
  pub capacity : after.free.space.capacity ≡ before.free.space.capacity
  pub sound : IsSound after.free.space

-- the free list holds the same blocks
pub record KeepsBlocks (before after : CountedSpace) : Type 0 where
  pub rest : after ≡ record before { free = after.free }
  pub held : after.free.space.held ≡ before.free.space.held
  pub capacity : after.free.space.capacity ≡ before.free.space.capacity
  pub sound : IsSound after.free.space

-- no free run is long enough
abbrev pub LacksFreeRun : CountedSpace → ℕ → Type 0
LacksFreeRun s size = All (λ r. r.length < block_of size) (free_runs s.free.space)

-- what the search for a block of that size answers and does
abbrev pub FindsBlock : CountedSpace → CountedSpace → ℕ → Result (Result NewBlock ℕ) HeapFault → Type 0
FindsBlock before after size (Ok (Ok block)) = (IsTooLarge Counting size → ⊥) × ((block.size ≡ size) × TakesBlock before after block.place size)
FindsBlock before after size (Ok (Err need)) = (IsTooLarge Counting size → ⊥) × (LacksFreeRun before size × ((need ≡ need_of Counting size) × KeepsBlocks before after))
FindsBlock before after size (Err fault.TooLarge) = IsTooLarge Counting size × KeepsBlocks before after
FindsBlock before after size (Err fault.Memory) = KeepsBlocks before after

-- What lets an object be written at a place that was taken.
pub record CanPlaceAt (s : CountedSpace) (place size : ℕ) : Type 0 where
  pub not_null : 0 < place
  pub least : 28 ≤ size
  pub room : place + size ≤ length s.memory
  pub count : s.objects < 2 ^ 32
  pub bytes : s.allocated + block_of size < 2 ^ 33

-- so many bytes were written at a place: a header, a count of 1, their number, and zeros
pub record WritesCountingBlock (before after : List ℕ) (place : ℕ) (header : Header) (size : ℕ) : Type 0 where
  pub around : Wrote before after place size
  pub kind_word : word after place ≡ header.kind_word
  pub type_word : word after (place + 4) ≡ header.type_word
  pub count_word : count_at after place ≡ 1
  pub size_word : counting_size_at after place ≡ size
  pub zeros : take (size - 28) (drop (place + 28) after) ≡ replicate (size - 28) 0

-- the space in which an object was put at a block that was taken
abbrev pub placed_space : CountedSpace → CountedSpace → List ℕ → ℕ → CountedSpace
placed_space s taken bytes size = record s { memory = bytes; free = taken.free; objects = s.objects + 1; allocated = s.allocated + block_of size }

-- a block was taken, and a header and zeros were written to it
pub record IsBlockPlaced (before after : CountedSpace) (header : Header) (size place : ℕ) : Type 0 where
  pub between : CountedSpace
  pub taken : TakesBlock before between place size
  pub block : WritesCountingBlock before.memory after.memory place header size
  pub is : after ≡ placed_space before between after.memory size

-- what making an object of a header and a size answers and does
abbrev pub PlacesBlock : CountedSpace → CountedSpace → Header → ℕ → Result (Result ℕ ℕ) HeapFault → Type 0
PlacesBlock before after header size (Ok (Ok place)) = (IsTooLarge Counting size → ⊥) × IsBlockPlaced before after header size place
PlacesBlock before after header size (Ok (Err need)) = (IsTooLarge Counting size → ⊥) × (LacksFreeRun before size × ((need ≡ need_of Counting size) × KeepsBlocks before after))
PlacesBlock before after header size (Err fault.TooLarge) = IsTooLarge Counting size × KeepsBlocks before after
PlacesBlock before after header size (Err fault.Memory) = KeepsBlocks before after
