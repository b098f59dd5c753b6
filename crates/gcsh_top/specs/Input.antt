-- What reading an input to its end comes to.
use Rattle.std.specs.Prelude.{◌≡◌, ℕ, ◌+◌, ◌≤◌, IsTrue, List, [], ◌∷◌, length, take}
use Rattle.std.specs.Io.KnownBytes.{IsAtEnd}
use Rattle.gc_model.specs.Allocation.{Rose}
use Rattle.gcsh_top.specs.declared.read.ReadFault.{ReadFault}
use Rattle.gcsh_top.specs.declared.read.ReadFault.TheVariants.{Source, TooLong}
use Rattle.gcsh_top.specs.declared.status.Status.{Status}
use Rattle.gcsh_top.specs.declared.status.Status.TheVariants.{Done, Usage, WriteFault, NoMemory}
use Rattle.gcsh_top.specs.declared.status.Status.TheVariants as status
use Rattle.gc_script.specs.Cutting.{IsCut}
use Rattle.gcsh_top.specs.Ends.{Gave, SourceRun}

-- an input may have this many bytes
abbrev pub max_input : ℕ
max_input = 16777216

-- the source gave these bytes, and they are no more than an input may have
pub record GaveShort (source : SourceRun) (bytes : List ℕ) : Type 0 where
  pub gave : Gave source bytes
  pub short : length bytes ≤ max_input

-- An input was read to its end: the source has nothing left, and its last read gave no byte.
pub record ReadWhole (source : SourceRun) (input : List ℕ) : Type 0 where
  pub gave : GaveShort source input
  pub at_end : IsAtEnd source.after.left
  pub ended : IsTrue source.after.ended

-- The next n bytes of an input of which some were given already: these, and no more together than an input may have. They
-- are none at its end alone.
pub record GavePiece (source : SourceRun) (given n : ℕ) (bytes : List ℕ) : Type 0 where
  pub gave : Gave source bytes
  pub count : length bytes ≡ n
  pub short : given + n ≤ max_input
  pub at_end : n ≡ 0 → IsAtEnd source.after.left
  pub ended : n ≡ 0 → IsTrue source.after.ended

-- How no next bytes were given: the source failed, or it gave one more than an input may have.
abbrev pub Unread : SourceRun → ℕ → ReadFault → Type 0
Unread source given Source = Gave source [] × Rose source.before.faults source.after.faults
Unread source given TooLong = (b : ℕ) × Gave source (b ∷ []) × (given ≡ max_input)

-- How an input was not read to its end into memory, by the status: the source failed, it gave one byte more than an input may
-- have, or there was no memory.
abbrev pub UnreadInput : SourceRun → Status → Type 0
UnreadInput source Done = ⊥
UnreadInput source Usage = ⊥
UnreadInput source status.ReadFault = ((bytes : List ℕ) × GaveShort source bytes) × Rose source.before.faults source.after.faults
UnreadInput source WriteFault = ⊥
UnreadInput source status.TooLong = (bytes : List ℕ) × Gave source bytes × (length bytes ≡ max_input + 1)
UnreadInput source NoMemory = (bytes : List ℕ) × GaveShort source bytes

-- The source gave these bytes, and those within the limit end their whole lines with the last line feed.
pub record GaveLines (source : SourceRun) (bytes whole : List ℕ) : Type 0 where
  pub gave : Gave source bytes
  pub rest : List ℕ
  pub cut : IsCut (take max_input bytes) whole rest

-- The bytes of the lines that a source gave whole: the input, where it was read to its end, and else those up to the
-- last line feed.
pub data GaveWhole (source : SourceRun) (whole : List ℕ) : Type 0 where
  to_its_end : ReadWhole source whole → GaveWhole source whole
  so_far : (bytes : List ℕ) → length bytes ≤ max_input → GaveLines source bytes whole → GaveWhole source whole
