-- What the program does as a whole.
use Rattle.std.specs.Prelude.{◌≡◌, ℕ, ◌⊎◌, IsTrue, false, List, [], ◌∷◌, None, codes}
use Rattle.std.specs.Io.KnownBytes.{Appends}
use Rattle.gc_model.specs.Allocation.{Rose}
use Rattle.gcsh_top.specs.declared.status.Status.{Status}
use Rattle.gcsh_top.specs.declared.status.Status.TheVariants.{Done, Usage, ReadFault, WriteFault, TooLong, NoMemory}
use Rattle.gcsh_top.specs.declared.stores.Stores.{Stores}
use Rattle.gcsh_top.specs.Answers.{TopAnswers}
use Rattle.gcsh_top.specs.Chosen.{AreNew}
use Rattle.gcsh_top.specs.Ends.{SinkRun, SinkTold, SourceRun, SourceTold}
use Rattle.gcsh_top.specs.Statuses.{code_of}

-- the words ask for a text: the help, or the version
abbrev pub IsTextFor : List ℕ → List ℕ → List (List ℕ) → List ℕ → Type 0
IsTextFor help version words text = ((words ≡ codes "--help" ∷ []) × (text ≡ help)) ⊎ ((words ≡ codes "--version" ∷ []) × (text ≡ version))

-- a text was written and flushed, or the sink failed
abbrev pub Shows : List ℕ → SinkRun → Status → Type 0
Shows text sink Done = Appends sink.before.held sink.after.held text × IsTrue sink.after.flushed
Shows text sink Usage = ⊥
Shows text sink ReadFault = ⊥
Shows text sink WriteFault = Rose sink.before.faults sink.after.faults
Shows text sink TooLong = ⊥
Shows text sink NoMemory = ⊥

-- The top call answered on new stores, or there was no memory for these, and nothing was read or written.
pub data RunsOnNew (words : List (List ℕ)) (source : SourceRun) (sink : SinkRun) (status : Status) : Type 0 where
  on_new : (old new : Stores) → AreNew old → TopAnswers words source sink old new status → RunsOnNew words source sink status
  no_stores : source.after ≡ source.before → sink.after ≡ sink.before → status ≡ NoMemory → RunsOnNew words source sink status

-- What the program answers: a text that the words ask for is shown, and nothing is read; other words go to the top call.
pub data ProgramAnswers (help version : List ℕ) (words : List (List ℕ)) (source : SourceRun) (sink : SinkRun) (status : Status) : Type 0 where
  shows : (text : List ℕ) → IsTextFor help version words text → source.after ≡ source.before → Shows text sink status → ProgramAnswers help version words source sink status
  runs : ((text : List ℕ) → ¬ IsTextFor help version words text) → RunsOnNew words source sink status → ProgramAnswers help version words source sink status

-- what standard input and standard output tell at first
abbrev pub standard_source : SourceTold
standard_source = record { left = None; faults = 0; given = 0; ended = false }

abbrev pub standard_sink : SinkTold
standard_sink = record { held = None; faults = 0; flushed = false }

-- a run of the program with these words over standard ends
abbrev pub RunsOver : List ℕ → List ℕ → List (List ℕ) → Status → Type 0
RunsOver help version words status = (source : SourceTold) × (sink : SinkTold)
    × ProgramAnswers help version words (record { before = standard_source; after = source }) (record { before = standard_sink; after = sink }) status

-- the program with these words over standard ends ends with that number, which is free to be that for want of memory
pub record EndsWith (help version : List ℕ) (words : List (List ℕ)) (code : ℕ) : Type 0 where
  pub status : Status
  pub code_is : code ≡ code_of status
  pub why : (status ≡ NoMemory) ⊎ RunsOver help version words status
