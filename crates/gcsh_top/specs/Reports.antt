-- Texts that are written at the end of a run, and forms that write a report of the store that a script leaves.
use Rattle.std.specs.Prelude.{◌≡◌, ℕ, ◌≤◌, Bool, List, IsTrue, Option, None, length, take}
use Rattle.std.specs.Io.KnownBytes.{Appends}
use Rattle.gc_types.specs.declared.kind.Layouts.{Layouts}
use Rattle.gc_model.specs.Allocation.{Rose}
use Rattle.gc_model.specs.Stores.{StoreView}
use Rattle.gcsh_top.specs.declared.status.Status.{Status}
use Rattle.gcsh_top.specs.declared.status.Status.TheVariants.{Done, Usage, ReadFault, WriteFault, TooLong, NoMemory}
use Rattle.gcsh_top.specs.declared.words.Form.{Form}
use Rattle.gcsh_top.specs.Ends.{SinkRun, SinkTold, SourceRun}
use Rattle.gcsh_top.specs.Input.{ReadWhole}
use Rattle.gcsh_top.specs.Runs.{RanForm}

-- a sink took a front of the bytes, or all of them
abbrev pub TookFront : Option (List ℕ) → Option (List ℕ) → List ℕ → Type 0
TookFront held held' bytes = (n : ℕ) × (n ≤ length bytes) × Appends held held' (take n bytes)

-- a text was written and flushed, or the sink failed, or there was no memory for the text
abbrev pub WroteText : List ℕ → SinkRun → Status → Type 0
WroteText text sink Done = Appends sink.before.held sink.after.held text × IsTrue sink.after.flushed
WroteText text sink Usage = ⊥
WroteText text sink ReadFault = ⊥
WroteText text sink WriteFault = TookFront sink.before.held sink.after.held text × Rose sink.before.faults sink.after.faults
WroteText text sink TooLong = ⊥
WroteText text sink NoMemory = sink.after ≡ sink.before

-- A report was written that tells something, which left a store so; or there was no memory for it, and nothing was written.
pub data ReportedText (Tells : List ℕ → Type 0) (Left Wanting : Type 0) (sink : SinkRun) (status : Status) : Type 0 where
  reported_text : (text : List ℕ) → Tells text → Left → WroteText text sink status → ReportedText Tells Left Wanting sink status
  wanted_memory : Wanting → sink.after ≡ sink.before → status ≡ NoMemory → ReportedText Tells Left Wanting sink status

-- what a sink tells that drops what it takes, and never fails
abbrev pub silent : Bool → SinkTold
silent flushed = record { held = None; faults = 0; flushed = flushed }

-- A script was read to its end and run, and no reply was written.
pub record RanSilently (layouts : Layouts) (form : Form) (source : SourceRun) (store : StoreView ℕ) : Type 0 where
  pub input : List ℕ
  pub whole : ReadWhole source input
  pub ran : RanForm layouts form input None None store
