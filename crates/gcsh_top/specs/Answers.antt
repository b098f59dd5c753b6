-- What the top call answers: one relation by its status.
use Rattle.std.specs.Prelude.{◌≡◌, ℕ, Bool, false, ◌+◌, ◌-◌, ◌^◌, ◌<◌, ◌≤◌, ◌⊎◌, IsTrue, List, [], Option, Some, None, length}
use Rattle.gc_types.specs.declared.kind.Layouts.{Layouts}
use Rattle.gc_model.specs.Allocation.{Rose}
use Rattle.gc_model.specs.Stores.{StoreView}
use Rattle.gcsh_top.specs.declared.status.Status.{Status}
use Rattle.gcsh_top.specs.declared.status.Status.TheVariants.{Done, Usage, ReadFault, WriteFault, TooLong, NoMemory}
use Rattle.gcsh_top.specs.declared.stores.Stores.{Stores}
use Rattle.gcsh_top.specs.declared.words.Form.{Form}
use Rattle.gcsh_top.specs.declared.words.Task.{Task}
use Rattle.gcsh_top.specs.declared.words.Task.TheVariants.{Script, Churn, Paths, Save, Load, Lists}
use Rattle.gcsh_top.specs.Chosen.{AreSameStores, OthersStay, chosen}
use Rattle.gcsh_top.specs.ChurnRuns.{Churned}
use Rattle.gcsh_top.specs.Ends.{SinkRun, SourceRun}
use Rattle.gcsh_top.specs.Input.{GaveLines, GaveWhole, ReadWhole, max_input}
use Rattle.gcsh_top.specs.ImageReports.{ReportedImage}
use Rattle.gcsh_top.specs.ListReports.{ReportedLists}
use Rattle.gcsh_top.specs.LoadReports.{RanLoad}
use Rattle.gcsh_top.specs.PathReports.{ReportedPaths}
use Rattle.gcsh_top.specs.Reports.{RanSilently, silent}
use Rattle.gcsh_top.specs.Runs.{RanForm, StoppedForm}
use Rattle.gcsh_top.specs.Words.{IsForm, layouts_of}

-- Every line of the input has its reply: the input was read to its end; its lines are commands whose replies are a run
-- of the table that begins empty; the output is the replies' texts, and was flushed; the store holds the table at the
-- end.
pub record Completed (layouts : Layouts) (form : Form) (source : SourceRun) (sink : SinkRun) (store : StoreView ℕ) : Type 0 where
  pub input : List ℕ
  pub whole : ReadWhole source input
  pub ran : RanForm layouts form input sink.before.held sink.after.held store
  pub flushed : IsTrue sink.after.flushed

-- The run stopped somewhere in the lines that the source gave whole, or behind them.
pub record Stopped (layouts : Layouts) (form : Form) (source : SourceRun) (sink : SinkRun) (store : StoreView ℕ) : Type 0 where
  pub input : List ℕ
  pub gave : GaveWhole source input
  pub stopped : StoppedForm layouts form input sink.before.held sink.after.held store

-- Every line that the source gave whole has its reply, and no other line was run: the source gave these bytes, and those
-- within the limit end their whole lines with the last line feed. Where there was one, what was written was flushed.
pub record RanFront (layouts : Layouts) (form : Form) (source : SourceRun) (sink : SinkRun) (store : StoreView ℕ) (bytes : List ℕ) : Type 0 where
  pub whole : List ℕ
  pub gave : GaveLines source bytes whole
  pub ran : RanForm layouts form whole sink.before.held sink.after.held store
  pub flushed : (whole ≡ []) ⊎ IsTrue sink.after.flushed

-- How the run of a form on its new store ended, and what it left.
abbrev pub RanOn : Layouts → Form → SourceRun → SinkRun → StoreView ℕ → Status → Type 0
RanOn layouts form source sink store Done = Completed layouts form source sink store
RanOn layouts form source sink store Usage = ⊥
RanOn layouts form source sink store ReadFault =
    ((bytes : List ℕ) × RanFront layouts form source sink store bytes × (length bytes ≤ max_input)) × Rose source.before.faults source.after.faults
RanOn layouts form source sink store WriteFault = Stopped layouts form source sink store × Rose sink.before.faults sink.after.faults
RanOn layouts form source sink store TooLong = (bytes : List ℕ) × RanFront layouts form source sink store bytes × (length bytes ≡ max_input + 1)
RanOn layouts form source sink store NoMemory = Stopped layouts form source sink store

-- How a form ended that runs a script without replies and then writes a report of the store: the script was run to its end, and
-- `Ends` says what was made of the store then; or it was not, and nothing was written.
pub data Reported (layouts : Layouts) (form : Form) (source : SourceRun) (sink : SinkRun) (store : StoreView ℕ) (status : Status) (Ends : StoreView ℕ → Type 0) : Type 0 where
  behind : (mid : StoreView ℕ) → RanSilently layouts form source mid → Ends mid → Reported layouts form source sink store status Ends
  within : (flushed : Bool) → RanOn layouts form source (record { before = silent false; after = silent flushed }) store status → ¬ (status ≡ Done) → sink.after ≡ sink.before → Reported layouts form source sink store status Ends

-- How a task on its new store ended, and what it left. A script that is made and a map that is filled read nothing.
abbrev pub RanTask : Task → Layouts → Form → SourceRun → SinkRun → StoreView ℕ → Status → Type 0
RanTask Script layouts form source sink store status = RanOn layouts form source sink store status
RanTask (Churn rounds) layouts form source sink store status = (source.after ≡ source.before) × Churned layouts form rounds sink store status
RanTask Paths layouts form source sink store status = Reported layouts form source sink store status (λ mid. ReportedPaths layouts mid sink store status)
RanTask Save layouts form source sink store status = Reported layouts form source sink store status (λ mid. ReportedImage layouts mid sink store status)
RanTask Load layouts form source sink store status = RanLoad layouts form source sink store status
RanTask (Lists inserts) layouts form source sink store status = (source.after ≡ source.before) × ReportedLists layouts form inserts sink store status

-- The words are those of a form, whose run on the store that they choose ended so. The other stores are as they were, and
-- each has its id still.
pub record RanWords (words : List (List ℕ)) (source : SourceRun) (sink : SinkRun) (old new : Stores) (status : Status) : Type 0 where
  pub form : Form
  pub is_form : IsForm words form
  pub ran : RanTask form.task (layouts_of form.collector) form source sink (chosen form.collector new) status
  pub others : OthersStay form.collector old new
  pub same : AreSameStores old new

-- What the top call answers: that the words are of no form, where nothing is touched; else how the run ended.
abbrev pub TopAnswers : List (List ℕ) → SourceRun → SinkRun → Stores → Stores → Status → Type 0
TopAnswers words source sink old new Usage = (form : Form) → ¬ IsForm words form
TopAnswers words source sink old new status = RanWords words source sink old new status

-- The input is not too long: where the source tells its bytes, by their number; else by how many it gave, where that
-- is counted.
abbrev pub IsShort : Option (List ℕ) → ℕ → ℕ → Type 0
IsShort (Some bytes) given given' = length bytes ≤ max_input
IsShort None given given' = (given' ≤ given + max_input) × (given' < 2 ^ 64 - 1)
