-- How the form ends that loads an image.
use Rattle.std.specs.Prelude.{◌≡◌, ℕ, List, Some}
use Rattle.gc_types.specs.declared.kind.Layouts.{Layouts}
use Rattle.gc_model.specs.Allocation.{Limits}
use Rattle.gc_model.specs.Stores.{StoreView}
use Rattle.gc_model.specs.Table.{usual_roots}
use Rattle.gc_owner.specs.Limiters.{fresh_limits}
use Rattle.gcsh_reports.specs.Loading.{LeavesLoad, TellsLoad}
use Rattle.gcsh_top.specs.declared.status.Status.{Status}
use Rattle.gcsh_top.specs.declared.words.Form.{Form}
use Rattle.gcsh_top.specs.Ends.{SinkRun, SourceRun}
use Rattle.gcsh_top.specs.Input.{ReadWhole, UnreadInput}
use Rattle.gcsh_top.specs.Reports.{ReportedText}
use Rattle.gcsh_top.specs.Runs.{HoldsFirstTable}

-- the text says what loading the input under the form's limit of pages came to
abbrev pub TellsInput : Layouts → Form → List ℕ → StoreView ℕ → List ℕ → Type 0
TellsInput layouts form input store text = (limits : Limits) × TellsLoad layouts usual_roots input (fresh_limits (Some form.most)) limits text store

-- where there is no memory for a text: the input was loaded under that limit and the store collected, or it wasn't loaded
abbrev pub LeavesInput : Layouts → Form → List ℕ → StoreView ℕ → Type 0
LeavesInput layouts form input store = (limits : Limits) × LeavesLoad layouts usual_roots input (fresh_limits (Some form.most)) limits store

-- how the form ends on an input that was read to its end
abbrev pub ReportedLoad : Layouts → Form → List ℕ → SinkRun → StoreView ℕ → Status → Type 0
ReportedLoad layouts form input sink store status =
    ReportedText (TellsInput layouts form input store) (Unit {0}) (LeavesInput layouts form input store) sink status

-- The input was read to its end, and what loading it came to was written, or there was no memory for that; or it was not, nothing was
-- written, and the store holds the empty table still.
pub data RanLoad (layouts : Layouts) (form : Form) (source : SourceRun) (sink : SinkRun) (store : StoreView ℕ) (status : Status) : Type 0 where
  read_whole : (input : List ℕ) → ReadWhole source input → ReportedLoad layouts form input sink store status → RanLoad layouts form source sink store status
  not_read : UnreadInput source status → sink.after ≡ sink.before → HoldsFirstTable layouts form store → RanLoad layouts form source sink store status
