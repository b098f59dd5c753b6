-- How the form ends that fills a map.
use Rattle.std.specs.Prelude.{ℕ, List, Some}
use Rattle.gc_types.specs.declared.kind.Layouts.{Layouts}
use Rattle.gc_model.specs.Stores.{StoreView}
use Rattle.gc_owner.specs.Limiters.{fresh_limits}
use Rattle.gcsh_reports.specs.Filling.{HoldsWithin}
use Rattle.gcsh_reports.specs.FillReports.{TellsFill}
use Rattle.gcsh_top.specs.declared.status.Status.{Status}
use Rattle.gcsh_top.specs.declared.words.Form.{Form}
use Rattle.gcsh_top.specs.Ends.{SinkRun}
use Rattle.gcsh_top.specs.Reports.{ReportedText}
use Rattle.gcsh_top.specs.Runs.{HoldsFirstTable}

-- the text says what so many inserts came to in a new store under the form's limit of pages
pub record TellsLists (layouts : Layouts) (form : Form) (inserts : ℕ) (store : StoreView ℕ) (text : List ℕ) : Type 0 where
  pub old : StoreView ℕ
  pub ready : HoldsFirstTable layouts form old
  pub tells : TellsFill layouts (fresh_limits (Some form.most)) inserts old text store

-- how the form ends; where there is no memory for a text, the store holds some table within the form's limit of pages
abbrev pub ReportedLists : Layouts → Form → ℕ → SinkRun → StoreView ℕ → Status → Type 0
ReportedLists layouts form inserts sink store status =
    ReportedText (TellsLists layouts form inserts store) (Unit {0}) (HoldsWithin layouts (Some form.most) store) sink status
