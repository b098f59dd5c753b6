-- How the form ends that reports paths, on the store that a script left.
use Rattle.std.specs.Prelude.{◌≡◌, ℕ, true, List, [], ◌∷◌, ◌++◌, ◌⊎◌, codes}
use Rattle.gc_types.specs.declared.kind.Layouts.{Layouts}
use Rattle.gc_model.specs.Stores.{StoreView}
use Rattle.gc_model.specs.Table.{Table}
use Rattle.gc_model.specs.Words.{Placing}
use Rattle.gc_paths.specs.Answers.{IsFull, OnlyPushed}
use Rattle.gc_model.specs.Accounts.{Account}
use Rattle.gc_store.specs.OwnedWords.{HoldsThere}
use Rattle.gcsh_reports.specs.PathAnswers.{IsReportText}
use Rattle.gcsh_top.specs.declared.status.Status.{Status}
use Rattle.gcsh_top.specs.Ends.{SinkRun}
use Rattle.gcsh_top.specs.Reports.{ReportedText}

-- the refusal of a report, as a line
abbrev pub full_text : List ℕ
full_text = codes "RootsFull" ++ 10 ∷ []

-- whichever table the store held, the text is that of its report, or the refusal where there is no room for the roots
abbrev pub TellsPaths : Layouts → StoreView ℕ → List ℕ → Type 0
TellsPaths layouts mid text =
    (t : Table ℕ) (place : Placing) (a : Account) → HoldsThere layouts mid t place a → IsReportText t place text ⊎ ((text ≡ full_text) × IsFull true t)

-- roots were pushed and are gone again
abbrev pub LeavesPushed : Layouts → StoreView ℕ → StoreView ℕ → Type 0
LeavesPushed layouts mid store = (t : Table ℕ) (place : Placing) (a : Account) → HoldsThere layouts mid t place a → OnlyPushed layouts t place a store

-- how the form ends on the store that the script left
abbrev pub ReportedPaths : Layouts → StoreView ℕ → SinkRun → StoreView ℕ → Status → Type 0
ReportedPaths layouts mid sink store status = ReportedText (TellsPaths layouts mid) (LeavesPushed layouts mid store) (LeavesPushed layouts mid store) sink status
