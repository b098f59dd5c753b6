-- How the form ends that saves an image, on the store that a script left.
use Rattle.std.specs.Prelude.{ℕ, List}
use Rattle.gc_types.specs.declared.kind.Layouts.{Layouts}
use Rattle.gc_model.specs.Stores.{StoreView}
use Rattle.gc_model.specs.Table.{Table}
use Rattle.gc_model.specs.Accounts.{Account, HoldsAccount}
use Rattle.gc_save_image.specs.Answers.{DropsImageRoots}
use Rattle.gcsh_reports.specs.Saving.{TellsSave}
use Rattle.gcsh_top.specs.declared.status.Status.{Status}
use Rattle.gcsh_top.specs.Ends.{SinkRun}
use Rattle.gcsh_top.specs.Reports.{ReportedText}

-- whichever table the store held, the text is an image of it, or the refusal where there is none
abbrev pub TellsImage : Layouts → StoreView ℕ → List ℕ → Type 0
TellsImage layouts mid text = (t : Table ℕ) (a : Account) → HoldsAccount layouts mid t a → TellsSave t text

-- roots were pushed and are gone again
abbrev pub LeavesRoots : Layouts → StoreView ℕ → StoreView ℕ → Type 0
LeavesRoots layouts mid store = (t : Table ℕ) (a : Account) → HoldsAccount layouts mid t a → DropsImageRoots layouts t a store

-- how the form ends on the store that the script left
abbrev pub ReportedImage : Layouts → StoreView ℕ → SinkRun → StoreView ℕ → Status → Type 0
ReportedImage layouts mid sink store status = ReportedText (TellsImage layouts mid) (LeavesRoots layouts mid store) (LeavesRoots layouts mid store) sink status
