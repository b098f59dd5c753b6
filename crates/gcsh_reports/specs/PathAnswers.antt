-- What the report of a store says.
use Rattle.std.specs.Prelude.{◌≡◌, ℕ, true, List}
use Rattle.gc_model.specs.Table.{Table}
use Rattle.gc_model.specs.Words.{Placing}
use Rattle.gc_paths.specs.Answers.{NeedsRoots, LacksRoots}
use Rattle.gc_paths.specs.Reports.{Told, IsReport}
use Rattle.gcsh_reports.specs.PathLines.{lines_from}

-- the text is that of a report of the table, scoped roots among its roots, for which there is room
pub record IsReportText (t : Table ℕ) (place : Placing) (text : List ℕ) : Type 0 where
  pub told : List Told
  pub report : IsReport true t place told
  pub text_is : text ≡ lines_from t.objects 0 told
  pub count : ℕ
  pub needs : NeedsRoots true t count
  pub room : ¬ LacksRoots t count
