-- What the report of a loaded image tells and leaves, on a new store under the form's limit of pages.
use Rattle.std.proofs.Common.{◌≡◌, ℕ, List, Some, sym, subst}
use Rattle.gc_types.specs.declared.kind.Layouts.{Layouts}
use Rattle.gc_model.specs.Allocation.{Limits}
use Rattle.gc_model.specs.Stores.{StoreView}
use Rattle.gc_model.specs.Table.{usual_roots}
use Rattle.gc_owner.specs.Limiters.{fresh_limits}
use Rattle.gcsh_reports.specs.Loading.{LeavesLoad, TellsLoad}
use Rattle.gcsh_top.specs.declared.words.Form.{Form}
use Rattle.gcsh_top.specs.LoadReports.{LeavesInput, TellsInput}
use Rattle.gcsh_top.specs.Runs.{HoldsFirstTable}

pub tells_input : (layouts : Layouts) (form : Form) (input : List ℕ) (old store : StoreView ℕ) (text : List ℕ) (limits limits' : Limits) (bytes : List ℕ) → HoldsFirstTable layouts form old → limits ≡ fresh_limits (Some form.most) → bytes ≡ text
    → TellsLoad layouts old.max_scoped input limits limits' text store → TellsInput layouts form input store bytes
tells_input layouts form input old store text limits limits' bytes ready fresh same tells = (
  limits',
  subst (λ (b : List ℕ). TellsLoad layouts usual_roots input (fresh_limits (Some form.most)) limits' b store) (sym same)
      (subst (λ (l : Limits). TellsLoad layouts usual_roots input l limits' text store) fresh
      (subst (λ (n : ℕ). TellsLoad layouts n input limits limits' text store) ready.holds.holds.settings.max_scoped tells)),
)

pub leaves_input : (layouts : Layouts) (form : Form) (input : List ℕ) (old store : StoreView ℕ) (limits limits' : Limits) → HoldsFirstTable layouts form old → limits ≡ fresh_limits (Some form.most)
    → LeavesLoad layouts old.max_scoped input limits limits' store → LeavesInput layouts form input store
leaves_input layouts form input old store limits limits' ready fresh leaves = (
  limits',
  subst (λ (l : Limits). LeavesLoad layouts usual_roots input l limits' store) fresh
      (subst (λ (n : ℕ). LeavesLoad layouts n input limits limits' store) ready.holds.holds.settings.max_scoped leaves),
)
