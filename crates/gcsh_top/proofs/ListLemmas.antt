-- What the report of a map that was filled tells, on a new store under the form's limit of pages.
use Rattle.std.proofs.Common.{◌≡◌, sym, subst, ℕ, List, Some}
use Rattle.gc_types.specs.declared.kind.Layouts.{Layouts}
use Rattle.gc_model.specs.Allocation.{Limits}
use Rattle.gc_model.specs.Stores.{StoreView}
use Rattle.gc_owner.specs.Limiters.{fresh_limits}
use Rattle.gcsh_reports.specs.Filling.{HoldsWithin}
use Rattle.gcsh_reports.specs.FillReports.{TellsFill}
use Rattle.gcsh_top.specs.declared.words.Form.{Form}
use Rattle.gcsh_top.specs.ListReports.{TellsLists}
use Rattle.gcsh_top.specs.Runs.{HoldsFirstTable}

pub tells_lists : (layouts : Layouts) (form : Form) (inserts : ℕ) (old store : StoreView ℕ) (text : List ℕ) (limits : Limits) (bytes : List ℕ) → HoldsFirstTable layouts form old → limits ≡ fresh_limits (Some form.most) → bytes ≡ text
    → TellsFill layouts limits inserts old text store → TellsLists layouts form inserts store bytes
tells_lists layouts form inserts old store text limits bytes ready fresh same tells = record {
  old = old;
  ready = ready;
  tells = subst (λ (b : List ℕ). TellsFill layouts (fresh_limits (Some form.most)) inserts old b store) (sym same)
      (subst (λ (l : Limits). TellsFill layouts l inserts old text store) fresh tells);
}

-- where there is no memory for it, the store keeps within that limit
pub within_most : (layouts : Layouts) (form : Form) (store : StoreView ℕ) (limits : Limits) → limits ≡ fresh_limits (Some form.most) → HoldsWithin layouts limits.limit store → HoldsWithin layouts (Some form.most) store
within_most layouts form store limits fresh within = subst (λ (l : Limits). HoldsWithin layouts l.limit store) fresh within
