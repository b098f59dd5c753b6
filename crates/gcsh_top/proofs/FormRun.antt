-- A run of a form on a store with nothing in it.
use Rattle.std.proofs.Common.{◌≡◌, ℕ, List, [], Option, Some, None, inl, inr, refl, subst, ◌∙◌}
use Rattle.gc_types.specs.declared.kind.Layouts.{Layouts}
use Rattle.gc_model.specs.Table.{start, usual_roots}
use Rattle.gc_model.specs.Stores.{StoreView}
use Rattle.gc_model.specs.Allocation.{Limits}
use Rattle.gc_values.specs.declared.config.HeapConfig.{HeapConfig}
use Rattle.gc_model.specs.Accounts.{HoldsAccount, no_account}
use Rattle.gc_owner.specs.Limiters.{fresh_limits}
use Rattle.gc_store.specs.Stores.{HoldsStart}
use Rattle.gc_script.specs.Slots.{RunnerView, new_runner}
use Rattle.gc_script.specs.State.{HoldsState, begin}
use Rattle.gc_script.proofs.StandLemmas.{begins}
use Rattle.gc_script.specs.Session.{SessionFrom}
use Rattle.gcsh_top.specs.declared.words.Form.{Form}
use Rattle.gc_script.specs.Lines.{lines}
use Rattle.gcsh_top.specs.Runs.{RanLines, RanForm, RanSome, StoppedLines, StoppedForm, in_lines, behind_lines, HoldsFirstTable, first_table}
use Rattle.gcsh_top.proofs.GcLemmas.{no_last_gc}

-- a store that was configured holds the empty table with the form's numbers
pub started : (layouts : Layouts) (config : HeapConfig) (new : StoreView ℕ) (form : Form) → HoldsStart ℕ layouts new → new.first ≡ config.first_pages → new.max_scoped ≡ config.max_scoped → new.max_owned ≡ config.max_owned → new.alloc_counter ≡ None
    → config.first_pages ≡ form.first → config.max_scoped ≡ usual_roots → config.max_owned ≡ usual_roots → HoldsFirstTable layouts form new
started layouts config new form holds is_first is_scoped is_owned none firsts scopeds owneds = record {
  holds =
      subst (λ (n : ℕ). HoldsAccount {D = ℕ} layouts new (start form.first usual_roots n) no_account) (is_owned ∙ owneds)
      (subst (λ (n : ℕ). HoldsAccount {D = ℕ} layouts new (start form.first n new.max_owned) no_account) (is_scoped ∙ scopeds)
      (subst (λ (n : ℕ). HoldsAccount {D = ℕ} layouts new (start n new.max_scoped new.max_owned) no_account) (is_first ∙ firsts) holds));
  no_counter = none;
}

-- such a store, with no register set, is in the state at the beginning
pub ready_state : (layouts : Layouts) (form : Form) (store : StoreView ℕ) (slots : RunnerView) → HoldsFirstTable layouts form store → slots ≡ new_runner → HoldsState layouts store slots (begin (first_table form) no_account)
ready_state layouts form store slots ready none = begins layouts store slots (first_table form) no_account ready.holds none

-- what was run is the run of the form
pub ran_form : (layouts : Layouts) (form : Form) (counter : Option ℕ) (limits : Limits) (input : List ℕ) (old store : StoreView ℕ) (slots : RunnerView) (a b : Option (List ℕ)) → counter ≡ None → store.alloc_counter ≡ counter
    → RanLines layouts counter (fresh_limits (Some form.most)) limits (begin (first_table form) no_account) input old store slots a b → RanForm layouts form input a b store
ran_form layouts form counter limits input old store slots a b none same ran = record {
  output = ran.output;
  written = ran.replied;
  table = ran.after.table;
  session = record {
    after = ran.after;
    limits = limits;
    from_start = subst (λ (x : Option ℕ). SessionFrom layouts x (fresh_limits (Some form.most)) (begin (first_table form) no_account) (lines input) ran.output ran.after limits) none ran.session;
    table_is = refl;
  };
  holds = ran.holds.table;
  no_counter = same ∙ none;
  kept = ran.kept [] (λ ends. absurd (no_last_gc ends));
}

-- what was run in part
pub stopped_form : (layouts : Layouts) (form : Form) (counter : Option ℕ) (input : List ℕ) (old store : StoreView ℕ) (slots : RunnerView) (a b : Option (List ℕ)) → counter ≡ None → store.alloc_counter ≡ counter
    → RanSome layouts counter (fresh_limits (Some form.most)) (begin (first_table form) no_account) input old store slots a b → StoppedForm layouts form input a b store
stopped_form layouts form counter input old store slots a b none same (inl stopped) =
    in_lines slots (same ∙ none) (subst (λ (c : Option ℕ). StoppedLines layouts c (fresh_limits (Some form.most)) (begin (first_table form) no_account) input store slots a b) none stopped)
stopped_form layouts form counter input old store slots a b none same (inr ran) = behind_lines (ran_form layouts form counter ran.0 input old store slots a b none same ran.1)
