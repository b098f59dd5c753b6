use Rattle.std.proofs.Common.{Ok, Err, [], ◌∷◌, sym, ◌∙◌, subst}
use Rattle.gc_tables.specs.Interned.{IsInterned}
use Rattle.gc_model.specs.SideValues.{same_function}
use Rattle.gc_model.proofs.Interned.{functions_exact}
use Rattle.gc_values.specs.declared.root.RawValue.{RawValue}
use Rattle.gc_values.specs.Interning.{AddsNew}
use Rattle.gc_values.specs.RawValues.{raw_functions}
use Rattle.gc_values.proofs.InterningLemmas.{adds_one, adds_fault, missing_by}
use Rattle.gc_values.proofs.interned.add_new_function.Goals.{After-intern}
use Rattle.gc_values.proofs.interned.add_new_function.Goals as goal

missing : (c : After-intern) → ¬ IsInterned c.args.functions.now c.in-Func.func
missing c = missing_by same_function functions_exact c.args.functions.now _ c.id_of.result c.id_of.ensures.none (sym c.is_some.ensures ∙ c.if-is_some.false)

pub returns-in-Ok : goal.returns-in-Ok
returns-in-Ok c =
    let at = (goal.at.returns-in-Ok c).After-intern in
    subst (λ (v : RawValue). AddsNew same_function c.args.functions.now.entries c.args.new.now.entries c.intern.new.self.entries (raw_functions (v ∷ [])) (Ok tt)) (sym c.in-Func.is)
    (adds_one same_function functions_exact c.args.functions.now c.args.new.now c.intern.new.self c.in-Func.func _ (missing at) c.in-Ok.ensures.ok (λ full absent. cc (c.in-Ok.ensures.full.1 (full, absent))))

pub returns-in-Err : goal.returns-in-Err
returns-in-Err c =
    let at = (goal.at.returns-in-Err c).After-intern in
    subst (λ (v : RawValue). AddsNew same_function c.args.functions.now.entries c.args.new.now.entries c.intern.new.self.entries (raw_functions (v ∷ [])) (Err c.in-Err.fault)) (sym c.in-Func.is)
    (adds_fault same_function functions_exact c.args.functions.now c.args.new.now c.intern.new.self.entries c.in-Func.func (missing at) c.in-Err.fault c.in-Err.ensures.full.0)
