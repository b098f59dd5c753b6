use Rattle.std.proofs.Common.{rules, ◌≡◌, Some, Ok, Err, [], ◌∷◌, refl, sym, ◌∙◌, subst}
use Rattle.gc_tables.specs.Interned.{IsInterned}
use Rattle.gc_model.specs.SideValues.{same_cont}
use Rattle.gc_model.proofs.Interned.{conts_exact}
use Rattle.gc_values.specs.declared.root.RawValue.{RawValue}
use Rattle.gc_values.specs.declared.root.RawValue.TheVariants as raw
use Rattle.gc_values.specs.Interning.{AddsNew}
use Rattle.gc_values.specs.RawValues.{raw_conts}
use Rattle.gc_values.proofs.InterningLemmas.{adds_one, adds_fault, cont_missing, missing_by}
use Rattle.gc_values.proofs.interned.add_new_cont.Goals.{After-intern}
use Rattle.gc_values.proofs.interned.add_new_cont.Goals as goal

missing : (c : After-intern) → ¬ IsInterned c.args.conts.now c.in-Cont-Some.cont
missing c = missing_by same_cont conts_exact c.args.conts.now _ c.id_of.result c.id_of.ensures.none (sym c.is_some.ensures ∙ c.if-is_some.false)

pub returns-in-Ok : goal.returns-in-Ok
returns-in-Ok c =
    let given : c.args.value.now ≡ raw.Cont (Some c.in-Cont-Some.cont) = search rules in
    let at = (goal.at.returns-in-Ok c).After-intern in
    subst (λ (v : RawValue). AddsNew same_cont c.args.conts.now.entries c.args.new.now.entries c.intern.new.self.entries (raw_conts (v ∷ [])) (Ok tt)) (sym given)
    (adds_one same_cont conts_exact c.args.conts.now c.args.new.now c.intern.new.self c.in-Cont-Some.cont _ (missing at) (c.in-Ok.ensures.some c.in-Cont-Some.cont refl).1 (λ full absent. cc (c.in-Ok.ensures.full.1 (full, (c.in-Cont-Some.cont, refl, absent)))))

pub returns-in-Err : goal.returns-in-Err
returns-in-Err c =
    let given : c.args.value.now ≡ raw.Cont (Some c.in-Cont-Some.cont) = search rules in
    let at = (goal.at.returns-in-Err c).After-intern in
    subst (λ (v : RawValue). AddsNew same_cont c.args.conts.now.entries c.args.new.now.entries c.intern.new.self.entries (raw_conts (v ∷ [])) (Err c.in-Err.fault)) (sym given)
    (adds_fault same_cont conts_exact c.args.conts.now c.args.new.now c.intern.new.self.entries c.in-Cont-Some.cont (missing at) c.in-Err.fault (λ is. let full = c.in-Err.ensures.full.0 is in (full.0, cont_missing c.args.new.now c.in-Cont-Some.cont full.1)))
