use Rattle.std.proofs.Common.{◌-◌, refl, sym, ◌∙◌}
use Rattle.gc_tables.specs.Interned.{IsInterned}
use Rattle.gc_model.specs.SideValues.{same_cont}
use Rattle.gc_model.proofs.Interned.{conts_exact}
use Rattle.gc_values.proofs.InterningLemmas.{cont_known, cont_missing, interns_known, interns_one, keeps_known, keeps_one, missing_by, never_refused}
use Rattle.gc_values.proofs.interned.intern_cont.Goals.{After-intern}
use Rattle.gc_values.proofs.interned.intern_cont.Goals as goal

pub returns-then-is_some-clause-interns : goal.returns-then-is_some-clause-interns
returns-then-is_some-clause-interns c =
    interns_known same_cont conts_exact c.args.conts.now c.args.cont (cont_known c.args.conts.now c.args.cont c.id_of.result c.id_of.ensures.some (sym c.is_some.ensures ∙ c.if-is_some.true))

pub returns-then-is_some-clause-room : goal.returns-then-is_some-clause-room
returns-then-is_some-clause-room c =
    keeps_known same_cont conts_exact c.args.conts.now c.args.cont (cont_known c.args.conts.now c.args.cont c.id_of.result c.id_of.ensures.some (sym c.is_some.ensures ∙ c.if-is_some.true))

missing : (c : After-intern) → ¬ IsInterned c.args.conts.now c.args.cont
missing c = missing_by same_cont conts_exact c.args.conts.now _ c.id_of.result c.id_of.ensures.none (sym c.is_some.ensures ∙ c.if-is_some.false)

pub unreachable-requires : goal.unreachable-requires
unreachable-requires c =
    let at = (goal.at.unreachable-requires c).After-intern in
    never_refused same_cont conts_exact c.args.conts.now c.args.cont c.requires (missing at) c.in-Err.field-0 (λ is. let full = c.in-Err.ensures.full.0 is in (full.0, cont_missing c.args.conts.now c.args.cont full.1)) c.in-Err.ensures.room

pub returns-clause-interns : goal.returns-clause-interns
returns-clause-interns c =
    interns_one same_cont conts_exact c.args.conts.now c.intern.new.self c.args.cont (c.in-Ok.field-0 - 1) (c.in-Ok.ensures.some c.args.cont refl).1 (λ full absent. cc (c.in-Ok.ensures.full.1 (full, (c.args.cont, refl, absent))))

pub returns-clause-room : goal.returns-clause-room
returns-clause-room c =
    let at = (goal.at.returns-clause-room c).After-intern in
    keeps_one same_cont conts_exact c.args.conts.now c.intern.new.self c.args.cont (missing at) c.intern.ensures.spare
