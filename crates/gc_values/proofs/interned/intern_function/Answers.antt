use Rattle.std.proofs.Common.{sym, ◌∙◌}
use Rattle.gc_tables.specs.Interned.{IsInterned}
use Rattle.gc_model.specs.SideValues.{same_function}
use Rattle.gc_model.proofs.Interned.{functions_exact}
use Rattle.gc_values.proofs.InterningLemmas.{interns_known, interns_one, keeps_known, keeps_one, known_by, missing_by, never_refused}
use Rattle.gc_values.proofs.interned.intern_function.Goals.{After-intern}
use Rattle.gc_values.proofs.interned.intern_function.Goals as goal

pub returns-then-is_some-clause-interns : goal.returns-then-is_some-clause-interns
returns-then-is_some-clause-interns c =
    interns_known same_function functions_exact c.args.functions.now c.args.func.now (known_by same_function functions_exact c.args.functions.now _ c.id_of.result c.id_of.ensures.some (sym c.is_some.ensures ∙ c.if-is_some.true))

pub returns-then-is_some-clause-room : goal.returns-then-is_some-clause-room
returns-then-is_some-clause-room c =
    keeps_known same_function functions_exact c.args.functions.now c.args.func.now (known_by same_function functions_exact c.args.functions.now _ c.id_of.result c.id_of.ensures.some (sym c.is_some.ensures ∙ c.if-is_some.true))

missing : (c : After-intern) → ¬ IsInterned c.args.functions.now c.args.func.now
missing c = missing_by same_function functions_exact c.args.functions.now _ c.id_of.result c.id_of.ensures.none (sym c.is_some.ensures ∙ c.if-is_some.false)

pub unreachable-requires : goal.unreachable-requires
unreachable-requires c =
    let at = (goal.at.unreachable-requires c).After-intern in
    never_refused same_function functions_exact c.args.functions.now c.args.func.now c.requires (missing at) c.in-Err.field-0 c.in-Err.ensures.full.0 c.in-Err.ensures.room

pub returns-clause-interns : goal.returns-clause-interns
returns-clause-interns c =
    interns_one same_function functions_exact c.args.functions.now c.intern.new.self c.args.func.now c.in-Ok.field-0 c.in-Ok.ensures.ok (λ full absent. cc (c.in-Ok.ensures.full.1 (full, absent)))

pub returns-clause-room : goal.returns-clause-room
returns-clause-room c =
    let at = (goal.at.returns-clause-room c).After-intern in
    keeps_one same_function functions_exact c.args.functions.now c.intern.new.self c.args.func.now (missing at) c.intern.ensures.spare
