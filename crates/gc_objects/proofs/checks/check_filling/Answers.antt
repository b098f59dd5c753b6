use Rattle.std.proofs.Common.{Some}
use Rattle.gc_objects.proofs.FillingLemmas.{fills_none, fills_some}
use Rattle.gc_objects.proofs.checks.check_filling.Goals as goal

pub returns-then-count-eq0-clause-checks : goal.returns-then-count-eq0-clause-checks
returns-then-count-eq0-clause-checks g c t holds = fills_none c.args.store.now t (Some c.args.element) c.args.value.now c.args.count c.if-count-eq0.true

pub returns-clause-checks : goal.returns-clause-checks
returns-clause-checks g c t holds = fills_some c.args.store.now t (Some c.args.element) c.args.value.now c.args.count c.if-count-eq0.false c.check_value.result (c.check_value.ensures.checks t holds)
