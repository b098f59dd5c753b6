use Rattle.gc_commands.proofs.LineReadLemmas.{if_ok}
use Rattle.gc_commands.proofs.NewLineLemmas.{new_is, new_none}
use Rattle.gc_commands.proofs.new_line.new_of.Goals as goal

pub returns-clause-is : goal.returns-clause-is
returns-clause-is c =
    if_ok c.read_new_into.result (new_is c.args.line.now c.in-Some.rest.now c.of.result _ c.if-line-gt-MAX_LINE.false c.in-Some.ensures c.of.ensures) c.read_new_into.ensures

pub returns-clause-none : goal.returns-clause-none
returns-clause-none c =
    if_ok c.read_new_into.result (new_none c.args.line.now c.in-Some.rest.now c.of.result _ c.if-line-gt-MAX_LINE.false c.in-Some.ensures c.of.ensures) c.read_new_into.ensures
