use Rattle.std.proofs.Common.{ap, ◌∙◌}
use Rattle.std.specs.Fmt.{decimal}
use Rattle.gc_commands.proofs.NumberLemmas.{no_minus_zero, no_negative, no_signed}
use Rattle.gc_commands.proofs.numbers.signed_number.Goals as goal

pub returns-in_err-n : goal.returns-in_err-n
returns-in_err-n c =
    rw c.from_residual.ensures (no_signed c.args.word.now c.in_err-n.ensures c.in_default.ensures)

pub returns-in_err-n-2 : goal.returns-in_err-n-2
returns-in_err-n-2 c =
    rw c.from_residual-in_err-n-2.ensures (no_negative c.args.word.now c.in-Some.digits.now c.in-Some.ensures c.in_err-n-2.ensures)

pub returns-then-n-eq0 : goal.returns-then-n-eq0
returns-then-n-eq0 c =
    no_minus_zero c.args.word.now c.in-Some.digits.now c.in-Some.ensures (c.in_ok-n-2.ensures.1 ∙ ap decimal c.if-n-eq0.true)
