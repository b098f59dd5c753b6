use Rattle.std.proofs.Common.{length, refl, ap, ◌∙◌, arith}
use Rattle.gc_commands.proofs.HexReadLemmas.{length_hex, no_hex, number_done, number_fits, number_turn}
use Rattle.gc_commands.proofs.hex.hex_number.Goals as goal

pub returns-then-word-digits : goal.returns-then-word-digits
returns-then-word-digits c = λ n fits e. c.if-word-digits.true (ap length e ∙ length_hex c.args.digits n)

pub loop-digit-init : goal.loop-digit-init
loop-digit-init c = record { small = omega arith; read = refl }

pub returns-in_err-value : goal.returns-in_err-value
returns-in_err-value c =
    rw c.from_residual.ensures
    (λ n fits e. no_hex c.args.word.now c.loop-digit.digit-index c.args.digits c.loop-digit-test.true c.in_err-value.ensures n e)

pub overflow_mul-number : goal.overflow_mul-number
overflow_mul-number c =
    let room = number_fits c.args.word.now c.args.digits c.loop-digit.digit-index c.loop-digit.number c.in_ok-value.value c.in_ok-value.value c.if-word-digits.false c.requires
    c.loop-digit-test.true c.loop-digit.invariant.small c.in_ok-value.ensures.0 refl in
    let first = room.0 in
    omega arith

pub overflow_add-number : goal.overflow_add-number
overflow_add-number c =
    let room = number_fits c.args.word.now c.args.digits c.loop-digit.digit-index c.loop-digit.number c.from.result c.in_ok-value.value c.if-word-digits.false c.requires
    c.loop-digit-test.true c.loop-digit.invariant.small c.in_ok-value.ensures.0 c.from.ensures in
    let second = room.1 in
    omega arith

pub loop-digit-preserved : goal.loop-digit-preserved
loop-digit-preserved c =
    let turned = number_turn c.args.word.now c.loop-digit.digit-index c.loop-digit.number c.in_ok-value.value c.from.result c.loop-digit-test.true c.loop-digit.invariant.small c.loop-digit.invariant.read c.in_ok-value.ensures.0
    c.in_ok-value.ensures.1 c.from.ensures in
    record { small = turned.0; read = turned.1 }

pub returns : goal.returns
returns c =
    number_done c.args.word.now c.args.digits c.loop-digit.digit-index c.loop-digit.number c.if-word-digits.false c.loop-digit-test.false c.loop-digit.auto.digit-index-end
    c.loop-digit.invariant.small c.loop-digit.invariant.read
