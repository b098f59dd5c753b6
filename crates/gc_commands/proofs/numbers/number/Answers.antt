use Rattle.std.proofs.Common.{refl, sym, subst, ◌∙◌, arith}
use Rattle.std.proofs.lemmas.Bool.{false≢true}
use Rattle.std.proofs.lemmas.Fmt.{decimal_injective}
use Rattle.gc_commands.specs.Reading.{IsPlain}
use Rattle.gc_commands.proofs.NumberLemmas.{no_digit, no_room, number_turn, plain-decimal, spelled_all}
use Rattle.gc_commands.proofs.numbers.number.Goals as goal

pub returns-then-not-is_plain : goal.returns-then-not-is_plain
returns-then-not-is_plain c = λ n fits spelled. false≢true (c.if-not-is_plain.ensures.1 (subst IsPlain (sym spelled) (plain-decimal n (omega arith))))

pub loop-byte-init : goal.loop-byte-init
loop-byte-init c = record { small = omega arith; digits = tt; value = refl }

pub returns-then-not-is_ascii_digit : goal.returns-then-not-is_ascii_digit
returns-then-not-is_ascii_digit c = λ n fits spelled. no_digit c.args.word.now c.loop-byte.byte-index n c.loop-byte-test.true c.if-not-is_ascii_digit.ensures.cases (omega arith) spelled

pub returns-in_err-checked_mul : goal.returns-in_err-checked_mul
returns-in_err-checked_mul c =
    rw c.from_residual.ensures
    (λ n fits spelled.
    let range = c.if-not-is_ascii_digit.ensures.cases in
    let low = range.0 in
    no_room c.args.word.now c.loop-byte.byte-index c.loop-byte.n 0 n c.loop-byte-test.true c.loop-byte.invariant.value range (omega arith) (omega (arith, c.in_err-checked_mul.ensures)) (omega arith) spelled)

pub returns-in_err-n : goal.returns-in_err-n
returns-in_err-n c =
    rw c.from_residual-in_err-n.ensures
    (λ n fits spelled.
    let range = c.if-not-is_ascii_digit.ensures.cases in
    let low = range.0 in
    no_room c.args.word.now c.loop-byte.byte-index c.loop-byte.n c.from.result n c.loop-byte-test.true c.loop-byte.invariant.value range (omega (arith, c.from.ensures)) (omega (arith, c.in_ok-checked_mul.ensures, c.in_err-n.ensures, c.from.ensures)) (omega arith)
    spelled)

pub loop-byte-preserved : goal.loop-byte-preserved
loop-byte-preserved c =
    let range = c.if-not-is_ascii_digit.ensures.cases in
    let low = range.0 in
    let turned = number_turn c.args.word.now c.loop-byte.byte-index c.loop-byte.n c.in_ok-n.n c.loop-byte-test.true c.loop-byte.invariant.digits c.loop-byte.invariant.value range
    (omega (arith, c.in_ok-n.ensures, c.in_ok-checked_mul.ensures, c.from.ensures)) in
    record { small = omega (arith, c.in_ok-n.ensures); digits = turned.0; value = turned.1 }

pub returns-then-n-most : goal.returns-then-n-most
returns-then-n-most c =
    (c.if-n-most.true, spelled_all c.args.word.now c.loop-byte.byte-index c.loop-byte.n (c.if-not-is_plain.ensures.0 refl) c.loop-byte-test.false c.loop-byte.invariant.digits c.loop-byte.invariant.value c.loop-byte.invariant.small)

pub returns-else-n-most : goal.returns-else-n-most
returns-else-n-most c = λ n fits spelled.
    let read = spelled_all c.args.word.now c.loop-byte.byte-index c.loop-byte.n (c.if-not-is_plain.ensures.0 refl) c.loop-byte-test.false c.loop-byte.invariant.digits c.loop-byte.invariant.value c.loop-byte.invariant.small in
    let same = decimal_injective c.loop-byte.n n c.loop-byte.invariant.small (omega arith) (sym read ∙ spelled) in
    omega arith
