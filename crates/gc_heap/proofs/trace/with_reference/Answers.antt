use Rattle.std.proofs.Common.{◌≡◌, ◌*◌, ◌-◌, ◌/◌, ◌%◌, ◌<◌, ◌^◌, sym, subst, arith}
use Rattle.std.specs.Prelude.{bit_or}
use Rattle.gc_refs.specs.Trace.{form_unit}
use Rattle.gc_heap.proofs.TraceLemmas.{or_below, bit_below_form}
use Rattle.gc_heap.proofs.trace.with_reference.Goals as goal

pub returns-clause-fits : goal.returns-clause-fits
returns-clause-fits c =
    let p = 2 ^ ((c.args.offset - 12) / 4) in
    let small : p < form_unit = bit_below_form c.args.offset c.requires.to in
    let same : 1 * p % 4294967296 ≡ p = omega arith in
    subst (λ n. bit_or c.args.bits n < form_unit) (sym same) (or_below c.args.bits p c.requires.bits small)
