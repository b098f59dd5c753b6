use Rattle.std.proofs.Common.{take, ap, ap₂, sym, ◌∙◌, ◌≡◌, arith}
use Rattle.std.proofs.lemmas.List.{take_all}
use Rattle.gc_model.proofs.Interned.{side_joined}
use Rattle.gc_values.specs.RawValues.{raw_side_values}
use Rattle.gc_values.proofs.GivenValues.{raw-more}
use Rattle.gc_values.proofs.interned.has_interned_kind.Goals as goal

pub loop-value-preserved : goal.loop-value-preserved
loop-value-preserved c =
    raw-more c.args.values.now c.loop-value.value-index c.value-item.result c.loop-value-test.true c.value-item.is
    ∙ ap₂ side_joined c.loop-value.invariant (c.is_interned_kind.ensures c.if-is_interned_kind.false)

pub returns : goal.returns
returns c = λ e.
    let all : take c.loop-value.value-index c.args.values.now ≡ c.args.values.now = take_all c.loop-value.value-index c.args.values.now (omega (arith, c.loop-value-test.false)) in
    ap raw_side_values (sym all) ∙ c.loop-value.invariant
