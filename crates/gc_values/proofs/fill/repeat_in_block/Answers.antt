use Rattle.std.proofs.Common.{◌∙◌, arith}
use Rattle.std.proofs.lemmas.List.{length-set}
use Rattle.gc_values.proofs.SameValue.{repeat_more}
use Rattle.gc_values.proofs.fill.repeat_in_block.Goals as goal

pub loop-at-preserved : goal.loop-at-preserved
loop-at-preserved c = record {
  long = length-set c.loop-at.block c.loop-at.at _ ∙ c.loop-at.invariant.long;
  same = repeat_more c.loop-at.block c.args.bytes.now c.loop-at.at c.args.width (omega (arith, c.loop-at.invariant.long, c.loop-at-test.true)) c.loop-at.invariant.same;
}
