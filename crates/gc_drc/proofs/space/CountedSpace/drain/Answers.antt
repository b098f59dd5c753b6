use Rattle.std.proofs.Common.{arith}
use Rattle.gc_drc.proofs.DrainLemmas.{drains_can}
use Rattle.gc_drc.proofs.space.CountedSpace.drain.Goals as goal

pub free_next-requires-clause-can : goal.free_next-requires-clause-can
free_next-requires-clause-can g c = drains_can _ c.args.types.now.declarations c.args.self.now c.loop-self.self _ _ c.loop-self.invariant.0 c.requires

pub loop-self-init : goal.loop-self-init
loop-self-init g c = (λ o before typed d. d, omega arith)

pub loop-self-preserved : goal.loop-self-preserved
loop-self-preserved g c =
    let risen = c.loop-self.invariant.1 in
    let more = c.free_next.ensures.spare in (
      λ o before typed d. c.free_next.ensures.drained o before typed (c.loop-self.invariant.0 o before typed d),
      omega arith,
    )
