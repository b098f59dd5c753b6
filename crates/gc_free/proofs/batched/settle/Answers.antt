use Rattle.std.proofs.Common.{◌∙◌}
use Rattle.gc_free.proofs.WaitingRuns.{settles_at}
use Rattle.gc_free.proofs.batched.settle.Goals as goal

pub give_run-requires : goal.give_run-requires
give_run-requires c =
    (settles_at c.args.waiting.now.items c.args.list.now.space c.in-Some.run' c.loop-run.waiting.items c.pop.new.self.items c.loop-run.list.space
    c.loop-run.invariant.settles c.in-Some.ensures.items).held

pub loop-run-preserved : goal.loop-run-preserved
loop-run-preserved c =
    let on = (settles_at c.args.waiting.now.items c.args.list.now.space c.in-Some.run' c.loop-run.waiting.items c.pop.new.self.items c.loop-run.list.space
    c.loop-run.invariant.settles c.in-Some.ensures.items).on in
    record {
      settles = rw c.give_run.ensures.given on;
      memory = c.give_run.ensures.memory ∙ c.loop-run.invariant.memory;
      room = c.in-Some.ensures.capacity ∙ c.loop-run.invariant.room;
    }
