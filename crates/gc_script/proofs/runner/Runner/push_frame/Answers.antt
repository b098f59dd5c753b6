use Rattle.std.proofs.Common.{ℕ, subst}
use Rattle.std.specs.Prelude.{Ok}
use Rattle.gc_commands.specs.declared.command.Command.TheVariants as command
use Rattle.gc_commands.specs.declared.reply.Reply.TheVariants as reply
use Rattle.gc_script.specs.Run.{GoesOn}
use Rattle.gc_script.proofs.FrameGoes.{was_pushed}
use Rattle.gc_script.proofs.runner.Runner.push_frame.Goals as goal

pub returns-in-Ok-clause-goes : goal.returns-in-Ok-clause-goes
returns-in-Ok-clause-goes g c s holds =
    subst (λ (n : ℕ). GoesOn g.H.GcHeap.KIND s (command.Push n) (Ok reply.Done) c.push_frame.new.self c.args.self.now) c.from.ensures
    (was_pushed g.H.GcHeap.KIND c.args.store.now c.push_frame.new.self c.args.self.now s c.push_frame.ensures.same holds c.from.result (c.in-Ok.ensures.pushes s.table s.account holds.table))
