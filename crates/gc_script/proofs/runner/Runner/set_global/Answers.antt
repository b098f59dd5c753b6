use Rattle.std.proofs.Common.{ℕ, subst}
use Rattle.std.specs.Prelude.{Ok}
use Rattle.gc_model.specs.Values.{Reference}
use Rattle.gc_model.specs.Globals.{set_global}
use Rattle.gc_commands.specs.declared.command.Command.TheVariants as command
use Rattle.gc_commands.specs.declared.reply.Reply.TheVariants as reply
use Rattle.gc_script.specs.Shapes.{set_to}
use Rattle.gc_script.specs.Run.{GoesOn}
use Rattle.gc_script.proofs.StandLemmas.{holds_table}
use Rattle.gc_script.proofs.SlotGoes.{was_set, never_refused}
use Rattle.gc_script.proofs.FrameGoes.{global_only, global_there, set_global_goes}
use Rattle.gc_script.proofs.runner.Runner.set_global.Goals as goal

pub returns-in-Ok-global_set-clause-goes : goal.returns-in-Ok-global_set-clause-goes
returns-in-Ok-global_set-clause-goes g c s holds =
    let there = global_there g.H.GcHeap.KIND c.args.store.now s.table (holds_table holds.table) c.from-global.result c.if-global-ge-GLOBAL_COUNT.false in
    subst (λ (n : ℕ). GoesOn g.H.GcHeap.KIND s (command.SetGlobal n c.args.r) (Ok reply.Done) c.global_set.new.self c.args.self.now) c.from-global.ensures
    (set_global_goes g.H.GcHeap.KIND s c.from-global.result c.args.r there.0 (Ok reply.Done) c.global_set.new.self c.args.self.now there.1
    (was_set g.H.GcHeap.KIND c.args.store.now c.args.self.now s holds there.0 c.args.r (set_to c.from-global.result) (global_only c.from-global.result) c.global_set.new.self c.in-Ok.slot.0 c.in-Ok.slot.1
    (c.in-Ok.ensures s holds) c.global_set.ensures.same (c.in-Ok-global_set.ensures.sets s.table s.account there.0 holds.table there.1)))

pub returns-in-Err-global_set-clause-goes : goal.returns-in-Err-global_set-clause-goes
returns-in-Err-global_set-clause-goes g c s holds =
    let there = global_there g.H.GcHeap.KIND c.args.store.now s.table (holds_table holds.table) c.from-global.result c.if-global-ge-GLOBAL_COUNT.false in
    let found = c.in-Ok.ensures s holds in
    absurd (never_refused g.H.GcHeap.KIND c.args.store.now c.global_set.new.self s.table s.account c.in-Ok.slot.1 (λ (x : Reference). set_global c.from-global.result c.in-Ok.slot.0 x s.table)
    found.root c.in-Err-global_set.field-0 found.stands (c.in-Err-global_set.ensures.sets s.table s.account there.0 holds.table there.1))
