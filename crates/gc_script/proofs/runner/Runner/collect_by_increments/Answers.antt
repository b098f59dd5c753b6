use Rattle.std.proofs.Common.{refl, []}
use Rattle.std.specs.Prelude.{Ok}
use Rattle.gc_commands.specs.declared.command.Command.TheVariants.{GcInc}
use Rattle.gc_commands.specs.declared.reply.Reply.TheVariants as reply
use Rattle.gc_script.specs.Shapes.{of_increments}
use Rattle.gc_script.proofs.StandLemmas.{holds_table}
use Rattle.gc_script.proofs.CollectionLemmas.{collected}
use Rattle.gc_script.proofs.MakeTests.{runs_rest}
use Rattle.gc_script.proofs.runner.Runner.collect_by_increments.Goals as goal

pub returns-clause-runs : goal.returns-clause-runs
returns-clause-runs g c limits s holds =
    let answer = reply.Increments c.gc_by_increments.result in
    runs_rest g.H.GcHeap.KIND c.args.store.now.alloc_counter limits limits s GcInc [] (Ok answer) c.gc_by_increments.new.self c.args.self.now refl
    (collected g.H.GcHeap.KIND c.args.store.now.alloc_counter limits c.args.store.now c.gc_by_increments.new.self c.args.self.now s of_increments answer c.gc_by_increments.ensures.collected.same holds
    (record { increments = c.gc_by_increments.result; shows = refl; takes = c.gc_by_increments.ensures.increments s.table (holds_table holds.table) })
    (λ attached. c.gc_by_increments.ensures.collected.collects s.table s.account limits attached holds.table)
    c.gc_by_increments.ensures.collected.unmade)

pub returns-clause-kept : goal.returns-clause-kept
returns-clause-kept g c s holds = c.gc_by_increments.ensures.collected.kept s.table (holds_table holds.table)
