use Rattle.std.proofs.Common.{refl, []}
use Rattle.std.specs.Prelude.{Ok}
use Rattle.gc_commands.specs.declared.command.Command.TheVariants.{Gc}
use Rattle.gc_script.specs.Shapes.{of_objects}
use Rattle.gc_script.proofs.StandLemmas.{holds_table}
use Rattle.gc_script.proofs.CollectionLemmas.{collected}
use Rattle.gc_script.proofs.MakeTests.{runs_rest}
use Rattle.gc_script.proofs.runner.Runner.collect.Goals as goal

pub returns-clause-runs : goal.returns-clause-runs
returns-clause-runs g c limits s holds =
    runs_rest g.H.GcHeap.KIND c.args.store.now.alloc_counter limits limits s Gc [] (Ok c.held.result) c.gc.new.self c.args.self.now refl
    (collected g.H.GcHeap.KIND c.args.store.now.alloc_counter limits c.args.store.now c.gc.new.self c.args.self.now s of_objects c.held.result c.gc.ensures.same holds
    (c.held.ensures s (c.gc.ensures.kept s.table (holds_table holds.table)))
    (λ attached. c.gc.ensures.collects s.table s.account limits attached holds.table)
    c.gc.ensures.unmade)

pub returns-clause-kept : goal.returns-clause-kept
returns-clause-kept g c s holds = c.gc.ensures.kept s.table (holds_table holds.table)
