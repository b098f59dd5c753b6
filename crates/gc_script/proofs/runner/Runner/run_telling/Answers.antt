use Rattle.std.proofs.Common.{◌≡◌, true, sym, subst}
use Rattle.std.specs.Prelude.{Ok}
use Rattle.gc_commands.specs.declared.command.Command.{Command}
use Rattle.gc_script.specs.Run.{RunsOne, asks_nothing}
use Rattle.gc_script.proofs.EndingLemmas.{telling_asks}
use Rattle.gc_script.proofs.GoesLemmas.{goes_runs, asks_none, asks_collect}
use Rattle.gc_script.proofs.runner.Runner.run_telling.Goals as goal

pub returns-in-Gc-clause-runs : goal.returns-in-Gc-clause-runs
returns-in-Gc-clause-runs g c limits s holds =
    subst (λ (x : Command). RunsOne g.H.GcHeap.KIND c.args.store.now.alloc_counter limits limits s x (Ok c.collect.result) c.collect.new.store c.args.self.now) (sym c.in-Gc.is)
    (c.collect.ensures.runs limits s holds)

pub returns-in-GcInc-clause-runs : goal.returns-in-GcInc-clause-runs
returns-in-GcInc-clause-runs g c limits s holds =
    subst (λ (x : Command). RunsOne g.H.GcHeap.KIND c.args.store.now.alloc_counter limits limits s x (Ok c.collect_by_increments.result) c.collect_by_increments.new.store c.args.self.now)
    (sym c.in-GcInc.is) (c.collect_by_increments.ensures.runs limits s holds)

pub returns-in-GcDrop-clause-runs : goal.returns-in-GcDrop-clause-runs
returns-in-GcDrop-clause-runs g c limits s holds =
    subst (λ (x : Command). RunsOne g.H.GcHeap.KIND c.args.store.now.alloc_counter limits limits s x (Ok c.collect_dropped.result) c.collect_dropped.new.store c.args.self.now)
    (sym c.in-GcDrop.is) (c.collect_dropped.ensures.runs limits s holds)

pub returns-in_default : goal.returns-in_default
returns-in_default g c =
    let asks : asks_nothing c.args.command.now ≡ true = telling_asks c.args.command.now c.requires.built c.requires.telling c.in_default.not-Gc c.in_default.not-GcInc c.in_default.not-GcDrop in
    record {
      runs = λ limits s holds. goes_runs g.H.GcHeap.KIND c.args.store.now.alloc_counter limits s c.args.command.now c.tell_unasking.result c.tell_unasking.new.store c.tell_unasking.new.self
          (asks_none c.args.command.now asks) (c.tell_unasking.ensures.goes s holds);
      memory = c.tell_unasking.ensures.memory;
      cause = c.tell_unasking.ensures.cause;
      kept = λ is. absurd (asks_collect c.args.command.now asks is);
      same = c.tell_unasking.ensures.same;
    }
