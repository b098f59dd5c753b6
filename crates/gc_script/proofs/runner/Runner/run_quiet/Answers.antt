use Rattle.std.proofs.Common.{◌≡◌, true, refl}
use Rattle.gc_script.specs.Endings.{answer_of}
use Rattle.gc_script.specs.Run.{asks_nothing}
use Rattle.gc_script.proofs.EndingLemmas.{quiet_asks}
use Rattle.gc_script.proofs.GoesLemmas.{goes_runs, asks_none}
use Rattle.gc_script.proofs.ResultLemmas.{on_any_err}
use Rattle.gc_script.proofs.WantLemmas.{may_as, host_may}
use Rattle.gc_script.proofs.runner.Runner.run_quiet.Goals as goal

pub returns-in_default : goal.returns-in_default
returns-in_default g c =
    let asks : asks_nothing c.args.command.now ≡ true =
    quiet_asks c.args.command.now c.requires (λ d t vs. c.in_default.not-New d t vs) (λ d t tag vs. c.in_default.not-NewExn d t tag vs) (λ d t n v. c.in_default.not-NewArr d t n v) (λ d t vs. c.in_default.not-Fixed d t vs)
    (λ d t bytes. c.in_default.not-NewBytes d t bytes) (λ d n. c.in_default.not-Host d n) (λ n. c.in_default.not-Grow n) in
    record {
      runs = λ s holds. goes_runs g.H.GcHeap.KIND c.args.store.now.alloc_counter (g.L.ResourceLimiter.limits c.args.limiter.now) s c.args.command.now (answer_of c.end_unasking.result) c.end_unasking.new.store c.end_unasking.new.self
          (asks_none c.args.command.now asks) (c.end_unasking.ensures.goes s holds);
      memory = c.end_unasking.ensures.memory;
      cause = c.end_unasking.ensures.cause;
      same = c.end_unasking.ensures.same;
    }

pub returns-in-Host-clause-cause : goal.returns-in-Host-clause-cause
returns-in-Host-clause-cause g c =
    on_any_err (answer_of c.make_host.result) (λ s holds. may_as g.H.GcHeap.KIND s c.args.command.now _ c.in-Host.is (host_may g.H.GcHeap.KIND s c.in-Host.d c.in-Host.n))

pub returns-in-Grow-clause-cause : goal.returns-in-Grow-clause-cause
returns-in-Grow-clause-cause g c =
    on_any_err (answer_of c.grow.result) (λ s holds. may_as g.H.GcHeap.KIND s c.args.command.now _ c.in-Grow.is (record { takes = refl; unrefused = tt }))
