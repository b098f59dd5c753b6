use Rattle.std.proofs.Common.{sym, ◌∙◌, subst}
use Rattle.std.specs.Prelude.{OnErr, Result}
use Rattle.gc_commands.specs.declared.reply.Reply.{Reply}
use Rattle.gc_script.specs.declared.runner.RunError.{RunError}
use Rattle.gc_script.specs.Run.{RunsOne, TakesMemory}
use Rattle.gc_script.specs.State.{State, HoldsState}
use Rattle.gc_script.specs.Wants.{MayWant}
use Rattle.gc_script.proofs.EndingLemmas.{quiet_collects}
use Rattle.gc_script.proofs.GoesLemmas.{unbuilt_runs}
use Rattle.gc_script.proofs.runner.Runner.run_one.Goals as goal

pub returns-then-not-is_built-clause-runs : goal.returns-then-not-is_built-clause-runs
returns-then-not-is_built-clause-runs g c s holds =
    unbuilt_runs g.H.GcHeap.KIND c.args.store.now.alloc_counter (g.L.ResourceLimiter.limits c.args.limiter.now) s c.args.command.now c.args.store.now c.args.self.now holds (sym c.is_built.ensures ∙ c.if-not-is_built.true)

pub returns-then-is_quiet-clause-runs : goal.returns-then-is_quiet-clause-runs
returns-then-is_quiet-clause-runs g c s holds =
    subst (λ (r : Result Reply RunError). RunsOne g.H.GcHeap.KIND c.args.store.now.alloc_counter (g.L.ResourceLimiter.limits c.args.limiter.now) (g.L.ResourceLimiter.limits c.run_quiet.new.limiter) s c.args.command.now r c.run_quiet.new.store c.run_quiet.new.self)
    (sym c.answer.ensures) (c.run_quiet.ensures.runs s holds)

pub returns-then-is_quiet-clause-memory : goal.returns-then-is_quiet-clause-memory
returns-then-is_quiet-clause-memory g c = subst (λ (r : Result Reply RunError). OnErr r (TakesMemory c.args.command.now)) (sym c.answer.ensures) c.run_quiet.ensures.memory

pub returns-then-is_quiet-clause-cause : goal.returns-then-is_quiet-clause-cause
returns-then-is_quiet-clause-cause g c =
    subst (λ (r : Result Reply RunError). OnErr r ((s : State) → HoldsState g.H.GcHeap.KIND c.args.store.now c.args.self.now s → MayWant g.H.GcHeap.KIND s c.args.command.now)) (sym c.answer.ensures) c.run_quiet.ensures.cause

pub returns-then-is_quiet-clause-kept : goal.returns-then-is_quiet-clause-kept
returns-then-is_quiet-clause-kept g c = λ is. absurd (quiet_collects c.args.command.now (sym c.is_quiet.ensures ∙ c.if-is_quiet.true) is)

pub returns-clause-runs : goal.returns-clause-runs
returns-clause-runs g c s holds = c.run_telling.ensures.runs (g.L.ResourceLimiter.limits c.args.limiter.now) s holds
