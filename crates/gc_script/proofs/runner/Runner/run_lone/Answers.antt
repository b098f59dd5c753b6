use Rattle.std.proofs.Common.{sym, ap, ◌∙◌, subst, refl}
use Rattle.std.specs.Prelude.{Result, Ok, OnErr}
use Rattle.gc_commands.specs.declared.command.Command.TheVariants.{Enter, Leave, Pop}
use Rattle.gc_commands.specs.declared.lone.Lone.{Lone}
use Rattle.gc_commands.specs.declared.reply.Reply.{Reply}
use Rattle.gc_commands.specs.LoneCommands.{lone_command}
use Rattle.gc_script.specs.declared.ending.Ending.{Ending}
use Rattle.gc_script.specs.declared.runner.RunError.{RunError}
use Rattle.gc_script.specs.Endings.{answer_of, ended}
use Rattle.gc_script.specs.Run.{RunsOne, TakesMemory}
use Rattle.gc_script.specs.State.{State, HoldsState}
use Rattle.gc_script.specs.Wants.{MayWant}
use Rattle.gc_script.proofs.EndingLemmas.{never_wants, answer_ended}
use Rattle.gc_script.proofs.GoesLemmas.{goes_runs, asks_none}
use Rattle.gc_script.proofs.ResultLemmas.{on_any_err}
use Rattle.gc_script.proofs.runner.Runner.run_lone.Goals as goal

pub returns-in-Enter-clause-runs : goal.returns-in-Enter-clause-runs
returns-in-Enter-clause-runs g c limits s holds =
    subst (λ (l : Lone). RunsOne g.H.GcHeap.KIND c.args.store.now.alloc_counter limits limits s (lone_command l) (answer_of c.enter.result) c.args.store.now c.enter.new.self) (sym c.in-Enter.is)
    (goes_runs g.H.GcHeap.KIND c.args.store.now.alloc_counter limits s Enter (answer_of c.enter.result) c.args.store.now c.enter.new.self (asks_none Enter refl) (c.enter.ensures.goes s holds))

pub returns-in-Enter-clause-memory : goal.returns-in-Enter-clause-memory
returns-in-Enter-clause-memory g c = on_any_err (answer_of c.enter.result) (subst (λ (l : Lone). TakesMemory (lone_command l)) (sym c.in-Enter.is) (refl, refl))

pub returns-in-Enter-clause-cause : goal.returns-in-Enter-clause-cause
returns-in-Enter-clause-cause g c =
    on_any_err (answer_of c.enter.result) (λ s holds. subst (λ (l : Lone). MayWant g.H.GcHeap.KIND s (lone_command l)) (sym c.in-Enter.is) (record { takes = refl; unrefused = tt }))

pub returns-in-Leave-clause-runs : goal.returns-in-Leave-clause-runs
returns-in-Leave-clause-runs g c limits s holds =
    subst (λ (l : Lone). RunsOne g.H.GcHeap.KIND c.args.store.now.alloc_counter limits limits s (lone_command l) (answer_of c.of.result) c.leave.new.store c.leave.new.self) (sym c.in-Leave.is)
    (subst (λ (r : Result Reply RunError). RunsOne g.H.GcHeap.KIND c.args.store.now.alloc_counter limits limits s Leave r c.leave.new.store c.leave.new.self) (sym (answer_ended c.leave.result) ∙ ap answer_of (sym c.of.ensures))
    (goes_runs g.H.GcHeap.KIND c.args.store.now.alloc_counter limits s Leave (Ok (ended c.leave.result)) c.leave.new.store c.leave.new.self (asks_none Leave refl) (c.leave.ensures.goes s holds)))

pub returns-in-Leave-clause-memory : goal.returns-in-Leave-clause-memory
returns-in-Leave-clause-memory g c = subst (λ (e : Ending). OnErr (answer_of e) (TakesMemory (lone_command c.args.lone))) (sym c.of.ensures) (never_wants _ c.leave.result)

pub returns-in-Leave-clause-cause : goal.returns-in-Leave-clause-cause
returns-in-Leave-clause-cause g c =
    subst (λ (e : Ending). OnErr (answer_of e) ((s : State) → HoldsState g.H.GcHeap.KIND c.args.store.now c.args.self.now s → MayWant g.H.GcHeap.KIND s (lone_command c.args.lone))) (sym c.of.ensures) (never_wants _ c.leave.result)

pub returns-in-Pop-clause-runs : goal.returns-in-Pop-clause-runs
returns-in-Pop-clause-runs g c limits s holds =
    subst (λ (l : Lone). RunsOne g.H.GcHeap.KIND c.args.store.now.alloc_counter limits limits s (lone_command l) (answer_of c.of-in-Pop.result) c.pop_frame.new.store c.args.self.now) (sym c.in-Pop.is)
    (subst (λ (r : Result Reply RunError). RunsOne g.H.GcHeap.KIND c.args.store.now.alloc_counter limits limits s Pop r c.pop_frame.new.store c.args.self.now) (sym (answer_ended c.pop_frame.result) ∙ ap answer_of (sym c.of-in-Pop.ensures))
    (goes_runs g.H.GcHeap.KIND c.args.store.now.alloc_counter limits s Pop (Ok (ended c.pop_frame.result)) c.pop_frame.new.store c.args.self.now (asks_none Pop refl) (c.pop_frame.ensures.goes s holds)))

pub returns-in-Pop-clause-memory : goal.returns-in-Pop-clause-memory
returns-in-Pop-clause-memory g c = subst (λ (e : Ending). OnErr (answer_of e) (TakesMemory (lone_command c.args.lone))) (sym c.of-in-Pop.ensures) (never_wants _ c.pop_frame.result)

pub returns-in-Pop-clause-cause : goal.returns-in-Pop-clause-cause
returns-in-Pop-clause-cause g c =
    subst (λ (e : Ending). OnErr (answer_of e) ((s : State) → HoldsState g.H.GcHeap.KIND c.args.store.now c.args.self.now s → MayWant g.H.GcHeap.KIND s (lone_command c.args.lone))) (sym c.of-in-Pop.ensures) (never_wants _ c.pop_frame.result)
