use Rattle.std.proofs.Common.{sym, ap, ◌∙◌, subst, refl}
use Rattle.std.specs.Prelude.{Result, OnErr}
use Rattle.gc_commands.specs.declared.reply.Reply.{Reply}
use Rattle.gc_script.specs.declared.runner.RunError.{RunError}
use Rattle.gc_script.specs.State.{State, HoldsState}
use Rattle.gc_script.specs.Endings.{answer_of}
use Rattle.gc_script.specs.Run.{GoesOn, TakesMemory}
use Rattle.gc_script.specs.Wants.{MayWant}
use Rattle.gc_script.specs.declared.ending.Ending.{Ending}
use Rattle.gc_script.proofs.EndingLemmas.{never_wants, answer_ended}
use Rattle.gc_script.proofs.ResultLemmas.{on_any_err}
use Rattle.gc_script.proofs.WantLemmas.{may_as, small_may, may_by}
use Rattle.gc_script.proofs.runner.Runner.end_unasking.Goals as goal

pub returns-in-Enter-clause-cause : goal.returns-in-Enter-clause-cause
returns-in-Enter-clause-cause g c =
    on_any_err (answer_of c.enter.result) (λ s holds. may_as g.H.GcHeap.KIND s c.args.command.now _ c.in-Enter.is (record { takes = refl; unrefused = tt }))

pub returns-in-Push-clause-cause : goal.returns-in-Push-clause-cause
returns-in-Push-clause-cause g c =
    on_any_err (answer_of c.push_frame.result) (λ s holds. may_as g.H.GcHeap.KIND s c.args.command.now _ c.in-Push.is (record { takes = refl; unrefused = tt }))

pub returns-in-I31-clause-cause : goal.returns-in-I31-clause-cause
returns-in-I31-clause-cause g c =
    on_any_err (answer_of c.make_i31.result) (λ s holds. may_as g.H.GcHeap.KIND s c.args.command.now _ c.in-I31.is (small_may g.H.GcHeap.KIND s c.in-I31.d c.in-I31.n))

pub returns-in-Own-clause-cause : goal.returns-in-Own-clause-cause
returns-in-Own-clause-cause g c = may_by _ _ _ (answer_of c.own.result) _ _ c.in-Own.is c.own.ensures.cause

pub returns-in-Root-clause-cause : goal.returns-in-Root-clause-cause
returns-in-Root-clause-cause g c = may_by _ _ _ (answer_of c.root.result) _ _ c.in-Root.is c.root.ensures.cause

pub returns-in_default-clause-goes : goal.returns-in_default-clause-goes
returns-in_default-clause-goes g c s holds =
    subst (λ (r : Result Reply RunError). GoesOn g.H.GcHeap.KIND s c.args.command.now r c.end_unfailing.new.store c.end_unfailing.new.self)
    (sym (answer_ended c.end_unfailing.result) ∙ ap answer_of (sym c.of.ensures)) (c.end_unfailing.ensures.goes s holds)

pub returns-in_default-clause-memory : goal.returns-in_default-clause-memory
returns-in_default-clause-memory g c = subst (λ (e : Ending). OnErr (answer_of e) (TakesMemory c.args.command.now)) (sym c.of.ensures) (never_wants _ c.end_unfailing.result)

pub returns-in_default-clause-cause : goal.returns-in_default-clause-cause
returns-in_default-clause-cause g c =
    subst (λ (e : Ending). OnErr (answer_of e) ((s : State) → HoldsState g.H.GcHeap.KIND c.args.store.now c.args.self.now s → MayWant g.H.GcHeap.KIND s c.args.command.now)) (sym c.of.ensures) (never_wants _ c.end_unfailing.result)
