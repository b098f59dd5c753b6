use Rattle.std.proofs.Common.{ℕ, refl, subst}
use Rattle.gc_values.specs.declared.request.Place.TheVariants as place
use Rattle.gc_commands.specs.declared.command.Command.TheVariants.{NewExn}
use Rattle.gc_script.specs.Endings.{answer_of}
use Rattle.gc_script.specs.Run.{RunsOne}
use Rattle.gc_script.specs.Requested.{requested_tests}
use Rattle.gc_script.specs.Wants.{MayWant}
use Rattle.gc_script.proofs.ResultLemmas.{on_err}
use Rattle.gc_script.proofs.MakeTests.{runs_rest}
use Rattle.gc_script.proofs.runner.Runner.make_exn.Goals as goal

pub returns-clause-runs : goal.returns-clause-runs
returns-clause-runs g c s holds =
    subst (λ (t : ℕ). RunsOne g.H.GcHeap.KIND c.args.store.now.alloc_counter (g.L.ResourceLimiter.limits c.args.limiter.now) (g.L.ResourceLimiter.limits c.make_fields.new.limiter) s (NewExn c.args.d t c.args.tag c.args.operands.now) (answer_of c.make_fields.result) c.make_fields.new.store c.make_fields.new.self) c.new-ty.ensures
    (runs_rest g.H.GcHeap.KIND c.args.store.now.alloc_counter (g.L.ResourceLimiter.limits c.args.limiter.now) (g.L.ResourceLimiter.limits c.make_fields.new.limiter) s (NewExn c.args.d c.new-ty.result c.args.tag c.args.operands.now)
    (requested_tests g.H.GcHeap.KIND s (place.Exn c.new-ty.result (record { instance = 0; index = c.args.tag })) c.args.operands.now) (answer_of c.make_fields.result) c.make_fields.new.store c.make_fields.new.self refl (c.make_fields.ensures.runs s holds))

pub returns-clause-cause : goal.returns-clause-cause
returns-clause-cause g c =
    on_err (answer_of c.make_fields.result)
    (λ unrefused s holds. subst (λ (t : ℕ). MayWant g.H.GcHeap.KIND s (NewExn c.args.d t c.args.tag c.args.operands.now)) c.new-ty.ensures (record { takes = refl; unrefused = unrefused s holds }))
    c.make_fields.ensures.cause
