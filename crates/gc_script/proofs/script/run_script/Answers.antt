use Rattle.std.proofs.Common.{ℕ, ◌+◌, ◌++◌, ◌∷◌, [], List, take, drop, Option, refl, sym, ap, subst, ◌∙◌, arith}
use Rattle.std.proofs.lemmas.List.{drop_more, take_all, take_more, take-append-drop}
use Rattle.gc_commands.specs.declared.command.Command.{Command}
use Rattle.gc_script.specs.State.{begin}
use Rattle.gc_script.specs.Run.{WantsMemory}
use Rattle.gc_script.specs.Script.{RanNext}
use Rattle.gc_script.proofs.ResultLemmas.{on_any_err}
use Rattle.gc_script.proofs.StandLemmas.{same_store, same_twice, begins}
use Rattle.gc_script.proofs.ScriptLemmas.{Along, along_start, along_more, along_end, along_stopped}
use Rattle.gc_script.proofs.script.run_script.Goals as goal

pub loop-command-init : goal.loop-command-init
loop-command-init g c = record {
  along = λ t a holds. along_start _ _ _ (begin t a) _ _ _ _ refl c.new-replies.ensures.items (begins _ _ _ t a holds c.new-runner.ensures);
  same = same_store _;
}

pub loop-command-preserved : goal.loop-command-preserved
loop-command-preserved g c = record {
  along = λ t a holds.
      let so_far = c.loop-command.invariant.along t a holds in
      subst (λ (done : List Command). Along g.H.GcHeap.KIND c.args.store.now.alloc_counter (g.L.ResourceLimiter.limits c.args.limiter.now) (g.L.ResourceLimiter.limits c.run_next.new.limiter) (begin t a) done c.run_next.new.replies.items c.run_next.new.store c.run_next.new.runner)
      (sym (take_more c.args.commands.now c.loop-command.command-index c.command-item.result c.loop-command-test.true ∙ ap (λ (x : Command). take c.loop-command.command-index c.args.commands.now ++ x ∷ []) (sym c.command-item.is)))
      (along_more _ _ _ _ (begin t a) (take c.loop-command.command-index c.args.commands.now) _ _ _ so_far _ c.command-item.result _ _ _
      (subst (λ (n : Option ℕ). RanNext g.H.GcHeap.KIND n (g.L.ResourceLimiter.limits c.loop-command.limiter) (g.L.ResourceLimiter.limits c.run_next.new.limiter) so_far.mid c.command-item.result c.loop-command.replies.items c.run_next.new.replies.items c.run_next.new.store c.run_next.new.runner) c.loop-command.invariant.same.counter
      (c.in_ok-run_next.ensures.ran so_far.mid so_far.holds)));
  same = same_twice _ _ _ c.loop-command.invariant.same c.run_next.ensures.same;
}

pub returns-clause-ended : goal.returns-clause-ended
returns-clause-ended g c t a holds =
    along_end _ _ _ _ (begin t a) (take c.loop-command.command-index c.args.commands.now) _ _ _ (c.loop-command.invariant.along t a holds) c.args.commands.now
    (take_all c.loop-command.command-index c.args.commands.now (let over = c.loop-command-test.false in omega arith))

pub returns-in_err-run_next-clause-stopped : goal.returns-in_err-run_next-clause-stopped
returns-in_err-run_next-clause-stopped g c =
    on_any_err c.from_residual.result
    (λ t a holds.
    let so_far = c.loop-command.invariant.along t a holds in
    along_stopped _ _ _ _ (begin t a) (take c.loop-command.command-index c.args.commands.now) _ _ _ so_far _ c.command-item.result (drop (c.loop-command.command-index + 1) c.args.commands.now) c.args.commands.now _ _
    (sym (take-append-drop c.loop-command.command-index c.args.commands.now)
    ∙ ap (λ (xs : List Command). take c.loop-command.command-index c.args.commands.now ++ xs) (drop_more c.args.commands.now c.loop-command.command-index c.command-item.result c.loop-command-test.true)
    ∙ ap (λ (x : Command). take c.loop-command.command-index c.args.commands.now ++ x ∷ drop (c.loop-command.command-index + 1) c.args.commands.now) (sym c.command-item.is))
    (subst (λ (n : Option ℕ). WantsMemory g.H.GcHeap.KIND n (g.L.ResourceLimiter.limits c.loop-command.limiter) (g.L.ResourceLimiter.limits c.run_next.new.limiter) so_far.mid c.command-item.result c.run_next.new.store c.run_next.new.runner) c.loop-command.invariant.same.counter
    (c.in_err-run_next.ensures.wants so_far.mid so_far.holds)))

pub returns-in_err-run_next-clause-same : goal.returns-in_err-run_next-clause-same
returns-in_err-run_next-clause-same g c = same_twice _ _ _ c.loop-command.invariant.same c.run_next.ensures.same
