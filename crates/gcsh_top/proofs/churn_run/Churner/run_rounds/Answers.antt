use Rattle.std.proofs.Common.{◌≡◌, refl, sym, ap, ◌∙◌, arith}
use Rattle.gc_script.proofs.ResultLemmas.{on_any_err}
use Rattle.gc_script.proofs.StandLemmas.{same_store, same_twice}
use Rattle.gcsh_reports.specs.Seeds.{next_seed}
use Rattle.gcsh_top.proofs.ChurnLemmas.{seed_more}
use Rattle.gcsh_top.proofs.RoundLemmas.{all_rounds, more_rounds, no_rounds, rounds_stopped}
use Rattle.gcsh_top.proofs.churn_run.Churner.run_rounds.Goals as goal

pub loop-done-init : goal.loop-done-init
loop-done-init g c = record {
  ran = λ form commands replies start. (replies, no_rounds g.H.GcHeap.KIND form commands replies c.args.rounds _ _ start);
  seeds = refl;
  few = let few = c.requires.few in omega (arith, few);
  same = same_store _;
}

pub run_round-requires-clause-few : goal.run_round-requires-clause-few
run_round-requires-clause-few g c =
    let few = c.loop-done.invariant.few in
    let below = c.loop-done-test.true in
    let most = c.requires.most in
    omega (arith, few, below, most)

pub loop-done-preserved : goal.loop-done-preserved
loop-done-preserved g c = record {
  ran = λ form commands replies start.
      let so_far = c.loop-done.invariant.ran form commands replies start in
      let more = c.in_ok-run_round.ensures.ran form _ so_far.0 so_far.1 in
      (more.0, more_rounds g.H.GcHeap.KIND form commands more.0 c.args.rounds c.loop-done.done _ _ _ _ refl (c.next_seed-seed.ensures ∙ ap next_seed c.loop-done.invariant.seeds) more.1);
  seeds = c.next_seed-seed.ensures ∙ ap next_seed c.loop-done.invariant.seeds ∙ sym (seed_more c.args.rounds c.loop-done.done);
  few =
      let few = c.loop-done.invariant.few in
      let more = c.run_round.ensures.few in
      omega (arith, few, more);
  same = same_twice _ _ _ c.loop-done.invariant.same c.run_round.ensures.same;
}

pub returns-in_err-run_round-clause-stopped : goal.returns-in_err-run_round-clause-stopped
returns-in_err-run_round-clause-stopped g c =
    on_any_err c.from_residual.result
    (λ form commands replies start.
    let so_far = c.loop-done.invariant.ran form commands replies start in
    rounds_stopped g.H.GcHeap.KIND form commands c.args.rounds c.loop-done.done _ _ _ refl (c.next_seed-seed.ensures ∙ ap next_seed c.loop-done.invariant.seeds) c.loop-done-test.true (c.in_err-run_round.ensures.stopped form _ so_far.0 so_far.1))

pub returns-clause-ran : goal.returns-clause-ran
returns-clause-ran g c form commands replies start =
    let so_far = c.loop-done.invariant.ran form commands replies start in
    let below = c.loop-done.auto.done-end in
    let over = c.loop-done-test.false in
    let last : c.loop-done.done ≡ c.args.rounds = omega (arith, below, over) in
    (so_far.0, all_rounds g.H.GcHeap.KIND form commands so_far.0 c.args.rounds c.loop-done.done _ _ last so_far.1)
