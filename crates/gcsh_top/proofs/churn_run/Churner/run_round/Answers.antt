use Rattle.std.proofs.Common.{refl}
use Rattle.gc_script.proofs.ResultLemmas.{on_any_err}
use Rattle.gcsh_top.specs.Churn.{slot_set}
use Rattle.gcsh_top.proofs.ChurnLemmas.{not_made}
use Rattle.gcsh_top.proofs.RoundLemmas.{made_by, ran_round, round_is, stopped_fifth, stopped_first, stopped_fourth, stopped_second, stopped_third}
use Rattle.gcsh_top.proofs.churn_run.Churner.run_round.Goals as goal

pub returns-in_err-run-clause-stopped : goal.returns-in_err-run-clause-stopped
returns-in_err-run-clause-stopped g c =
    on_any_err c.from_residual.result (λ form commands replies so_far. stopped_first g.H.GcHeap.KIND form commands _ _ _ _ _ _ refl _ (c.in_err-run.ensures.stopped form commands replies so_far))

pub returns-in_err-run-2-clause-stopped : goal.returns-in_err-run-2-clause-stopped
returns-in_err-run-2-clause-stopped g c =
    let n = c.args.round.number in
    let s = c.args.round.seed in
    on_any_err c.from_residual-in_err-run-2.result
    (λ form commands replies so_far.
    let one = c.in_ok-run.ensures.ran form commands replies so_far in
    stopped_second g.H.GcHeap.KIND form commands _ _ _ _ _ _ (round_is n s c.slot_read-k.result (slot_set s) (made_by n s) c.slot_read-k.ensures refl refl) _ (c.in_err-run-2.ensures.stopped form _ _ one))

pub returns-in_default-clause-stopped : goal.returns-in_default-clause-stopped
returns-in_default-clause-stopped g c form commands replies so_far =
    let n = c.args.round.number in
    let s = c.args.round.seed in
    let one = c.in_ok-run.ensures.ran form commands replies so_far in
    let two = c.in_ok-run-2.ensures.ran form _ _ one in
    stopped_third g.H.GcHeap.KIND form commands _ _ _ _ _ _ (round_is n s c.slot_read-k.result (slot_set s) (made_by n s) c.slot_read-k.ensures refl refl) _ (not_made g.H.GcHeap.KIND form _ _ _ _ two (made_by n s))

pub returns-in_err-run-3-clause-stopped : goal.returns-in_err-run-3-clause-stopped
returns-in_err-run-3-clause-stopped g c =
    let n = c.args.round.number in
    let s = c.args.round.seed in
    on_any_err c.from_residual-in_err-run-3.result
    (λ form commands replies so_far.
    let one = c.in_ok-run.ensures.ran form commands replies so_far in
    let two = c.in_ok-run-2.ensures.ran form _ _ one in
    stopped_third g.H.GcHeap.KIND form commands _ _ _ _ _ _ (round_is n s c.slot_read-k.result (slot_set s) c.in-Ok.make c.slot_read-k.ensures c.in-Ok.ensures refl) _ (c.in_err-run-3.ensures.stopped form _ _ two))

pub returns-in_err-run-4-clause-stopped : goal.returns-in_err-run-4-clause-stopped
returns-in_err-run-4-clause-stopped g c =
    let n = c.args.round.number in
    let s = c.args.round.seed in
    on_any_err c.from_residual-in_err-run-4.result
    (λ form commands replies so_far.
    let one = c.in_ok-run.ensures.ran form commands replies so_far in
    let two = c.in_ok-run-2.ensures.ran form _ _ one in
    let three = c.in_ok-run-3.ensures.ran form _ _ two in
    stopped_fourth g.H.GcHeap.KIND form commands _ _ _ _ _ _ (round_is n s c.slot_read-k.result c.slot_set-k.result c.in-Ok.make c.slot_read-k.ensures c.in-Ok.ensures c.slot_set-k.ensures) _ (c.in_err-run-4.ensures.stopped form _ _ three))

pub returns-in_err-run-5-clause-stopped : goal.returns-in_err-run-5-clause-stopped
returns-in_err-run-5-clause-stopped g c =
    let n = c.args.round.number in
    let s = c.args.round.seed in
    on_any_err c.from_residual-in_err-run-5.result
    (λ form commands replies so_far.
    let one = c.in_ok-run.ensures.ran form commands replies so_far in
    let two = c.in_ok-run-2.ensures.ran form _ _ one in
    let three = c.in_ok-run-3.ensures.ran form _ _ two in
    let four = c.in_ok-run-4.ensures.ran form _ _ three in
    stopped_fifth g.H.GcHeap.KIND form commands _ _ _ _ _ _ (round_is n s c.slot_read-k.result c.slot_set-k.result c.in-Ok.make c.slot_read-k.ensures c.in-Ok.ensures c.slot_set-k.ensures) _ (c.in_err-run-5.ensures.stopped form _ _ four))

pub returns-clause-ran : goal.returns-clause-ran
returns-clause-ran g c form commands replies so_far =
    let n = c.args.round.number in
    let s = c.args.round.seed in
    let one = c.in_ok-run.ensures.ran form commands replies so_far in
    let two = c.in_ok-run-2.ensures.ran form _ _ one in
    let three = c.in_ok-run-3.ensures.ran form _ _ two in
    let four = c.in_ok-run-4.ensures.ran form _ _ three in
    let five = c.in_ok-run-5.ensures.ran form _ _ four in
    (_, ran_round g.H.GcHeap.KIND form commands _ _ _ _ _ _ (round_is n s c.slot_read-k.result c.slot_set-k.result c.in-Ok.make c.slot_read-k.ensures c.in-Ok.ensures c.slot_set-k.ensures) _ _ _ five)
