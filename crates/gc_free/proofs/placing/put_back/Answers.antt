use Rattle.std.proofs.Common.{arith, ◌≡◌, ◌<◌, ◌≤◌, ap, ◌∙◌, length}
use Rattle.std.proofs.lemmas.Bool.{cond-true, lt-ltb}
use Rattle.gc_free.specs.Runs.{insert_run}
use Rattle.gc_free.specs.Placed.{with_current}
use Rattle.gc_free.proofs.ByLength.{length-insert_by, place_of}
use Rattle.gc_free.proofs.placing.put_back.Goals as goal

pub insert-requires-clause-room : goal.insert-requires-clause-room
insert-requires-clause-room g c =
    let runs = c.args.others.now.runs in
    let run = c.in-Some.run' in
    let longer = length-insert_by place_of run runs in
    let some : 0 < run.length = omega (arith, c.if-run-eq0.false) in
    let with' : with_current c.args.current runs ≡ insert_run run runs = ap (λ o. with_current o runs) c.in-Some.is ∙ cond-true _ (insert_run run runs) runs (lt-ltb 0 run.length some) in
    let same : length (with_current c.args.current runs) ≡ length (insert_run run runs) = ap length with' in
    let room : length (with_current c.args.current runs) ≤ c.args.others.now.room = c.requires.room in
    omega arith
