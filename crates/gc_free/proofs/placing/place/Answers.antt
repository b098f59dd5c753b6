use Rattle.std.proofs.Common.{arith, ◌≡◌, ap, length, ◌∙◌, sym}
use Rattle.gc_free.specs.Placed.{with_current}
use Rattle.gc_free.proofs.Costs.{IsSearched-none, IsSearched-both, IsSearched-more, HasSearched-wider}
use Rattle.gc_free.proofs.PlacedRuns.{length-with_current}
use Rattle.gc_free.proofs.placing.place.Goals as goal
use Rattle.gc_free.proofs.placing.place.Goals.{in-Some+else-size-run, in_default}

pub returns-then-size-run-clause-cost : goal.returns-then-size-run-clause-cost
returns-then-size-run-clause-cost g c = IsSearched-none 4 (length (with_current c.args.current c.args.others.now.runs)) c.args.steps.now

pub returns-clause-cost : goal.returns-clause-cost
returns-clause-cost g c =
    let runs = c.args.others.now.runs in
    let all = with_current c.args.current runs in
    let own : c.match-current.current ≡ c.args.current = elim c.match-current.branch [ in-Some+else-size-run w ↦ w.current-is ∙ sym w.in-Some.is | in_default w ↦ w.current-is ] in
    let same : length c.put_back.new.others.runs ≡ length all = ap length (c.put_back.ensures.others ∙ ap (λ o. with_current o runs) own) in
    let first = IsSearched-more 2 2 (length runs) (length all) c.args.steps.now c.put_back.new.steps (omega arith) (length-with_current c.args.current runs) c.put_back.ensures.cost in
    let second = IsSearched-more 2 2 (length c.put_back.new.others.runs) (length all) c.put_back.new.steps c.place_in_shortest.new.steps (omega arith) (omega arith) c.place_in_shortest.ensures.cost in
    IsSearched-both 2 2 (length all) c.args.steps.now c.put_back.new.steps c.place_in_shortest.new.steps first second

pub returns-clause-least : goal.returns-clause-least
returns-clause-least g c _ =
    let runs = c.args.others.now.runs in
    let all = with_current c.args.current runs in
    let own : c.match-current.current ≡ c.args.current = elim c.match-current.branch [ in-Some+else-size-run w ↦ w.current-is ∙ sym w.in-Some.is | in_default w ↦ w.current-is ] in
    let same : length c.put_back.new.others.runs ≡ length all = ap length (c.put_back.ensures.others ∙ ap (λ o. with_current o runs) own) in
    let least = rw same at c.place_in_shortest.ensures.least in
    HasSearched-wider (length all) c.put_back.new.steps c.place_in_shortest.new.steps c.args.steps.now c.place_in_shortest.new.steps c.put_back.ensures.cost.rises
    c.place_in_shortest.ensures.cost.rises (omega arith) least
