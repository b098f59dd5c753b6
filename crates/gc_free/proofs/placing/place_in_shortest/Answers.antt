use Rattle.std.proofs.Common.{arith, ◌≤◌, ◌-◌, ◌^◌, sym}
use Rattle.gc_free.specs.Runs.{end_of}
use Rattle.gc_free.proofs.ByLength.{In-place}
use Rattle.gc_free.proofs.Taking.{shortest_found}
use Rattle.gc_free.proofs.placing.place_in_shortest.Goals as goal

pub rest-requires-clause-fits : goal.rest-requires-clause-fits
rest-requires-clause-fits g c = (shortest_found c.args.size c.args.others.now.runs c.in-Some.run' (sym c.in-Some.ensures.found)).fits

pub rest-requires-clause-own_end : goal.rest-requires-clause-own_end
rest-requires-clause-own_end g c =
    let found = shortest_found c.args.size c.args.others.now.runs c.in-Some.run' (sym c.in-Some.ensures.found) in
    let p = In-place 0 (2 ^ 32 - 1) c.in-Some.run' c.args.others.now.runs c.requires found.among in
    let last : end_of c.in-Some.run' ≤ 2 ^ 32 - 1 = p.1 in
    omega arith
