use Rattle.std.proofs.Common.{◌≤◌, length, subst, arith}
use Rattle.gc_commands.proofs.words.count_spaces.Goals as goal

pub returns-clause-bound : goal.returns-clause-bound
returns-clause-bound c =
    let few : c.count.result ≤ length c.iter.result.rest.now = subst (λ source. c.count.result ≤ length source.rest.now) c.filter.ensures.source c.count.ensures.bound in
    let long = c.iter.ensures.len in
    let short = c.well_formed.0.1 in
    omega arith
