use Rattle.std.proofs.Common.{arith, ◌≡◌, ◌<◌, ◌+◌, ◌^◌, ap, ◌∙◌}
use Rattle.gc_free.specs.Runs.{end_of}
use Rattle.gc_free.proofs.merging.absorb.Goals as goal
use Rattle.gc_free.proofs.merging.absorb.Goals.{in-Some, in-None}

pub joined-whole-requires : goal.joined-whole-requires
joined-whole-requires g c =
    let ends : end_of c.in-Some.before ≡ c.args.freed.place = c.in-Some.ensures.ends in
    let fits : end_of c.args.freed < 2 ^ 32 = c.requires in
    omega arith

pub joined-requires : goal.joined-requires
joined-requires g c =
    let begins : c.in-Some-behind.behind.place ≡ c.end.result = c.in-Some-behind.ensures.begins.0 in
    let fits : end_of c.in-Some-behind.behind < 2 ^ 32 = c.in-Some-behind.ensures.begins.1 in
    let last : c.end.result ≡ end_of c.args.freed = c.end.ensures in
    elim c.match-before.branch [
      | in-Some w ↦
          let ends : end_of w.in-Some.before ≡ c.args.freed.place = w.in-Some.ensures.ends in
          let whole : c.match-before.whole.length ≡ c.args.freed.length + w.in-Some.before.length = ap (λ r. r.length) (w.whole-is ∙ w.joined-whole.ensures) in
          omega arith
      | in-None w ↦
          let whole : c.match-before.whole.length ≡ c.args.freed.length = ap (λ r. r.length) w.whole-is in
          omega arith
    ]
