use Rattle.std.proofs.Common.{◌≡◌, ◌≤◌, ap, ◌∙◌, sym, length, false, subst}
use Rattle.std.proofs.lemmas.Bool.{cond-false}
use Rattle.gc_free.specs.Space.{touches}
use Rattle.gc_free.specs.Merged.{apart_from, merged, others_after}
use Rattle.gc_free.proofs.merging.set_free.Goals as goal
use Rattle.gc_free.proofs.merging.set_free.Goals.{in-Some+else-touches, in_default}

pub merge-requires-clause-room : goal.merge-requires-clause-room
merge-requires-clause-room g c =
    let freed = c.args.freed in
    let runs = c.args.others.now.runs in
    elim c.match-current.branch [
      | in-Some+else-touches w ↦
          let apart : touches freed w.in-Some.run' ≡ false = sym w.if-touches.ensures in
          let e : others_after freed c.args.current runs ≡ merged freed runs =
          ap (λ o. others_after freed o runs) w.in-Some.is ∙ cond-false (touches freed w.in-Some.run') (apart_from freed runs) (merged freed runs) apart in
          subst (λ l. length l ≤ c.args.others.now.room) e c.requires.room
      | in_default w ↦ subst (λ l. length l ≤ c.args.others.now.room) (ap (λ o. others_after freed o runs) w.in_default.is) c.requires.room
    ]
