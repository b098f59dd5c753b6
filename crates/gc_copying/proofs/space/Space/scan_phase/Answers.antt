use Rattle.std.proofs.Common.{refl}
use Rattle.gc_copying.proofs.PhaseLemmas.{scanned_more, scanned_all_copies}
use Rattle.gc_copying.proofs.space.Space.scan_phase.Goals as goal

pub returns-in-Some-clause-scanned : goal.returns-in-Some-clause-scanned
returns-in-Some-clause-scanned g c s rs roots k counted more types_are at counts = (
  scanned_more c.args.types.now.declarations s rs roots c.args.self.now c.scan_some.new.self c.args.scan c.in-Some.scan k counted more c.args.steps.now c.scan_some.new.steps
      (c.in-Some.ensures.more s) c.scan_some.ensures.sides types_are at counts,
  refl,
)

pub returns-in-None-clause-scanned : goal.returns-in-None-clause-scanned
returns-in-None-clause-scanned g c s rs roots k counted more types_are at counts =
    let last = c.in-None.ensures.empty in (
      scanned_all_copies c.args.types.now.declarations s rs roots c.args.self.now c.scan_some.new.self c.args.scan k counted more c.args.steps.now c.scan_some.new.steps last.0 last.1.0
          (last.1.1 s) c.scan_some.ensures.sides types_are at counts,
      refl,
    )
