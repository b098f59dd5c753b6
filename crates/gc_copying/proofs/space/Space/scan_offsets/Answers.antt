use Rattle.std.proofs.Common.{◌+◌, ◌∷◌, [], drop, get_or}
use Rattle.gc_copying.proofs.ScanLemmas.{going_as, going_step, going_end}
use Rattle.gc_copying.proofs.OffsetLemmas.{next_offset, no_offset}
use Rattle.gc_copying.proofs.space.Space.scan_offsets.Goals as goal

pub loop-offset-preserved : goal.loop-offset-preserved
loop-offset-preserved g c =
    let i = c.loop-offset.offset-index in
    let all = c.args.offsets.now in
    going_step c.args.self.now c.loop-offset.self c.scan_field.new.self c.args.copy all (drop (i + 1) all) (get_or all i 0) c.args.steps.now c.loop-offset.steps c.scan_field.new.steps
    (going_as c.args.self.now c.loop-offset.self c.args.copy all (drop i all) (get_or all i 0 ∷ drop (i + 1) all) c.args.steps.now c.loop-offset.steps
    (next_offset all i c.loop-offset-test.true) c.loop-offset.invariant)
    c.scan_field.ensures.scanned c.scan_field.ensures.sides c.scan_field.ensures.ticks c.scan_field.ensures.rises

pub returns-clause-scanned : goal.returns-clause-scanned
returns-clause-scanned g c s p u scan =
    let i = c.loop-offset.offset-index in
    let all = c.args.offsets.now in
    going_end c.args.self.now c.loop-offset.self c.args.copy all c.args.steps.now c.loop-offset.steps
    (going_as c.args.self.now c.loop-offset.self c.args.copy all (drop i all) [] c.args.steps.now c.loop-offset.steps
    (no_offset all i c.loop-offset-test.false c.loop-offset.auto.offset-index-end) c.loop-offset.invariant)
    s p u scan
