use Rattle.std.proofs.Common.{◌<◌, ◌^◌, arith}
use Rattle.gc_copying.specs.CopyWords.{bitmap_places}
use Rattle.gc_copying.proofs.ScanLemmas.{going_can, going_step, going_end}
use Rattle.gc_copying.proofs.OffsetLemmas.{bits_start, first_bit, last_bit, going_ticks}
use Rattle.gc_copying.proofs.space.Space.scan_bitmap.Goals as goal

pub loop-rest-init : goal.loop-rest-init
loop-rest-init g c = bits_start c.args.self.now c.args.copy c.args.bits c.args.steps.now c.requires.bits

pub scan_field-requires : goal.scan_field-requires
scan_field-requires g c =
    let all = bitmap_places c.args.bits in
    let small : c.loop-rest.rest < 2 ^ 32 = omega arith in
    let first = first_bit c.args.self.now c.loop-rest.self c.args.copy all c.loop-rest.rest c.loop-rest.offset c.args.steps.now c.loop-rest.steps c.loop-rest.invariant c.loop-rest-test.true small in
    going_can c.args.self.now c.loop-rest.self c.args.copy all _ _ c.args.steps.now c.loop-rest.steps first.going c.requires.left

pub loop-rest-preserved : goal.loop-rest-preserved
loop-rest-preserved g c =
    let all = bitmap_places c.args.bits in
    let small : c.loop-rest.rest < 2 ^ 32 = omega arith in
    let first = first_bit c.args.self.now c.loop-rest.self c.args.copy all c.loop-rest.rest c.loop-rest.offset c.args.steps.now c.loop-rest.steps c.loop-rest.invariant c.loop-rest-test.true small in
    record {
      n = first.n;
      at = first.at;
      has = first.has;
      going = going_step c.args.self.now c.loop-rest.self c.scan_field.new.self c.args.copy all _ _ c.args.steps.now c.loop-rest.steps c.scan_field.new.steps
          first.going c.scan_field.ensures.scanned c.scan_field.ensures.sides c.scan_field.ensures.ticks c.scan_field.ensures.rises;
    }

pub returns-clause-scanned : goal.returns-clause-scanned
returns-clause-scanned g c s p u scan =
    going_end c.args.self.now c.loop-rest.self c.args.copy (bitmap_places c.args.bits) c.args.steps.now c.loop-rest.steps
    (last_bit c.args.self.now c.loop-rest.self c.args.copy (bitmap_places c.args.bits) c.loop-rest.rest c.loop-rest.offset c.args.steps.now c.loop-rest.steps c.loop-rest.invariant c.loop-rest-test.false)
    s p u scan

pub returns-clause-ticks : goal.returns-clause-ticks
returns-clause-ticks g c =
    going_ticks c.args.self.now c.loop-rest.self c.args.copy (bitmap_places c.args.bits) c.args.steps.now c.loop-rest.steps
    (last_bit c.args.self.now c.loop-rest.self c.args.copy (bitmap_places c.args.bits) c.loop-rest.rest c.loop-rest.offset c.args.steps.now c.loop-rest.steps c.loop-rest.invariant c.loop-rest-test.false)
