use Rattle.std.proofs.Common.{◌+◌, ◌*◌, ◌<◌, ◌^◌, arith}
use Rattle.gc_heap.specs.References.{word_offsets}
use Rattle.gc_copying.proofs.ScanLemmas.{going_can, going_step, going_end}
use Rattle.gc_copying.proofs.OffsetLemmas.{elements_start, first_element, last_element, offset_fits}
use Rattle.gc_copying.proofs.space.Space.scan_elements.Goals as goal

pub loop-index-init : goal.loop-index-init
loop-index-init g c = elements_start c.args.self.now c.args.copy c.args.count c.args.steps.now

pub overflow_mul-index : goal.overflow_mul-index
overflow_mul-index g c =
    let first = first_element c.args.self.now c.loop-index.self c.args.copy (word_offsets 16 c.args.count) c.args.count c.loop-index.index c.args.steps.now c.loop-index.steps c.loop-index.invariant c.loop-index-test.true in
    let fits : 16 + 4 * c.loop-index.index < 2 ^ 32 = offset_fits c.args.self.now c.loop-index.self c.args.copy (word_offsets 16 c.args.count) _ (16 + 4 * c.loop-index.index) c.args.steps.now c.loop-index.steps first.going c.requires in
    omega (arith, fits)

pub overflow_add-index : goal.overflow_add-index
overflow_add-index g c =
    let first = first_element c.args.self.now c.loop-index.self c.args.copy (word_offsets 16 c.args.count) c.args.count c.loop-index.index c.args.steps.now c.loop-index.steps c.loop-index.invariant c.loop-index-test.true in
    let fits : 16 + 4 * c.loop-index.index < 2 ^ 32 = offset_fits c.args.self.now c.loop-index.self c.args.copy (word_offsets 16 c.args.count) _ (16 + 4 * c.loop-index.index) c.args.steps.now c.loop-index.steps first.going c.requires in
    omega (arith, fits)

pub scan_field-requires : goal.scan_field-requires
scan_field-requires g c =
    let first = first_element c.args.self.now c.loop-index.self c.args.copy (word_offsets 16 c.args.count) c.args.count c.loop-index.index c.args.steps.now c.loop-index.steps c.loop-index.invariant c.loop-index-test.true in
    going_can c.args.self.now c.loop-index.self c.args.copy (word_offsets 16 c.args.count) _ (16 + 4 * c.loop-index.index) c.args.steps.now c.loop-index.steps first.going c.requires

pub loop-index-preserved : goal.loop-index-preserved
loop-index-preserved g c =
    let first = first_element c.args.self.now c.loop-index.self c.args.copy (word_offsets 16 c.args.count) c.args.count c.loop-index.index c.args.steps.now c.loop-index.steps c.loop-index.invariant c.loop-index-test.true in
    record {
      n = first.n;
      rest = first.rest;
      going = going_step c.args.self.now c.loop-index.self c.scan_field.new.self c.args.copy (word_offsets 16 c.args.count) _ (16 + 4 * c.loop-index.index) c.args.steps.now c.loop-index.steps c.scan_field.new.steps
          first.going c.scan_field.ensures.scanned c.scan_field.ensures.sides c.scan_field.ensures.ticks c.scan_field.ensures.rises;
    }

pub returns-clause-scanned : goal.returns-clause-scanned
returns-clause-scanned g c s p u scan =
    going_end c.args.self.now c.loop-index.self c.args.copy (word_offsets 16 c.args.count) c.args.steps.now c.loop-index.steps
    (last_element c.args.self.now c.loop-index.self c.args.copy (word_offsets 16 c.args.count) c.args.count c.loop-index.index c.args.steps.now c.loop-index.steps c.loop-index.invariant c.loop-index-test.false)
    s p u scan
