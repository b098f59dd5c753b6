use Rattle.std.proofs.Common.{◌∙◌}
use Rattle.gc_objects.proofs.ValueCounts.{counted_more, byte_one}
use Rattle.gc_objects.proofs.each_value.count_references.Goals as goal

pub loop-index-preserved : goal.loop-index-preserved
loop-index-preserved g c =
    counted_more c.args.store.now.types c.args.ty c.args.len c.loop-index.references c.loop-index.index c.loop-index.invariant c.loop-index-test.true
    c.keeps_reference.result c.keeps_reference.ensures c.from-references.result (c.from-references.ensures ∙ byte_one c.keeps_reference.result)
