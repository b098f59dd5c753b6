use Rattle.std.proofs.Common.{subst}
use Rattle.gc_heap.specs.Collection.{Start, IsIncrements}
use Rattle.gc_store.proofs.increments.collect_by_increments.Goals as goal

pub returns-clause-collects : goal.returns-clause-collects
returns-clause-collects g c = c.run_increments.ensures.ended c.begin.ensures.0 c.args.owner.now c.begin.ensures.1

pub returns-clause-counted : goal.returns-clause-counted
returns-clause-counted g c =
    let begun = c.begin.ensures in
    let number = c.run_increments.ensures.counted begun.0 c.args.owner.now begun.1 in
    record {
      trimmed = begun.1.trimmed.seen;
      trims = begun.1.trims;
      number = number.0;
      takes = subst (λ (s : Start). IsIncrements g.H.GcHeap.KIND s number.0) begun.1.going.start number.1.0;
      counted = number.1.1;
    }
