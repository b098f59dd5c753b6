use Rattle.std.proofs.Common.{true, false}
use Rattle.gc_owner.specs.Owners.{heap_kind}
use Rattle.gc_store.proofs.Incrementing.{dropped_ended}
use Rattle.gc_store.proofs.increments.collect_dropped.Goals as goal

pub returns : goal.returns
returns g c =
    let begun = c.begin.ensures in
    dropped_ended (heap_kind g.H.GcHeap.KIND g.H.GcHeap.seen g.H.GcHeap.sound g.H.GcHeap.under_way) begun.0 1 c.args.owner.now c.increment.new.self c.finish.new.self c.increment.result
    (c.increment.ensures.goes begun.0 0 true c.args.owner.now begun.1) c.increment.ensures.complete c.finish.ensures.same (λ way. c.finish.ensures.ended begun.0 1 false c.args.owner.now way)
