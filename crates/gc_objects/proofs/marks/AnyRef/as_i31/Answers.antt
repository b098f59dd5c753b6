use Rattle.gc_objects.specs.Answered.{IsNumber}
use Rattle.gc_objects.proofs.Questions.{asks_number, asks_refused}
use Rattle.gc_objects.proofs.marks.AnyRef.as_i31.Goals as goal

pub returns-in-Ok : goal.returns-in-Ok
returns-in-Ok g c t holds =
    asks_number g.H.GcHeap.KIND c.args.store.now c.root_index.result c.args.this.index c.root_index.ensures c.object_at.result t c.in-Ok.object c.number_in.result c.in-Ok.is c.number_in.ensures (c.object_at.ensures.answers t holds)

pub returns-in-Err : goal.returns-in-Err
returns-in-Err g c t holds =
    asks_refused g.H.GcHeap.KIND c.args.store.now c.root_index.result c.args.this.index c.root_index.ensures c.object_at.result t IsNumber c.in-Err.fault c.in-Err.is (c.object_at.ensures.answers t holds)
