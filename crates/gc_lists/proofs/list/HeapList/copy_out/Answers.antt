use Rattle.gc_lists.proofs.list.HeapList.copy_out.Goals as goal
use Rattle.gc_lists.proofs.Walking.{copied_out}

pub returns-clause-copies : goal.returns-clause-copies
returns-clause-copies g c = λ own t a xs holds stands.
    copied_out g.H.GcHeap.KIND t a xs c.walk-copied.new.store c.exit_gc_lifo_scope.new.self c.enter_gc_lifo_scope-scope.result (c.enter_gc_lifo_scope-scope.ensures.table t (holds.place, holds.holds))
    (λ u h. c.exit_gc_lifo_scope.ensures.leaves u a h) c.walk-copied.result (c.walk-copied.ensures.walks t a xs holds stands)
