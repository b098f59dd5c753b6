use Rattle.gc_free.proofs.TwoOrdersKept.{sorted_by_place}
use Rattle.gc_free.proofs.free_runs.FreeRuns.merge.Goals as goal

pub count_before-at-requires : goal.count_before-at-requires
count_before-at-requires g c = rw c.deref.ensures.value (sorted_by_place c.self.inside.by_place.items c.self.inside.by_length.items c.self.invariant)
