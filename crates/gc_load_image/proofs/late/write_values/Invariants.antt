use Rattle.gc_store.specs.Stores.{IsSameStore}
use Rattle.gc_load_image.specs.Stages.{LoadGoesOn, Writing}
use Rattle.gc_load_image.proofs.late.write_values.Given as goal

abbrev pub invariant-loop-index : goal.invariant-loop-index
invariant-loop-index g l = record {
  writing : Writing g.H.GcHeap.KIND l.objects l.handles l.number l.index l.store;
  goes : LoadGoesOn 0 l.fn.store l.store;
  same : IsSameStore l.fn.store l.store;
}
