use Rattle.gc_store.specs.Stores.{IsSameStore}
use Rattle.gc_load_image.specs.Stages.{LoadGoesOn, Writing}
use Rattle.gc_load_image.proofs.late.write_late.Given as goal

abbrev pub invariant-loop-number : goal.invariant-loop-number
invariant-loop-number g l = record {
  writing : Writing g.H.GcHeap.KIND l.objects l.handles l.number 0 l.store;
  goes : LoadGoesOn 0 l.fn.store l.store;
  same : IsSameStore l.fn.store l.store;
}
