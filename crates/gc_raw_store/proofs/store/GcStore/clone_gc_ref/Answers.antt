use Rattle.std.proofs.Common.{◌∙◌, ap}
use Rattle.gc_view.specs.Heaps.{HeapView}
use Rattle.gc_raw_store.proofs.StoreLemmas.{cloned-number}
use Rattle.gc_raw_store.proofs.store.GcStore.clone_gc_ref.Goals as goal

pub returns-clause-number : goal.returns-clause-number
returns-clause-number g c = λ odd.
    let seen = c.clone_gc_ref.ensures.seen ∙ cloned-number g.H.GcHeap.KIND (g.H.GcHeap.seen c.self.inside.heap) c.args.gc_ref.now (g.met.H.GcHeap.is_heap c.self.inside.heap c.self.invariant.sound) odd in
    ap (λ (h : HeapView). record { heap = h; hosts = c.self.inside.hosts.entries }) seen ∙ c.self.view_is
