use Rattle.std.proofs.Common.{◌∙◌, ap}
use Rattle.gc_view.specs.Heaps.{HeapView}
use Rattle.gc_raw_store.proofs.StoreLemmas.{exposed-number}
use Rattle.gc_raw_store.proofs.store.GcStore.expose_gc_ref_to_wasm.Goals as goal

pub returns-clause-number : goal.returns-clause-number
returns-clause-number g c = λ odd.
    let seen = c.expose_gc_ref_to_wasm.ensures.seen ∙ exposed-number g.H.GcHeap.KIND (g.H.GcHeap.seen c.self.inside.heap) c.args.gc_ref (g.met.H.GcHeap.is_heap c.self.inside.heap c.self.invariant.sound) odd in
    ap (λ (h : HeapView). record { heap = h; hosts = c.self.inside.hosts.entries }) seen ∙ c.self.view_is
