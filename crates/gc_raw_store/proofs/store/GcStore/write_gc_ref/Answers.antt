use Rattle.std.proofs.Common.{◌∙◌, ap}
use Rattle.std.specs.Option.{option_copied}
use Rattle.gc_view.specs.Heaps.{HeapView}
use Rattle.gc_raw_store.proofs.StoreLemmas.{overwritten-number}
use Rattle.gc_raw_store.proofs.store.GcStore.write_gc_ref.Goals as goal

pub returns-clause-number : goal.returns-clause-number
returns-clause-number g c = λ none none'.
    let heap = g.met.H.GcHeap.is_heap c.self.inside.heap c.self.invariant.sound in
    let seen = c.write_gc_ref.ensures.seen ∙ overwritten-number g.H.GcHeap.KIND (g.H.GcHeap.seen c.self.inside.heap) c.args.destination.now (option_copied c.args.source) heap none none' in
    ap (λ (h : HeapView). record { heap = h; hosts = c.self.inside.hosts.entries }) seen ∙ c.self.view_is
