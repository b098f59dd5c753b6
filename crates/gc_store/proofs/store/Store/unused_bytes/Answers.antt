use Rattle.std.proofs.Common.{◌≡◌, ◌-◌, ap, ◌∙◌, subst}
use Rattle.gc_view.specs.Heaps.{HeapView}
use Rattle.gc_model.specs.Stores.{StoreView}
use Rattle.gc_heap.specs.Content.{IsHeap}
use Rattle.gc_store.proofs.MakingRoom.{unused_is}
use Rattle.gc_store.proofs.store.Store.unused_bytes.Goals as goal

pub returns : goal.returns
returns g c t a limits holds =
    let same : g.H.GcHeap.seen c.heap.result.now ≡ c.args.self.now.heap = c.heap.ensures.seen ∙ ap (λ (s : StoreView g.row.D.Denot). s.heap) c.self.view_is in
    (λ i. (c.gc_heap_capacity.ensures.seen i) - (c.allocated_bytes.ensures i))
    ∙ ap (λ (h : HeapView). c.args.self.now.heap.capacity - h.allocated) same
    ∙ unused_is g.H.GcHeap.KIND c.args.self.now t a limits (subst (IsHeap g.H.GcHeap.KIND) same (g.met.H.GcHeap.is_heap c.heap.result.now c.heap.ensures.sound)) holds
