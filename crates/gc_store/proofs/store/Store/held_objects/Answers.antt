use Rattle.std.proofs.Common.{◌≡◌, ap, sym, subst, ◌∙◌}
use Rattle.std.specs.FinMap.{len}
use Rattle.gc_view.specs.Heaps.{HeapView}
use Rattle.gc_model.specs.Reach.{HasNumber, IsKept}
use Rattle.gc_model.specs.Stores.{StoreView}
use Rattle.gc_model.specs.Collects.{HasPlace}
use Rattle.gc_model.proofs.HeldNumber.{held_number, kept_number}
use Rattle.gc_store.proofs.store.Store.held_objects.Goals as goal

-- src/collect.rt:34:5
pub returns-clause-placed : goal.returns-clause-placed
returns-clause-placed g c = λ t place holds.
    let count : c.object_count.result ≡ len c.args.self.now.heap.content =
    c.object_count.ensures ∙ ap (λ (h : HeapView). len h.content) c.heap.ensures.seen ∙ ap (λ (s : StoreView g.row.D.Denot). len s.heap.content) c.self.view_is in
    subst (HasNumber (HasPlace place)) (sym count) (held_number g.H.GcHeap.KIND c.args.self.now t place holds)

-- src/collect.rt:34:5
pub returns-clause-kept : goal.returns-clause-kept
returns-clause-kept g c = λ t kept.
    let count : c.object_count.result ≡ len c.args.self.now.heap.content =
    c.object_count.ensures ∙ ap (λ (h : HeapView). len h.content) c.heap.ensures.seen ∙ ap (λ (s : StoreView g.row.D.Denot). len s.heap.content) c.self.view_is in
    subst (HasNumber (IsKept g.H.GcHeap.KIND t)) (sym count) (kept_number g.H.GcHeap.KIND c.args.self.now t kept)
