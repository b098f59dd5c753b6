use Rattle.std.proofs.Common.{sym, ◌∙◌}
use Rattle.gc_view.specs.Heaps.{HeapView}
use Rattle.gc_owner.proofs.Begins.{on_either, attached_kept}
use Rattle.gc_owner.proofs.pages.make_heap.Goals as goal

pub returns-after-attach-clause-keeps : goal.returns-after-attach-clause-keeps
returns-after-attach-clause-keeps g c = λ types roots hosts can.
    let old : HeapView = g.H.GcHeap.seen c.args.heap.now in
    attached_kept g.H.GcHeap.KIND types old (g.H.GcHeap.seen c.attach.new.self) _ roots hosts (g.met.H.GcHeap.is_heap c.args.heap.now c.requires.sound)
    (sym c.is_attached.ensures ∙ c.if-is_attached.false)
    (on_either c.attach.result _ _ c.attach.ensures.ok c.attach.ensures.err) can
