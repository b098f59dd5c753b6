use Rattle.std.proofs.Common.{ap₂, ◌∙◌, subst}
use Rattle.gc_view.specs.Heaps.{HeapView}
use Rattle.gc_heap.specs.Content.{IsHeap}
use Rattle.gc_heap.specs.Barriers.{exposed}
use Rattle.gc_owner.proofs.WordBarriers.{copy_named, copy_raised, none_raised}
use Rattle.gc_owner.proofs.FrameLemmas.{show_unnamed, show_seen, show_none}
use Rattle.gc_owner.proofs.barriers.show_word.Goals as goal

pub clone_gc_ref-copy-requires-clause-named : goal.clone_gc_ref-copy-requires-clause-named
clone_gc_ref-copy-requires-clause-named g c = copy_named (g.H.GcHeap.seen c.args.heap.now) c.from_raw_u32.result c.args.word c.in-Some.gc_ref c.from_raw_u32.ensures c.in-Some.is c.requires.can

pub expose_gc_ref_to_wasm-requires-clause-named : goal.expose_gc_ref_to_wasm-requires-clause-named
expose_gc_ref_to_wasm-requires-clause-named g c =
    let h : HeapView = g.H.GcHeap.seen c.args.heap.now in
    show_unnamed h (g.H.GcHeap.seen c.clone_gc_ref-copy.new.self) c.clone_gc_ref-copy.result c.in-Some.gc_ref c.clone_gc_ref-copy.ensures.seen c.clone_gc_ref-copy.ensures.value
    (copy_named h c.from_raw_u32.result c.args.word c.in-Some.gc_ref c.from_raw_u32.ensures c.in-Some.is c.requires.can)

pub returns-in-Some-clause-copied : goal.returns-in-Some-clause-copied
returns-in-Some-clause-copied g c =
    subst (IsHeap g.H.GcHeap.KIND)
    (c.clone_gc_ref-copy.ensures.seen ∙ copy_raised (g.H.GcHeap.seen c.args.heap.now) c.from_raw_u32.result c.args.word c.in-Some.gc_ref c.from_raw_u32.ensures c.in-Some.is)
    (g.met.H.GcHeap.is_heap c.clone_gc_ref-copy.new.self c.clone_gc_ref-copy.ensures.sound)

pub returns-in-Some-clause-seen : goal.returns-in-Some-clause-seen
returns-in-Some-clause-seen g c =
    c.expose_gc_ref_to_wasm.ensures.seen
    ∙ ap₂ exposed c.clone_gc_ref-copy.ensures.seen c.clone_gc_ref-copy.ensures.value
    ∙ show_seen (g.H.GcHeap.seen c.args.heap.now) c.from_raw_u32.result c.args.word c.in-Some.gc_ref c.from_raw_u32.ensures c.in-Some.is

pub returns-in-None-clause-copied : goal.returns-in-None-clause-copied
returns-in-None-clause-copied g c =
    subst (IsHeap g.H.GcHeap.KIND) (none_raised (g.H.GcHeap.seen c.args.heap.now) c.from_raw_u32.result c.args.word c.from_raw_u32.ensures c.in-None.is)
    (g.met.H.GcHeap.is_heap c.args.heap.now c.requires.sound)

pub returns-in-None-clause-seen : goal.returns-in-None-clause-seen
returns-in-None-clause-seen g c = show_none (g.H.GcHeap.seen c.args.heap.now) c.from_raw_u32.result c.args.word c.from_raw_u32.ensures c.in-None.is
