use Rattle.std.proofs.Common.{◌≡◌, ℕ, true, [], ◌∷◌, sym, ap₂, subst, ◌∙◌}
use Rattle.gc_types.specs.declared.kind.Layouts.{Layouts}
use Rattle.gc_types.specs.declared.kind.Layouts.TheVariants.{Counting}
use Rattle.gc_roots.specs.Roots.{root}
use Rattle.gc_view.specs.Heaps.{HeapView}
use Rattle.gc_heap.specs.Content.{IsHeap}
use Rattle.gc_heap.specs.Heap.{new_struct}
use Rattle.gc_heap.specs.Barriers.{cloned, dropped, exposed, CanName, CanUnname}
use Rattle.gc_heap.specs.Collection.{CanCollect}
use Rattle.gc_heap.proofs.AddedLemmas.{start}
use Rattle.test_heaps.proofs.RevivedLemmas.{twice, can_unname_made, can_name_dropped, can_unname_again, shown_again}
use Rattle.test_heaps.proofs.revived.show_queued.Goals as goal

pub drop_gc_ref-requires-clause-named : goal.drop_gc_ref-requires-clause-named
drop_gc_ref-requires-clause-named g c =
    let seen = g.H.GcHeap.seen in
    can_unname_made (seen c.args.heap.now) (seen c.make_struct.new.heap) c.in_ok-object.object c.args.layout.now.size (new_struct Counting c.args.ty c.args.layout.now)
    c.in_ok-object.ensures.made

pub clone_gc_ref-copy-requires-clause-named : goal.clone_gc_ref-copy-requires-clause-named
clone_gc_ref-copy-requires-clause-named g c =
    let seen = g.H.GcHeap.seen in
    subst (λ (w : ℕ). CanName (seen c.drop_gc_ref.new.self) w) (sym c.unchecked_copy-word.ensures)
    (subst (λ (h : HeapView). CanName h c.in_ok-object.object) (sym c.drop_gc_ref.ensures.seen)
    (can_name_dropped (seen c.args.heap.now) (seen c.make_struct.new.heap) c.in_ok-object.object c.args.layout.now.size (new_struct Counting c.args.ty c.args.layout.now)
    c.in_ok-object.ensures.made))

pub expose_gc_ref_to_wasm-requires-clause-named : goal.expose_gc_ref_to_wasm-requires-clause-named
expose_gc_ref_to_wasm-requires-clause-named g c =
    let seen = g.H.GcHeap.seen in
    subst (λ (w : ℕ). CanUnname (seen c.clone_gc_ref-copy.new.self) w) (sym (c.clone_gc_ref-copy.ensures.value ∙ c.unchecked_copy-word.ensures))
    (subst (λ (h : HeapView). CanUnname h c.in_ok-object.object) (sym (twice (seen c.make_struct.new.heap) (seen c.drop_gc_ref.new.self) (seen c.clone_gc_ref-copy.new.self) c.in_ok-object.object c.unchecked_copy-word.result c.unchecked_copy-word.ensures c.drop_gc_ref.ensures.seen c.clone_gc_ref-copy.ensures.seen))
    (can_unname_again (seen c.args.heap.now) (seen c.make_struct.new.heap) c.in_ok-object.object c.args.layout.now.size (new_struct Counting c.args.ty c.args.layout.now)
    c.in_ok-object.ensures.made))

pub returns-clause-can : goal.returns-clause-can
returns-clause-can g c types hosts declared can =
    let seen = g.H.GcHeap.seen in
    let h : HeapView = seen c.args.heap.now in
    let middle : HeapView = seen c.make_struct.new.heap in
    let object : ℕ = c.in_ok-object.object in
    let heap : IsHeap Counting h = subst (λ (l : Layouts). IsHeap l h) c.requires.counting (g.met.H.GcHeap.is_heap c.args.heap.now c.requires.sound) in
    let two : seen c.clone_gc_ref-copy.new.self ≡ cloned (dropped middle object) object =
    twice middle (seen c.drop_gc_ref.new.self) (seen c.clone_gc_ref-copy.new.self) object c.unchecked_copy-word.result c.unchecked_copy-word.ensures c.drop_gc_ref.ensures.seen c.clone_gc_ref-copy.ensures.seen in
    let heap' : IsHeap Counting (cloned (dropped middle object) object) =
    subst (λ (v : HeapView). IsHeap Counting v) two (subst (λ (l : Layouts). IsHeap l (seen c.clone_gc_ref-copy.new.self)) c.requires.counting (g.met.H.GcHeap.is_heap c.clone_gc_ref-copy.new.self c.clone_gc_ref-copy.ensures.sound)) in
    let shows : seen c.expose_gc_ref_to_wasm.new.self ≡ exposed (cloned (dropped middle object) object) object =
    c.expose_gc_ref_to_wasm.ensures.seen ∙ ap₂ (λ (v : HeapView) (w : ℕ). exposed v w) two (c.clone_gc_ref-copy.ensures.value ∙ c.unchecked_copy-word.ensures) in
    subst (λ (w : ℕ). CanCollect Counting (start (seen c.expose_gc_ref_to_wasm.new.self) (root 0 true w ∷ []) types hosts)) (sym c.unchecked_copy-word.ensures)
    (subst (λ (v : HeapView). CanCollect Counting (start v (root 0 true object ∷ []) types hosts)) (sym shows)
    (shown_again types h middle object c.args.ty c.args.layout.now hosts heap c.in_ok-object.ensures.made c.requires.plain declared can heap'))
