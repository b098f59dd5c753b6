use Rattle.std.proofs.Common.{◌++◌, ◌∷◌, [], true, sym, ap, subst, ◌∙◌}
use Rattle.gc_roots.specs.Roots.{root}
use Rattle.gc_heap.specs.Barriers.{CanUnname, exposed}
use Rattle.gc_heap.specs.Collection.{has_host, IsWordOf}
use Rattle.test_mutator.proofs.RootLemmas.{root_word, root_cloneable, copy_showable, shown}
use Rattle.test_mutator.proofs.mutator.Mutator.show_root.Goals as goal
use Rattle.test_mutator.proofs.mutator.Mutator.show_root.Goals.{In-Ok}

of_heap : (g : _) (c : In-Ok g) → IsWordOf (g.H.GcHeap.seen c.self.inside.heap) c.in-Ok.word
of_heap g c =
    root_word g.H.GcHeap.KIND c.self.inside.types.declarations (g.H.GcHeap.seen c.self.inside.heap) c.self.inside.roots.roots (has_host c.self.inside.hosts.entries) (g.met.H.GcHeap.is_heap c.self.inside.heap c.self.invariant.sound) c.self.invariant.can
    c.args.index c.in-Ok.word c.in-Ok.ensures.can.0 c.in-Ok.ensures.word.0

pub clone_gc_ref-copy-requires-clause-named : goal.clone_gc_ref-copy-requires-clause-named
clone_gc_ref-copy-requires-clause-named g c =
    let found = c.in-Ok.ensures in
    root_cloneable g.H.GcHeap.KIND c.self.inside.types.declarations (g.H.GcHeap.seen c.self.inside.heap) c.self.inside.roots.roots (has_host c.self.inside.hosts.entries) (g.met.H.GcHeap.is_heap c.self.inside.heap c.self.invariant.sound) c.self.invariant.can
    c.args.index c.in-Ok.word found.can.0 found.can.1 found.word.0 found.word.1

pub expose_gc_ref_to_wasm-requires-clause-named : goal.expose_gc_ref_to_wasm-requires-clause-named
expose_gc_ref_to_wasm-requires-clause-named g c =
    let at = (goal.at.expose_gc_ref_to_wasm-requires-clause-named g c).In-Ok in
    subst (CanUnname (g.H.GcHeap.seen c.clone_gc_ref-copy.new.self)) (sym c.clone_gc_ref-copy.ensures.value)
    (copy_showable g.H.GcHeap.KIND c.self.inside.types.declarations (g.H.GcHeap.seen c.self.inside.heap) (g.H.GcHeap.seen c.clone_gc_ref-copy.new.self) c.self.inside.roots.roots (has_host c.self.inside.hosts.entries) c.in-Ok.word
    (g.met.H.GcHeap.is_heap c.self.inside.heap c.self.invariant.sound) (g.met.H.GcHeap.is_heap c.clone_gc_ref-copy.new.self c.clone_gc_ref-copy.ensures.sound) c.self.invariant.can (of_heap g at) c.clone_gc_ref-copy.ensures.seen c.in-Ok.ensures.word.1)

pub invariant_of-self : goal.invariant_of-self
invariant_of-self g c =
    let at = (goal.at.invariant_of-self g c).In-Ok in
    let middle = g.H.GcHeap.seen c.clone_gc_ref-copy.new.self in
    record {
      sound = c.expose_gc_ref_to_wasm.ensures.sound;
      can = shown g.H.GcHeap.KIND c.self.inside.types.declarations (g.H.GcHeap.seen c.self.inside.heap) middle c.self.inside.roots.roots (has_host c.self.inside.hosts.entries) c.in-Ok.word
          (g.met.H.GcHeap.is_heap c.self.inside.heap c.self.invariant.sound) (g.met.H.GcHeap.is_heap c.clone_gc_ref-copy.new.self c.clone_gc_ref-copy.ensures.sound) c.self.invariant.can (of_heap g at) c.clone_gc_ref-copy.ensures.seen
          (g.H.GcHeap.seen c.expose_gc_ref_to_wasm.new.self) c.add_wasm_stack_root.new.self.roots (c.expose_gc_ref_to_wasm.ensures.seen ∙ ap (exposed middle) c.clone_gc_ref-copy.ensures.value)
          (c.add_wasm_stack_root.ensures.roots ∙ ap (λ rs. rs ++ root 0 true c.in-Ok.word ∷ []) c.in-Ok.ensures.roots);
    }
