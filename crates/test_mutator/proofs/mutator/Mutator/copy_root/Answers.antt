use Rattle.std.proofs.Common.{◌++◌, ◌∷◌, [], false, ap, ◌∙◌}
use Rattle.gc_roots.specs.Roots.{root}
use Rattle.gc_heap.specs.Collection.{has_host}
use Rattle.test_mutator.proofs.RootLemmas.{root_word, root_cloneable, copied}
use Rattle.test_mutator.proofs.mutator.Mutator.copy_root.Goals as goal

pub clone_gc_ref-copy-requires-clause-named : goal.clone_gc_ref-copy-requires-clause-named
clone_gc_ref-copy-requires-clause-named g c =
    let found = c.in-Ok.ensures in
    root_cloneable g.H.GcHeap.KIND c.self.inside.types.declarations (g.H.GcHeap.seen c.self.inside.heap) c.self.inside.roots.roots (has_host c.self.inside.hosts.entries) (g.met.H.GcHeap.is_heap c.self.inside.heap c.self.invariant.sound) c.self.invariant.can
    c.args.index c.in-Ok.word found.can.0 found.can.1 found.word.0 found.word.1

pub invariant_of-self : goal.invariant_of-self
invariant_of-self g c =
    let found = c.in-Ok.ensures in
    let types = c.self.inside.types.declarations in
    let old = g.H.GcHeap.seen c.self.inside.heap in
    let roots = c.self.inside.roots.roots in
    let hosts = has_host c.self.inside.hosts.entries in
    let heap = g.met.H.GcHeap.is_heap c.self.inside.heap c.self.invariant.sound in
    record {
      sound = c.clone_gc_ref-copy.ensures.sound;
      can = copied g.H.GcHeap.KIND types old roots hosts heap c.self.invariant.can (g.H.GcHeap.seen c.clone_gc_ref-copy.new.self) c.add_vmgcref_root.new.self.roots c.in-Ok.word
          (root_word g.H.GcHeap.KIND types old roots hosts heap c.self.invariant.can c.args.index c.in-Ok.word found.can.0 found.word.0) c.clone_gc_ref-copy.ensures.seen
          (c.add_vmgcref_root.ensures.roots ∙ ap (λ w. c.word_to_copy.new.roots.roots ++ root 0 false w ∷ []) c.clone_gc_ref-copy.ensures.value ∙ ap (λ rs. rs ++ root 0 false c.in-Ok.word ∷ []) found.roots);
    }
