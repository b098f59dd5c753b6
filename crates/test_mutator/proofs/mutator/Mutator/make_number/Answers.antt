use Rattle.std.proofs.Common.{◌++◌, ◌∷◌, [], false, ap, ◌∙◌}
use Rattle.gc_refs.specs.Words.{i31_word}
use Rattle.gc_roots.specs.Roots.{root}
use Rattle.gc_heap.specs.Collection.{has_host}
use Rattle.test_mutator.proofs.RootLemmas.{numbered}
use Rattle.test_mutator.proofs.mutator.Mutator.make_number.Goals as goal

pub invariant_of-self-2 : goal.invariant_of-self-2
invariant_of-self-2 g c = record {
  sound = c.self.invariant.sound;
  can = numbered g.H.GcHeap.KIND c.self.inside.types.declarations (g.H.GcHeap.seen c.self.inside.heap) c.self.inside.roots.roots (has_host c.self.inside.hosts.entries) (g.met.H.GcHeap.is_heap c.self.inside.heap c.self.invariant.sound) c.self.invariant.can
      c.add_vmgcref_root.new.self.roots c.wrapping_u32.result (c.add_vmgcref_root.ensures.roots ∙ ap (λ w. c.make_room.new.roots.roots ++ root 0 false w ∷ []) c.from_i31.ensures ∙ ap (λ rs. rs ++ root 0 false (i31_word c.wrapping_u32.result) ∷ []) c.make_room.ensures.roots);
}
