use Rattle.std.proofs.Common.{◌<◌, length, sym, ◌∙◌, arith}
use Rattle.gc_heap.specs.Collection.{has_host}
use Rattle.test_mutator.proofs.RootLemmas.{root_droppable, given_up}
use Rattle.test_mutator.proofs.mutator.Mutator.drop_root.Goals as goal

pub drop_gc_ref-requires-clause-named : goal.drop_gc_ref-requires-clause-named
drop_gc_ref-requires-clause-named g c =
    let below : c.args.index < length c.self.inside.roots.roots = omega (arith, c.if-index-len.false, c.len.ensures) in
    root_droppable g.H.GcHeap.KIND c.self.inside.types.declarations (g.H.GcHeap.seen c.self.inside.heap) c.self.inside.roots.roots (has_host c.self.inside.hosts.entries) (g.met.H.GcHeap.is_heap c.self.inside.heap c.self.invariant.sound) c.self.invariant.can
    c.args.index c.word_at-word.result below (sym c.is_on_wasm_stack_at.ensures ∙ c.if-is_on_wasm_stack_at.false) c.word_at-word.ensures (omega (arith, c.as_raw_u32-present.ensures.value, c.as_raw_u32-present.ensures.not_null))

pub invariant_of-self : goal.invariant_of-self
invariant_of-self g c =
    let below : c.args.index < length c.self.inside.roots.roots = omega (arith, c.if-index-len.false, c.len.ensures) in
    record {
      sound = c.drop_gc_ref.ensures.sound;
      can = given_up g.H.GcHeap.KIND c.self.inside.types.declarations (g.H.GcHeap.seen c.self.inside.heap) c.self.inside.roots.roots (has_host c.self.inside.hosts.entries) (g.met.H.GcHeap.is_heap c.self.inside.heap c.self.invariant.sound) c.self.invariant.can
          (g.H.GcHeap.seen c.drop_gc_ref.new.self) c.set_word_at.new.self.roots c.args.index c.word_at-word.result c.gone.result below (sym c.is_on_wasm_stack_at.ensures ∙ c.if-is_on_wasm_stack_at.false) c.word_at-word.ensures
          c.drop_gc_ref.ensures.seen c.set_word_at.ensures.roots c.gone.ensures (g.met.H.GcHeap.is_heap c.drop_gc_ref.new.self c.drop_gc_ref.ensures.sound);
    }
