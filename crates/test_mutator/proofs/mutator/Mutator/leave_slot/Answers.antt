use Rattle.std.proofs.Common.{◌<◌, length, sym, ◌∙◌, arith}
use Rattle.gc_heap.specs.Collection.{has_host}
use Rattle.test_mutator.proofs.RootLemmas.{left}
use Rattle.test_mutator.proofs.mutator.Mutator.leave_slot.Goals as goal

pub invariant_of-self : goal.invariant_of-self
invariant_of-self g c =
    let below : c.args.index < length c.self.inside.roots.roots = omega (arith, c.if-index-len.false, c.len.ensures) in
    record {
      sound = c.self.invariant.sound;
      can = left g.H.GcHeap.KIND c.self.inside.types.declarations (g.H.GcHeap.seen c.self.inside.heap) c.self.inside.roots.roots (has_host c.self.inside.hosts.entries) (g.met.H.GcHeap.is_heap c.self.inside.heap c.self.invariant.sound) c.self.invariant.can
          c.set_word_at.new.self.roots c.args.index c.gone.result below (sym c.is_on_wasm_stack_at.ensures ∙ c.if-not-is_on_wasm_stack_at.false) c.set_word_at.ensures.roots c.gone.ensures;
    }
