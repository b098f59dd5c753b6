use Rattle.std.proofs.Common.{◌≡◌, Some, ap, ◌∙◌}
use Rattle.std.specs.FinMap.{get}
use Rattle.gc_view.specs.Heaps.{HeapObject}
use Rattle.gc_heap.specs.Collection.{has_host}
use Rattle.test_mutator.specs.Mutators.{MutatorView}
use Rattle.test_mutator.specs.Fields.{HasWord}
use Rattle.test_mutator.proofs.WriteLemmas.{numbers_alone, number_stored, number_written}
use Rattle.test_mutator.proofs.mutator.Mutator.write_number.Goals as goal
use Rattle.test_mutator.proofs.mutator.Mutator.write_number.Goals.{After-write_u32}

object_held : (g : _) (c : After-write_u32 g) → get (g.H.GcHeap.seen c.self.inside.heap).content c.in-Some.object ≡ Some c.in-Some.ensures.some.1.0
object_held g c = ap (λ (m : MutatorView). get m.heap.content c.in-Some.object) c.self.view_is ∙ c.in-Some.ensures.some.1.1

lies : (g : _) (c : After-write_u32 g) → HasWord g.H.GcHeap.KIND c.in-Some.ensures.some.1.0 c.args.offset
lies g c = (c.has_words.ensures.held c.in-Some.ensures.some.1.0 (object_held g c)).0 c.if-not-has_words.false

pub invariant_of-self : goal.invariant_of-self
invariant_of-self g c =
    let at = (goal.at.invariant_of-self g c).After-write_u32 in
    let o : HeapObject = c.in-Some.ensures.some.1.0 in
    let held = object_held g at in
    record {
      sound = c.write_u32.ensures.sound;
      can = number_stored g.H.GcHeap.KIND c.self.inside.types.declarations (g.H.GcHeap.seen c.self.inside.heap) (g.H.GcHeap.seen c.write_u32.new.heap) c.self.inside.roots.roots (has_host c.self.inside.hosts.entries) c.in-Some.object o c.args.offset c.args.number
          (g.met.H.GcHeap.is_heap c.self.inside.heap c.self.invariant.sound) c.self.invariant.can held (lies g at) (numbers_alone g.H.GcHeap.KIND c.self.inside.types.declarations o ((c.is_plain.ensures o held).0 c.if-not-is_plain.false)) (c.write_u32.ensures.written o held);
    }

pub returns-clause-written : goal.returns-clause-written
returns-clause-written g c =
    let at = (goal.at.returns-clause-written g c).After-write_u32 in
    let o : HeapObject = c.in-Some.ensures.some.1.0 in
    let held = object_held g at in
    number_written g.H.GcHeap.KIND c.args.self.now (g.H.GcHeap.seen c.self.inside.heap) (g.H.GcHeap.seen c.write_u32.new.heap) c.self.inside.roots.roots c.self.inside.types.declarations c.self.inside.hosts.entries c.args.holder c.in-Some.object o c.args.offset c.args.number
    c.self.view_is c.in-Some.ensures.some.0 c.in-Some.ensures.stands held (lies g at, (c.is_plain.ensures o held).0 c.if-not-is_plain.false) (c.write_u32.ensures.written o held)
