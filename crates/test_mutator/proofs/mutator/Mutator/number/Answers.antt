use Rattle.std.proofs.Common.{◌≡◌, Some, sym, ap, ◌∙◌}
use Rattle.gc_view.specs.Heaps.{HeapObject}
use Rattle.test_mutator.specs.Mutators.{MutatorView}
use Rattle.std.specs.FinMap.{get}
use Rattle.test_mutator.proofs.FieldLemmas.{word_readable}
use Rattle.test_mutator.proofs.mutator.Mutator.number.Goals as goal
use Rattle.test_mutator.proofs.mutator.Mutator.number.Goals.{After-has_words}

object_held : (g : _) (c : After-has_words g) → get (g.H.GcHeap.seen c.self.inside.heap).content c.in-Some.object ≡ Some c.in-Some.ensures.some.1.0
object_held g c = ap (λ (m : MutatorView). get m.heap.content c.in-Some.object) c.self.view_is ∙ c.in-Some.ensures.some.1.1

pub read_u32-requires-clause-inside : goal.read_u32-requires-clause-inside
read_u32-requires-clause-inside g c =
    let o : HeapObject = c.in-Some.ensures.some.1.0 in
    let held = object_held g (goal.at.read_u32-requires-clause-inside g c).After-has_words in
    word_readable g.H.GcHeap.KIND (g.H.GcHeap.seen c.self.inside.heap) c.in-Some.object o c.args.offset held ((c.has_words.ensures.held o held).0 c.if-not-has_words.false)

pub returns-clause-field : goal.returns-clause-field
returns-clause-field g c =
    let o : HeapObject = c.in-Some.ensures.some.1.0 in
    record {
      stands = c.in-Some.ensures.stands;
      object = o;
      held = ap (get c.args.self.now.heap.content) (sym c.in-Some.ensures.some.0) ∙ c.in-Some.ensures.some.1.1;
      such = (c.has_words.ensures.held o (object_held g (goal.at.returns-clause-field g c).After-has_words)).0 c.if-not-has_words.false;
    }
