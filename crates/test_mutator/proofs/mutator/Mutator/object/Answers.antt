use Rattle.std.proofs.Common.{sym, subst}
use Rattle.gc_heap.specs.Content.{IsHeld}
use Rattle.test_mutator.specs.Mutators.{MutatorView, NamesObject}
use Rattle.test_mutator.proofs.FieldLemmas.{number_names_none}
use Rattle.test_mutator.proofs.mutator.Mutator.object.Goals as goal

pub returns-then-is_i31-clause-none : goal.returns-then-is_i31-clause-none
returns-then-is_i31-clause-none g c = λ names.
    let heap = g.H.GcHeap.seen c.self.inside.heap in
    let held : IsHeld heap c.word_at-word.result = subst (IsHeld heap) (sym c.word_at-word.ensures) (subst (λ (m : MutatorView). NamesObject m c.args.index) (sym c.self.view_is) names).1 in
    number_names_none g.H.GcHeap.KIND heap c.word_at-word.result (g.met.H.GcHeap.is_heap c.self.inside.heap c.self.invariant.sound) (c.is_i31.ensures.0 c.if-is_i31.true) held
