use Rattle.std.proofs.Common.{Option, sym, subst}
use Rattle.gc_values.specs.declared.root.GcRootIndex.{GcRootIndex}
use Rattle.gc_store.specs.Slots.{FindsWord}
use Rattle.gc_store.proofs.HandleWords.{finds_word}
use Rattle.gc_store.proofs.store.Store.handle_word.Goals as goal

pub returns-in-Some : goal.returns-in-Some
returns-in-Some g c = λ t place holds.
    subst (λ (h : Option GcRootIndex). FindsWord c.args.self.now t place h c.word_of.result) (sym c.in-Some.is)
    (finds_word g.H.GcHeap.KIND c.args.self.now t place holds c.in-Some.handle c.word_of.result (sym c.word_of.ensures))
