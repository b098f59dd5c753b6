use Rattle.std.proofs.Common.{Ok, Err, ap, sym, ◌∙◌}
use Rattle.gc_store.proofs.HandleWords.{names_nothing, never_gone}
use Rattle.gc_store.proofs.SameRoots.{same_err, both_live, not_unnamed}
use Rattle.gc_store.proofs.store.Store.index_eq.Goals as goal

pub returns-in_err-first-clause-live : goal.returns-in_err-first-clause-live
returns-in_err-first-clause-live g c = λ t r q holds a b.
    absurd (never_gone g.H.GcHeap.KIND c.args.self.now t holds.0 holds.1 c.args.a r c.in_err-first.field-0.0 a (sym c.word_of.ensures ∙ c.in_err-first.was))

pub returns-in_err-first-clause-gone : goal.returns-in_err-first-clause-gone
returns-in_err-first-clause-gone g c = λ own other t holds none.
    same_err c.from_residual.result c.in_err-first.field-0.0 c.from_residual.ensures.1
    ∙ ap Err (names_nothing g.H.GcHeap.KIND c.args.self.now t holds.0 holds.1 c.args.a c.in_err-first.field-0.0 own (sym c.word_of.ensures ∙ c.in_err-first.was)).0

pub returns-in_err-second-clause-live : goal.returns-in_err-second-clause-live
returns-in_err-second-clause-live g c = λ t r q holds a b.
    absurd (never_gone g.H.GcHeap.KIND c.args.self.now t holds.0 holds.1 c.args.b q c.in_err-second.field-0.0 b (sym c.word_of-2.ensures ∙ c.in_err-second.was))

pub returns-in_err-second-clause-gone : goal.returns-in_err-second-clause-gone
returns-in_err-second-clause-gone g c = λ own other t holds none.
    same_err c.from_residual-in_err-second.result c.in_err-second.field-0.0 c.from_residual-in_err-second.ensures.1
    ∙ ap Err (names_nothing g.H.GcHeap.KIND c.args.self.now t holds.0 holds.1 c.args.b c.in_err-second.field-0.0 other (sym c.word_of-2.ensures ∙ c.in_err-second.was)).0

pub returns-clause-live : goal.returns-clause-live
returns-clause-live g c = λ t r q holds a b.
    ap Ok (both_live g.H.GcHeap.KIND c.args.self.now t holds.0 holds.1 c.args.a c.args.b r q c.in_ok-first.first c.in_ok-second.second a b (sym c.word_of.ensures ∙ c.in_ok-first.was) (sym c.word_of-2.ensures ∙ c.in_ok-second.was))

pub returns-clause-gone : goal.returns-clause-gone
returns-clause-gone g c = λ own other t holds none.
    absurd (not_unnamed g.H.GcHeap.KIND c.args.self.now t holds.0 holds.1 c.args.a c.args.b c.in_ok-first.first c.in_ok-second.second (sym c.word_of.ensures ∙ c.in_ok-first.was) (sym c.word_of-2.ensures ∙ c.in_ok-second.was) none)
