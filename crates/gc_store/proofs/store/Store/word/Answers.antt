use Rattle.std.proofs.Common.{Err, ap, sym, ◌∙◌}
use Rattle.gc_store.proofs.HandleWords.{named_word, never_gone, never_named, names_nothing}
use Rattle.gc_store.proofs.store.Store.word.Goals as goal

pub returns-in-Ok-clause-live : goal.returns-in-Ok-clause-live
returns-in-Ok-clause-live g c t place r holds names =
    (named_word g.H.GcHeap.KIND c.args.self.now t place holds c.args.handle r c.in-Ok.word names (sym c.word_of.ensures ∙ c.in-Ok.is)).0

pub returns-in-Err-clause-live : goal.returns-in-Err-clause-live
returns-in-Err-clause-live g c t place r holds names =
    absurd (never_gone g.H.GcHeap.KIND c.args.self.now t place holds c.args.handle r c.in-Err.fault names (sym c.word_of.ensures ∙ c.in-Err.is))

pub returns-in-Ok-clause-gone : goal.returns-in-Ok-clause-gone
returns-in-Ok-clause-gone g c own t holds nothing =
    absurd (never_named g.H.GcHeap.KIND c.args.self.now t holds.0 holds.1 c.args.handle c.in-Ok.word nothing (sym c.word_of.ensures ∙ c.in-Ok.is))

pub returns-in-Err-clause-gone : goal.returns-in-Err-clause-gone
returns-in-Err-clause-gone g c own t holds nothing =
    ap Err (names_nothing g.H.GcHeap.KIND c.args.self.now t holds.0 holds.1 c.args.handle c.in-Err.fault own (sym c.word_of.ensures ∙ c.in-Err.is)).0
