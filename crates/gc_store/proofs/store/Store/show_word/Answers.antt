use Rattle.std.proofs.Common.{Err, ap, sym, ◌∙◌, subst}
use Rattle.gc_model.specs.Stores.{StoreView}
use Rattle.gc_model.specs.Holds.{Holds}
use Rattle.gc_store.proofs.HandleWords.{named_word, names_word, never_gone, never_named, names_nothing}
use Rattle.gc_store.proofs.store.Store.show_word.Goals as goal

pub returns-in-Ok-clause-live : goal.returns-in-Ok-clause-live
returns-in-Ok-clause-live g c t place r holds names =
    (named_word g.H.GcHeap.KIND c.args.self.now t place holds c.args.handle r c.in-Ok.word names (sym c.word_of.ensures ∙ c.in-Ok.is)).0

pub returns-in-Err-clause-live : goal.returns-in-Err-clause-live
returns-in-Err-clause-live g c t place r holds names =
    absurd (never_gone g.H.GcHeap.KIND c.args.self.now t place holds c.args.handle r c.in-Err.fault names (sym c.word_of.ensures ∙ c.in-Err.is))

pub returns-in-Ok-clause-gone : goal.returns-in-Ok-clause-gone
returns-in-Ok-clause-gone g c own t holds nothing =
    absurd (never_named g.H.GcHeap.KIND c.args.self.now t holds.0 holds.1 c.args.handle c.in-Ok.word nothing (sym c.word_of.ensures ∙ c.in-Ok.is))

pub returns-in-Err-clause-gone : goal.returns-in-Err-clause-gone
returns-in-Err-clause-gone g c own t holds nothing =
    ap Err (names_nothing g.H.GcHeap.KIND c.args.self.now t holds.0 holds.1 c.args.handle c.in-Err.fault own (sym c.word_of.ensures ∙ c.in-Err.is)).0

pub returns-in-Ok-clause-held : goal.returns-in-Ok-clause-held
returns-in-Ok-clause-held g c =
    let sound = c.self.invariant in
    let holds : Holds g.H.GcHeap.KIND c.args.self.now sound.table sound.holds.place = subst (λ (s : StoreView g.row.D.Denot). Holds g.H.GcHeap.KIND s sound.table sound.holds.place) c.self.view_is sound.holds.holds in
    let names = names_word g.H.GcHeap.KIND c.args.self.now sound.table sound.holds.place holds c.args.handle c.in-Ok.word (sym c.word_of.ensures ∙ c.in-Ok.is) in
    record { table = sound.table; place = sound.holds.place; holds = holds; root = names.root; is_word = names.is_word; not_null = names.not_null }
