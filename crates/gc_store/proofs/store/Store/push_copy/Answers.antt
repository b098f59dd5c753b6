use Rattle.std.proofs.Common.{sym, ap, ◌∙◌, subst}
use Rattle.gc_model.specs.Stores.{StoreView}
use Rattle.gc_store.specs.Roots.{IsRootWord, word_of}
use Rattle.gc_store.proofs.HandleWords.{root_word, named_word, never_named, never_gone}
use Rattle.gc_store.proofs.store.Store.push_copy.Goals as goal

pub push_root-requires : goal.push_root-requires
push_root-requires g c =
    subst (λ (s : StoreView g.row.D.Denot). IsRootWord g.row.D.Denot g.H.GcHeap.KIND s c.in-Ok.word) c.self.view_is
    (root_word _ _ c.self.invariant.table c.self.invariant.holds.place c.self.invariant.holds.holds c.args.handle c.in-Ok.word
    (ap (λ (s : StoreView g.row.D.Denot). word_of s c.args.handle) c.self.view_is ∙ sym c.word_of.ensures ∙ c.in-Ok.is))

pub returns-in-Ok-clause-live : goal.returns-in-Ok-clause-live
returns-in-Ok-clause-live g c t a r holds named =
    c.push_root.ensures.pushes t holds.place a r holds.holds holds.account
    (named_word g.H.GcHeap.KIND c.args.self.now t holds.place holds.holds c.args.handle r c.in-Ok.word named (sym c.word_of.ensures ∙ c.in-Ok.is)).0

pub returns-in-Ok-clause-gone : goal.returns-in-Ok-clause-gone
returns-in-Ok-clause-gone g c own t holds nothing = absurd (never_named g.H.GcHeap.KIND c.args.self.now t holds.0 holds.1 c.args.handle c.in-Ok.word nothing (sym c.word_of.ensures ∙ c.in-Ok.is))

pub returns-in-Err-clause-live : goal.returns-in-Err-clause-live
returns-in-Err-clause-live g c t a r holds named = absurd (never_gone g.H.GcHeap.KIND c.args.self.now t holds.place holds.holds c.args.handle r c.in-Err.fault named (sym c.word_of.ensures ∙ c.in-Err.is))
