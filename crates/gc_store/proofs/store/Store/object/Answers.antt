use Rattle.std.proofs.Common.{Err, ap, sym, ◌∙◌, subst}
use Rattle.gc_model.specs.Stores.{StoreView}
use Rattle.gc_store.specs.Roots.{IsRootWord, word_of}
use Rattle.gc_store.proofs.HandleWords.{root_word, named_word, names_word, never_gone, never_named, names_nothing}
use Rattle.gc_model.specs.Holds.{Holds}
use Rattle.gc_store.proofs.store.Store.object.Goals as goal

pub describe-requires : goal.describe-requires
describe-requires g c =
    subst (λ (s : StoreView g.row.D.Denot). IsRootWord g.row.D.Denot g.H.GcHeap.KIND s c.in-Ok.word) c.self.view_is
    (root_word _ _ c.self.invariant.table c.self.invariant.holds.place c.self.invariant.holds.holds c.args.handle c.in-Ok.word
    (ap (λ (s : StoreView g.row.D.Denot). word_of s c.args.handle) c.self.view_is ∙ sym c.word_of.ensures ∙ c.in-Ok.is))

pub returns-in-Ok-clause-live : goal.returns-in-Ok-clause-live
returns-in-Ok-clause-live g c t r holds names =
    let word = named_word g.H.GcHeap.KIND c.args.self.now t holds.0 holds.1 c.args.handle r c.in-Ok.word names (sym c.word_of.ensures ∙ c.in-Ok.is) in
    c.describe.ensures t holds.0 r holds.1 word.0 word.1

pub returns-in-Err-clause-live : goal.returns-in-Err-clause-live
returns-in-Err-clause-live g c t r holds names =
    absurd (never_gone g.H.GcHeap.KIND c.args.self.now t holds.0 holds.1 c.args.handle r c.in-Err.fault names (sym c.word_of.ensures ∙ c.in-Err.is))

pub returns-in-Ok-clause-gone : goal.returns-in-Ok-clause-gone
returns-in-Ok-clause-gone g c own t holds nothing =
    absurd (never_named g.H.GcHeap.KIND c.args.self.now t holds.0 holds.1 c.args.handle c.in-Ok.word nothing (sym c.word_of.ensures ∙ c.in-Ok.is))

pub returns-in-Err-clause-gone : goal.returns-in-Err-clause-gone
returns-in-Err-clause-gone g c own t holds nothing =
    ap Err (names_nothing g.H.GcHeap.KIND c.args.self.now t holds.0 holds.1 c.args.handle c.in-Err.fault own (sym c.word_of.ensures ∙ c.in-Err.is)).0

pub returns-in-Ok-clause-found : goal.returns-in-Ok-clause-found
returns-in-Ok-clause-found g c =
    let t = c.self.invariant.table in
    let place = c.self.invariant.holds.place in
    let holds : Holds g.H.GcHeap.KIND c.args.self.now t place = subst (λ (s : StoreView g.row.D.Denot). Holds g.H.GcHeap.KIND s t place) c.self.view_is c.self.invariant.holds.holds in
    let named = names_word g.H.GcHeap.KIND c.args.self.now t place holds c.args.handle c.in-Ok.word (sym c.word_of.ensures ∙ c.in-Ok.is) in
    record {
      table = t;
      holds = (place, holds);
      root = named.root;
      named = named.named;
      is = c.describe.ensures t place named.root holds named.is_word named.not_null;
    }
