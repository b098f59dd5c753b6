use Rattle.std.proofs.Common.{◌≡◌, sym, subst}
use Rattle.std.specs.Prelude.{OnOk, OnErr}
use Rattle.gc_model.specs.Stores.{StoreView}
use Rattle.gc_store.specs.Roots.{IsRootWord}
use Rattle.gc_store.specs.OwnedWords.{AddsOwned}
use Rattle.gc_store.specs.Stores.{store_view, tables_of}
use Rattle.gc_store.proofs.Pushing.{word_in_heap}
use Rattle.gc_store.proofs.OwningRoots.{sound_either, added_ok, added_err}
use Rattle.gc_store.proofs.store.Store.add_owned.Goals as goal

pub own-requires-clause-word : goal.own-requires-clause-word
own-requires-clause-word g c =
    let is = subst (λ (s : StoreView g.row.D.Denot). IsRootWord g.row.D.Denot g.H.GcHeap.KIND s c.args.word) (sym c.self.view_is) c.requires.word in
    word_in_heap g.H.GcHeap.KIND (store_view c.self.inside.id c.self.inside.config (tables_of c.self.inside.interned c.self.inside.asked) c.self.inside.owner.seen c.self.inside.tries) is.table is.place is.root c.args.word is.holds is.is_word

pub invariant_of-self : goal.invariant_of-self
invariant_of-self g c =
    sound_either g.H.GcHeap.KIND c.self.inside.id c.self.inside.config (tables_of c.self.inside.interned c.self.inside.asked) c.self.inside.tries c.self.inside.owner.seen c.own.new.self.seen c.args.word c.own.result c.self.inside.slot_counts.items c.own.ensures.ok c.own.ensures.err c.self.invariant
    (subst (λ (s : StoreView g.row.D.Denot). IsRootWord g.row.D.Denot g.H.GcHeap.KIND s c.args.word) (sym c.self.view_is) c.requires.word)

pub returns-clause-ok : goal.returns-clause-ok
returns-clause-ok g c =
    subst (λ (s : StoreView g.row.D.Denot). OnOk c.own.result (AddsOwned g.H.GcHeap.KIND s c.args.word (store_view c.self.inside.id c.self.inside.config (tables_of c.self.inside.interned c.self.inside.asked) c.own.new.self.seen c.self.inside.tries))) c.self.view_is
    (added_ok g.H.GcHeap.KIND c.self.inside.id c.self.inside.config (tables_of c.self.inside.interned c.self.inside.asked) c.self.inside.tries c.self.inside.owner.seen c.own.new.self.seen c.args.word c.own.result c.own.ensures.ok c.requires.word.not_null)

pub returns-clause-err : goal.returns-clause-err
returns-clause-err g c =
    subst (λ (s : StoreView g.row.D.Denot). OnErr c.own.result (store_view c.self.inside.id c.self.inside.config (tables_of c.self.inside.interned c.self.inside.asked) c.own.new.self.seen c.self.inside.tries ≡ s)) c.self.view_is
    (added_err g.H.GcHeap.KIND c.self.inside.id c.self.inside.config (tables_of c.self.inside.interned c.self.inside.asked) c.self.inside.tries c.self.inside.owner.seen c.own.new.self.seen c.args.word c.own.result c.own.ensures.err)
