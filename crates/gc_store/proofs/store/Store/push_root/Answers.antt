use Rattle.std.proofs.Common.{◌≡◌, false, ap, sym, ◌∙◌, subst}
use Rattle.gc_model.specs.Stores.{StoreView}
use Rattle.gc_model.specs.Holds.{Holds}
use Rattle.gc_heap.specs.Collection.{IsWordOf}
use Rattle.gc_owner.specs.Owners.{OwnerView}
use Rattle.gc_model.specs.Accounts.{IsAccount}
use Rattle.gc_values.specs.declared.root.RootSlot.TheVariants as slot
use Rattle.gc_store.specs.Roots.{IsRootWord}
use Rattle.gc_store.specs.Stores.{store_view, is_full, tables_of}
use Rattle.gc_store.specs.Staying.{OnlyAdds}
use Rattle.gc_store.proofs.Pushing.{PushesWord, word_in_heap, sound_pushed, pushes_root, pushes_there, pushes_only}
use Rattle.gc_store.proofs.store.Store.push_root.Given as given
use Rattle.gc_store.proofs.store.Store.push_root.Goals as goal
use Rattle.gc_store.proofs.store.Store.push_root.Goals.{After-reserve, After-push-index}

-- the store's view, by its parts
abbrev view : (g : given.Over) (c : After-reserve g) → StoreView g.row.D.Denot
view g c = store_view c.self.inside.id c.self.inside.config (tables_of c.self.inside.interned c.self.inside.asked) c.self.inside.owner.seen c.self.inside.tries

root_word : (g : given.Over) (c : After-reserve g) → IsRootWord g.row.D.Denot g.H.GcHeap.KIND (view g c) c.args.word
root_word g c = subst (λ (s : StoreView g.row.D.Denot). IsRootWord g.row.D.Denot g.H.GcHeap.KIND s c.args.word) (sym c.self.view_is) c.requires

free : (g : given.Over) (c : After-reserve g) → is_full (view g c) ≡ false
free g c = ap is_full c.self.view_is ∙ sym c.roots_full.ensures ∙ c.if-roots_full.false

pub push-index-requires-clause-word : goal.push-index-requires-clause-word
push-index-requires-clause-word g c =
    let at = (goal.at.push-index-requires-clause-word g c).After-reserve in
    let is = root_word g at in
    subst (λ (v : OwnerView g.row.D.Denot). IsWordOf v.heap c.args.word) (sym c.reserve.ensures.rest) (word_in_heap g.H.GcHeap.KIND (view g at) is.table is.place is.root c.args.word is.holds is.is_word)

pushes : (g : given.Over) (c : After-push-index g) → PushesWord c.self.inside.owner.seen c.reserve.new.self.seen c.push-index.new.self.seen c.args.word
pushes g c = record { reserved = c.reserve.ensures.rest; pushed = c.push-index.ensures.pushed }

pub invariant_of-self-2 : goal.invariant_of-self-2
invariant_of-self-2 g c =
    let at = (goal.at.invariant_of-self-2 g c).After-push-index in
    let before = (goal.at.After-push-index g at).After-reserve in
    sound_pushed g.H.GcHeap.KIND c.self.inside.id c.self.inside.config (tables_of c.self.inside.interned c.self.inside.asked) c.self.inside.tries c.self.inside.owner.seen c.reserve.new.self.seen c.push-index.new.self.seen c.args.word
    (pushes g at) (root_word g before).not_null (free g before) c.self.inside.slot_counts.items c.self.invariant (root_word g before)

pub returns-clause-pushes : goal.returns-clause-pushes
returns-clause-pushes g c t place a r holds account is =
    let at = (goal.at.returns-clause-pushes g c).After-push-index in
    let before = (goal.at.After-push-index g at).After-reserve in
    pushes_root g.H.GcHeap.KIND c.self.inside.id c.self.inside.config (tables_of c.self.inside.interned c.self.inside.asked) c.self.inside.tries c.self.inside.owner.seen c.reserve.new.self.seen c.push-index.new.self.seen c.args.word
    (pushes g at) (root_word g before).not_null (free g before) c.scoped_handle.result
    (c.scoped_handle.ensures ∙ (λ i. record { store_id = c.self.inside.id; generation = c.generation-generation.ensures i; slot = slot.Scoped (c.push-index.ensures.index i) }))
    t place a r (subst (λ (s : StoreView g.row.D.Denot). Holds g.H.GcHeap.KIND s t place) (sym c.self.view_is) holds) (subst (λ (s : StoreView g.row.D.Denot). IsAccount g.H.GcHeap.KIND s place a) (sym c.self.view_is) account) is

pub returns-clause-there : goal.returns-clause-there
returns-clause-there g c t place a r there is =
    let at = (goal.at.returns-clause-there g c).After-push-index in
    let before = (goal.at.After-push-index g at).After-reserve in
    pushes_there g.H.GcHeap.KIND c.self.inside.id c.self.inside.config (tables_of c.self.inside.interned c.self.inside.asked) c.self.inside.tries c.self.inside.owner.seen c.reserve.new.self.seen c.push-index.new.self.seen c.args.word
    (pushes g at) (root_word g before).not_null (free g before)
    t place a r (subst (λ (s : StoreView g.row.D.Denot). Holds g.H.GcHeap.KIND s t place) (sym c.self.view_is) there.0) (subst (λ (s : StoreView g.row.D.Denot). IsAccount g.H.GcHeap.KIND s place a) (sym c.self.view_is) there.1) is

pub returns-clause-adds : goal.returns-clause-adds
returns-clause-adds g c =
    let at = (goal.at.returns-clause-adds g c).After-push-index in
    let before = (goal.at.After-push-index g at).After-reserve in
    subst (λ (s : StoreView g.row.D.Denot). OnlyAdds s (store_view c.self.inside.id c.self.inside.config (tables_of c.self.inside.interned c.self.inside.asked) c.push-index.new.self.seen c.self.inside.tries)) c.self.view_is
    (pushes_only g.H.GcHeap.KIND c.self.inside.id c.self.inside.config (tables_of c.self.inside.interned c.self.inside.asked) c.self.inside.tries c.self.inside.owner.seen c.reserve.new.self.seen c.push-index.new.self.seen c.args.word
    (pushes g at) (root_word g before).not_null (free g before))
