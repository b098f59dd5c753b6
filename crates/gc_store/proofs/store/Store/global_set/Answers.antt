use Rattle.std.proofs.Common.{Ok, sym, subst}
use Rattle.gc_model.specs.Stores.{StoreView}
use Rattle.gc_model.specs.Holds.{Holds}
use Rattle.gc_model.specs.Accounts.{IsAccount}
use Rattle.gc_store.specs.Slots.{FindsWord}
use Rattle.gc_store.specs.Stores.{store_view, tables_of}
use Rattle.gc_store.proofs.Pushing.{word_in_heap}
use Rattle.gc_store.proofs.SlotLemmas.{global_was_set, sound_global_set}
use Rattle.gc_store.proofs.store.Store.global_set.Given as given
use Rattle.gc_store.proofs.store.Store.global_set.Goals as goal
use Rattle.gc_store.proofs.store.Store.global_set.Goals.{In-Ok}

-- the store's view, by its parts
abbrev view : (g : given.Over) (c : In-Ok g) → StoreView g.row.D.Denot
view g c = store_view c.self.inside.id c.self.inside.config (tables_of c.self.inside.interned c.self.inside.asked) c.self.inside.owner.seen c.self.inside.tries

-- the word is that of what the handle names in the table by which the store is sound
found : (g : given.Over) (c : In-Ok g) → FindsWord (view g c) c.self.invariant.table c.self.invariant.holds.place c.args.r (Ok c.in-Ok.word)
found g c =
    subst (λ (s : StoreView g.row.D.Denot). FindsWord s c.self.invariant.table c.self.invariant.holds.place c.args.r (Ok c.in-Ok.word)) (sym c.self.view_is)
    (c.in-Ok.ensures c.self.invariant.table c.self.invariant.holds.place
    (subst (λ (s : StoreView g.row.D.Denot). Holds g.H.GcHeap.KIND s c.self.invariant.table c.self.invariant.holds.place) c.self.view_is c.self.invariant.holds.holds))

pub set_global-requires-clause-word : goal.set_global-requires-clause-word
set_global-requires-clause-word g c =
    let at = (goal.at.set_global-requires-clause-word g c).In-Ok in
    let finds = found g at in
    word_in_heap g.H.GcHeap.KIND (view g at) c.self.invariant.table c.self.invariant.holds.place finds.0 c.in-Ok.word c.self.invariant.holds.holds finds.1.1

pub invariant_of-self : goal.invariant_of-self
invariant_of-self g c =
    let at = (goal.at.invariant_of-self g c).In-Ok in
    sound_global_set g.H.GcHeap.KIND c.self.inside.id c.self.inside.config (tables_of c.self.inside.interned c.self.inside.asked) c.self.inside.tries c.self.inside.owner.seen c.set_global.new.self.seen c.args.global c.args.class c.in-Ok.word c.set_global.ensures
    c.self.inside.slot_counts.items c.args.r c.self.invariant (found g at)

pub returns-clause-sets : goal.returns-clause-sets
returns-clause-sets g c = λ t a slot holds there.
    let at = (goal.at.returns-clause-sets g c).In-Ok in
    let finds = c.in-Ok.ensures t holds.place holds.holds in (
      finds.0,
      (
        finds.1.0,
        global_was_set g.H.GcHeap.KIND c.self.inside.id c.self.inside.config (tables_of c.self.inside.interned c.self.inside.asked) c.self.inside.tries c.self.inside.owner.seen c.set_global.new.self.seen c.args.global c.args.class c.in-Ok.word c.set_global.ensures
            t holds.place a finds.0 (subst (λ (s : StoreView g.row.D.Denot). Holds g.H.GcHeap.KIND s t holds.place) (sym c.self.view_is) holds.holds)
            (subst (λ (s : StoreView g.row.D.Denot). IsAccount g.H.GcHeap.KIND s holds.place a) (sym c.self.view_is) holds.account) finds.1.1,
      ),
    )
