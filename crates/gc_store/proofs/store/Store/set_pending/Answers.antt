use Rattle.std.proofs.Common.{Some, ap, sym, ◌∙◌, subst}
use Rattle.gc_model.specs.Table.{Table}
use Rattle.gc_model.specs.Stores.{StoreView}
use Rattle.gc_model.specs.Holds.{Holds, Placing, ThrownBy}
use Rattle.gc_model.specs.Accounts.{IsAccount}
use Rattle.gc_store.specs.Roots.{word_of, NamesReference}
use Rattle.gc_store.specs.Thrown.{NamesException}
use Rattle.gc_store.specs.Stores.{store_view, tables_of}
use Rattle.gc_store.proofs.Pushing.{word_in_heap}
use Rattle.gc_store.proofs.HandleWords.{NamesWord, names_word}
use Rattle.gc_store.proofs.PendingLemmas.{refuses_pending, is_thrown, pending_was_set, sound_pending}
use Rattle.gc_store.proofs.store.Store.set_pending.Given as given
use Rattle.gc_store.proofs.store.Store.set_pending.Goals as goal
use Rattle.gc_store.proofs.store.Store.set_pending.Goals.{In-Ok}

-- the store's view, by its parts
abbrev view : (g : given.Over) (c : In-Ok g) → StoreView g.row.D.Denot
view g c = store_view c.self.inside.id c.self.inside.config (tables_of c.self.inside.interned c.self.inside.asked) c.self.inside.owner.seen c.self.inside.tries

-- what the handle names in a table that the store holds
names : (g : given.Over) (c : In-Ok g) (t : Table g.row.D.Denot) (place : Placing) → Holds g.H.GcHeap.KIND (view g c) t place → NamesWord (view g c) t place c.args.exception c.in-Ok.word
names g c t place holds =
    names_word g.H.GcHeap.KIND (view g c) t place holds c.args.exception c.in-Ok.word
    (ap (λ (s : StoreView g.row.D.Denot). word_of s c.args.exception) c.self.view_is ∙ sym c.word_of.ensures ∙ c.in-Ok.is)

-- which is an exception
thrown : (g : given.Over) (c : In-Ok g) (t : Table g.row.D.Denot) (place : Placing) (holds : Holds g.H.GcHeap.KIND (view g c) t place) → ThrownBy t.objects place (Some (names g c t place holds).root) c.in-Ok.word
thrown g c t place holds =
    let is = names g c t place holds in
    is_thrown t.objects place is.root c.in-Ok.word is.is_word is.not_null
    ((subst (λ (s : StoreView g.row.D.Denot). NamesException g.row.D.Denot g.H.GcHeap.KIND s c.args.exception) (sym c.self.view_is) c.requires) t is.root (place, holds) is.named)

pub set_pending-requires-clause-word : goal.set_pending-requires-clause-word
set_pending-requires-clause-word g c =
    let at = (goal.at.set_pending-requires-clause-word g c).In-Ok in
    let t = c.self.invariant.table in
    let place = c.self.invariant.holds.place in
    let holds = c.self.invariant.holds.holds in
    let is = names g at t place holds in
    word_in_heap g.H.GcHeap.KIND (view g at) t place is.root c.in-Ok.word holds is.is_word

pub invariant_of-self : goal.invariant_of-self
invariant_of-self g c =
    let at = (goal.at.invariant_of-self g c).In-Ok in
    sound_pending g.H.GcHeap.KIND c.self.inside.id c.self.inside.config (tables_of c.self.inside.interned c.self.inside.asked) c.self.inside.tries c.self.inside.owner.seen c.set_pending.new.self.seen c.in-Ok.word c.set_pending.ensures
    c.self.inside.slot_counts.items (Some (names g at c.self.invariant.table c.self.invariant.holds.place c.self.invariant.holds.holds).root) c.self.invariant
    (thrown g at c.self.invariant.table c.self.invariant.holds.place c.self.invariant.holds.holds)

pub returns-in-Ok-clause-sets : goal.returns-in-Ok-clause-sets
returns-in-Ok-clause-sets g c = λ t a held.
    let at = (goal.at.returns-in-Ok-clause-sets g c).In-Ok in
    let holds = subst (λ (s : StoreView g.row.D.Denot). Holds g.H.GcHeap.KIND s t held.place) (sym c.self.view_is) held.holds in
    let is = names g at t held.place holds in (
      is.root,
      (
        subst (λ (s : StoreView g.row.D.Denot). NamesReference s t c.args.exception is.root) c.self.view_is is.named,
        pending_was_set g.H.GcHeap.KIND c.self.inside.id c.self.inside.config (tables_of c.self.inside.interned c.self.inside.asked) c.self.inside.tries c.self.inside.owner.seen c.set_pending.new.self.seen c.in-Ok.word c.set_pending.ensures
            t held.place a (Some is.root) holds (subst (λ (s : StoreView g.row.D.Denot). IsAccount g.H.GcHeap.KIND s held.place a) (sym c.self.view_is) held.account) (thrown g at t held.place holds),
      ),
    )

pub returns-in-Err-clause-sets : goal.returns-in-Err-clause-sets
returns-in-Err-clause-sets g c = λ t a held.
    refuses_pending g.H.GcHeap.KIND c.args.self.now t held.place held.holds c.args.exception a _ c.in-Err.fault (sym c.word_of.ensures ∙ c.in-Err.is)
