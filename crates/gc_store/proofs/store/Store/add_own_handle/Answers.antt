use Rattle.std.proofs.Common.{◌≡◌, ◌+◌, List, Some, true, get_or, sym, ap, ◌∙◌, subst}
use Rattle.gc_owner.specs.declared.entry.OwnedEntry.{OwnedEntry}
use Rattle.gc_owner.specs.RootColumns.{empty_entry}
use Rattle.gc_model.specs.Stores.{StoreView}
use Rattle.gc_model.specs.Accounts.{HoldsAccount}
use Rattle.gc_store.specs.Roots.{is_of_store}
use Rattle.gc_store.specs.OwnedRoots.{IsHandleOf}
use Rattle.gc_store.specs.OwnedWords.{FindsHeld, GivesMore}
use Rattle.gc_store.specs.Stores.{store_view, tables_of}
use Rattle.gc_store.proofs.OwningHandles.{of_none, of_root, handle_added, sound_changed}
use Rattle.gc_store.proofs.store.Store.add_own_handle.Given as given
use Rattle.gc_store.proofs.store.Store.add_own_handle.Goals as goal
use Rattle.gc_store.proofs.store.Store.add_own_handle.Goals.{After-owned}

-- the store's view, by its parts
abbrev view : (g : given.Over) (c : After-owned g) → StoreView g.row.D.Denot
view g c = store_view c.self.inside.id c.self.inside.config (tables_of c.self.inside.interned c.self.inside.asked) c.self.inside.owner.seen c.self.inside.tries

own : (g : given.Over) (c : After-owned g) → is_of_store (view g c) c.args.handle ≡ true
own g c = subst (λ (s : StoreView g.row.D.Denot). is_of_store s c.args.handle ≡ true) (sym c.self.view_is) c.requires

finds : (g : given.Over) (c : After-owned g) → FindsHeld (view g c) c.args.handle (Some c.in-Some.index)
finds g c =
    subst (λ (s : StoreView g.row.D.Denot). FindsHeld s c.args.handle (Some c.in-Some.index)) (sym c.self.view_is)
    (subst (FindsHeld c.args.self.now c.args.handle) c.in-Some.is c.held_place.ensures)

-- how many handles it has
same : (g : given.Over) (c : After-owned g) → (get_or c.owned.result.now c.in-Some.index empty_entry).handles ≡ (get_or c.self.inside.owner.seen.roots.owned c.in-Some.index empty_entry).handles
same g c = ap (λ (es : List OwnedEntry). (get_or es c.in-Some.index empty_entry).handles) c.owned.ensures

pub invariant_of-self : goal.invariant_of-self
invariant_of-self g c =
    let at = (goal.at.invariant_of-self g c).After-owned in
    let sound = c.self.invariant in
    let fewer = subst (GivesMore (get_or c.owned.result.now c.in-Some.index empty_entry).handles) c.in-Some-more_handles.is c.more_handles.ensures in
    sound_changed g.H.GcHeap.KIND c.self.inside.id c.self.inside.config (tables_of c.self.inside.interned c.self.inside.asked) c.self.inside.tries c.self.inside.owner.seen c.set_handles.new.self.seen c.args.handle (own g at) c.in-Some.index (finds g at) c.self.inside.slot_counts.items _ c.set_handles.ensures sound _ _
    (handle_added g.H.GcHeap.KIND c.self.inside.id c.self.inside.config (tables_of c.self.inside.interned c.self.inside.asked) c.self.inside.tries c.self.inside.owner.seen c.set_handles.new.self.seen c.args.handle (own g at) c.in-Some.index (finds g at) _ (fewer.0 ∙ ap (λ n. n + 1) (same g at)) c.set_handles.ensures sound.table sound.account sound.holds)

pub returns-in-None-more_handles-clause-adds : goal.returns-in-None-more_handles-clause-adds
returns-in-None-more_handles-clause-adds g c = λ t a there.
    let at = (goal.at.returns-in-None-more_handles-clause-adds g c).After-owned in
    let holds = subst (λ (s : StoreView g.row.D.Denot). HoldsAccount g.H.GcHeap.KIND s t a) (sym c.self.view_is) there in
    let of = of_root g.H.GcHeap.KIND (view g at) t holds.place holds.holds c.args.handle (own g at) c.in-Some.index (finds g at) in
    let most = subst (GivesMore (get_or c.owned.result.now c.in-Some.index empty_entry).handles) c.in-None-more_handles.is c.more_handles.ensures in
    (of.0, (subst (λ (s : StoreView g.row.D.Denot). IsHandleOf s t c.args.handle of.0) c.self.view_is of.1.0, of.1.1 ∙ sym (same g at) ∙ most))

pub returns-in-Some-more_handles-clause-adds : goal.returns-in-Some-more_handles-clause-adds
returns-in-Some-more_handles-clause-adds g c = λ t a there.
    let at = (goal.at.returns-in-Some-more_handles-clause-adds g c).After-owned in
    let holds = subst (λ (s : StoreView g.row.D.Denot). HoldsAccount g.H.GcHeap.KIND s t a) (sym c.self.view_is) there in
    let of = of_root g.H.GcHeap.KIND (view g at) t holds.place holds.holds c.args.handle (own g at) c.in-Some.index (finds g at) in
    let fewer = subst (GivesMore (get_or c.owned.result.now c.in-Some.index empty_entry).handles) c.in-Some-more_handles.is c.more_handles.ensures in (
      of.0,
      (
        subst (λ (s : StoreView g.row.D.Denot). IsHandleOf s t c.args.handle of.0) c.self.view_is of.1.0,
        (
          λ full. fewer.1 (same g at ∙ sym of.1.1 ∙ full),
          handle_added g.H.GcHeap.KIND c.self.inside.id c.self.inside.config (tables_of c.self.inside.interned c.self.inside.asked) c.self.inside.tries c.self.inside.owner.seen c.set_handles.new.self.seen c.args.handle (own g at) c.in-Some.index (finds g at) _ (fewer.0 ∙ ap (λ n. n + 1) (same g at)) c.set_handles.ensures t a holds,
        ),
      ),
    )

pub returns-in-None-clause-adds : goal.returns-in-None-clause-adds
returns-in-None-clause-adds g c = λ t a there.
    (c.requires, of_none g.H.GcHeap.KIND c.args.self.now t there.place there.holds c.args.handle c.requires (subst (FindsHeld c.args.self.now c.args.handle) c.in-None.is c.held_place.ensures))
