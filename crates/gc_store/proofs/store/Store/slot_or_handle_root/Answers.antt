use Rattle.std.proofs.Common.{◌≡◌, ◌-◌, ◌++◌, List, length, slice_get, sym, ap, ◌∙◌}
use Rattle.std.specs.List.{flat_map}
use Rattle.gc_owner.specs.declared.entry.SlotEntry.{SlotEntry}
use Rattle.gc_model.specs.Shown.{frames_of}
use Rattle.gc_model.proofs.Frames.{frame_words}
use Rattle.gc_model.specs.Stores.{StoreView}
use Rattle.gc_store.specs.RootWords.{slot_words, slot_roots, handle_root_words}
use Rattle.gc_store.proofs.RootNumbers.{slot_front, slot_behind}
use Rattle.gc_store.proofs.store.Store.slot_or_handle_root.Given as given
use Rattle.gc_store.proofs.store.Store.slot_or_handle_root.Goals as goal
use Rattle.gc_store.proofs.store.Store.slot_or_handle_root.Goals.{After-slots-slots}

-- the frames of the store, by the owner's slots
abbrev frames : (g : given.Over) (c : After-slots-slots g) → List (List SlotEntry)
frames g c = frames_of c.self.inside.owner.seen.roots.frames c.self.inside.owner.seen.roots.slots

words : (g : given.Over) (c : After-slots-slots g) → flat_map slot_words (frames g c) ≡ slot_words c.slots-slots.result.now
words g c = frame_words c.self.inside.owner.seen.roots.slots c.self.inside.owner.seen.roots.frames c.is_ready.ensures.frames ∙ ap slot_words (sym c.slots-slots.ensures)

-- what stands at a number, as the store is seen
seen : (g : given.Over) (c : After-slots-slots g) → slice_get (slot_roots 0 (frames g c) ++ handle_root_words c.self.inside.owner.seen.roots.owned c.self.inside.owner.seen.roots.scoped) c.args.number
    ≡ slice_get (slot_roots 0 c.args.self.now.frames ++ handle_root_words c.args.self.now.owned c.args.self.now.scoped) c.args.number
seen g c = ap (λ (s : StoreView g.row.D.Denot). slice_get (slot_roots 0 s.frames ++ handle_root_words s.owned s.scoped) c.args.number) c.self.view_is

pub returns-then-number-slots : goal.returns-then-number-slots
returns-then-number-slots g c =
    let at = (goal.at.returns-then-number-slots g c).After-slots-slots in
    c.slot_root.ensures (frames g at) (c.deref.ensures.value ∙ c.self.invariant.frames) (words g at)
    ∙ sym (slot_front (frames g at) c.slots-slots.result.now _ c.args.number (words g at) c.if-number-slots.true)
    ∙ seen g at

pub returns : goal.returns
returns g c =
    let at = (goal.at.returns g c).After-slots-slots in
    c.handle_root.ensures
    ∙ (λ i. slice_get (handle_root_words (c.owned.ensures i) (c.scoped.ensures i)) (c.args.number - length c.slots-slots.result.now))
    ∙ sym (slot_behind (frames g at) c.slots-slots.result.now _ c.args.number (words g at) c.if-number-slots.false)
    ∙ seen g at
