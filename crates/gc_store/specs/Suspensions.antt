-- A store that was taken out of its place while its heap is collected in increments.
use Rattle.std.specs.Prelude.{◌≡◌, ℕ, Bool, true, false, List, length}
use Rattle.gc_types.specs.declared.kind.Layouts.{Layouts}
use Rattle.gc_heap.specs.Collection.{Start}
use Rattle.gc_owner.specs.RootColumns.{AreFrames}
use Rattle.gc_owner.specs.Owners.{OwnerView, OwnerValue, Kind, Trims, IsOwnerUnderWay}
use Rattle.gc_model.specs.Stores.{StoreView}
use Rattle.gc_model.specs.Shown.{shown}
use Rattle.gc_values.specs.declared.engine.StoreId.{StoreId}
use Rattle.gc_values.specs.declared.config.HeapConfig.{HeapConfig}
use Rattle.gc_store.specs.Stores.{StoreTables, store_view, IsSoundStore}

-- Such a store: its owner, what would be seen of it in its place, and whether its collection was begun.
pub record SuspendedView (H S D : Type 0) : Type 0 where
  pub owner : OwnerValue H S D
  pub store : StoreView D
  pub begun : Bool

-- the one with these parts
abbrev pub suspended_view : {H S D : Type 0} → StoreId → HeapConfig → StoreTables → OwnerValue H S D → ℕ → Bool → SuspendedView H S D
suspended_view id config tables owner tries begun = record { owner = owner; store = store_view id config tables owner.seen tries; begun = begun }

-- a collection began at an owner whose store was sound, beside which the store has these parts
pub record BeganSound {D : Type 0} (layouts : Layouts) (counts : List ℕ) (s : StoreView D) (from : OwnerView D) : Type 0 where
  pub in_frames : AreFrames from.roots.frames (length from.roots.slots)
  pub attached : from.heap.attached ≡ true
  pub sound : IsSoundStore D layouts counts from (shown s from)

-- the owner is what a trim left of one whose store was sound
pub record TrimsSound {H S D : Type 0} (k : Kind H S) (counts : List ℕ) (c : SuspendedView H S D) : Type 0 where
  pub from : OwnerValue H S D
  pub began : BeganSound k.layouts counts c.store from.seen
  pub trims : Trims k.layouts from.seen c.owner.seen

-- a collection is under way that began where the store was sound
pub record GoesSound {H S D : Type 0} (k : Kind H S) (counts : List ℕ) (c : SuspendedView H S D) : Type 0 where
  pub from : OwnerValue H S D
  pub began : BeganSound k.layouts counts c.store from.seen
  pub start : Start
  pub done : ℕ
  pub counted : Bool
  pub way : IsOwnerUnderWay k start done counted from c.owner

-- The store is sound and its collection wasn't begun, with the owner trimmed where the heap is made; or the collection is under way; or it is
-- over, and the store is sound again.
pub data IsSuspended {H S D : Type 0} (k : Kind H S) (counts : List ℕ) (c : SuspendedView H S D) : Type 0 where
  waits : c.begun ≡ false → IsSoundStore D k.layouts counts c.owner.seen c.store → (c.owner.seen.heap.attached ≡ true → TrimsSound k counts c)
      → IsSuspended k counts c
  goes : c.begun ≡ true → GoesSound k counts c → IsSuspended k counts c
  is_over : c.begun ≡ true → IsSoundStore D k.layouts counts c.owner.seen c.store → IsSuspended k counts c
