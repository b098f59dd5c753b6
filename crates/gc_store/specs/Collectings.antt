-- A collection of a store's heap in increments, from where it was asked for to its end.
use Rattle.std.specs.Prelude.{◌≡◌, ◌⊎◌, ℕ, ◌+◌, ◌-◌, ◌^◌, ◌<◌, ◌≤◌, Bool, true, false, length}
use Rattle.std.specs.List.{Contains}
use Rattle.gc_types.specs.declared.kind.Layouts.{Layouts}
use Rattle.gc_view.specs.Heaps.{SameHeld}
use Rattle.gc_heap.specs.Content.{IsHeap}
use Rattle.gc_heap.specs.Collection.{Start}
use Rattle.gc_heap.specs.declared.collection.GcProgress.{GcProgress}
use Rattle.gc_heap.specs.declared.collection.GcProgress.TheVariants as progress
use Rattle.gc_owner.specs.declared.entry.OwnedEntry.{OwnedEntry}
use Rattle.gc_owner.specs.RootColumns.{AreFrames}
use Rattle.gc_owner.specs.Owners.{OwnerView, OwnerValue, Kind, Trims, IsOwnerUnderWay, start_of}
use Rattle.gc_owner.specs.Counting.{CountsSteps}
use Rattle.gc_model.specs.Allocation.{Limits}
use Rattle.gc_model.specs.Table.{Table, start}
use Rattle.gc_model.specs.Stores.{StoreView, empty_store}
use Rattle.gc_model.specs.Holds.{HoldsTable, HoldsKept}
use Rattle.gc_model.specs.Accounts.{Account, no_account, HoldsAccount}
use Rattle.gc_model.specs.Policy.{policy_state}
use Rattle.gc_model.specs.Shown.{shown}
use Rattle.gc_store.specs.Expansion.{CollectsStore}
use Rattle.gc_store.specs.IncrementCounts.{TakesIncrements}
use Rattle.gc_store.specs.Settled.{IsSettled}
use Rattle.gc_store.specs.Stores.{IsSameStore}
use Rattle.gc_store.specs.Suspensions.{SuspendedView}

-- the table with nothing in it, which may get no root any more: as many were made, and as many scopes ended, as are counted
abbrev pub spent_table : {D : Type 0} → ℕ → ℕ → ℕ → Table D
spent_table first max_scoped max_owned = record (start first max_scoped max_owned) { drops = 2 ^ 64 - 1; owns = 2 ^ 64 - 1 }

-- The store is what stands in the place of one whose heap is collected: it holds that table.
abbrev pub IsSpent : (D : Type 0) → Layouts → StoreView D → Type 0
IsSpent D layouts s = HoldsAccount layouts s (spent_table {D = D} s.first s.max_scoped s.max_owned) no_account

-- what is seen of that store: nothing, under the id and the configuration of the one whose place it takes
abbrev pub spent_from : {D : Type 0} → StoreView D → StoreView D
spent_from s = record (empty_store s.engine s.number s.first s.max_scoped s.max_owned s.alloc_counter) { generation = 2 ^ 64 - 1; owns = 2 ^ 64 - 1 }

-- The store was collected, as `gc` does it; one whose heap isn't made is as it was.
pub record IsCollected {D : Type 0} (layouts : Layouts) (old new : StoreView D) : Type 0 where
  pub kept : (t : Table D) → HoldsTable layouts old t → HoldsKept layouts new t
  pub collects : (t : Table D) (a : Account) (limits : Limits) → old.heap.attached ≡ true → HoldsAccount layouts old t a
      → CollectsStore layouts (policy_state t a limits) new
  pub settled : old.heap.attached ≡ true → IsSettled layouts new
  pub unmade : old.heap.attached ≡ false → new ≡ old
  pub same : IsSameStore old new
  pub spare : old.spare ≤ new.spare

-- The owned roots without handles were dropped, where the heap is made; nothing was collected.
pub record IsTrimmedStore {D : Type 0} (layouts : Layouts) (old new : StoreView D) : Type 0 where
  pub holds : (t : Table D) (a : Account) → HoldsAccount layouts old t a → HoldsAccount layouts new t a
  pub held : new.heap.attached ≡ true → (e : OwnedEntry) → Contains new.owned e → 0 < e.handles
  pub objects : SameHeld old.heap new.heap
  pub unmade : old.heap.attached ≡ false → new ≡ old
  pub same : IsSameStore old new
  pub spare : old.spare ≤ new.spare

-- The store was one with that owner, whose heap is made.
pub record WasStore {D : Type 0} (layouts : Layouts) (old : StoreView D) (from : OwnerView D) (now : StoreView D) : Type 0 where
  pub shows : shown now from ≡ old
  pub in_frames : AreFrames from.roots.frames (length from.roots.slots)
  pub is_heap : IsHeap layouts from.heap
  pub attached : from.heap.attached ≡ true

-- the owner is what a trim left of that of the store
pub record IsTrimmedFrom {H S D : Type 0} (k : Kind H S) (old : StoreView D) (c : SuspendedView H S D) : Type 0 where
  pub from : OwnerValue H S D
  pub was : WasStore k.layouts old from.seen c.store
  pub trims : Trims k.layouts from.seen c.owner.seen

-- the store's collection was asked for, and wasn't begun
pub record IsAsked {H S D : Type 0} (k : Kind H S) (old : StoreView D) (c : SuspendedView H S D) : Type 0 where
  pub begun : c.begun ≡ false
  pub trimmed : ((old.heap.attached ≡ false) × (c.store ≡ old)) ⊎ IsTrimmedFrom k old c

-- the store's collection is under way, after so many increments
pub record IsRunning {H S D : Type 0} (k : Kind H S) (old : StoreView D) (done : ℕ) (counted : Bool) (c : SuspendedView H S D) : Type 0 where
  pub begun : c.begun ≡ true
  pub from : OwnerValue H S D
  pub was : WasStore k.layouts old from.seen c.store
  pub at : Start
  pub way : IsOwnerUnderWay k at done counted from c.owner

-- The collection of that store was asked for and isn't complete: so many increments were done, each of them counted or not.
abbrev pub IsOpen : {H S D : Type 0} → Kind H S → StoreView D → ℕ → Bool → SuspendedView H S D → Type 0
IsOpen k old done counted c = ((done ≡ 0) × IsAsked k old c) ⊎ ((0 < done) × IsRunning k old done counted c)

-- It is complete.
pub record IsClosed {H S D : Type 0} (k : Kind H S) (old : StoreView D) (c : SuspendedView H S D) : Type 0 where
  pub begun : c.begun ≡ true
  pub idle : c.owner.seen.idle ≡ true
  pub collected : IsCollected k.layouts old c.store

-- A collection takes more than so many increments, by the number of objects that the roots reach.
abbrev pub TakesMore : {D : Type 0} → Layouts → StoreView D → ℕ → Type 0
TakesMore {D} layouts old done = (t : Table D) → HoldsTable layouts old t → (number : ℕ) → TakesIncrements layouts t number → done < number

-- A collection takes so many increments, where the heap is made.
abbrev pub TakesAsMany : {D : Type 0} → Layouts → StoreView D → ℕ → Type 0
TakesAsMany {D} layouts old done = (t : Table D) → old.heap.attached ≡ true → HoldsTable layouts old t → TakesIncrements layouts t done

-- what an increment answers and leaves, with which so many were done
abbrev pub DoesIncrement : {H S D : Type 0} → Kind H S → StoreView D → ℕ → SuspendedView H S D → GcProgress → Type 0
DoesIncrement k old done c progress.Complete = IsClosed k old c × TakesAsMany k.layouts old done
DoesIncrement k old done c progress.Continue = IsOpen k old done false c × TakesMore k.layouts old done

-- The store that is given back: one whose collection was asked for and not begun is but trimmed; one whose collection was begun is collected.
pub record GivesStore {H S D : Type 0} (k : Kind H S) (c : SuspendedView H S D) (new : StoreView D) : Type 0 where
  pub untouched : (old : StoreView D) (counted : Bool) → IsOpen k old 0 counted c → IsTrimmedStore k.layouts old new
  pub ended : (old : StoreView D) (done : ℕ) (counted : Bool) → IsOpen k old (done + 1) counted c → IsCollected k.layouts old new
  pub over : (old : StoreView D) → IsClosed k old c → IsCollected k.layouts old new

-- The collection of that store is complete, all of whose increments were counted: those before took so many steps, and a counter rose by the
-- steps of the others. How many it takes goes by what the roots that a trim left reach.
pub record CountsCollection {D : Type 0} (layouts : Layouts) (old : StoreView D) (earlier before after : ℕ) : Type 0 where
  pub from : OwnerView D
  pub now : StoreView D
  pub was : WasStore layouts old from now
  pub trimmed : OwnerView D
  pub trims : Trims layouts from trimmed
  pub counts : CountsSteps layouts (start_of trimmed) earlier before after
