-- What a growth that was asked for, and a collection for want of room, answer and leave.
use Rattle.std.specs.Prelude.{◌≡◌, ℕ, ◌-◌, ◌*◌, ◌<◌, ◌≤◌, ◌⊎◌, Bool, true, false, Result, Ok, Err}
use Rattle.gc_types.specs.declared.kind.Layouts.{Layouts}
use Rattle.gc_view.specs.Pages.{page}
use Rattle.gc_model.specs.Allocation.{Limits, Grows}
use Rattle.gc_model.specs.Stores.{StoreView}
use Rattle.gc_store.specs.declared.grow.GrowFault.{GrowFault}
use Rattle.gc_store.specs.declared.grow.GrowFault.TheVariants as fault
use Rattle.gc_model.specs.Accounts.{HoldsAccount}
use Rattle.gc_store.specs.Places.{MayGetPages}
use Rattle.gc_model.specs.Policy.{PolicyState, ExpandsTable, Expanded, CollectsTable, allocated_bytes}

-- a growth by so many bytes was granted or refused
pub record ExpandsStore {D : Type 0} (layouts : Layouts) (bytes : ℕ) (p : PolicyState D) (limits' : Limits) (granted : Bool) (new : StoreView D) : Type 0 where
  pub after : PolicyState D
  pub expands : ExpandsTable layouts bytes p granted after
  pub grows : Grows p.limits.limit bytes p.table granted after.table
  pub holds : HoldsAccount layouts new after.table after.account
  pub limits : limits' ≡ after.limits

-- memory was wanting on the way
pub record WantsPages {D : Type 0} (layouts : Layouts) (bytes : ℕ) (p : PolicyState D) (limits' : Limits) (new : StoreView D) : Type 0 where
  pub after : PolicyState D
  pub expanded : Expanded layouts bytes p after
  pub pages : MayGetPages p.limits.limit bytes p.table after.table
  pub holds : HoldsAccount layouts new after.table after.account
  pub limits : limits' ≡ after.limits

-- what a growth by so many bytes answers and leaves
abbrev pub GrowsStore : {D : Type 0} → Layouts → ℕ → PolicyState D → Limits → Result (Unit {0}) GrowFault → StoreView D → Type 0
GrowsStore layouts bytes p limits' (Ok done) new = ExpandsStore layouts bytes p limits' true new
GrowsStore layouts bytes p limits' (Err fault.GcHeapGrowthFailed) new = ExpandsStore layouts bytes p limits' false new
GrowsStore layouts bytes p limits' (Err fault.Memory) new = WantsPages layouts bytes p limits' new

-- a collection ran where the heap is made
abbrev pub MayCollectTable : {D : Type 0} → Layouts → PolicyState D → PolicyState D → Type 0
MayCollectTable layouts p q = ((p.table.made ≡ true) × CollectsTable layouts p q) ⊎ ((p.table.made ≡ false) × (q ≡ p))

-- the heap was collected
pub record CollectsStore {D : Type 0} (layouts : Layouts) (p : PolicyState D) (new : StoreView D) : Type 0 where
  pub after : PolicyState D
  pub collects : CollectsTable layouts p after
  pub holds : HoldsAccount layouts new after.table after.account

-- the bytes that a heap has beside those that are allocated
abbrev pub unused_bytes : {D : Type 0} → Layouts → PolicyState D → ℕ
unused_bytes layouts p = page * p.table.pages - allocated_bytes layouts p.table p.account.held

-- A collection ran, and then the heap grew where it has fewer bytes than are needed, or was refused to.
pub data MakesRoom {D : Type 0} (layouts : Layouts) (need : ℕ) (p : PolicyState D) : PolicyState D → Type 0 where
  enough : {q : PolicyState D} → MayCollectTable layouts p q → need ≤ unused_bytes layouts q → MakesRoom layouts need p q
  grows : {m q : PolicyState D} {granted : Bool} → MayCollectTable layouts p m → unused_bytes layouts m < need → ExpandsTable layouts need m granted q
      → MakesRoom layouts need p q

-- memory was wanting in the growth after the collection
pub record MadeRoom {D : Type 0} (layouts : Layouts) (need : ℕ) (p q : PolicyState D) : Type 0 where
  pub mid : PolicyState D
  pub collects : MayCollectTable layouts p mid
  pub wants : unused_bytes layouts mid < need
  pub expanded : Expanded layouts need mid q

abbrev pub RoomOr : {D E : Type 0} → Layouts → ℕ → PolicyState D → Result (Unit {0}) E → PolicyState D → Type 0
RoomOr layouts need p (Ok done) q = MakesRoom layouts need p q
RoomOr layouts need p (Err e) q = MadeRoom layouts need p q

-- what a collection for want of so many bytes answers and leaves
pub record CollectsFor {D E : Type 0} (layouts : Layouts) (need : ℕ) (p : PolicyState D) (limits' : Limits) (result : Result (Unit {0}) E) (new : StoreView D) : Type 0 where
  pub after : PolicyState D
  pub room : RoomOr layouts need p result after
  pub pages : MayGetPages p.limits.limit need p.table after.table
  pub holds : HoldsAccount layouts new after.table after.account
  pub limits : limits' ≡ after.limits
