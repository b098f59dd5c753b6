-- What placing an object answers and leaves.
use Rattle.std.specs.Prelude.{◌≡◌, ℕ, ◌⊎◌, Bool, true, false, Option, Result, Ok, Err, length}
use Rattle.gc_types.specs.declared.kind.Layouts.{Layouts}
use Rattle.gc_model.specs.Values.{Object, object_values}
use Rattle.gc_model.specs.SideValues.{SideValues, side_values, functions_full, conts_full}
use Rattle.gc_model.specs.Table.{Table, make, with_pages}
use Rattle.gc_model.specs.Live.{roots_full}
use Rattle.gc_view.specs.Sizes.{need_of}
use Rattle.gc_model.specs.Sizes.{object_size}
use Rattle.gc_model.specs.Allocation.{Limits, too_large, Allocates, LacksMemory, GetsPages}
use Rattle.gc_model.specs.Stores.{StoreView}
use Rattle.gc_heap.specs.Heap.{HasRoom}
use Rattle.gc_values.specs.declared.root.GcRootIndex.{GcRootIndex}
use Rattle.gc_values.specs.declared.faults.PlaceFault.{PlaceFault}
use Rattle.gc_values.specs.declared.faults.PlaceFault.TheVariants as fault
use Rattle.gc_store.specs.Roots.{handle_of}
use Rattle.gc_model.specs.Accounts.{HoldsAccount, with_held}
use Rattle.gc_model.specs.Policy.{PolicyState, IsPlaceIn, Prepares, Prepared}

-- the bytes of an object of the table, as its heap lays it out
abbrev pub size_in_table : {D : Type 0} → Layouts → Object D → Table D → ℕ
size_in_table layouts o t = object_size layouts t.types o

-- no ids are left for all of the object's function values that aren't interned yet, or for all of its continuations
abbrev pub lacks_ids : {D : Type 0} → (SideValues → SideValues → Bool) → Object D → Table D → Bool
lacks_ids full o t = full (side_values (object_values o)) t.interned

-- ids are left for all of them
pub record HasIds {D : Type 0} (o : Object D) (t : Table D) : Type 0 where
  pub functions : lacks_ids functions_full o t ≡ false
  pub conts : lacks_ids conts_full o t ≡ false

-- the object is in the table, lies where the policy lets it, and the handle is that of its push
pub record PlacesObject {D : Type 0} (layouts : Layouts) (counter : Option ℕ) (o : Object D) (p : PolicyState D) (limits' : Limits) (handle : GcRootIndex) (new : StoreView D) : Type 0 where
  pub small : too_large layouts (size_in_table layouts o p.table) ≡ false
  pub not_full : roots_full p.table ≡ false
  pub after : PolicyState D
  pub prepares : Prepares layouts counter (size_in_table layouts o p.table) p true after
  pub allocates : Allocates layouts p.limits.limit p.account.places o p.table (make o after.table)
  pub word : ℕ
  pub lies : IsPlaceIn layouts after word (size_in_table layouts o p.table)
  pub holds : HoldsAccount layouts new (make o after.table) (with_held layouts (length p.table.objects) word after.account)
  pub limits : limits' ≡ after.limits
  pub handle_is : handle ≡ handle_of new (length p.table.scoped) p.table.drops
  pub has_ids : HasIds o p.table

-- The first pages were refused, or the heap was refused more pages and has no room, of whatever kind it is.
pub record LacksPlace {D : Type 0} (layouts : Layouts) (counter : Option ℕ) (o : Object D) (p : PolicyState D) (limits' : Limits) (need : ℕ) (new : StoreView D) : Type 0 where
  pub small : too_large layouts (size_in_table layouts o p.table) ≡ false
  pub not_full : roots_full p.table ≡ false
  pub asked : need ≡ need_of layouts (size_in_table layouts o p.table)
  pub after : PolicyState D
  pub prepares : Prepares layouts counter (size_in_table layouts o p.table) p false after
  pub lacks : LacksMemory layouts p.limits.limit p.account.places o p.table after.table
  pub no_room : after.table.made ≡ true → HasRoom layouts new.heap (size_in_table layouts o p.table) → ⊥
  pub holds : HoldsAccount layouts new after.table after.account
  pub limits : limits' ≡ after.limits
  pub has_ids : HasIds o p.table

-- the table is as it was, or its heap has got pages that a limit grants
abbrev pub MayGetPages : {D : Type 0} → Option ℕ → ℕ → Table D → Table D → Type 0
MayGetPages limit bytes t t' = (t' ≡ t) ⊎ ((pages : ℕ) × (GetsPages limit t bytes pages × (t' ≡ with_pages pages t)))

-- memory was wanting on the way
pub record WantsPlace {D : Type 0} (layouts : Layouts) (counter : Option ℕ) (o : Object D) (p : PolicyState D) (limits' : Limits) (new : StoreView D) : Type 0 where
  pub after : PolicyState D
  pub prepared : Prepared layouts counter (size_in_table layouts o p.table) p after
  pub begun : (after ≡ p) ⊎ ((too_large layouts (size_in_table layouts o p.table) ≡ false) × (roots_full p.table ≡ false))
  pub pages : MayGetPages p.limits.limit (need_of layouts (size_in_table layouts o p.table)) p.table after.table
  pub holds : HoldsAccount layouts new after.table after.account
  pub limits : limits' ≡ after.limits

-- a test refused the object before the heap was asked
pub record RefusesPlace {D : Type 0} (layouts : Layouts) (p : PolicyState D) (limits' : Limits) (new : StoreView D) : Type 0 where
  pub holds : HoldsAccount layouts new p.table p.account
  pub limits : limits' ≡ p.limits

-- What placing an object answers and leaves, for a table and an account that the store held.
abbrev pub Places : {D : Type 0} → Layouts → Option ℕ → Object D → PolicyState D → Limits → Result GcRootIndex PlaceFault → StoreView D → Type 0
Places layouts counter o p limits' (Ok handle) new = PlacesObject layouts counter o p limits' handle new
Places layouts counter o p limits' (Err fault.FuncTableFull) new = (lacks_ids functions_full o p.table ≡ true) × RefusesPlace layouts p limits' new
Places layouts counter o p limits' (Err fault.ContTableFull) new =
    (lacks_ids conts_full o p.table ≡ true) × RefusesPlace layouts p limits' new × (lacks_ids functions_full o p.table ≡ false)
Places layouts counter o p limits' (Err fault.TooLarge) new =
    (too_large layouts (size_in_table layouts o p.table) ≡ true) × RefusesPlace layouts p limits' new × HasIds o p.table
Places layouts counter o p limits' (Err fault.RootsFull) new =
    (too_large layouts (size_in_table layouts o p.table) ≡ false) × (roots_full p.table ≡ true) × RefusesPlace layouts p limits' new × HasIds o p.table
Places layouts counter o p limits' (Err (fault.HeapOutOfMemory f)) new = LacksPlace layouts counter o p limits' f.bytes_needed new
Places layouts counter o p limits' (Err fault.Memory) new = WantsPlace layouts counter o p limits' new
