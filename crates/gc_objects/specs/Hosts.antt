-- What calls on the embedder's references answer and leave.
use Rattle.std.specs.Prelude.{◌≡◌, ℕ, true, false, Option, Result, Ok, Err}
use Rattle.std.specs.Borrow.{Bor}
use Rattle.std.specs.Option.{option_copied}
use Rattle.gc_types.specs.declared.kind.Layouts.{Layouts}
use Rattle.gc_model.specs.Values.{Reference, host}
use Rattle.gc_model.specs.Allocation.{Limits}
use Rattle.gc_model.specs.Reads.{host_value_of}
use Rattle.gc_model.specs.Stores.{StoreView}
use Rattle.gc_model.specs.Table.{Table}
use Rattle.gc_model.specs.Accounts.{Account}
use Rattle.gc_model.specs.Policy.{PolicyState}
use Rattle.gc_store.specs.declared.hosts.PlaceHostFault.{PlaceHostFault}
use Rattle.gc_store.specs.declared.hosts.PlaceHostFault.TheVariants as place
use Rattle.gc_values.specs.declared.root.GcRootIndex.{GcRootIndex}
use Rattle.gc_values.specs.declared.root.RootFault.{RootFault}
use Rattle.gc_values.specs.declared.root.RootFault.TheVariants as root_fault
use Rattle.gc_rooted.specs.declared.rooted.Rooted.{Rooted}
use Rattle.gc_store.specs.Handles.{PushesRoot}
use Rattle.gc_store.specs.HostPlaces.{PlacesHost}
use Rattle.gc_store.specs.Roots.{is_of_store, NamesReference, NamesNothing}
use Rattle.gc_objects.specs.declared.faults.AllocFault.{AllocFault}
use Rattle.gc_objects.specs.declared.faults.AllocFault.TheVariants as fault
use Rattle.gc_objects.specs.Makes.{MakesObject}

-- what the store answered to a host value, as a typed handle and a fault of such a call
abbrev pub IsHostHanded : {D T : Type 0} → Result GcRootIndex (PlaceHostFault D) → Result (Rooted T) (AllocFault D) → Type 0
IsHostHanded {D} {T} (Ok root) result = (handle : Rooted T) × ((result ≡ Ok handle) × (handle.index ≡ root))
IsHostHanded (Err place.RootsFull) result = result ≡ Err fault.RootsFull
IsHostHanded (Err (place.HeapOutOfMemory f)) result = result ≡ Err (fault.HeapOutOfMemory f)
IsHostHanded (Err place.Memory) result = result ≡ Err fault.Memory

-- What making a host object with a value answers and leaves: the handle names it; or the store refused it, and gives the value back
-- where the heap has no room.
abbrev pub MakesHost : {D T : Type 0} → Layouts → Option ℕ → D → PolicyState D → Limits → Result (Rooted T) (AllocFault D) → StoreView D → Type 0
MakesHost layouts counter value p limits' (Ok handle) new = MakesObject (λ o. o ≡ host value) layouts counter p limits' handle.index new
MakesHost layouts counter value p limits' (Err fault.WrongStore) new = ⊥
MakesHost layouts counter value p limits' (Err fault.Unrooted) new = ⊥
MakesHost layouts counter value p limits' (Err fault.TypeMismatch) new = ⊥
MakesHost layouts counter value p limits' (Err fault.FieldCount) new = ⊥
MakesHost layouts counter value p limits' (Err fault.NotI8Array) new = ⊥
MakesHost layouts counter value p limits' (Err fault.TooLarge) new = ⊥
MakesHost layouts counter value p limits' (Err fault.RootsFull) new = PlacesHost layouts counter value p limits' (Err place.RootsFull) new
MakesHost layouts counter value p limits' (Err fault.FuncTableFull) new = ⊥
MakesHost layouts counter value p limits' (Err fault.ContTableFull) new = ⊥
MakesHost layouts counter value p limits' (Err (fault.HeapOutOfMemory f)) new = PlacesHost layouts counter value p limits' (Err (place.HeapOutOfMemory f)) new
MakesHost layouts counter value p limits' (Err fault.Memory) new = PlacesHost layouts counter value p limits' (Err place.Memory) new

-- the value of the host object that a reference is; none where it is no host object
abbrev pub TellsHostValue : {D : Type 0} → Table D → Reference → Option (Bor D) → Type 0
TellsHostValue t r found = option_copied found ≡ host_value_of t r

-- A new scoped root for what a live handle names.
abbrev pub CopiesRoot : {D : Type 0} → Layouts → StoreView D → Table D → Account → GcRootIndex → Result GcRootIndex RootFault → StoreView D → Type 0
CopiesRoot layouts old t a handle (Ok root) new = (r : Reference) × (NamesReference old t handle r × PushesRoot layouts t a r (Ok root) new)
CopiesRoot layouts old t a handle (Err root_fault.WrongStore) new = is_of_store old handle ≡ false
CopiesRoot layouts old t a handle (Err root_fault.Unrooted) new = (is_of_store old handle ≡ true) × NamesNothing old t handle
CopiesRoot layouts old t a handle (Err root_fault.RootsFull) new =
    (r : Reference) × (NamesReference old t handle r × PushesRoot layouts t a r (Err root_fault.RootsFull) new)
CopiesRoot layouts old t a handle (Err root_fault.Memory) new =
    (r : Reference) × (NamesReference old t handle r × PushesRoot layouts t a r (Err root_fault.Memory) new)

-- the same by a typed handle
abbrev pub CopiesHandle : {D T : Type 0} → Layouts → StoreView D → Table D → Account → GcRootIndex → Result (Rooted T) RootFault → StoreView D → Type 0
CopiesHandle layouts old t a handle (Ok made) new = CopiesRoot layouts old t a handle (Ok made.index) new
CopiesHandle layouts old t a handle (Err why) new = CopiesRoot layouts old t a handle (Err why) new
