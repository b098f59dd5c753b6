-- What placing a host object answers and leaves.
use Rattle.std.specs.Prelude.{◌≡◌, ℕ, true, Option, Result, Ok, Err}
use Rattle.gc_types.specs.declared.kind.Layouts.{Layouts}
use Rattle.gc_model.specs.Values.{host}
use Rattle.gc_model.specs.Live.{roots_full}
use Rattle.gc_model.specs.Allocation.{Limits}
use Rattle.gc_model.specs.Stores.{StoreView}
use Rattle.gc_model.specs.Policy.{PolicyState}
use Rattle.gc_store.specs.declared.hosts.PlaceHostFault.{PlaceHostFault}
use Rattle.gc_store.specs.declared.hosts.PlaceHostFault.TheVariants as fault
use Rattle.gc_values.specs.declared.root.GcRootIndex.{GcRootIndex}
use Rattle.gc_store.specs.Places.{PlacesObject, LacksPlace, WantsPlace, RefusesPlace}

-- What placing a host object answers and leaves, for a table and an account that the store held. None is too large.
abbrev pub PlacesHost : {D : Type 0} → Layouts → Option ℕ → D → PolicyState D → Limits → Result GcRootIndex (PlaceHostFault D) → StoreView D → Type 0
PlacesHost layouts counter value p limits' (Ok handle) new = PlacesObject layouts counter (host value) p limits' handle new
PlacesHost layouts counter value p limits' (Err fault.RootsFull) new = (roots_full p.table ≡ true) × RefusesPlace layouts p limits' new
PlacesHost layouts counter value p limits' (Err (fault.HeapOutOfMemory f)) new = (f.inner ≡ value)
    × LacksPlace layouts counter (host value) p limits' f.bytes_needed new
PlacesHost layouts counter value p limits' (Err fault.Memory) new = WantsPlace layouts counter (host value) p limits' new
