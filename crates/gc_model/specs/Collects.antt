-- What a heap holds.
use Rattle.std.specs.Prelude.{◌≡◌, ℕ, List, Some, slice_get}
use Rattle.gc_types.specs.declared.kind.Layouts.{Layouts}
use Rattle.gc_model.specs.Table.{Table}
use Rattle.gc_model.specs.Values.{Object}
use Rattle.gc_model.specs.Reach.{HasNumber, IsHost}
use Rattle.gc_model.specs.Stores.{StoreView}
use Rattle.gc_model.specs.Holds.{Holds, Placing}

-- the heap holds the object of that position
abbrev pub HasPlace : Placing → ℕ → Type 0
HasPlace place p = (word : ℕ) × (place p ≡ Some word)

-- the heap holds so many objects, wherever they lie
abbrev pub HoldsNumber : (D : Type 0) → Layouts → StoreView D → ℕ → Type 0
HoldsNumber D layouts s n = (t : Table D) (place : Placing) → Holds layouts s t place → HasNumber (HasPlace place) n

-- a host object of the table stands at that position, and the heap holds it
abbrev pub IsPlacedHost : {D : Type 0} → List (Object D) → Placing → ℕ → Type 0
IsPlacedHost objects place p = HasPlace place p × IsHost (slice_get objects p)

-- the heap holds so many host objects, wherever they lie
abbrev pub HoldsHosts : (D : Type 0) → Layouts → StoreView D → ℕ → Type 0
HoldsHosts D layouts s n = (t : Table D) (place : Placing) → Holds layouts s t place → HasNumber (IsPlacedHost t.objects place) n
