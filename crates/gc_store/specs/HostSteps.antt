-- What making a host object of an owner answers and leaves, and which host value a word has.
use Rattle.std.specs.Prelude.{◌≡◌, ◌≢◌, ℕ, ◌+◌, ◌%◌, ◌⊎◌, Bool, Option, Some, None, Result, Ok, Err, IsSomeAnd}
use Rattle.std.specs.FinMap as finite
use Rattle.gc_types.specs.declared.kind.Layouts.{Layouts}
use Rattle.gc_types.specs.declared.kind.VMGcKind.TheVariants.{ExternRef}
use Rattle.gc_view.specs.Bytes.{u32_at}
use Rattle.gc_view.specs.Sizes.{external_size, need_of}
use Rattle.gc_view.specs.Heaps.{HeapObject, HeapView}
use Rattle.gc_owner.specs.Growing.{OwnerState, NotBegun, owner_rules}
use Rattle.gc_owner.specs.Makes.{LacksSpace}
use Rattle.gc_owner.specs.Retry.{Paused}
use Rattle.gc_model.specs.Values.{Reference, at}
use Rattle.gc_model.specs.Table.{Table}
use Rattle.gc_model.specs.Reads.{host_value_of}
use Rattle.gc_model.specs.Stores.{StoreView}
use Rattle.gc_model.specs.Holds.{Placing, IsHostAt}
use Rattle.gc_model.specs.HostMaking.{MadeHost}
use Rattle.gc_store.specs.declared.hosts.PlaceHostFault.{PlaceHostFault}
use Rattle.gc_store.specs.declared.hosts.PlaceHostFault.TheVariants as fault
use Rattle.gc_values.specs.declared.root.RootFault.{RootFault}
use Rattle.gc_values.specs.Making.{BeginsMaking}

-- what allocating a host object of an owner answers and leaves
abbrev pub AllocatesRootedHost : {D : Type 0} → Layouts → D → OwnerState D → OwnerState D → Result ℕ (PlaceHostFault D) → Type 0
AllocatesRootedHost layouts value s e (Ok index) = MadeHost layouts value s e index
AllocatesRootedHost layouts value s e (Err fault.RootsFull) = ⊥
AllocatesRootedHost layouts value s e (Err (fault.HeapOutOfMemory f)) = (f.inner ≡ value) × LacksSpace layouts (external_size layouts) s e f.bytes_needed
AllocatesRootedHost layouts value s e (Err fault.Memory) = Paused (owner_rules layouts (external_size layouts)) s e

-- what making a heap and a host object in it answers and leaves
abbrev pub MakesRootedHost : {D : Type 0} → Layouts → D → ℕ → Bool → OwnerState D → OwnerState D → Result ℕ (PlaceHostFault D) → Type 0
MakesRootedHost {D} layouts value first due s e (Ok index) = (b : OwnerState D) × (BeginsMaking layouts first due s b × MadeHost layouts value b e index)
MakesRootedHost layouts value first due s e (Err fault.RootsFull) = ⊥
MakesRootedHost {D} layouts value first due s e (Err (fault.HeapOutOfMemory f)) = (f.inner ≡ value)
    × ((NotBegun first s e × (f.bytes_needed ≡ need_of layouts (external_size layouts)))
    ⊎ ((b : OwnerState D) × (BeginsMaking layouts first due s b × LacksSpace layouts (external_size layouts) b e f.bytes_needed)))
MakesRootedHost {D} layouts value first due s e (Err fault.Memory) =
    (e ≡ s) ⊎ ((b : OwnerState D) × (BeginsMaking layouts first due s b × Paused (owner_rules layouts (external_size layouts)) b e))

-- The id of the host value of what a word names: of an external object the number in it tells it, of anything else there is none.
pub record TellsHostId (h : HeapView) (word : ℕ) (answer : Option ℕ) : Type 0 where
  pub external : (o : HeapObject) → finite.get h.content word ≡ Some o → o.kind ≡ ExternRef → IsSomeAnd answer (λ id. id + 1 ≡ u32_at o.bytes 0)
  pub other : (o : HeapObject) → finite.get h.content word ≡ Some o → o.kind ≢ ExternRef → answer ≡ None
  pub number : word % 2 ≡ 1 → answer ≡ None

-- the reference is to a host object with that id
pub record HasHostId {D : Type 0} (s : StoreView D) (t : Table D) (place : Placing) (r : Reference) (id : ℕ) : Type 0 where
  pub position : ℕ
  pub value : D
  pub reference_is : r ≡ at position
  pub is_at : IsHostAt t.objects place s.heap.content position id value

-- the id of the host object that a reference is to; none where it is to none
abbrev pub IsHostIdOf : {D : Type 0} → StoreView D → Table D → Placing → Reference → Option ℕ → Type 0
IsHostIdOf s t place r None = host_value_of t r ≡ None
IsHostIdOf s t place r (Some id) = HasHostId s t place r id

abbrev pub FindsHostId : {D : Type 0} → StoreView D → Table D → Placing → Reference → Result (Option ℕ) RootFault → Type 0
FindsHostId s t place r (Ok answer) = IsHostIdOf s t place r answer
FindsHostId s t place r (Err e) = ⊥
