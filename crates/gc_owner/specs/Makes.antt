-- What making an object answers and leaves.
use Rattle.std.specs.Prelude.{◌≡◌, ℕ, ◌+◌, ◌^◌, ◌<◌, true, false, Some, Result, Ok, Err, length}
use Rattle.gc_types.specs.declared.kind.Layouts.{Layouts}
use Rattle.gc_types.specs.Layouts.{layout_at, array_layout_at}
use Rattle.gc_view.specs.Sizes.{IsTooLarge, external_size, need_of}
use Rattle.gc_view.specs.Heaps.{HeapObject}
use Rattle.gc_heap.specs.Extents.{host_id}
use Rattle.gc_heap.specs.Objects.{external}
use Rattle.gc_heap.specs.Heap.{AddsObject, new_struct, new_array, array_size}
use Rattle.gc_heap.specs.Collection.{has_host, IsExternal}
use Rattle.gc_owner.specs.declared.allocate.Description.{Description}
use Rattle.gc_owner.specs.declared.allocate.Description.TheVariants as of
use Rattle.gc_owner.specs.declared.allocate.AllocateFault.{AllocateFault}
use Rattle.gc_owner.specs.declared.allocate.AllocateFault.TheVariants as fault
use Rattle.gc_owner.specs.RootColumns.{with_scoped}
use Rattle.gc_owner.specs.Owners.{OwnerView}
use Rattle.gc_owner.specs.Growing.{OwnerState, owner_rules}
use Rattle.gc_owner.specs.Retry.{Retry, Paused}

-- an id of a host value that no external object has yet
pub record IsFreeHost {D : Type 0} (v : OwnerView D) (id : ℕ) : Type 0 where
  pub there : has_host v.hosts id ≡ true
  pub small : id + 1 < 2 ^ 32
  pub unused : (place : ℕ) (o : HeapObject) → IsExternal v.heap place o → host_id o ≡ id → ⊥

-- a description tells that object, of so many bytes
abbrev pub Describes : {D : Type 0} → Layouts → OwnerView D → Description → HeapObject → ℕ → Type 0
Describes layouts v (of.Object ty layout) o size =
    (layout_at layouts v.types.declarations ty ≡ Some layout.now) × ((o ≡ new_struct layouts ty layout.now) × (size ≡ layout.now.size))
Describes layouts v (of.Array ty count layout) o size =
    (array_layout_at layouts v.types.declarations ty ≡ Some layout.now)
    × ((count < 2 ^ 32) × ((o ≡ new_array layouts ty count layout.now) × (size ≡ array_size layout.now count)))
Describes layouts v (of.External id) o size = IsFreeHost v id × ((o ≡ external id) × (size ≡ external_size layouts))

-- An object may be made by a description: the heap has its memory, no collection is under way, and there is room
-- for its root.
pub record CanMakeDescribed {D : Type 0} (layouts : Layouts) (v : OwnerView D) (d : Description) : Type 0 where
  pub idle : v.idle ≡ true
  pub attached : v.heap.attached ≡ true
  pub spare : 0 < v.roots.spare
  pub few : length v.roots.scoped < 2 ^ 32
  pub object : HeapObject
  pub size : ℕ
  pub described : Describes layouts v d object size

-- an object was added, and has a scoped root of its own, which is the last one
pub record AddsScoped {D : Type 0} (layouts : Layouts) (old new : OwnerView D) (o : HeapObject) (size index : ℕ) : Type 0 where
  pub word : ℕ
  pub adds : AddsObject layouts old.heap new.heap word o size
  pub rest : new ≡ record old { heap = new.heap; roots = with_scoped word old.roots }
  pub index_is : index ≡ length old.roots.scoped

-- A new object was allocated, by the rule of retry.
pub record AllocatesRooted {D : Type 0} (layouts : Layouts) (o : HeapObject) (size : ℕ) (s e : OwnerState D) (index : ℕ) : Type 0 where
  pub mid : OwnerState D
  pub retried : Retry (owner_rules layouts size) s true mid
  pub adds : AddsScoped layouts mid.owner e.owner o size index
  pub limits : e.limits ≡ mid.limits

-- By the rule of retry there is no room, which the answer says how many bytes it would take.
pub record LacksSpace {D : Type 0} (layouts : Layouts) (size : ℕ) (s e : OwnerState D) (need : ℕ) : Type 0 where
  pub retried : Retry (owner_rules layouts size) s false e
  pub asked : need ≡ need_of layouts size

-- what allocating an object of so many bytes answers and leaves
abbrev pub AllocateAnswers : {D : Type 0} → Layouts → HeapObject → ℕ → OwnerState D → OwnerState D → Result ℕ AllocateFault → Type 0
AllocateAnswers layouts o size s e (Ok index) = AllocatesRooted layouts o size s e index
AllocateAnswers layouts o size s e (Err fault.TooLarge) = IsTooLarge layouts size × (e ≡ s)
AllocateAnswers layouts o size s e (Err (fault.HeapOutOfMemory need)) = LacksSpace layouts size s e need
AllocateAnswers layouts o size s e (Err fault.Memory) = Paused (owner_rules layouts size) s e
