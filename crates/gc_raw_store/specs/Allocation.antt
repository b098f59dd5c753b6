-- What making an external object answers and leaves.
use Rattle.std.specs.Prelude.{◌≡◌, ℕ, Err, None, Ok, Result}
use Rattle.std.specs.FinMap.{get, insert}
use Rattle.gc_types.specs.declared.kind.Layouts.{Layouts}
use Rattle.gc_memory.specs.Offsets.{external_size}
use Rattle.gc_heap.specs.Objects.{external, host_id}
use Rattle.gc_heap.specs.Heap.{AddsObject, LacksRoom}
use Rattle.gc_heap.specs.declared.fault.HeapFault.{HeapFault}
use Rattle.gc_heap.specs.declared.fault.HeapFault.TheVariants as fault
use Rattle.gc_raw_store.specs.Stores.{GcStoreView}

-- An external object was added, with a host value under an id that no value had and that the object tells.
pub record AddsHost {D : Type 0} (layouts : Layouts) (value : D) (old new : GcStoreView D) (place : ℕ) : Type 0 where
  pub id : ℕ
  pub fresh : get old.hosts id ≡ None
  pub told : host_id (external id) ≡ id
  pub added : AddsObject layouts old.heap new.heap place (external id) (external_size layouts)
  pub hosts : new.hosts ≡ insert old.hosts id value

-- What an allocation for a host value answers and does. No external object is too large, and no host table
-- too full for one more.
abbrev pub AllocatesHost : {D : Type 0} → Layouts → D → GcStoreView D → GcStoreView D → Result (Result ℕ (D × ℕ)) HeapFault → Type 0
AllocatesHost layouts value old new (Ok (Ok place)) = AddsHost layouts value old new place
AllocatesHost layouts value old new (Ok (Err refused)) =
    (refused.0 ≡ value) × (LacksRoom layouts old.heap new.heap refused.1 (external_size layouts) × (new ≡ old))
AllocatesHost layouts value old new (Err fault.TooLarge) = ⊥
AllocatesHost layouts value old new (Err fault.Memory) = new ≡ old
