-- What making an external object answers and leaves.
use Rattle.std.specs.Prelude.{◌≡◌, ◌⊎◌, ◌+◌, ◌<◌, ◌^◌, ℕ, Result, Ok, Err, None}
use Rattle.std.specs.FinMap.{get, insert}
use Rattle.std.specs.FinMap as map
use Rattle.gc_types.specs.declared.kind.Layouts.{Layouts}
use Rattle.gc_view.specs.Sizes.{external_size}
use Rattle.gc_heap.specs.Objects.{external}
use Rattle.gc_tables.specs.SideTables.{max_entries}
use Rattle.gc_owner.specs.declared.host.HostFault.{HostFault}
use Rattle.gc_owner.specs.declared.host.HostFault.TheVariants as host
use Rattle.gc_owner.specs.Owners.{OwnerView}
use Rattle.gc_owner.specs.Growing.{OwnerState, state_of, owner_rules}
use Rattle.gc_owner.specs.Retry.{Paused}
use Rattle.gc_owner.specs.Makes.{AllocatesRooted, LacksSpace}

-- the owner with one more host value
abbrev pub with_host : {D : Type 0} → ℕ → D → OwnerView D → OwnerView D
with_host id value v = record v { hosts = insert v.hosts id value }

-- An external object was made for the value, under an id that no value had and that the object can hold.
pub record PlacesValue {D : Type 0} (layouts : Layouts) (value : D) (s e : OwnerState D) (index : ℕ) : Type 0 where
  pub id : ℕ
  pub fresh : get s.owner.hosts id ≡ None
  pub small : id + 1 < 2 ^ 32
  pub allocates : AllocatesRooted layouts (external id) (external_size layouts) (state_of (with_host id value s.owner) s.limits) e index

-- The value was under an id that no value had, while the allocation went on to an end; then it was taken back.
pub record TakesBack {D : Type 0} (value : D) (s e : OwnerState D) (Ended : OwnerState D → OwnerState D → Type 0) : Type 0 where
  pub id : ℕ
  pub fresh : get s.owner.hosts id ≡ None
  pub end : OwnerState D
  pub ended : Ended (state_of (with_host id value s.owner) s.limits) end
  pub taken : end ≡ state_of (with_host id value e.owner) e.limits
  pub gone : get e.owner.hosts id ≡ None

-- what making an external object answers and leaves
abbrev pub PlacesExternal : {D : Type 0} → Layouts → D → OwnerState D → OwnerState D → Result ℕ (HostFault D) → Type 0
PlacesExternal layouts value s e (Ok index) = PlacesValue layouts value s e index
PlacesExternal layouts value s e (Err (host.Full back)) = (back ≡ value) × ((map.len s.owner.hosts ≡ max_entries) × (e ≡ s))
PlacesExternal layouts value s e (Err (host.HeapOutOfMemory back need)) =
    (back ≡ value) × TakesBack value s e (λ a b. LacksSpace layouts (external_size layouts) a b need)
PlacesExternal layouts value s e (Err (host.Memory back)) = (back ≡ value) × ((e ≡ s) ⊎ TakesBack value s e (Paused (owner_rules layouts (external_size layouts))))
