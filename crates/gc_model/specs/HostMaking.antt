-- How a host object is made, as a store goes by it.
use Rattle.std.specs.Prelude.{◌≡◌, ℕ, ◌+◌, ◌^◌, ◌<◌, true, None}
use Rattle.std.specs.FinMap.{get}
use Rattle.gc_types.specs.declared.kind.Layouts.{Layouts}
use Rattle.gc_view.specs.Sizes.{external_size}
use Rattle.gc_heap.specs.Objects.{external}
use Rattle.gc_owner.specs.Growing.{OwnerState, owner_rules}
use Rattle.gc_owner.specs.Makes.{AddsScoped}
use Rattle.gc_owner.specs.HostValues.{with_host}
use Rattle.gc_owner.specs.Retry.{Retry}

-- An external object was made for a host value: the rule of retry went as it goes without the value, and then both
-- were added at once.
pub record MadeHost {D : Type 0} (layouts : Layouts) (value : D) (s e : OwnerState D) (index : ℕ) : Type 0 where
  pub id : ℕ
  pub small : id + 1 < 2 ^ 32
  pub mid : OwnerState D
  pub retried : Retry (owner_rules layouts (external_size layouts)) s true mid
  pub fresh : get mid.owner.hosts id ≡ None
  pub adds : AddsScoped layouts (with_host id value mid.owner) e.owner (external id) (external_size layouts) index
  pub limits : e.limits ≡ mid.limits
