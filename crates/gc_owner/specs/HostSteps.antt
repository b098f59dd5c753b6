-- What putting a host value into the table answers and leaves.
use Rattle.std.specs.Prelude.{◌≡◌, ℕ, ◌+◌, ◌^◌, ◌<◌, Result, Ok, Err, None}
use Rattle.std.specs.FinMap as map
use Rattle.std.specs.Ordering.{nat_cmp}
use Rattle.gc_tables.specs.declared.slab.SlabFault.{SlabFault}
use Rattle.gc_tables.specs.declared.slab.SlabFault.TheVariants as slab
use Rattle.gc_tables.specs.SideTables.{max_entries}
use Rattle.gc_owner.specs.Owners.{OwnerView}
use Rattle.gc_owner.specs.Makes.{IsFreeHost}
use Rattle.gc_owner.specs.HostValues.{with_host}

-- a value was put in under an id that no value had
pub record IsPutIn {D : Type 0} (value : D) (old new : map.FinMap nat_cmp D) (id : ℕ) : Type 0 where
  pub fresh : map.get old id ≡ None
  pub small : id + 1 < 2 ^ 32
  pub put : new ≡ map.insert old id value

-- what putting a value into a table answers and leaves
abbrev pub PutsIn : {D : Type 0} → D → map.FinMap nat_cmp D → map.FinMap nat_cmp D → Result ℕ (SlabFault D) → Type 0
PutsIn value old new (Ok id) = IsPutIn value old new id
PutsIn value old new (Err (slab.Full back)) = (back ≡ value) × ((map.len old ≡ max_entries) × (new ≡ old))
PutsIn value old new (Err (slab.Memory back)) = (back ≡ value) × (new ≡ old)

-- an owner has one value more, under an id that no value had, and that no external object has
pub record IsPut {D : Type 0} (value : D) (old new : OwnerView D) (id : ℕ) : Type 0 where
  pub fresh : map.get old.hosts id ≡ None
  pub put : new ≡ with_host id value old
  pub free : IsFreeHost new id

-- what putting a value into an owner's table answers and leaves
abbrev pub PutsValue : {D : Type 0} → D → OwnerView D → OwnerView D → Result ℕ (SlabFault D) → Type 0
PutsValue value old new (Ok id) = IsPut value old new id
PutsValue value old new (Err (slab.Full back)) = (back ≡ value) × ((map.len old.hosts ≡ max_entries) × (new ≡ old))
PutsValue value old new (Err (slab.Memory back)) = (back ≡ value) × (new ≡ old)
