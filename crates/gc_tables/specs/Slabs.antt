-- What the calls of a slab do.
use Rattle.std.specs.Prelude.{◌≡◌, ℕ}
use Rattle.std.specs.FinMap as map
use Rattle.gc_tables.specs.SideTables.{SideTable}
use Rattle.gc_tables.specs.declared.slab.SlabFault.{SlabFault}
use Rattle.gc_tables.specs.declared.slab.SlabFault.TheVariants.{Full, Memory}

module _ {T : Type 0} where
  -- the value that comes back
  abbrev pub returned : SlabFault T → T
  returned (Full value) = value
  returned (Memory value) = value

  -- the table after a write through `get_mut(id)`
  abbrev pub with_slab_entry : SideTable T → ℕ → T → SideTable T
  with_slab_entry t id value = record t { entries = map.insert t.entries id value }
