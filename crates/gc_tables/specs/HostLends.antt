-- What a table of host values ends as, where a `&mut` to one of them is returned.
use Rattle.std.specs.Prelude.{ℕ, Result}
use Rattle.std.specs.Borrow.{LendsIfOk, Fml, RattleType, MutBor}
use Rattle.gc_tables.specs.SideTables.{SideTable}
use Rattle.gc_tables.specs.Slabs.{with_slab_entry}
use Rattle.gc_tables.specs.contracts.host_data.ExternRefHostDataTable.{the_row}

module _ (D : RattleType) (t : MutBor (SideTable D.Denot)) (id : ℕ) where
  -- once the borrow r ends, the id has the last value written through r; at an error nothing changes
  abbrev pub lends_host : {E : Type 0} → Result (MutBor D.Denot) E → Fml
  lends_host r = LendsIfOk (the_row D) D t r (with_slab_entry t.now id) t.now
