-- What a slab ends as, where a `&mut` to one of its values is returned.
use Rattle.std.specs.Prelude.{ℕ, Option}
use Rattle.std.specs.Borrow.{Lends, LendsIf, Fml, RattleType, MutBor}
use Rattle.gc_tables.specs.SideTables.{SideTable}
use Rattle.gc_tables.specs.Slabs.{with_slab_entry}
use Rattle.gc_tables.specs.contracts.slab.Slab.{the_row}

module _ (T : RattleType) (t : MutBor (SideTable T.Denot)) (id : ℕ) where
  -- once the borrow r ends, the id has the last value written through r
  abbrev pub lends_value : MutBor T.Denot → Fml
  lends_value r = Lends (the_row T) T t r (with_slab_entry t.now id)

  -- the same where r is a reference, and at `None` the slab stays as it is
  abbrev pub lends_get : Option (MutBor T.Denot) → Fml
  lends_get r = LendsIf (the_row T) T t r (with_slab_entry t.now id) t.now
