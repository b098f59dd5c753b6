-- What an owner ends as, where a `&mut` to one of its host values is returned.
use Rattle.std.specs.Prelude.{ℕ, Option}
use Rattle.std.specs.Borrow.{LendsIf, Fml, RattleType, MutBor}
use Rattle.gc_heap.specs.declared.heap.GcHeap as heap
use Rattle.gc_owner.specs.Owners.{OwnerValue}
use Rattle.gc_owner.specs.HostValues.{with_host}
use Rattle.gc_owner.specs.contracts.owner.HeapOwner.{the_row}

-- the owner with another host value under that id
abbrev pub owner_with_host : {H S D : Type 0} → ℕ → OwnerValue H S D → D → OwnerValue H S D
owner_with_host id o value = record o { seen = with_host id value o.seen }

module _ (H D S : RattleType) (g : heap.Ghosts H.Denot S.Denot) (o : MutBor (OwnerValue H.Denot S.Denot D.Denot)) (id : ℕ) where
  -- once the borrow r ends, the id has the last value written through r; at `None` the owner stays as it is
  abbrev pub owner_lends_host : Option (MutBor D.Denot) → Fml
  owner_lends_host r = LendsIf (the_row H D S g) D o r (owner_with_host id o.now) o.now
