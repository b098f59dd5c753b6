-- What a heap with a host table ends as, where a `&mut` to one of its host values is returned.
use Rattle.std.specs.Prelude.{◌≡◌, ℕ, Option, Result, Some}
use Rattle.std.specs.Borrow.{LendsIf, LendsSoOk, Fml, RattleType, MutBor}
use Rattle.std.specs.FinMap.{get, insert}
use Rattle.gc_types.specs.declared.kind.VMGcKind.TheVariants.{ExternRef}
use Rattle.gc_view.specs.Heaps.{HeapObject}
use Rattle.gc_heap.specs.declared.heap.GcHeap as heap
use Rattle.gc_heap.specs.Objects.{host_id}
use Rattle.gc_raw_store.specs.Stores.{GcStoreView}
use Rattle.gc_raw_store.specs.contracts.store.GcStore.{the_row}

-- with another host value under an id
abbrev pub with_host_under : {D : Type 0} → ℕ → GcStoreView D → D → GcStoreView D
with_host_under id s value = record s { hosts = insert s.hosts id value }

-- The heap is as before, and the external object at a place has this host value.
pub record SetsHostAt {D : Type 0} (old : GcStoreView D) (place : ℕ) (new : GcStoreView D) (value : D) : Type 0 where
  pub heap : new.heap ≡ old.heap
  pub set : (o : HeapObject) → get old.heap.content place ≡ Some o → o.kind ≡ ExternRef → new ≡ with_host_under (host_id o) old value

module _ (H D S : RattleType) (g : heap.Ghosts H.Denot S.Denot) (s : MutBor (GcStoreView D.Denot)) where
  -- once the borrow ends, the id has the last value written through it; at `None` all stays as it is
  abbrev pub raw_lends_value : ℕ → Option (MutBor D.Denot) → Fml
  raw_lends_value id r = LendsIf (the_row H D S g) D s r (with_host_under id s.now) s.now

  -- once it ends, the external object has the last value written through it; at an error all stays as it is
  abbrev pub raw_lends_host : {E : Type 0} → ℕ → Result (MutBor D.Denot) E → Fml
  raw_lends_host place r = LendsSoOk (the_row H D S g) D s r (λ new value. SetsHostAt s.now place new value) (λ new. new ≡ s.now)
