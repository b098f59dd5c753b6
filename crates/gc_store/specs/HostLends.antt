-- What a store ends as, where a `&mut` to one of its host values is returned.
use Rattle.std.specs.Prelude.{◌≡◌, ℕ, Option, Some, None, Result, Ok, Err, slice_get}
use Rattle.std.specs.Borrow.{LendsIf, LendsSoOk, Fml, RattleType, MutBor}
use Rattle.gc_types.specs.declared.kind.Layouts.{Layouts}
use Rattle.gc_heap.specs.declared.heap.GcHeap as heap
use Rattle.gc_model.specs.Values.{at, host}
use Rattle.gc_model.specs.Table.{Table, set_host}
use Rattle.gc_model.specs.Stores.{StoreView, with_host_at}
use Rattle.gc_model.specs.Accounts.{Account, HoldsAccount}
use Rattle.gc_values.specs.declared.root.GcRootIndex.{GcRootIndex}
use Rattle.gc_store.specs.declared.hosts.HostDataFault.{HostDataFault}
use Rattle.gc_store.specs.declared.hosts.HostDataFault.TheVariants as fault
use Rattle.gc_values.specs.declared.root.RootFault.{RootFault}
use Rattle.gc_values.specs.declared.root.RootFault.TheVariants as root_fault
use Rattle.gc_store.specs.Roots.{NamesReference}
use Rattle.gc_store.specs.Stores.{IsSameStore}
use Rattle.gc_store.specs.contracts.store.Store.{the_row}

-- why no value is lent, by why a handle has no word
abbrev pub told_of_host : RootFault → HostDataFault
told_of_host root_fault.WrongStore = fault.WrongStore
told_of_host root_fault.Unrooted = fault.Unrooted
told_of_host root_fault.RootsFull = fault.Unrooted
told_of_host root_fault.Memory = fault.Unrooted

-- the value that is lent is that of what is named, or that is no host object
abbrev pub LendsValue : {D : Type 0} → Option D → Result (MutBor D) HostDataFault → Type 0
LendsValue value (Ok lent) = value ≡ Some lent.now
LendsValue value (Err e) = (e ≡ fault.NotHost) × (value ≡ None)

-- for every table that the store held, the same store ends with the host object that the handle names at that value, and
-- with as much room for scoped roots
abbrev pub SetsHost : {D : Type 0} → Layouts → StoreView D → GcRootIndex → StoreView D → D → Type 0
SetsHost {D} layouts s handle new w =
    IsSameStore s new × ((new.spare ≡ s.spare) × ((t : Table D) (a : Account) (p : ℕ) (old : D) → HoldsAccount layouts s t a → NamesReference s t handle (at p)
    → slice_get t.objects p ≡ Some (host old) → HoldsAccount layouts new (set_host p w t) a))

module _ (H D S : RattleType) (g : heap.Ghosts H.Denot S.Denot) (s : MutBor (StoreView D.Denot)) where
  -- once the borrow ends, the id has the last value written through it; at `None` the store stays as it is
  abbrev pub store_lends_value : ℕ → Option (MutBor D.Denot) → Fml
  store_lends_value id r = LendsIf (the_row H D S g) D s r (λ w. with_host_at id w s.now) s.now

  -- once it ends, the host object has the last value written through it; where nothing is lent the store stays as it is
  abbrev pub store_lends_host : GcRootIndex → Result (MutBor D.Denot) HostDataFault → Fml
  store_lends_host handle r = LendsSoOk (the_row H D S g) D s r (λ n w. SetsHost g.KIND s.now handle n w) (λ n. n ≡ s.now)
