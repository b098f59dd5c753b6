-- What calls on handles and roots answer and leave, for a table that the store held.
use Rattle.std.specs.Prelude.{◌≡◌, true, false, Result, Ok, Err, length}
use Rattle.gc_types.specs.declared.kind.Layouts.{Layouts}
use Rattle.gc_model.specs.Values.{Reference}
use Rattle.gc_model.specs.Table.{Table, push}
use Rattle.gc_model.specs.Live.{roots_full}
use Rattle.gc_model.specs.Stores.{StoreView}
use Rattle.gc_values.specs.declared.root.GcRootIndex.{GcRootIndex}
use Rattle.gc_values.specs.declared.root.RootFault.{RootFault}
use Rattle.gc_values.specs.declared.root.RootFault.TheVariants as fault
use Rattle.gc_model.specs.Accounts.{Account, HoldsAccount}
use Rattle.gc_store.specs.Roots.{handle_of}

-- a new scoped root for a reference, whose handle is answered
abbrev pub PushesRoot : {D : Type 0} → Layouts → Table D → Account → Reference → Result GcRootIndex RootFault → StoreView D → Type 0
PushesRoot layouts t a r (Ok handle) new =
    (roots_full t ≡ false) × ((handle ≡ handle_of new (length t.scoped) t.drops) × HoldsAccount layouts new (push r t) a)
PushesRoot layouts t a r (Err fault.WrongStore) new = ⊥
PushesRoot layouts t a r (Err fault.Unrooted) new = ⊥
PushesRoot layouts t a r (Err fault.RootsFull) new = (roots_full t ≡ true) × HoldsAccount layouts new t a
PushesRoot layouts t a r (Err fault.Memory) new = HoldsAccount layouts new t a
