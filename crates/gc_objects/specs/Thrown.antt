-- What throwing an exception, and taking the pending one, answer and leave.
use Rattle.std.specs.Prelude.{◌≡◌, true, false, Option, Result, Ok, Err}
use Rattle.gc_types.specs.declared.kind.Layouts.{Layouts}
use Rattle.gc_model.specs.Values.{Reference}
use Rattle.gc_model.specs.Pending.{set_pending}
use Rattle.gc_model.specs.Table.{Table}
use Rattle.gc_model.specs.Stores.{StoreView}
use Rattle.gc_model.specs.Accounts.{Account, HoldsAccount}
use Rattle.gc_values.specs.declared.root.GcRootIndex.{GcRootIndex}
use Rattle.gc_values.specs.declared.root.RootFault.{RootFault}
use Rattle.gc_values.specs.declared.root.RootFault.TheVariants as root_fault
use Rattle.gc_rooted.specs.declared.rooted.Rooted.{Rooted}
use Rattle.gc_store.specs.Roots.{is_of_store, NamesReference, NamesNothing}
use Rattle.gc_store.specs.Thrown.{AnswersPending}
use Rattle.gc_objects.specs.declared.throwing.ThrowFault.{ThrowFault}
use Rattle.gc_objects.specs.declared.throwing.ThrowFault.TheVariants as fault
use Rattle.gc_objects.specs.Given.{root_of_handle}

-- what a throw answers, by what making the exception pending did
abbrev pub thrown : {X : Type 0} → Result (Unit {0}) RootFault → Result X ThrowFault
thrown (Ok done) = Err fault.ThrownException
thrown (Err root_fault.WrongStore) = Err fault.WrongStore
thrown (Err root_fault.Unrooted) = Err fault.Unrooted
thrown (Err root_fault.RootsFull) = Err fault.Unrooted
thrown (Err root_fault.Memory) = Err fault.Unrooted

-- What a throw answers and leaves, never a value: the exception is pending; or the handle is another store's, or isn't
-- live, where nothing changes.
abbrev pub Throws : {D X : Type 0} → Layouts → StoreView D → Table D → Account → GcRootIndex → Result X ThrowFault → StoreView D → Type 0
Throws layouts old t a handle (Ok value) new = ⊥
Throws layouts old t a handle (Err fault.WrongStore) new = (is_of_store old handle ≡ false) × (new ≡ old)
Throws layouts old t a handle (Err fault.Unrooted) new = (is_of_store old handle ≡ true) × (NamesNothing old t handle × (new ≡ old))
Throws layouts old t a handle (Err fault.ThrownException) new =
    (r : Reference) × (NamesReference old t handle r × HoldsAccount layouts new (set_pending r t) a)

-- what taking the pending exception answers and leaves, by a typed handle
abbrev pub TakesThrown : {D T : Type 0} → Layouts → Table D → Account → Result (Option (Rooted T)) RootFault → StoreView D → Type 0
TakesThrown layouts t a (Ok handle) new = AnswersPending layouts t a (Ok (root_of_handle handle)) new
TakesThrown layouts t a (Err why) new = AnswersPending layouts t a (Err why) new
