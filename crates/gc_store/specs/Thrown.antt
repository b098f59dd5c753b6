-- What setting, taking and telling of the pending exception answer and leave.
use Rattle.std.specs.Prelude.{◌≡◌, true, false, Option, Some, None, Result, Ok, Err, length}
use Rattle.gc_types.specs.declared.kind.Layouts.{Layouts}
use Rattle.gc_types.specs.declared.value.Tag.{Tag}
use Rattle.gc_model.specs.Values.{Reference}
use Rattle.gc_model.specs.Table.{Table, push}
use Rattle.gc_model.specs.Live.{roots_full}
use Rattle.gc_model.specs.Pending.{set_pending, take_pending}
use Rattle.gc_model.specs.Stores.{StoreView}
use Rattle.gc_model.specs.Holds.{HoldsTable, IsException}
use Rattle.gc_values.specs.declared.root.GcRootIndex.{GcRootIndex}
use Rattle.gc_values.specs.declared.root.RootFault.{RootFault}
use Rattle.gc_values.specs.declared.root.RootFault.TheVariants as fault
use Rattle.gc_model.specs.Accounts.{Account, HoldsAccount}
use Rattle.gc_store.specs.Roots.{handle_of, is_of_store, NamesReference, NamesNothing}

-- what the handle names, where it is live, is an exception, in each table that the store holds
abbrev pub NamesException : (D : Type 0) → Layouts → StoreView D → GcRootIndex → Type 0
NamesException D layouts s handle = (t : Table D) (r : Reference) → HoldsTable layouts s t → NamesReference s t handle r → IsException t.objects r

-- What an exception that is to be pending is answered and leaves: it is pending, or the handle is another store's, or not
-- live.
abbrev pub SetsPending : {D : Type 0} → Layouts → StoreView D → Table D → Account → GcRootIndex → Result (Unit {0}) RootFault → StoreView D → Type 0
SetsPending layouts old t a handle (Ok done) new = (r : Reference) × (NamesReference old t handle r × HoldsAccount layouts new (set_pending r t) a)
SetsPending layouts old t a handle (Err fault.WrongStore) new = is_of_store old handle ≡ false
SetsPending layouts old t a handle (Err fault.Unrooted) new = (is_of_store old handle ≡ true) × NamesNothing old t handle
SetsPending layouts old t a handle (Err fault.RootsFull) new = ⊥
SetsPending layouts old t a handle (Err fault.Memory) new = ⊥

-- the exception that was pending has a new scoped root, whose handle is this, and none is pending
pub record TakesPending {D : Type 0} (layouts : Layouts) (t : Table D) (a : Account) (handle : GcRootIndex) (new : StoreView D) : Type 0 where
  pub root : Reference
  pub was_pending : t.pending ≡ Some root
  pub not_full : roots_full t ≡ false
  pub handle_is : handle ≡ handle_of new (length t.scoped) t.drops
  pub holds : HoldsAccount layouts new (take_pending (push root t)) a

-- an exception is pending, and stays so, as no further scoped root may be made
pub record KeepsPending {D : Type 0} (layouts : Layouts) (t : Table D) (a : Account) (new : StoreView D) : Type 0 where
  pub root : Reference
  pub is_pending : t.pending ≡ Some root
  pub full : roots_full t ≡ true
  pub holds : HoldsAccount layouts new t a

-- What taking the pending exception answers and leaves; none is answered exactly where none is pending.
abbrev pub AnswersPending : {D : Type 0} → Layouts → Table D → Account → Result (Option GcRootIndex) RootFault → StoreView D → Type 0
AnswersPending layouts t a (Ok (Some handle)) new = TakesPending layouts t a handle new
AnswersPending layouts t a (Ok None) new = (t.pending ≡ None) × HoldsAccount layouts new t a
AnswersPending layouts t a (Err fault.WrongStore) new = ⊥
AnswersPending layouts t a (Err fault.Unrooted) new = ⊥
AnswersPending layouts t a (Err fault.RootsFull) new = KeepsPending layouts t a new
AnswersPending layouts t a (Err fault.Memory) new = (¬ (t.pending ≡ None)) × HoldsAccount layouts new t a

-- the tag of a pending exception; none exactly where none is pending
abbrev pub TellsTag : {D : Type 0} → Table D → Option Tag → Type 0
TellsTag t None = t.pending ≡ None
TellsTag t (Some tag) = (r : Reference) × ((t.pending ≡ Some r) × ((is : IsException t.objects r) × (is.tag ≡ tag)))
