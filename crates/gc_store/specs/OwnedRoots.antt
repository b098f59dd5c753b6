-- What calls on owned roots answer and leave, for a table that the store held. A refusal leaves the table too.
use Rattle.std.specs.Prelude.{◌≡◌, ◌≢◌, ◌-◌, ◌^◌, Bool, true, false, Result, Ok, Err}
use Rattle.std.specs.List.{Contains}
use Rattle.gc_types.specs.declared.kind.Layouts.{Layouts}
use Rattle.gc_model.specs.Values.{Reference}
use Rattle.gc_model.specs.Table.{Table, Owned}
use Rattle.gc_model.specs.OwnedRoots.{own, add_handle, drop_handle, owned_full}
use Rattle.gc_model.specs.Stores.{StoreView}
use Rattle.gc_model.specs.Accounts.{Account, HoldsAccount}
use Rattle.gc_values.specs.declared.root.GcRootIndex.{GcRootIndex}
use Rattle.gc_values.specs.declared.root.RootFault.{RootFault}
use Rattle.gc_values.specs.declared.root.RootFault.TheVariants as fault
use Rattle.gc_store.specs.Roots.{is_of_store, owned_handle, NamesOwned, NamesReference, NamesNothing}

-- an owned root was made for what the handle names, and the answer is its handle
pub record MadeOwned {D : Type 0} (layouts : Layouts) (old : StoreView D) (t : Table D) (a : Account) (handle made : GcRootIndex) (new : StoreView D) : Type 0 where
  pub reference : Reference
  pub named : NamesReference old t handle reference
  pub room : owned_full t ≡ false
  pub made_is : made ≡ owned_handle new t.owns
  pub holds : HoldsAccount layouts new (own reference t) a

-- what making an owned root for what a handle names answers and leaves
abbrev pub MakesOwned : {D : Type 0} → Layouts → StoreView D → Table D → Account → GcRootIndex → Result GcRootIndex RootFault → StoreView D → Type 0
MakesOwned layouts old t a handle (Ok made) new = MadeOwned layouts old t a handle made new
MakesOwned layouts old t a handle (Err fault.WrongStore) new = (is_of_store old handle ≡ false) × HoldsAccount layouts new t a
MakesOwned layouts old t a handle (Err fault.Unrooted) new = (is_of_store old handle ≡ true) × (NamesNothing old t handle × HoldsAccount layouts new t a)
MakesOwned layouts old t a handle (Err fault.RootsFull) new =
    (r : Reference) × (NamesReference old t handle r × ((owned_full t ≡ true) × HoldsAccount layouts new t a))
MakesOwned layouts old t a handle (Err fault.Memory) new = HoldsAccount layouts new t a

-- the handle is one of that owned root of the table
pub record IsHandleOf {D : Type 0} (s : StoreView D) (t : Table D) (handle : GcRootIndex) (root : Owned) : Type 0 where
  pub among : Contains t.owned root
  pub is : handle ≡ owned_handle s root.number

-- the handle names nothing by an owned root
abbrev pub IsOfNone : {D : Type 0} → StoreView D → Table D → GcRootIndex → Type 0
IsOfNone s t handle = (r : Reference) → ¬ NamesOwned s t handle r

-- what one more handle of an owned root answers and leaves
abbrev pub AddsHandle : {D : Type 0} → Layouts → StoreView D → Table D → Account → GcRootIndex → Result (Unit {0}) RootFault → StoreView D → Type 0
AddsHandle layouts old t a handle (Ok done) new =
    (root : Owned) × (IsHandleOf old t handle root × ((root.handles ≢ 2 ^ 32 - 1) × HoldsAccount layouts new (add_handle root.number t) a))
AddsHandle layouts old t a handle (Err fault.WrongStore) new = is_of_store old handle ≡ false
AddsHandle layouts old t a handle (Err fault.Unrooted) new = (is_of_store old handle ≡ true) × IsOfNone old t handle
AddsHandle layouts old t a handle (Err fault.RootsFull) new = (root : Owned) × (IsHandleOf old t handle root × (root.handles ≡ 2 ^ 32 - 1))
AddsHandle layouts old t a handle (Err fault.Memory) new = ⊥

-- what giving up a handle of the store answers and leaves: true where it was of an owned root that has handles
abbrev pub DropsHandle : {D : Type 0} → Layouts → StoreView D → Table D → Account → GcRootIndex → Bool → StoreView D → Type 0
DropsHandle layouts old t a handle true new = (root : Owned) × (IsHandleOf old t handle root × HoldsAccount layouts new (drop_handle root.number t) a)
DropsHandle layouts old t a handle false new = IsOfNone old t handle × HoldsAccount layouts new t a

-- the same of any handle
abbrev pub ReleasesHandle : {D : Type 0} → Layouts → StoreView D → Table D → Account → GcRootIndex → Result Bool RootFault → StoreView D → Type 0
ReleasesHandle layouts old t a handle (Ok was_held) new = (is_of_store old handle ≡ true) × DropsHandle layouts old t a handle was_held new
ReleasesHandle layouts old t a handle (Err fault.WrongStore) new = is_of_store old handle ≡ false
ReleasesHandle layouts old t a handle (Err fault.Unrooted) new = ⊥
ReleasesHandle layouts old t a handle (Err fault.RootsFull) new = ⊥
ReleasesHandle layouts old t a handle (Err fault.Memory) new = ⊥
