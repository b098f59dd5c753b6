-- What calls on lists answer and leave, for a table that the store held.
use Rattle.std.specs.Prelude.{◌≡◌, ◌+◌, ℕ, ℤ, Bool, true, false, List, ◌∷◌, Option, Some, None, Result, Ok, Err, drop, length}
use Rattle.std.specs.Int.{w64}
use Rattle.gc_types.specs.declared.kind.Layouts.{Layouts}
use Rattle.gc_model.specs.Values.{Reference, number_bits}
use Rattle.gc_model.specs.Table.{Table, Owned}
use Rattle.gc_model.specs.OwnedRoots.{own, owned_full}
use Rattle.gc_model.specs.Allocation.{Limits}
use Rattle.gc_model.specs.Stores.{StoreView}
use Rattle.gc_model.specs.Accounts.{Account, HoldsAccount}
use Rattle.gc_model.specs.Policy.{PolicyState}
use Rattle.gc_values.specs.declared.root.GcRootIndex.{GcRootIndex}
use Rattle.gc_store.specs.OwnedRoots.{DropsHandle}
use Rattle.gc_store.specs.Places.{LacksPlace}
use Rattle.gc_store.specs.Roots.{owned_handle}
use Rattle.gc_lists.specs.declared.fault.ListFault.{ListFault}
use Rattle.gc_lists.specs.declared.fault.ListFault.TheVariants as fault
use Rattle.gc_lists.specs.declared.kit.Kit.{Kit}
use Rattle.gc_lists.specs.declared.list.HeapList.{HeapList}
use Rattle.gc_lists.specs.Cells.{cell}
use Rattle.gc_lists.specs.Frames.{ChangesOwned, ChangesObjects, Leaves, most_objects}
use Rattle.gc_lists.specs.Lists.{IsListOf}
use Rattle.gc_lists.specs.Refusals.{LacksScoped, LacksOwned, RefusedInCall}
use Rattle.gc_lists.specs.Versions.{VersionStands, VersionNames}

-- the owned roots that stand where a version was answered: one more where it isn't empty
abbrev pub owned_with : {D : Type 0} → Table D → Option GcRootIndex → Reference → List Owned
owned_with t None r = t.owned
owned_with t (Some handle) r = (own r t).owned

-- a version that isn't empty has an owned root of its own: the one that was made now
abbrev pub HasNewRoot : {D : Type 0} → StoreView D → Table D → Option GcRootIndex → Type 0
HasNewRoot new t None = Unit {0}
HasNewRoot new t (Some handle) = handle ≡ owned_handle new t.owns

-- a version was answered that stands for this, in the table that the store holds now
pub record AnswersVersion {D : Type 0} (layouts : Layouts) (t : Table D) (Changed : List Owned → Table D → Type 0) (Is : Table D → Reference → Type 0) (version : Option GcRootIndex)
    (new : StoreView D) : Type 0 where
  pub after : Table D
  pub account : Account
  pub holds : HoldsAccount layouts new after account
  pub stands : VersionStands new after version (Is after)
  pub has_new_root : HasNewRoot new t version
  pub changed : Changed (owned_with t version stands.reference) after

-- the list is that of these numbers, and its cells are of that type
abbrev pub AreNumbers : {D : Type 0} → ℕ → List ℤ → Table D → Reference → Type 0
AreNumbers ty xs t r = IsListOf t.types t.objects ty xs r

-- the heap had no room for a cell with that number in front of the version, and got no more
pub record LacksCell {D : Type 0} (layouts : Layouts) (counter : Option ℕ) (ty : ℕ) (old : StoreView D) (version : Option GcRootIndex) (x : ℤ) (p : PolicyState D) (limits' : Limits) (need : ℕ)
    (new : StoreView D) : Type 0 where
  pub next : Reference
  pub names : VersionNames old p.table version next
  pub lacks : LacksPlace layouts counter (cell ty (number_bits w64 x) next) p limits' need new
  pub refused : RefusedInCall need p.limits limits' lacks.after.table

-- a cell may be made, under the limit that was told at first
abbrev pub ChangesCells : {D : Type 0} → Kit → PolicyState D → List Owned → Table D → Type 0
ChangesCells kit p = ChangesObjects p.limits.limit kit 1 p.table

-- What a number in front of a list answers and leaves.
abbrev pub Conses : {D : Type 0} → Layouts → Kit → StoreView D → Option GcRootIndex → List ℤ → ℤ → PolicyState D → Limits → Result HeapList ListFault → StoreView D → Type 0
Conses layouts kit old version xs x p limits' (Ok list) new = AnswersVersion layouts p.table (ChangesCells kit p) (AreNumbers kit.cell (x ∷ xs)) list.root new
Conses layouts kit old version xs x p limits' (Err fault.WrongStore) new = ⊥
Conses layouts kit old version xs x p limits' (Err fault.RootsFull) new = LacksOwned p.table × Leaves layouts (ChangesCells kit p p.table.owned) new
Conses layouts kit old version xs x p limits' (Err (fault.HeapOutOfMemory f)) new =
    LacksCell layouts old.alloc_counter kit.cell old version x p limits' f.bytes_needed new × Leaves layouts (ChangesCells kit p p.table.owned) new
Conses layouts kit old version xs x p limits' (Err fault.Memory) new = Leaves layouts (ChangesCells kit p p.table.owned) new

-- What the rest of a list answers and leaves.
abbrev pub Tails : {D : Type 0} → Layouts → ℕ → List ℤ → Table D → Result HeapList ListFault → StoreView D → Type 0
Tails layouts ty xs t (Ok list) new = AnswersVersion layouts t (ChangesOwned t) (AreNumbers ty (drop 1 xs)) list.root new
Tails layouts ty xs t (Err fault.WrongStore) new = ⊥
Tails layouts ty xs t (Err fault.RootsFull) new = LacksOwned t × Leaves layouts (ChangesOwned t t.owned) new
Tails layouts ty xs t (Err (fault.HeapOutOfMemory f)) new = ⊥
Tails layouts ty xs t (Err fault.Memory) new = Leaves layouts (ChangesOwned t t.owned) new

-- what a copy of a list's numbers leaves where it is answered, and where it isn't
abbrev pub Copied : {D : Type 0} → Layouts → List ℤ → Table D → List ℤ → StoreView D → Type 0
Copied layouts xs t numbers new = (numbers ≡ xs) × Leaves layouts (ChangesOwned t t.owned) new

abbrev pub FailsToCopy : {D : Type 0} → Layouts → List ℤ → Table D → ListFault → StoreView D → Type 0
FailsToCopy layouts xs t fault.WrongStore new = ⊥
FailsToCopy layouts xs t fault.RootsFull new = LacksScoped t (length xs + most_objects) × Leaves layouts (ChangesOwned t t.owned) new
FailsToCopy layouts xs t (fault.HeapOutOfMemory f) new = ⊥
FailsToCopy layouts xs t fault.Memory new = Leaves layouts (ChangesOwned t t.owned) new

-- what giving up a version of this store leaves: its owned root has a handle less, where it has any
abbrev pub Releases : {D : Type 0} → Layouts → StoreView D → Table D → Account → Option GcRootIndex → StoreView D → Type 0
Releases layouts old t a None new = HoldsAccount layouts new t a
Releases layouts old t a (Some handle) new = (was_live : Bool) × DropsHandle layouts old t a handle was_live new

-- a version has another root than one that isn't empty
abbrev pub AreApart : Option GcRootIndex → Option GcRootIndex → Type 0
AreApart one other = (handle : GcRootIndex) → one ≡ Some handle → ¬ (other ≡ Some handle)

-- a version names what it named, where owned roots alone have changed
pub record LeavesVersion {D : Type 0} (layouts : Layouts) (t : Table D) (a : Account) (version : Option GcRootIndex) (r : Reference) (new : StoreView D) : Type 0 where
  pub owned : List Owned
  pub holds : HoldsAccount layouts new (record t { owned = owned }) a
  pub names : VersionNames new (record t { owned = owned }) version r

-- What an owned root for what a scoped root names answers, and leaves once a scope was left.
abbrev pub KeepsRoot : {D : Type 0} → Layouts → Table D → Account → Reference → (Table D → Table D) → Result GcRootIndex ListFault → StoreView D → Type 0
KeepsRoot layouts t a r leave (Ok made) new = (owned_full t ≡ false) × ((made ≡ owned_handle new t.owns) × HoldsAccount layouts new (leave (own r t)) a)
KeepsRoot layouts t a r leave (Err fault.WrongStore) new = ⊥
KeepsRoot layouts t a r leave (Err fault.RootsFull) new = (owned_full t ≡ true) × HoldsAccount layouts new (leave t) a
KeepsRoot layouts t a r leave (Err (fault.HeapOutOfMemory f)) new = ⊥
KeepsRoot layouts t a r leave (Err fault.Memory) new = HoldsAccount layouts new (leave t) a
