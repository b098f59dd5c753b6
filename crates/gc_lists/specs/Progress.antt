-- How far a walk along a list has come.
use Rattle.std.specs.Prelude.{◌≡◌, ◌≤◌, ℕ, ℤ, true, List, ◌∷◌, ◌++◌, Option, Result, Ok, Err, length, FitsSigned}
use Rattle.std.specs.Int.{w64}
use Rattle.gc_types.specs.declared.kind.Layouts.{Layouts}
use Rattle.gc_owner.specs.declared.entry.GcClass.TheVariants.{Any}
use Rattle.gc_model.specs.Values.{Reference, at, reference}
use Rattle.gc_model.specs.Table.{Table, Scoped, Push}
use Rattle.gc_model.specs.Live.{roots_full}
use Rattle.gc_model.specs.Reads.{after_read}
use Rattle.gc_model.specs.Stores.{StoreView}
use Rattle.gc_model.specs.Holds.{HoldsTable}
use Rattle.gc_model.specs.Accounts.{Account, HoldsAccount}
use Rattle.gc_values.specs.declared.root.GcRootIndex.{GcRootIndex}
use Rattle.gc_store.specs.Roots.{NamesReference}
use Rattle.gc_store.specs.Slots.{HandleStands}
use Rattle.gc_lists.specs.declared.fault.ListFault.{ListFault}
use Rattle.gc_lists.specs.declared.fault.ListFault.TheVariants as fault
use Rattle.gc_lists.specs.Cells.{IsCell}
use Rattle.gc_lists.specs.Lists.{IsList}

-- The handle names a cell, with a number in front of the rest.
pub record NamesCell {D : Type 0} (s : StoreView D) (t : Table D) (handle : GcRootIndex) (xs : List ℤ) : Type 0 where
  pub reference : Reference
  pub number : ℤ
  pub rest : List ℤ
  pub next : Reference
  pub cell : IsCell t.types t.objects reference number next
  pub after : IsList t.types t.objects next rest
  pub whole : xs ≡ number ∷ rest
  pub named : NamesReference s t handle (at cell.position)

-- so in some table that the store holds
pub record IsCellIn (D : Type 0) (layouts : Layouts) (s : StoreView D) (handle : GcRootIndex) : Type 0 where
  pub table : Table D
  pub holds : HoldsTable layouts s table
  pub numbers : List ℤ
  pub names : NamesCell s table handle numbers

-- a cell's number was read, and the handle is that of the next one, or none behind the last
pub record ReadsCell {D : Type 0} (layouts : Layouts) (t : Table D) (a : Account) (x : ℤ) (next : Reference) (number : ℤ) (handle : Option GcRootIndex) (new : StoreView D) : Type 0 where
  pub number_is : number ≡ x
  pub fits : FitsSigned w64 number
  pub holds : HoldsAccount layouts new (after_read (reference Any next) t) a
  pub names : HandleStands new (after_read (reference Any next) t) handle next

-- What a step along a list answers and leaves.
abbrev pub Steps : {D : Type 0} → Layouts → Table D → Account → ℤ → Reference → Result (ℤ × Option GcRootIndex) ListFault → StoreView D → Type 0
Steps layouts t a x next (Ok found) new = ReadsCell layouts t a x next found.0 found.1 new
Steps layouts t a x next (Err fault.WrongStore) new = ⊥
Steps layouts t a x next (Err fault.RootsFull) new = (roots_full t ≡ true) × HoldsAccount layouts new t a
Steps layouts t a x next (Err (fault.HeapOutOfMemory f)) new = ⊥
Steps layouts t a x next (Err fault.Memory) new = HoldsAccount layouts new t a

-- at most so many scoped roots were pushed behind those that stood
pub record Pushed {D : Type 0} (t now : Table D) (count : ℕ) : Type 0 where
  pub scoped : List Scoped
  pub pushes : List Push
  pub few : length scoped ≤ count
  pub is : now ≡ record t { scoped = t.scoped ++ scoped; pushes = t.pushes ++ pushes }

-- the store holds the table with so many roots more
pub record HoldsPushed {D : Type 0} (layouts : Layouts) (t : Table D) (a : Account) (count : ℕ) (s : StoreView D) : Type 0 where
  pub now : Table D
  pub holds : HoldsAccount layouts s now a
  pub pushed : Pushed t now count

-- all numbers were read
pub record WalkedAll {D : Type 0} (layouts : Layouts) (t : Table D) (a : Account) (xs : List ℤ) (read : List ℤ) (s : StoreView D) : Type 0 where
  pub there : HoldsPushed layouts t a (length xs) s
  pub all : read ≡ xs

-- why a walk stopped: no root could be pushed behind fewer than the list has numbers
abbrev pub StopsWalk : {D : Type 0} → Layouts → Table D → Account → List ℤ → ListFault → StoreView D → Type 0
StopsWalk layouts t a xs fault.WrongStore s = ⊥
StopsWalk layouts t a xs fault.RootsFull s = (there : HoldsPushed layouts t a (length xs) s) × (roots_full there.now ≡ true)
StopsWalk layouts t a xs (fault.HeapOutOfMemory f) s = ⊥
StopsWalk layouts t a xs fault.Memory s = HoldsPushed layouts t a (length xs) s
