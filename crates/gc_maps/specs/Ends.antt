-- How the steps of a call end: what they leave of the table, and why they are refused.
use Rattle.std.specs.Prelude.{◌≡◌, ◌≤◌, ℕ, true, List, ◌++◌, Option, Result, Ok, Err, All, length}
use Rattle.gc_types.specs.declared.kind.Layouts.{Layouts}
use Rattle.gc_model.specs.Values.{Object}
use Rattle.gc_model.specs.Allocation.{Limits}
use Rattle.gc_model.specs.Live.{roots_full}
use Rattle.gc_model.specs.Table.{Table, Scoped, Push}
use Rattle.gc_model.specs.Stores.{StoreView}
use Rattle.gc_model.specs.Accounts.{HoldsAccount}
use Rattle.gc_model.specs.Policy.{PolicyState}
use Rattle.gc_store.specs.Places.{LacksPlace}
use Rattle.gc_lists.specs.declared.fault.ListFault.{ListFault}
use Rattle.gc_lists.specs.declared.fault.ListFault.TheVariants as fault
use Rattle.gc_lists.specs.declared.kit.Kit.{Kit}
use Rattle.gc_lists.specs.Cells.{IsOfKit}
use Rattle.gc_lists.specs.Frames.{KeepsLimit, Leaves}
use Rattle.gc_lists.specs.Refusals.{CountsOn}

-- at most so many scoped roots were pushed
pub record Pushes {D : Type 0} (most : ℕ) (t u : Table D) : Type 0 where
  pub scoped : List Scoped
  pub few : length scoped ≤ most
  pub pushes : List Push
  pub rest : u ≡ record t { scoped = t.scoped ++ scoped; pushes = t.pushes ++ pushes }

-- and at most so many nodes of a kit were made, for which the heap may have got pages, under a limit
pub record MakesNodes {D : Type 0} (limit : Option ℕ) (kit : Kit) (nodes most : ℕ) (t u : Table D) : Type 0 where
  pub made : List (Object D)
  pub of_kit : All (IsOfKit kit) made
  pub few_made : length made ≤ nodes
  pub scoped : List Scoped
  pub few : length scoped ≤ most
  pub pushes : List Push
  pub rest : u ≡ record t { objects = t.objects ++ made; scoped = t.scoped ++ scoped; pushes = t.pushes ++ pushes; made = u.made; pages = u.pages }
  pub pages : KeepsLimit limit t u

-- Steps that only read end with what was read, or are refused a root.
abbrev pub EndsReading : {D A : Type 0} → Layouts → ℕ → Table D → (StoreView D → Table D → A → Type 0) → Result A ListFault → StoreView D → Type 0
EndsReading layouts most t Done (Ok x) new = Leaves layouts (λ u. Pushes most t u × Done new u x) new
EndsReading layouts most t Done (Err fault.WrongStore) new = ⊥
EndsReading layouts most t Done (Err fault.RootsFull) new = Leaves layouts (λ u. Pushes most t u × (roots_full u ≡ true)) new
EndsReading layouts most t Done (Err (fault.HeapOutOfMemory f)) new = ⊥
EndsReading layouts most t Done (Err fault.Memory) new = Leaves layouts (Pushes most t) new

-- an object of the kit was refused by the heap, behind the steps that came before it, where the store had come to such a table and account, and the limiter, which had
-- lost no refusal, to such limits
pub record LacksNode {D : Type 0} (layouts : Layouts) (counter : Option ℕ) (kit : Kit) (nodes most : ℕ) (t : Table D) (limits limits' : Limits) (need : ℕ) (new : StoreView D) : Type 0 where
  pub before : PolicyState D
  pub counts : CountsOn limits before.limits
  pub grows : MakesNodes limits'.limit kit nodes most t before.table
  pub asked : StoreView D
  pub held : HoldsAccount layouts asked before.table before.account
  pub object : Object D
  pub of_kit : IsOfKit kit object
  pub lacks : LacksPlace layouts counter object before limits' need new

-- Steps that make nodes end with what they give, or are refused a root or a node. A limiter tells these limits before and after.
abbrev pub EndsMakingNodes : {D A : Type 0} → Layouts → Option ℕ → Kit → ℕ → ℕ → Table D → Limits → Limits → (StoreView D → Table D → A → Type 0) → Result A ListFault → StoreView D → Type 0
EndsMakingNodes layouts counter kit nodes most t limits limits' Done (Ok x) new = Leaves layouts (λ u. MakesNodes limits'.limit kit nodes most t u × Done new u x) new
EndsMakingNodes layouts counter kit nodes most t limits limits' Done (Err fault.WrongStore) new = ⊥
EndsMakingNodes layouts counter kit nodes most t limits limits' Done (Err fault.RootsFull) new = Leaves layouts (λ u. MakesNodes limits'.limit kit nodes most t u × (roots_full u ≡ true)) new
EndsMakingNodes layouts counter kit nodes most t limits limits' Done (Err (fault.HeapOutOfMemory f)) new = LacksNode layouts counter kit nodes most t limits limits' f.bytes_needed new
EndsMakingNodes layouts counter kit nodes most t limits limits' Done (Err fault.Memory) new = Leaves layouts (MakesNodes limits'.limit kit nodes most t) new
