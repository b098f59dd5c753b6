-- How the entries of a map are copied out: what that leaves of the table, and why it is refused.
use Rattle.std.specs.Prelude.{◌≡◌, min, ◌⊎◌, ◌+◌, ◌-◌, ◌≤◌, ◌<◌, ◌^◌, ℕ, ℤ, true, List, ◌++◌, Option, Result, Ok, Err, length}
use Rattle.std.specs.FinMap as finite
use Rattle.gc_types.specs.declared.kind.Layouts.{Layouts}
use Rattle.gc_model.specs.Live.{roots_full}
use Rattle.gc_model.specs.Table.{Table, Scoped, Push}
use Rattle.gc_model.specs.Stores.{StoreView}
use Rattle.gc_model.specs.Accounts.{Account, HoldsAccount}
use Rattle.gc_values.specs.declared.root.GcRootIndex.{GcRootIndex}
use Rattle.gc_lists.specs.declared.fault.ListFault.{ListFault}
use Rattle.gc_lists.specs.declared.fault.ListFault.TheVariants as fault
use Rattle.gc_lists.specs.Frames.{ChangesOwned, Leaves, most_objects}
use Rattle.gc_maps.specs.Maps.{IntMap}
use Rattle.gc_maps.specs.Parts.{RootIn, NodeIn, node_of}
use Rattle.gc_maps.specs.Trees.{height}

-- At most so many scoped roots were pushed that stand, others were pushed and are gone, and the scope ends that dropped a
-- root are at most so many more, and no fewer.
pub record VisitsNodes {D : Type 0} (most ends : ℕ) (t u : Table D) : Type 0 where
  pub scoped : List Scoped
  pub few : length scoped ≤ most
  pub pushes : List Push
  pub ended : u.drops ≤ t.drops + ends
  pub onward : min t.drops (2 ^ 64 - 1) ≤ u.drops
  pub rest : u ≡ record t { scoped = t.scoped ++ scoped; pushes = t.pushes ++ pushes; drops = u.drops }

-- Fewer than so many scoped roots are left, or the count of scope ends may come to its end with so many more of them. A
-- scope is left for each node: a map may have more nodes than scoped roots may stand.
abbrev pub LacksVisits : {D : Type 0} → Table D → ℕ → ℕ → Type 0
LacksVisits t roots ends = (t.max_scoped < length t.scoped + roots) ⊎ (2 ^ 64 - 1 ≤ t.drops + ends)

-- Steps stopped for want of a root: in a table that the store had come to by them, before the scopes were left, no further one may be made.
pub record StopsForRoots {D : Type 0} (layouts : Layouts) (roots ends : ℕ) (t : Table D) : Type 0 where
  pub inside : StoreView D
  pub step : Table D
  pub account : Account
  pub holds : HoldsAccount layouts inside step account
  pub visits : VisitsNodes roots ends t step
  pub full : roots_full step ≡ true

-- the root is a tree no higher than that, in some table that the store holds
pub record RootWithin (D : Type 0) (layouts : Layouts) (s : StoreView D) (root : Option GcRootIndex) (most : ℕ) : Type 0 where
  pub here : RootIn D layouts s root
  pub low : height here.tree ≤ most

-- so where it has a node
pub record NodeWithin (D : Type 0) (layouts : Layouts) (s : StoreView D) (handle : GcRootIndex) (most : ℕ) : Type 0 where
  pub here : NodeIn D layouts s handle
  pub low : height (node_of here.left here.key here.value here.right) ≤ most

-- Steps that copy a part of a tree end with the part copied, or are refused a root.
abbrev pub EndsCopying : {D : Type 0} → Layouts → ℕ → ℕ → ℕ → Table D → Type 0 → Result (Unit {0}) ListFault → StoreView D → Type 0
EndsCopying layouts most roots ends t copied (Ok x) new = Leaves layouts (VisitsNodes most ends t) new × copied
EndsCopying layouts most roots ends t copied (Err fault.WrongStore) new = ⊥
EndsCopying layouts most roots ends t copied (Err fault.RootsFull) new = StopsForRoots layouts roots ends t × Leaves layouts (VisitsNodes most ends t) new
EndsCopying layouts most roots ends t copied (Err (fault.HeapOutOfMemory f)) new = ⊥
EndsCopying layouts most roots ends t copied (Err fault.Memory) new = Leaves layouts (VisitsNodes most ends t) new

-- what a copy of a map's entries leaves where it is answered, and where it isn't
abbrev pub CopiedEntries : {D : Type 0} → Layouts → IntMap → Table D → List (ℤ × ℤ) → StoreView D → Type 0
CopiedEntries layouts m t entries new = (entries ≡ finite.entries m) × Leaves layouts (ChangesOwned t t.owned) new

-- A scope end may come for each entry. A root is wanting at a step of the copy, so fewer are left than that needs, or scope ends are counted to their end on the way.
abbrev pub FailsToCopyEntries : {D : Type 0} → Layouts → IntMap → Table D → ListFault → StoreView D → Type 0
FailsToCopyEntries layouts m t fault.WrongStore new = ⊥
FailsToCopyEntries layouts m t fault.RootsFull new =
    (StopsForRoots layouts most_objects (finite.len m) t × LacksVisits t most_objects (finite.len m)) × Leaves layouts (ChangesOwned t t.owned) new
FailsToCopyEntries layouts m t (fault.HeapOutOfMemory f) new = ⊥
FailsToCopyEntries layouts m t fault.Memory new = Leaves layouts (ChangesOwned t t.owned) new
