-- Which nodes may be made of parts.
use Rattle.std.specs.Prelude.{◌≡◌, ◌<◌, ℕ, ℤ, pos, Result}
use Rattle.gc_types.specs.declared.kind.Layouts.{Layouts}
use Rattle.gc_model.specs.Allocation.{Limits}
use Rattle.gc_model.specs.Table.{Table}
use Rattle.gc_model.specs.Stores.{StoreView}
use Rattle.gc_model.specs.Holds.{HoldsTable}
use Rattle.gc_lists.specs.declared.fault.ListFault.{ListFault}
use Rattle.gc_lists.specs.declared.kit.Kit.{Kit}
use Rattle.gc_lists.specs.Kits.{IsNodeType}
use Rattle.gc_maps.specs.declared.part.Part.{Part}
use Rattle.gc_maps.specs.declared.part.Opened.{Opened}
use Rattle.gc_maps.specs.Ends.{EndsMakingNodes}
use Rattle.gc_maps.specs.Trees.{Tree, height}
use Rattle.gc_maps.specs.Parts.{PartIs, OpenedIs}

-- the height of a part is a small number
pub record IsLow (high : ℤ) : Type 0 where
  pub number : ℕ
  pub is : high ≡ pos number
  pub low : number < 1000

-- a part is some low tree with nodes of that type
pub record LowPart {D : Type 0} (s : StoreView D) (t : Table D) (ty : ℕ) (part : Part) : Type 0 where
  pub tree : Tree
  pub is : PartIs s t ty part tree
  pub low : height tree < 1000

-- two parts are in some table that the store holds, and its type is one of nodes
pub record CanMakeNode (D : Type 0) (layouts : Layouts) (s : StoreView D) (ty : ℕ) (left right : Part) : Type 0 where
  pub of_nodes : IsNodeType s.types ty
  pub table : Table D
  pub holds : HoldsTable layouts s table
  pub in_left : LowPart s table ty left
  pub in_right : LowPart s table ty right

-- a node that is to be made is over some trees of such heights
pub record LowOpened {D : Type 0} (s : StoreView D) (t : Table D) (ty : ℕ) (opened : Opened) : Type 0 where
  pub left : Tree
  pub key : ℤ
  pub value : ℤ
  pub right : Tree
  pub is : OpenedIs s t ty opened left key value right
  pub low_left : height left < 500
  pub low_right : height right < 500

-- two such nodes, in some table that the store holds, and its type is one of nodes
pub record CanMakeTwo (D : Type 0) (layouts : Layouts) (s : StoreView D) (ty : ℕ) (left right : Opened) : Type 0 where
  pub of_nodes : IsNodeType s.types ty
  pub table : Table D
  pub holds : HoldsTable layouts s table
  pub in_left : LowOpened s table ty left
  pub in_right : LowOpened s table ty right

-- a part and a node over which another one is made, in some table that the store holds, and its type is one of nodes
pub record CanMakeOver (D : Type 0) (layouts : Layouts) (s : StoreView D) (ty : ℕ) (part : Part) (low : Opened) : Type 0 where
  pub of_nodes : IsNodeType s.types ty
  pub table : Table D
  pub holds : HoldsTable layouts s table
  pub in_part : LowPart s table ty part
  pub in_low : LowOpened s table ty low

-- Steps that make a tree by nodes of a kit end with a part that is that tree, or are refused.
abbrev pub EndsMaking : {D : Type 0} → Layouts → StoreView D → Kit → ℕ → ℕ → Table D → Limits → Limits → Tree → Result Part ListFault → StoreView D → Type 0
EndsMaking layouts old kit nodes most t limits limits' tree result new =
    EndsMakingNodes layouts old.alloc_counter kit nodes most t limits limits' (λ s u part. PartIs s u kit.node part tree) result new
