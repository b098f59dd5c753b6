-- Two nodes that were opened, of which the first is the left child of the second, and what becomes of them.
use Rattle.std.specs.Prelude.{◌≡◌, ◌+◌, ◌<◌, ◌≤◌, ℕ, ℤ, Some, Result, FitsSigned}
use Rattle.std.specs.Int.{w64}
use Rattle.gc_types.specs.declared.kind.Layouts.{Layouts}
use Rattle.gc_model.specs.Allocation.{Limits}
use Rattle.gc_model.specs.Table.{Table}
use Rattle.gc_model.specs.Stores.{StoreView}
use Rattle.gc_model.specs.Holds.{HoldsTable}
use Rattle.gc_lists.specs.declared.fault.ListFault.{ListFault}
use Rattle.gc_lists.specs.declared.kit.Kit.{Kit}
use Rattle.gc_lists.specs.Kits.{IsNodeType}
use Rattle.gc_values.specs.declared.root.GcRootIndex.{GcRootIndex}
use Rattle.gc_maps.specs.declared.part.Opened.{Opened}
use Rattle.gc_maps.specs.declared.part.Part.{Part}
use Rattle.gc_maps.specs.Ends.{EndsMakingNodes}
use Rattle.gc_maps.specs.Trees.{Tree, height, IsBalanced, Joins}
use Rattle.gc_maps.specs.Parts.{RootIs, OpenedIs, PartIs, node_of}

-- the first is over x and a node (b i w c), and the second has y on its right
pub record Turns {D : Type 0} (s : StoreView D) (t : Table D) (ty : ℕ) (high opened : Opened) (x : Tree) (j u : ℤ) (b : Tree) (i w : ℤ) (c : Tree) (k v : ℤ) (y : Tree) : Type 0 where
  pub first : OpenedIs s t ty high x j u (node_of b i w c)
  pub low_x : height x < 400
  pub low_b : height b < 400
  pub low_c : height c < 400
  pub key_is : opened.key ≡ k
  pub value_is : opened.value ≡ v
  pub key_fits : FitsSigned w64 k
  pub value_fits : FitsSigned w64 v
  pub right : PartIs s t ty opened.right y
  pub low_y : height y < 400

-- so in some table that the store holds, and its type is one of nodes
pub record CanTurn (D : Type 0) (layouts : Layouts) (s : StoreView D) (ty : ℕ) (high opened : Opened) : Type 0 where
  pub of_nodes : IsNodeType s.types ty
  pub table : Table D
  pub holds : HoldsTable layouts s table
  pub x : Tree
  pub b : Tree
  pub c : Tree
  pub y : Tree
  pub j : ℤ
  pub u : ℤ
  pub i : ℤ
  pub w : ℤ
  pub k : ℤ
  pub v : ℤ
  pub turns : Turns s table ty high opened x j u b i w c k v y

-- the root is the left child of what is opened, which is too high
pub record IsHighLeft {D : Type 0} (s : StoreView D) (t : Table D) (ty : ℕ) (root : GcRootIndex) (opened : Opened) (x : Tree) (k v : ℤ) (y : Tree) : Type 0 where
  pub is : OpenedIs s t ty opened x k v y
  pub root_is : RootIs s t ty (Some root) x
  pub left : IsBalanced x
  pub right : IsBalanced y
  pub high : height x ≡ height y + 2
  pub low : height x < 400

-- so in some table that the store holds
pub record HighLeftIn (D : Type 0) (layouts : Layouts) (s : StoreView D) (ty : ℕ) (root : GcRootIndex) (opened : Opened) : Type 0 where
  pub of_nodes : IsNodeType s.types ty
  pub table : Table D
  pub holds : HoldsTable layouts s table
  pub x : Tree
  pub key : ℤ
  pub value : ℤ
  pub y : Tree
  pub is : IsHighLeft s table ty root opened x key value y

-- the root is the right child of what is opened, which is too high
pub record IsHighRight {D : Type 0} (s : StoreView D) (t : Table D) (ty : ℕ) (root : GcRootIndex) (opened : Opened) (x : Tree) (k v : ℤ) (y : Tree) : Type 0 where
  pub is : OpenedIs s t ty opened x k v y
  pub root_is : RootIs s t ty (Some root) y
  pub left : IsBalanced x
  pub right : IsBalanced y
  pub high : height y ≡ height x + 2
  pub low : height y < 400

-- so in some table that the store holds
pub record HighRightIn (D : Type 0) (layouts : Layouts) (s : StoreView D) (ty : ℕ) (root : GcRootIndex) (opened : Opened) : Type 0 where
  pub of_nodes : IsNodeType s.types ty
  pub table : Table D
  pub holds : HoldsTable layouts s table
  pub x : Tree
  pub key : ℤ
  pub value : ℤ
  pub y : Tree
  pub is : IsHighRight s table ty root opened x key value y

-- a part joins two trees with the pair between
pub record IsJoined {D : Type 0} (s : StoreView D) (t : Table D) (ty : ℕ) (part : Part) (x : Tree) (pair : ℤ × ℤ) (y : Tree) : Type 0 where
  pub tree : Tree
  pub is : PartIs s t ty part tree
  pub joins : Joins x pair y tree

-- two trees of heights that differ by at most two, with a pair between
pub record IsJoinable {D : Type 0} (s : StoreView D) (t : Table D) (ty : ℕ) (opened : Opened) (x : Tree) (k v : ℤ) (y : Tree) : Type 0 where
  pub is : OpenedIs s t ty opened x k v y
  pub left : IsBalanced x
  pub right : IsBalanced y
  pub near_left : height x ≤ height y + 2
  pub near_right : height y ≤ height x + 2
  pub low_left : height x < 400
  pub low_right : height y < 400

-- so in some table that the store holds
pub record JoinableIn (D : Type 0) (layouts : Layouts) (s : StoreView D) (ty : ℕ) (opened : Opened) : Type 0 where
  pub of_nodes : IsNodeType s.types ty
  pub table : Table D
  pub holds : HoldsTable layouts s table
  pub x : Tree
  pub key : ℤ
  pub value : ℤ
  pub y : Tree
  pub is : IsJoinable s table ty opened x key value y

-- Steps that join two trees with a pair between, by at most three nodes of a kit, end with a part that does, or are refused.
abbrev pub EndsJoining : {D : Type 0} → Layouts → StoreView D → Kit → Table D → Limits → Limits → Tree → ℤ × ℤ → Tree → Result Part ListFault → StoreView D → Type 0
EndsJoining layouts old kit t limits limits' x pair y result new =
    EndsMakingNodes layouts old.alloc_counter kit 3 7 t limits limits' (λ s u part. IsJoined s u kit.node part x pair y) result new
