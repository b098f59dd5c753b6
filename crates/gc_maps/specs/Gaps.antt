-- Removing a key: what closes the gap that its node leaves.
use Rattle.std.specs.Prelude.{◌<◌, ℕ, ℤ, not, T, List, [], Some, FitsSigned}
use Rattle.std.specs.Int.{w64}
use Rattle.std.specs.Ordering.{int_cmp, eq_by_cmp}
use Rattle.std.specs.FinMap.Entries.{below_all, where_key}
use Rattle.gc_types.specs.declared.kind.Layouts.{Layouts}
use Rattle.gc_model.specs.Table.{Table}
use Rattle.gc_model.specs.Stores.{StoreView}
use Rattle.gc_model.specs.Holds.{HoldsTable}
use Rattle.gc_values.specs.declared.root.GcRootIndex.{GcRootIndex}
use Rattle.gc_maps.specs.declared.part.Frame.{Frame}
use Rattle.gc_maps.specs.declared.part.Node.{Node}
use Rattle.gc_maps.specs.declared.part.Part.{Part}
use Rattle.gc_maps.specs.Trees.{Tree, leaf, node, height, pairs, IsBalanced}
use Rattle.gc_maps.specs.Parts.{RootIs}
use Rattle.gc_maps.specs.Paths.{Descended, LeadsDown, Rises}
use Rattle.gc_maps.specs.Searching.{IsSearch}

-- the pairs of other keys
abbrev pub others : ℤ → List (ℤ × ℤ) → List (ℤ × ℤ)
others key pairs = where_key int_cmp (λ x. not (eq_by_cmp int_cmp key x)) pairs

-- the frame is that of a tree's least node, which has no left child, and frames lead to that node
pub record IsLeastNode {D : Type 0} (s : StoreView D) (t : Table D) (ty : ℕ) (tree : Tree) (frames : List Frame) (least : Frame) : Type 0 where
  pub part : Tree
  pub root : RootIs s t ty least.other part
  pub key_fits : FitsSigned w64 least.key
  pub value_fits : FitsSigned w64 least.value
  pub behind : List (ℤ × ℤ)
  pub path : LeadsDown s t ty frames (node leaf least.key least.value part) tree [] behind

-- the root is a search tree above a key, in some table that the store holds
pub record AboveIn (D : Type 0) (layouts : Layouts) (s : StoreView D) (root : GcRootIndex) (key : ℤ) : Type 0 where
  pub table : Table D
  pub holds : HoldsTable layouts s table
  pub ty : ℕ
  pub tree : Tree
  pub is : RootIs s table ty (Some root) tree
  pub search : IsSearch tree
  pub above : T (below_all int_cmp key (pairs tree))

-- a node that has the key was found at the end of frames, in some table that the store holds
pub record GapIn (D : Type 0) (layouts : Layouts) (s : StoreView D) (key : ℤ) (frames : List Frame) (found : Node) : Type 0 where
  pub table : Table D
  pub holds : HoldsTable layouts s table
  pub ty : ℕ
  pub tree : Tree
  pub search : IsSearch tree
  pub low : height tree < 92
  pub descended : Descended s table ty tree key frames (Some found)

-- A part closes a gap: frames lead to its place in a balanced tree, which it makes one of these pairs.
pub record Closes {D : Type 0} (s : StoreView D) (t : Table D) (ty : ℕ) (frames : List Frame) (part : Part) (entries : List (ℤ × ℤ)) : Type 0 where
  pub whole : Tree
  pub balanced : IsBalanced whole
  pub low : height whole < 92
  pub rises : Rises s t ty whole frames part entries
