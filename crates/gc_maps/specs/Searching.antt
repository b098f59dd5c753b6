-- Search trees, and how far a look for a key has come.
use Rattle.std.specs.Prelude.{ℕ, ℤ, ◌+◌, T, Option}
use Rattle.std.specs.Ordering.{int_cmp}
use Rattle.std.specs.declared.cmp.Ordering.{Ordering}
use Rattle.std.specs.declared.cmp.Ordering.TheVariants.{Less, Equal, Greater}
use Rattle.std.specs.FinMap.Entries.{is_sorted}
use Rattle.gc_types.specs.declared.kind.Layouts.{Layouts}
use Rattle.gc_model.specs.Table.{Table}
use Rattle.gc_model.specs.Stores.{StoreView}
use Rattle.gc_model.specs.Holds.{HoldsTable}
use Rattle.gc_values.specs.declared.root.GcRootIndex.{GcRootIndex}
use Rattle.gc_maps.specs.declared.part.FoundNode.{FoundNode}
use Rattle.gc_maps.specs.Trees.{Tree, leaf, node, pairs, IsBalanced}
use Rattle.gc_maps.specs.Parts.{RootIs}

-- balanced, and the keys rise from left to right
pub record IsSearch (tree : Tree) : Type 0 where
  pub balanced : IsBalanced tree
  pub rising : T (is_sorted int_cmp (pairs tree))

-- the root is a search tree, in some table that the store holds
pub record SearchIn (D : Type 0) (layouts : Layouts) (s : StoreView D) (root : Option GcRootIndex) : Type 0 where
  pub table : Table D
  pub holds : HoldsTable layouts s table
  pub ty : ℕ
  pub tree : Tree
  pub is : RootIs s table ty root tree
  pub search : IsSearch tree

-- the word of the child on whose side a key stands that compares so with that of its node
abbrev pub toward : FoundNode → Ordering → ℕ
toward read Less = read.left
toward read Equal = read.right
toward read Greater = read.right

-- one node more than on the way on, which the key's order to that of the node tells; at its own node the way ends
abbrev pub one_further : Ordering → ℕ → ℕ → ℕ
one_further Less left right = left + 1
one_further Equal left right = 1
one_further Greater left right = right + 1

-- the nodes on the way to a key: each of them once, and that of the key where there is one
abbrev pub nodes_toward : ℤ → Tree → ℕ
nodes_toward key leaf = 0
nodes_toward key (node l k v r) = one_further (int_cmp key k) (nodes_toward key l) (nodes_toward key r)
