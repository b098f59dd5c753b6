-- Maps stay where what is constant stays.
use Rattle.std.proofs.Common.{ℕ, ℤ}
use Rattle.gc_model.specs.Table.{Table}
use Rattle.gc_model.specs.Values.{Reference}
use Rattle.gc_lists.specs.Cells.{IsNode}
use Rattle.gc_lists.specs.Constants.{KeepsConstants}
use Rattle.gc_maps.specs.Trees.{Tree, leaf, node, height}
use Rattle.gc_maps.specs.Maps.{IntMap, IsMap, IsTree}

module _ {D : Type 0} (t u : Table D) (keeps : KeepsConstants t u) where
  abbrev node_stays : (r : Reference) (key value : ℤ) (high : ℕ) (left right : Reference) → IsNode t.types t.objects r key value high left right → IsNode u.types u.objects r key value high left right
  node_stays r key value high left right is = record {
    position = is.position;
    ty = is.ty;
    key_bits = is.key_bits;
    value_bits = is.value_bits;
    named = is.named;
    of_nodes = keeps.types is.ty _ is.of_nodes;
    object_is = keeps.nodes is.position is.ty is.key_bits is.value_bits high left right is.of_nodes is.object_is;
    key_is = is.key_is;
    value_is = is.value_is;
  }

  tree_stays : (ty : ℕ) (tree : Tree) (r : Reference) → IsTree t.types t.objects ty tree r → IsTree u.types u.objects ty tree r
  tree_stays ty leaf r is = is
  tree_stays ty (node a k v b) r is = record {
    left = is.left;
    right = is.right;
    is_node = node_stays r k v (height (node a k v b)) is.left is.right is.is_node;
    of_type = is.of_type;
    is_left = tree_stays ty a is.left is.is_left;
    is_right = tree_stays ty b is.right is.is_right;
  }

  pub map_stays : (r : Reference) (ty : ℕ) (m : IntMap) → IsMap t.types t.objects ty m r → IsMap u.types u.objects ty m r
  map_stays r ty m is = record { tree = is.tree; is = tree_stays ty is.tree r is.is; balanced = is.balanced; entries = is.entries }
