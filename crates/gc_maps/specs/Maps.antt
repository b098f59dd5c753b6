-- The map that a reference is, and the one that a version stands for.
use Rattle.std.specs.Prelude.{◌≡◌, ℕ, ℤ, true, List, Option}
use Rattle.std.specs.Ordering.{int_cmp}
use Rattle.std.specs.FinMap as finite
use Rattle.gc_types.specs.declared.kind.Layouts.{Layouts}
use Rattle.gc_types.specs.Declarations.{Declaration}
use Rattle.gc_model.specs.Values.{Reference, null, Object}
use Rattle.gc_model.specs.Table.{Table}
use Rattle.gc_model.specs.Stores.{StoreView}
use Rattle.gc_model.specs.Holds.{HoldsTable}
use Rattle.gc_values.specs.declared.root.GcRootIndex.{GcRootIndex}
use Rattle.gc_lists.specs.Cells.{IsNode}
use Rattle.gc_lists.specs.Versions.{VersionStands, is_version_of}
use Rattle.gc_maps.specs.Trees.{Tree, leaf, node, height, pairs, IsBalanced}

-- the reference names a node of that type, whose children are as they have to be
pub record NamesNode {D : Type 0} (types : List Declaration) (objects : List (Object D)) (ty : ℕ) (key value : ℤ) (high : ℕ) (IsLeft IsRight : Reference → Type 0) (r : Reference) : Type 0 where
  pub left : Reference
  pub right : Reference
  pub is_node : IsNode types objects r key value high left right
  pub of_type : is_node.ty ≡ ty
  pub is_left : IsLeft left
  pub is_right : IsRight right

-- null is the tree without nodes, and a node of that type is one of a tree, with its height, over what its children are
abbrev pub IsTree : {D : Type 0} → List Declaration → List (Object D) → ℕ → Tree → Reference → Type 0
IsTree types objects ty leaf r = r ≡ null
IsTree types objects ty (node a key value b) r = NamesNode types objects ty key value (height (node a key value b)) (IsTree types objects ty a) (IsTree types objects ty b) r

-- a map from 64-bit integers to 64-bit integers
abbrev pub IntMap : Type 0
IntMap = finite.FinMap int_cmp ℤ

-- The reference is a balanced tree whose pairs are the map's, from left to right by rising key.
pub record IsMap {D : Type 0} (types : List Declaration) (objects : List (Object D)) (ty : ℕ) (m : IntMap) (r : Reference) : Type 0 where
  pub tree : Tree
  pub is : IsTree types objects ty tree r
  pub balanced : IsBalanced tree
  pub entries : finite.entries m ≡ pairs tree

-- the version stands for that map, with nodes of that type
abbrev pub StandsForMapOf : {D : Type 0} → StoreView D → Table D → Option GcRootIndex → ℕ → IntMap → Type 0
StandsForMapOf s t version ty m = VersionStands s t version (IsMap t.types t.objects ty m)

abbrev pub StandsForMap : {D : Type 0} → StoreView D → Table D → Option GcRootIndex → IntMap → Type 0
StandsForMap s t version m = (ty : ℕ) × StandsForMapOf s t version ty m

-- a version of this store stands for some map, in some table that the store holds
pub record IsMapOfIn (D : Type 0) (layouts : Layouts) (s : StoreView D) (version : Option GcRootIndex) (ty : ℕ) : Type 0 where
  pub table : Table D
  pub holds : HoldsTable layouts s table
  pub entries : IntMap
  pub stands : StandsForMapOf s table version ty entries

abbrev pub MapStands : (D : Type 0) → Layouts → StoreView D → Option GcRootIndex → Type 0
MapStands D layouts s version = is_version_of s version ≡ true → (ty : ℕ) × IsMapOfIn D layouts s version ty

-- so with nodes of that type
abbrev pub MapOfStands : (D : Type 0) → Layouts → StoreView D → Option GcRootIndex → ℕ → Type 0
MapOfStands D layouts s version ty = is_version_of s version ≡ true → IsMapOfIn D layouts s version ty
