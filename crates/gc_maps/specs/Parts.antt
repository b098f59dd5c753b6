-- Parts of trees that a call has in hand, each by a root or none.
use Rattle.std.specs.Prelude.{◌≡◌, ◌<◌, ◌^◌, ℕ, ℤ, pos, Option, Some, None, FitsSigned}
use Rattle.std.specs.Int.{w64}
use Rattle.gc_types.specs.declared.kind.Layouts.{Layouts}
use Rattle.gc_model.specs.Values.{Reference, null}
use Rattle.gc_model.specs.Table.{Table}
use Rattle.gc_model.specs.Stores.{StoreView}
use Rattle.gc_model.specs.Holds.{HoldsTable}
use Rattle.gc_values.specs.declared.root.GcRootIndex.{GcRootIndex}
use Rattle.gc_values.specs.declared.root.RawValue.{RawValue}
use Rattle.gc_values.specs.declared.root.RawValue.TheVariants as raw
use Rattle.gc_store.specs.Roots.{NamesReference}
use Rattle.gc_maps.specs.declared.part.Part.{Part}
use Rattle.gc_maps.specs.declared.part.Node.{Node}
use Rattle.gc_maps.specs.declared.part.Opened.{Opened}
use Rattle.gc_maps.specs.Trees.{Tree, node, height}
use Rattle.gc_maps.specs.Maps.{IsTree}

-- the integer of 32 bits that a value is that was read; 0 where it is none
abbrev pub int_in : RawValue → ℤ
int_in (raw.I32 n) = n
int_in (raw.I64 n) = pos 0
int_in (raw.F32 n) = pos 0
int_in (raw.F64 n) = pos 0
int_in (raw.V128 n) = pos 0
int_in (raw.Func f) = pos 0
int_in (raw.Cont c) = pos 0
int_in (raw.Ref class handle) = pos 0

-- a root names the reference, or there is none and it is null
abbrev pub NamesLink : {D : Type 0} → StoreView D → Table D → Option GcRootIndex → Reference → Type 0
NamesLink s t None r = r ≡ null
NamesLink s t (Some handle) r = NamesReference s t handle r

-- what a root names is that tree
pub record RootIs {D : Type 0} (s : StoreView D) (t : Table D) (ty : ℕ) (root : Option GcRootIndex) (tree : Tree) : Type 0 where
  pub reference : Reference
  pub names : NamesLink s t root reference
  pub is : IsTree t.types t.objects ty tree reference

-- a part is that tree, and has its height
pub record PartIs {D : Type 0} (s : StoreView D) (t : Table D) (ty : ℕ) (part : Part) (tree : Tree) : Type 0 where
  pub root : RootIs s t ty part.root tree
  pub height_is : part.height ≡ pos (height tree)

-- what was read of a node is the topmost of that tree
pub record NodeIs {D : Type 0} (s : StoreView D) (t : Table D) (ty : ℕ) (read : Node) (a : Tree) (key value : ℤ) (b : Tree) : Type 0 where
  pub key_is : read.key ≡ key
  pub value_is : read.value ≡ value
  pub key_fits : FitsSigned w64 key
  pub value_fits : FitsSigned w64 value
  pub left : RootIs s t ty read.left a
  pub right : RootIs s t ty read.right b

-- so with its children as parts
pub record OpenedIs {D : Type 0} (s : StoreView D) (t : Table D) (ty : ℕ) (opened : Opened) (a : Tree) (key value : ℤ) (b : Tree) : Type 0 where
  pub key_is : opened.key ≡ key
  pub value_is : opened.value ≡ value
  pub key_fits : FitsSigned w64 key
  pub value_fits : FitsSigned w64 value
  pub left : PartIs s t ty opened.left a
  pub right : PartIs s t ty opened.right b

-- the root is some tree, of a type of nodes, in some table that the store holds
pub record RootIn (D : Type 0) (layouts : Layouts) (s : StoreView D) (root : Option GcRootIndex) : Type 0 where
  pub table : Table D
  pub holds : HoldsTable layouts s table
  pub ty : ℕ
  pub tree : Tree
  pub is : RootIs s table ty root tree

-- a node of a tree
abbrev pub node_of : Tree → ℤ → ℤ → Tree → Tree
node_of a key value b = node a key value b

-- it is a tree with nodes
pub record NodeIn (D : Type 0) (layouts : Layouts) (s : StoreView D) (handle : GcRootIndex) : Type 0 where
  pub table : Table D
  pub holds : HoldsTable layouts s table
  pub ty : ℕ
  pub left : Tree
  pub key : ℤ
  pub value : ℤ
  pub right : Tree
  pub is : RootIs s table ty (Some handle) (node left key value right)

-- so with a height that is no large number
pub record LowNodeIn (D : Type 0) (layouts : Layouts) (s : StoreView D) (handle : GcRootIndex) : Type 0 where
  pub here : NodeIn D layouts s handle
  pub low : height (node here.left here.key here.value here.right) < 2 ^ 31
