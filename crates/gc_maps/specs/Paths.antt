-- Ways down a tree: which frames lead from a tree to a part of it, and what stands left and right of that part.
use Rattle.std.specs.Prelude.{◌≡◌, ◌<◌, ℕ, ℤ, Bool, true, false, List, [], ◌∷◌, ◌++◌, Option, Some, None, FitsSigned}
use Rattle.std.specs.Int.{w64}
use Rattle.std.specs.Ordering.{int_cmp}
use Rattle.std.specs.declared.cmp.Ordering.{Ordering}
use Rattle.std.specs.declared.cmp.Ordering.TheVariants.{Less, Equal, Greater}
use Rattle.std.specs.FinMap.Entries.{put}
use Rattle.gc_types.specs.declared.kind.Layouts.{Layouts}
use Rattle.gc_model.specs.Table.{Table}
use Rattle.gc_model.specs.Stores.{StoreView}
use Rattle.gc_model.specs.Holds.{HoldsTable}
use Rattle.gc_values.specs.declared.root.GcRootIndex.{GcRootIndex}
use Rattle.gc_lists.specs.Kits.{IsNodeType}
use Rattle.gc_maps.specs.declared.part.Frame.{Frame}
use Rattle.gc_maps.specs.declared.part.Node.{Node}
use Rattle.gc_maps.specs.declared.part.FoundNode.{FoundNode}
use Rattle.gc_maps.specs.declared.part.Part.{Part}
use Rattle.gc_maps.specs.Trees.{Tree, leaf, node, height, pairs, AreLevel, IsBalanced}
use Rattle.gc_maps.specs.Parts.{RootIs, PartIs}
use Rattle.gc_maps.specs.Searching.{IsSearch}

-- the child on one side is taken, in which the rest leads on between these pairs; the frame has a root of the other child
abbrev pub TakesSide : {D : Type 0} → StoreView D → Table D → ℕ → Frame → Bool → Tree → ℤ → ℤ → Tree → (Tree → List (ℤ × ℤ) → List (ℤ × ℤ) → Type 0)
    → List (ℤ × ℤ) → List (ℤ × ℤ) → List (ℤ × ℤ) → List (ℤ × ℤ) → Type 0
TakesSide s t ty f true x k v y Rest b a before behind = RootIs s t ty f.other y × (Rest x b a × ((before ≡ b) × (behind ≡ a ++ (k, v) ∷ pairs y)))
TakesSide s t ty f false x k v y Rest b a before behind = RootIs s t ty f.other x × (Rest y b a × ((before ≡ pairs x ++ (k, v) ∷ b) × (behind ≡ a)))

-- a frame leads from a node to one of its children
pub record StepsDown {D : Type 0} (s : StoreView D) (t : Table D) (ty : ℕ) (f : Frame) (Rest : Tree → List (ℤ × ℤ) → List (ℤ × ℤ) → Type 0) (whole : Tree) (before behind : List (ℤ × ℤ)) : Type 0 where
  pub left : Tree
  pub key : ℤ
  pub value : ℤ
  pub right : Tree
  pub is : whole ≡ node left key value right
  pub key_is : f.key ≡ key
  pub value_is : f.value ≡ value
  pub key_fits : FitsSigned w64 key
  pub value_fits : FitsSigned w64 value
  pub b : List (ℤ × ℤ)
  pub a : List (ℤ × ℤ)
  pub side : TakesSide s t ty f f.goes_left left key value right Rest b a before behind

-- frames lead from a tree to a part of it, the topmost first, between these pairs
abbrev pub LeadsDown : {D : Type 0} → StoreView D → Table D → ℕ → List Frame → Tree → Tree → List (ℤ × ℤ) → List (ℤ × ℤ) → Type 0
LeadsDown s t ty [] here whole before behind = (whole ≡ here) × ((before ≡ []) × (behind ≡ []))
LeadsDown s t ty (f ∷ fs) here whole before behind = StepsDown s t ty f (LeadsDown s t ty fs here) whole before behind

-- the word of the other child than the one on whose side a key stands that compares so with that of its node
abbrev pub away : FoundNode → Ordering → ℕ
away read Less = read.right
away read Equal = read.left
away read Greater = read.left

-- what was found has these children, which are empty where nothing was
abbrev pub HasChildren : {D : Type 0} → StoreView D → Table D → ℕ → Option Node → Tree → Tree → Type 0
HasChildren s t ty None left right = (left ≡ leaf) × (right ≡ leaf)
HasChildren s t ty (Some read) left right = RootIs s t ty read.left left × RootIs s t ty read.right right

-- what was found is the topmost of a part, and has the key; where nothing was found, the part has no nodes
abbrev pub IsThere : ℤ → Option Node → Tree → Tree → Tree → Type 0
IsThere key None left right here = here ≡ leaf
IsThere key (Some read) left right here = here ≡ node left key read.value right

-- Frames lead to where a key belongs: a node over what was found there takes the place of a part that is nearly as high.
pub record Descended {D : Type 0} (s : StoreView D) (t : Table D) (ty : ℕ) (whole : Tree) (key : ℤ) (frames : List Frame) (found : Option Node) : Type 0 where
  pub here : Tree
  pub left : Tree
  pub right : Tree
  pub before : List (ℤ × ℤ)
  pub behind : List (ℤ × ℤ)
  pub path : LeadsDown s t ty frames here whole before behind
  pub children : HasChildren s t ty found left right
  pub there : IsThere key found left right here
  pub balanced : IsBalanced (node left key key right)
  pub close : AreLevel (height (node left key key right)) (height here)
  pub puts : (value : ℤ) → put int_cmp key value (pairs whole) ≡ before ++ (pairs (node left key value right) ++ behind)

-- A part stands for one that frames lead to, is nearly as high, and makes the whole one of these pairs.
pub record Rises {D : Type 0} (s : StoreView D) (t : Table D) (ty : ℕ) (whole : Tree) (frames : List Frame) (part : Part) (entries : List (ℤ × ℤ)) : Type 0 where
  pub old : Tree
  pub new : Tree
  pub before : List (ℤ × ℤ)
  pub behind : List (ℤ × ℤ)
  pub path : LeadsDown s t ty frames old whole before behind
  pub is : PartIs s t ty part new
  pub balanced : IsBalanced new
  pub close : AreLevel (height new) (height old)
  pub whole_is : before ++ (pairs new ++ behind) ≡ entries

-- so in some table that the store holds, and its type is one of nodes
pub record RisesIn (D : Type 0) (layouts : Layouts) (s : StoreView D) (ty : ℕ) (frames : List Frame) (part : Part) : Type 0 where
  pub of_nodes : IsNodeType s.types ty
  pub table : Table D
  pub holds : HoldsTable layouts s table
  pub whole : Tree
  pub entries : List (ℤ × ℤ)
  pub balanced : IsBalanced whole
  pub low : height whole < 92
  pub rises : Rises s table ty whole frames part entries

-- a part is a balanced tree of these pairs
pub record IsBuilt {D : Type 0} (s : StoreView D) (t : Table D) (ty : ℕ) (part : Part) (entries : List (ℤ × ℤ)) : Type 0 where
  pub tree : Tree
  pub is : PartIs s t ty part tree
  pub balanced : IsBalanced tree
  pub pairs_are : pairs tree ≡ entries

-- what was found has children that are no high trees, in some table that the store holds, and its type is one of nodes
pub record FoundIn (D : Type 0) (layouts : Layouts) (s : StoreView D) (ty : ℕ) (found : Option Node) : Type 0 where
  pub of_nodes : IsNodeType s.types ty
  pub table : Table D
  pub holds : HoldsTable layouts s table
  pub left : Tree
  pub right : Tree
  pub children : HasChildren s table ty found left right
  pub low_left : height left < 400
  pub low_right : height right < 400

-- two roots are trees, no high ones, in some table that the store holds, and its type is one of nodes
pub record TwoTreesIn (D : Type 0) (layouts : Layouts) (s : StoreView D) (ty : ℕ) (left right : Option GcRootIndex) : Type 0 where
  pub of_nodes : IsNodeType s.types ty
  pub table : Table D
  pub holds : HoldsTable layouts s table
  pub in_left : Tree
  pub in_right : Tree
  pub left_is : RootIs s table ty left in_left
  pub right_is : RootIs s table ty right in_right
  pub low_left : height in_left < 400
  pub low_right : height in_right < 400

-- the root is a search tree with nodes of that type, in some table that the store holds
pub record SearchOfIn (D : Type 0) (layouts : Layouts) (s : StoreView D) (ty : ℕ) (root : Option GcRootIndex) : Type 0 where
  pub of_nodes : IsNodeType s.types ty
  pub table : Table D
  pub holds : HoldsTable layouts s table
  pub tree : Tree
  pub is : RootIs s table ty root tree
  pub search : IsSearch tree
