-- Nodes by the words of their roots, and what is found in them.
use Rattle.std.specs.Prelude.{◌≡◌, ℕ, ℤ, pos, Option, FitsSigned}
use Rattle.std.specs.Int.{w64}
use Rattle.gc_types.specs.declared.kind.Layouts.{Layouts}
use Rattle.gc_owner.specs.declared.entry.GcClass.TheVariants.{Any}
use Rattle.gc_model.specs.Values.{Reference, reference}
use Rattle.gc_model.specs.Table.{Table}
use Rattle.gc_model.specs.Stores.{StoreView}
use Rattle.gc_model.specs.Forms.{Names, naming}
use Rattle.gc_model.specs.Holds.{Holds, Placing, IsWord}
use Rattle.gc_values.specs.declared.root.GcRootIndex.{GcRootIndex}
use Rattle.gc_values.specs.declared.stored.Found.{Found}
use Rattle.gc_values.specs.declared.stored.Found.TheVariants.{Number, Func, Cont, Ref}
use Rattle.gc_values.specs.Kept.{FoundStands}
use Rattle.gc_lists.specs.Cells.{number_in}
use Rattle.gc_maps.specs.declared.part.FoundNode.{FoundNode}
use Rattle.gc_maps.specs.Trees.{Tree, node}
use Rattle.gc_maps.specs.Maps.{IsTree}
use Rattle.gc_maps.specs.Parts.{int_in, NamesLink}

-- the integer of 64 bits that was found in an object; 0 where it is none
abbrev pub number_found : Found → ℤ
number_found (Number value) = number_in value
number_found (Func code) = pos 0
number_found (Cont code) = pos 0
number_found (Ref class word) = pos 0

-- the integer of 32 bits that was found in an object; 0 where it is none
abbrev pub int_found : Found → ℤ
int_found (Number value) = int_in value
int_found (Func code) = pos 0
int_found (Cont code) = pos 0
int_found (Ref class word) = pos 0

-- the word of the reference that was found in an object; 0 where it is none
abbrev pub word_found : Found → ℕ
word_found (Number value) = 0
word_found (Func code) = 0
word_found (Cont code) = 0
word_found (Ref class word) = word

-- a link with that word, as it is found in a node
abbrev pub link_found : ℕ → Found
link_found word = Ref Any word

-- the word is that of a reference that is that tree: 0 where it has no nodes
pub record HasTree {D : Type 0} (t : Table D) (place : Placing) (ty word : ℕ) (tree : Tree) : Type 0 where
  pub root : Reference
  pub is_word : IsWord place root word
  pub is : IsTree t.types t.objects ty tree root

-- so of some tree with nodes, in some table that the store holds
pub record NodeWordIn (D : Type 0) (layouts : Layouts) (s : StoreView D) (word : ℕ) : Type 0 where
  pub table : Table D
  pub place : Placing
  pub holds : Holds layouts s table place
  pub ty : ℕ
  pub left : Tree
  pub key : ℤ
  pub value : ℤ
  pub right : Tree
  pub has : HasTree table place ty word (node left key value right)

-- a link that was found leads to that tree
pub record LinkFound {D : Type 0} (names : Names) (t : Table D) (ty : ℕ) (link : Found) (tree : Tree) : Type 0 where
  pub root : Reference
  pub stands : FoundStands names link (reference Any root)
  pub is : IsTree t.types t.objects ty tree root

-- what was found of a node is the topmost of that tree
pub record NodeFound {D : Type 0} (names : Names) (t : Table D) (ty : ℕ) (found : FoundNode) (a : Tree) (key value : ℤ) (b : Tree) : Type 0 where
  pub key_is : found.key ≡ key
  pub value_is : found.value ≡ value
  pub key_fits : FitsSigned w64 key
  pub value_fits : FitsSigned w64 value
  pub left : LinkFound names t ty (link_found found.left) a
  pub right : LinkFound names t ty (link_found found.right) b

-- it is what is found by the word of such a node, for each table and placing that the store holds
abbrev pub FindsNode : (D : Type 0) → Layouts → StoreView D → ℕ → FoundNode → Type 0
FindsNode D layouts s word found =
    (t : Table D) (place : Placing) (ty : ℕ) (a : Tree) (key value : ℤ) (b : Tree) → Holds layouts s t place → HasTree t place ty word (node a key value b)
    → NodeFound (naming place s.ids) t ty found a key value b

-- it is the topmost of some tree, in some table that the store holds
pub record NodeFoundIn (D : Type 0) (layouts : Layouts) (s : StoreView D) (found : FoundNode) : Type 0 where
  pub table : Table D
  pub place : Placing
  pub holds : Holds layouts s table place
  pub ty : ℕ
  pub left : Tree
  pub key : ℤ
  pub value : ℤ
  pub right : Tree
  pub is : NodeFound (naming place s.ids) table ty found left key value right

-- a root names the link's reference, or there is none and it is null, and objects lie where they lay
abbrev pub GivesLink : {D : Type 0} → Layouts → Placing → Reference → StoreView D → Table D → Option GcRootIndex → Type 0
GivesLink layouts place r s t link = NamesLink s t link r × Holds layouts s t place
