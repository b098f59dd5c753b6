-- Nodes that are read.
use Rattle.std.proofs.Common.{◌≡◌, ℕ, ◌+◌, ◌<◌, ◌^◌, ℤ, pos, Option, Some, None, Result, Ok, Err, sym, ap, ◌∙◌, refl, subst, arith, w32, w64, to_z, of_z, SFits}
use Rattle.std.proofs.lemmas.Int.{to_z-of_z, to_z_pos}
use Rattle.std.specs.List.{slice_get}
use Rattle.gc_types.specs.declared.kind.Layouts.{Layouts}
use Rattle.gc_owner.specs.declared.entry.GcClass.TheVariants.{Any}
use Rattle.gc_model.specs.Values.{Reference, null, Value, numeric, i32, i64, reference, Object}
use Rattle.gc_model.specs.Reach.{object_values}
use Rattle.gc_model.specs.Table.{Table}
use Rattle.gc_model.specs.Stores.{StoreView}
use Rattle.gc_model.specs.SideValues.{InternedIds}
use Rattle.gc_model.specs.Forms.{Names, naming}
use Rattle.gc_model.specs.Holds.{Placing, IsWord, Holds, HoldsTable}
use Rattle.gc_model.specs.Accounts.{Account, HoldsAccount}
use Rattle.gc_model.proofs.Words.{place_even}
use Rattle.gc_values.specs.declared.root.GcRootIndex.{GcRootIndex}
use Rattle.gc_values.specs.declared.stored.Found.{Found}
use Rattle.gc_values.specs.Kept.{FoundStands}
use Rattle.gc_store.specs.Roots.{NamesReference}
use Rattle.gc_store.specs.Reading.{HasValueIn, CanReadIn, FindsValueIn, IsFoundHere}
use Rattle.gc_store.specs.Stores.{IsSameStore}
use Rattle.gc_store.proofs.HandleWords.{named_held}
use Rattle.gc_lists.specs.declared.fault.ListFault.{ListFault}
use Rattle.gc_lists.specs.declared.fault.ListFault.TheVariants as fault
use Rattle.gc_lists.specs.Frames.{Leaves}
use Rattle.gc_lists.specs.Cells as cells
use Rattle.gc_maps.specs.declared.part.FoundNode.{FoundNode}
use Rattle.gc_maps.specs.declared.part.Node.{Node}
use Rattle.gc_maps.specs.declared.part.Part.{Part}
use Rattle.gc_maps.specs.Trees.{Tree, leaf, node, height}
use Rattle.gc_maps.specs.Parts.{RootIs, PartIs, NodeIs, NodeIn}
use Rattle.gc_maps.specs.FoundNodes.{link_found, int_found, number_found, word_found, HasTree, NodeWordIn, LinkFound, NodeFound, FindsNode, GivesLink}
use Rattle.gc_maps.specs.Ends.{Pushes, EndsReading}
use Rattle.gc_maps.proofs.Naming.{Keeps, held_table, tree_kept, link_kept}
use Rattle.gc_maps.proofs.Values.{long_fits, int_fits}
use Rattle.gc_maps.proofs.Growing.{pushes_none, pushes_then, pushes_keep}

-- the store is the same, and so is the table
pub table_keeps : {D : Type 0} (s : StoreView D) (t : Table D) (s' : StoreView D) → IsSameStore s s' → Keeps s t s' t
table_keeps s t s' same = pushes_keep 0 s t s' t same (pushes_none 0 t)

-- a root names no null
pub not_null : {D : Type 0} (layouts : Layouts) (s : StoreView D) (t : Table D) → HoldsTable layouts s t → (h : GcRootIndex) (r : Reference) → NamesReference s t h r → r ≡ null → ⊥
not_null layouts s t holds h r named e =
    let held = named_held layouts s t holds.0 holds.1 h null (subst (λ (q : Reference). NamesReference s t h q) e named) in
    let zero_is = held.1.0 in
    let some = held.1.1 in
    omega (arith, zero_is, some)

-- a number of 64 bits is passed as it is
number_kept : (n k : ℤ) (bits : ℕ) → n ≡ cells.number_of bits → k ≡ cells.number_of bits → to_z w64 (of_z w64 n) ≡ k
number_kept n k bits e f = ap (λ (z : ℤ). to_z w64 (of_z w64 z)) e ∙ to_z-of_z w64 (to_z w64 bits) (long_fits bits) ∙ sym f

pub number_fits : (k : ℤ) (bits : ℕ) → k ≡ cells.number_of bits → SFits w64 k
number_fits k bits e = subst (SFits w64) (sym e) (long_fits bits)

-- a refusal, once so many roots were pushed
pub refused_later : {D A B : Type 0} (layouts : Layouts) (m n : ℕ) (t u : Table D) (DoneA : StoreView D → Table D → A → Type 0) (DoneB : StoreView D → Table D → B → Type 0) (f : ListFault) (new : StoreView D)
    → Pushes m t u → EndsReading {A = A} layouts n u DoneA (Err f) new → EndsReading {A = B} layouts (m + n) t DoneB (Err f) new
refused_later layouts m n t u DoneA DoneB fault.WrongStore new pushes ends = ends
refused_later layouts m n t u DoneA DoneB fault.RootsFull new pushes ends =
    record { after = ends.after; account = ends.account; holds = ends.holds; changed = (pushes_then m n t u ends.after pushes ends.changed.0, ends.changed.1) }
refused_later layouts m n t u DoneA DoneB (fault.HeapOutOfMemory f) new pushes ends = ends
refused_later layouts m n t u DoneA DoneB fault.Memory new pushes ends =
    record { after = ends.after; account = ends.account; holds = ends.holds; changed = pushes_then m n t u ends.after pushes ends.changed }

-- What is found by the word of a node
module _ {D : Type 0} (t : Table D) (place : Placing) (ty word : ℕ) (x : Tree) (k v : ℤ) (y : Tree) (has : HasTree t place ty word (node x k v y)) where
  abbrev pub found_node : cells.IsNode t.types t.objects has.root k v (height (node x k v y)) has.is.left has.is.right
  found_node = has.is.is_node

  abbrev pub found_object : Object D
  found_object = cells.node found_node.ty found_node.key_bits found_node.value_bits (height (node x k v y)) has.is.left has.is.right

  pub has_in : (i : ℕ) (value : Value) → slice_get (object_values found_object) i ≡ Some value → HasValueIn t place word i value
  has_in i value there = record {
    position = found_node.position;
    is_word = subst (λ (r : Reference). IsWord place r word) found_node.named has.is_word;
    object = found_object;
    object_is = found_node.object_is;
    value_at = there;
  }

-- each of its values may be read
pub can_in : {D : Type 0} (layouts : Layouts) (s : StoreView D) (word : ℕ) (q : NodeWordIn D layouts s word) (i : ℕ) (value : Value)
    → slice_get (object_values (found_object q.table q.place q.ty word q.left q.key q.value q.right q.has)) i ≡ Some value → CanReadIn D layouts s word i
can_in layouts s word q i value there = record {
  table = q.table;
  place = q.place;
  holds = q.holds;
  value = value;
  has = has_in q.table q.place q.ty word q.left q.key q.value q.right q.has i value there;
}

-- the word of the tree without nodes is 0
pub leaf_zero : {D : Type 0} (t : Table D) (place : Placing) (ty word : ℕ) → HasTree t place ty word leaf → word ≡ 0
leaf_zero t place ty word has = subst (λ (r : Reference). IsWord place r word) has.is has.is_word

-- and no other tree has that word
pub at_zero : {D : Type 0} (layouts : Layouts) (s : StoreView D) (t : Table D) (place : Placing) → Holds layouts s t place → (ty : ℕ) (part : Tree) → HasTree t place ty 0 part → part ≡ leaf
at_zero layouts s t place holds ty leaf has = refl
at_zero layouts s t place holds ty (node x k v y) has =
    let there = subst (λ (r : Reference). IsWord place r 0) has.is.is_node.named has.is_word in
    absurd (omega (arith, (place_even layouts t place s.heap holds.objects has.is.is_node.position 0 there).1))

-- any other word of a tree is that of a node
pub at_word : {D : Type 0} (layouts : Layouts) (s : StoreView D) (t : Table D) (place : Placing) → Holds layouts s t place → (ty word : ℕ) → (word ≡ 0 → ⊥) → (part : Tree) → HasTree t place ty word part → NodeWordIn D layouts s word
at_word layouts s t place holds ty word some leaf has = absurd (some (leaf_zero t place ty word has))
at_word layouts s t place holds ty word some (node x k v y) has = record { table = t; place = place; holds = holds; ty = ty; left = x; key = k; value = v; right = y; has = has }

-- a link that was found has the word of its tree
pub link_word : {D : Type 0} (t : Table D) (place : Placing) (ids : InternedIds) (ty word : ℕ) (x : Tree) → LinkFound (naming place ids) t ty (link_found word) x → HasTree t place ty word x
link_word t place ids ty word x link = record { root = link.root; is_word = subst (IsWord place link.root) (sym (ap word_found link.stands.found)) link.stands.is_code; is = link.is }

-- a number that was found
found_number : (names : Names) (x : Found) (bits : ℕ) → FoundStands names x (numeric i64 bits) → number_found x ≡ cells.number_of bits
found_number names x bits is = ap number_found is.found ∙ ap cells.number_of is.is_code

-- one that is passed on stays the same
number_passed : (n k : ℤ) → n ≡ k → SFits w64 k → to_z w64 (of_z w64 n) ≡ k
number_passed n k e fits = ap (λ (z : ℤ). to_z w64 (of_z w64 z)) e ∙ to_z-of_z w64 k fits

-- a link that was found is that of its word
word_stands : (names : Names) (x : Found) (word : ℕ) (r : Reference) → word ≡ word_found x → FoundStands names x (reference Any r) → FoundStands names (link_found word) (reference Any r)
word_stands names x word r e is = record { code = is.code; found = ap link_found e ∙ ap (λ (f : Found). link_found (word_found f)) is.found; small = is.small; is_code = is.is_code }

-- what was found at the four places of a node is the node
pub node_found : {D : Type 0} (layouts : Layouts) (s : StoreView D) (word : ℕ) (key value left right : Found) (n m : ℤ) (a b : ℕ)
    → n ≡ number_found key → m ≡ number_found value → a ≡ word_found left → b ≡ word_found right
    → FindsValueIn D layouts s word 0 key → FindsValueIn D layouts s word 1 value → FindsValueIn D layouts s word 3 left → FindsValueIn D layouts s word 4 right
    → FindsNode D layouts s word (record { key = to_z w64 (of_z w64 n); value = to_z w64 (of_z w64 m); left = a; right = b })
node_found layouts s word key value left right n m a b key_is value_is a_is b_is find_key find_value find_left find_right t place ty x k v y holds has =
    let the = found_node t place ty word x k v y has in
    record {
      key_is = number_kept n k the.key_bits (key_is ∙ found_number (naming place s.ids) key the.key_bits (find_key t place _ holds (has_in t place ty word x k v y has 0 _ refl))) the.key_is;
      value_is = number_kept m v the.value_bits (value_is ∙ found_number (naming place s.ids) value the.value_bits (find_value t place _ holds (has_in t place ty word x k v y has 1 _ refl))) the.value_is;
      key_fits = number_fits k the.key_bits the.key_is;
      value_fits = number_fits v the.value_bits the.value_is;
      left = record { root = has.is.left; stands = word_stands (naming place s.ids) left a has.is.left a_is (find_left t place _ holds (has_in t place ty word x k v y has 3 _ refl)); is = has.is.is_left };
      right = record { root = has.is.right; stands = word_stands (naming place s.ids) right b has.is.right b_is (find_right t place _ holds (has_in t place ty word x k v y has 4 _ refl)); is = has.is.is_right };
    }

-- Giving roots for the links of a node that was found

-- a reference that was found is one in a later store too, where objects lie as they lay
pub still_found : (place : Placing) (ids ids' : InternedIds) (x : Found) (r : Reference) → FoundStands (naming place ids) x (reference Any r) → FoundStands (naming place ids') x (reference Any r)
still_found place ids ids' x r is = record { code = is.code; found = is.found; small = is.small; is_code = is.is_code }

module _ {D : Type 0} (layouts : Layouts) (s s1 : StoreView D) (same : IsSameStore s s1) (link : Found) (answer : Result (Option GcRootIndex) ListFault) where
  -- what giving a root for a link does
  abbrev pub GivesRoot : Type 0
  GivesRoot = (t : Table D) (place : Placing) (r : Reference) → Holds layouts s t place → FoundStands (naming place s.ids) link (reference Any r) → EndsReading layouts 1 t (GivesLink layouts place r) answer s1

module _ {D : Type 0} (layouts : Layouts) (t : Table D) (place : Placing) (ty : ℕ) (found : FoundNode) (x : Tree) (k v : ℤ) (y : Tree)
    (s s1 : StoreView D) (same : IsSameStore s s1) (holds : Holds layouts s t place) (is : NodeFound (naming place s.ids) t ty found x k v y) where
  pub left_refused : (f : ListFault) → GivesRoot layouts s s1 same (link_found found.left) (Err f) → (DoneB : StoreView D → Table D → Node → Type 0) → EndsReading layouts 2 t DoneB (Err f) s1
  left_refused f gives DoneB =
      refused_later {A = Option GcRootIndex} layouts 1 1 t t (GivesLink layouts place is.left.root) DoneB f s1 (pushes_none 1 t) (gives t place is.left.root holds is.left.stands)

  module _ (left : Option GcRootIndex) (gives : GivesRoot layouts s s1 same (link_found found.left) (Ok left)) where
    abbrev pub ends1 : Leaves layouts (λ u. Pushes 1 t u × GivesLink layouts place is.left.root s1 u left) s1
    ends1 = gives t place is.left.root holds is.left.stands

    -- the other link may be given a root
    pub right_here : IsFoundHere D layouts s1 (link_found found.right)
    right_here = record { table = ends1.after; place = place; holds = ends1.changed.1.1; value = reference Any is.right.root; stands = still_found place s.ids s1.ids (link_found found.right) is.right.root is.right.stands }

    module _ (s2 : StoreView D) (same2 : IsSameStore s1 s2) where
      pub right_refused : (f : ListFault) → GivesRoot layouts s1 s2 same2 (link_found found.right) (Err f) → (DoneB : StoreView D → Table D → Node → Type 0) → EndsReading layouts 2 t DoneB (Err f) s2
      right_refused f next DoneB =
          refused_later {A = Option GcRootIndex} layouts 1 1 t ends1.after (GivesLink layouts place is.right.root) DoneB f s2 ends1.changed.0
          (next ends1.after place is.right.root ends1.changed.1.1 (still_found place s.ids s1.ids (link_found found.right) is.right.root is.right.stands))

      pub both_given : (right : Option GcRootIndex) → GivesRoot layouts s1 s2 same2 (link_found found.right) (Ok right)
          → EndsReading layouts 2 t (λ s u read. NodeIs s u ty read x k v y) (Ok (record { key = to_z w64 (of_z w64 found.key); value = to_z w64 (of_z w64 found.value); left = left; right = right })) s2
      both_given right next =
          let ends = next ends1.after place is.right.root ends1.changed.1.1 (still_found place s.ids s1.ids (link_found found.right) is.right.root is.right.stands) in
          let keeps1 = pushes_keep 1 s t s1 ends1.after same ends1.changed.0 in
          let keeps2 = pushes_keep 1 s1 ends1.after s2 ends.after same2 ends.changed.0 in
          record {
            after = ends.after;
            account = ends.account;
            holds = ends.holds;
            changed = (
              pushes_then 1 1 t ends1.after ends.after ends1.changed.0 ends.changed.0,
              record {
                key_is = number_passed found.key k is.key_is is.key_fits;
                value_is = number_passed found.value v is.value_is is.value_fits;
                key_fits = is.key_fits;
                value_fits = is.value_fits;
                left = record {
                  reference = is.left.root;
                  names = link_kept s1 ends1.after s2 ends.after keeps2 left is.left.root ends1.changed.1.0;
                  is = tree_kept s1 ends1.after s2 ends.after keeps2 ty x is.left.root (tree_kept s t s1 ends1.after keeps1 ty x is.left.root is.left.is);
                };
                right = record {
                  reference = is.right.root;
                  names = ends.changed.1.0;
                  is = tree_kept s1 ends1.after s2 ends.after keeps2 ty y is.right.root (tree_kept s t s1 ends1.after keeps1 ty y is.right.root is.right.is);
                };
              },
            );
          }

-- a small number that was found
found_small : (names : Names) (x : Found) (n : ℕ) → n < 2 ^ 31 → FoundStands names x (numeric i32 n) → to_z w32 (of_z w32 (int_found x)) ≡ pos n
found_small names x n below is =
    ap (λ (f : Found). to_z w32 (of_z w32 (int_found f))) is.found ∙ to_z-of_z w32 (to_z w32 is.code) (int_fits is.code) ∙ ap (to_z w32) is.is_code ∙ to_z_pos w32 n below

-- the height of a node, by the word of its root
pub height_found : {D : Type 0} (layouts : Layouts) (s : StoreView D) (t : Table D) (place : Placing) (ty word : ℕ) (x : Tree) (k v : ℤ) (y : Tree) (found : Found) → Holds layouts s t place
    → HasTree t place ty word (node x k v y) → height (node x k v y) < 2 ^ 31 → FindsValueIn D layouts s word 2 found → to_z w32 (of_z w32 (int_found found)) ≡ pos (height (node x k v y))
height_found layouts s t place ty word x k v y found holds has low finds =
    found_small (naming place s.ids) found (height (node x k v y)) low (finds t place _ holds (has_in t place ty word x k v y has 2 _ refl))

-- a part is what was read of its root
pub part_here : {D : Type 0} (layouts : Layouts) (h : GcRootIndex) (s : StoreView D) (n : ℤ)
    → ((t : Table D) (ty : ℕ) (x : Tree) (k v : ℤ) (y : Tree) → HoldsTable layouts s t → RootIs s t ty (Some h) (node x k v y) → height (node x k v y) < 2 ^ 31 → n ≡ pos (height (node x k v y)))
    → (t : Table D) (ty : ℕ) (tree : Tree) → HoldsTable layouts s t → RootIs s t ty (Some h) tree → height tree < 2 ^ 31
    → PartIs s t ty (record { root = Some h; height = to_z w32 (of_z w32 n) }) tree
part_here layouts h s n reads t ty leaf holds is low = absurd (not_null layouts s t holds h is.reference is.names is.is)
part_here layouts h s n reads t ty (node x k v y) holds is low = record {
  root = is;
  height_is = ap (λ (z : ℤ). to_z w32 (of_z w32 z)) (reads t ty x k v y holds is low) ∙ to_z_pos w32 (height (node x k v y)) low;
}

pub part_none : {D : Type 0} (s : StoreView D) (t : Table D) (ty : ℕ) (tree : Tree) → RootIs s t ty None tree → PartIs s t ty (record { root = None; height = pos 0 }) tree
part_none s t ty leaf is = record { root = record { reference = is.reference; names = is.names; is = is.is }; height_is = refl }
part_none s t ty (node x k v y) is = let named = is.is.is_node.named in let none = is.names in absurd (cc (named, none))

-- a root of some tree is that of a node
pub some_node : {D : Type 0} (layouts : Layouts) (s : StoreView D) (h : GcRootIndex) (t : Table D) (holds : HoldsTable layouts s t) (ty : ℕ) (tree : Tree) → RootIs s t ty (Some h) tree → NodeIn D layouts s h
some_node layouts s h t holds ty leaf is = absurd (not_null layouts s t holds h is.reference is.names is.is)
some_node layouts s h t holds ty (node x k v y) is = record { table = t; holds = holds; ty = ty; left = x; key = k; value = v; right = y; is = is }

-- a part that was read changes nothing
abbrev pub same_here : {D : Type 0} (s : StoreView D) → IsSameStore s s
same_here s = record { engine = refl; number = refl; counter = refl }

pub part_reads : {D : Type 0} (layouts : Layouts) (s : StoreView D) (root : Option GcRootIndex) (part : Part)
    → ((t : Table D) (ty : ℕ) (tree : Tree) → HoldsTable layouts s t → RootIs s t ty root tree → height tree < 2 ^ 31 → PartIs s t ty part tree)
    → (t : Table D) (a : Account) (ty : ℕ) (tree : Tree) → HoldsAccount layouts s t a → RootIs s t ty root tree → height tree < 2 ^ 31 → PartIs s t ty part tree × HoldsAccount layouts s t a
part_reads layouts s root part is t a ty tree holds at low = (is t ty tree (held_table layouts s t a holds) at low, holds)
