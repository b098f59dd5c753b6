-- A look for a key, node by node.
use Rattle.std.proofs.Common.{◌≡◌, ℕ, ◌+◌, ◌≤◌, ◌<◌, ℤ, true, false, List, [], ◌∷◌, Option, Some, None, Err, Ordering, Less, Equal, Greater, sym, ap, ◌∙◌, refl, subst, arith, to_z, of_z, w64, SFits}
use Rattle.std.specs.Ordering.{int_cmp, is_eq}
use Rattle.std.specs.Cmp.{int_ranked}
use Rattle.std.specs.FinMap.Entries.{find}
use Rattle.std.proofs.lemmas.Int.{to_z-of_z}
use Rattle.gc_types.specs.declared.kind.Layouts.{Layouts}
use Rattle.gc_types.specs.Declarations.{Declaration}
use Rattle.gc_model.specs.Values.{Reference, Object}
use Rattle.gc_model.specs.Table.{Table}
use Rattle.gc_model.specs.Stores.{StoreView}
use Rattle.gc_model.specs.Holds.{Holds, Placing}
use Rattle.gc_values.specs.declared.root.GcRootIndex.{GcRootIndex}
use Rattle.gc_lists.specs.declared.fault.ListFault.{ListFault}
use Rattle.gc_lists.specs.declared.fault.ListFault.TheVariants as fault
use Rattle.gc_maps.specs.declared.part.FoundNode.{FoundNode}
use Rattle.gc_maps.specs.Trees.{Tree, leaf, node, height, pairs}
use Rattle.gc_maps.specs.Maps.{IsTree}
use Rattle.gc_maps.specs.Parts.{RootIs}
use Rattle.gc_maps.specs.FoundNodes.{HasTree, NodeWordIn, FindsNode}
use Rattle.gc_maps.specs.Searching.{IsSearch, toward, one_further, nodes_toward}
use Rattle.gc_maps.specs.Ends.{Pushes, EndsReading}
use Rattle.gc_maps.proofs.Entries.{around, AllBelow, below_further, above_further, find_past, find_front, lesser}
use Rattle.gc_maps.proofs.Sizes.{AllFit, fit_append, low_height}
use Rattle.gc_maps.proofs.NodeReads.{at_zero, at_word, leaf_zero, link_word, number_fits}

-- So many nodes were read, and a key is found in the tree that is looked at now, which has that word, exactly as in the whole.
pub record Looks {D : Type 0} (t : Table D) (place : Placing) (ty : ℕ) (tree : Tree) (key : ℤ) (read before now here : ℕ) : Type 0 where
  pub part : Tree
  pub has : HasTree t place ty here part
  pub search : IsSearch part
  pub found : find int_cmp key (pairs tree) ≡ find int_cmp key (pairs part)
  pub low : height part + read ≤ height tree
  pub counted : now ≡ before + read
  pub way : nodes_toward key tree ≡ read + nodes_toward key part

pub pushes_within : {D : Type 0} (m n : ℕ) (t u : Table D) → m ≤ n → Pushes m t u → Pushes n t u
pushes_within m n t u below pushes = let few = pushes.few in record { scoped = pushes.scoped; few = omega (arith, few, below); pushes = pushes.pushes; rest = pushes.rest }

pub refused_within : {D A : Type 0} (layouts : Layouts) (m n : ℕ) (t : Table D) (Done : StoreView D → Table D → A → Type 0) (f : ListFault) (new : StoreView D) → m ≤ n
    → EndsReading {A = A} layouts m t Done (Err f) new → EndsReading {A = A} layouts n t Done (Err f) new
refused_within layouts m n t Done fault.WrongStore new below ends = ends
refused_within layouts m n t Done fault.RootsFull new below ends =
    record { after = ends.after; account = ends.account; holds = ends.holds; changed = (pushes_within m n t ends.after below ends.changed.0, ends.changed.1) }
refused_within layouts m n t Done (fault.HeapOutOfMemory f) new below ends = ends
refused_within layouts m n t Done fault.Memory new below ends =
    record { after = ends.after; account = ends.account; holds = ends.holds; changed = pushes_within m n t ends.after below ends.changed }

-- the keys of a tree of nodes are numbers of 64 bits
pub keys_fit : {D : Type 0} (types : List Declaration) (objects : List (Object D)) (ty : ℕ) (tree : Tree) (r : Reference) → IsTree types objects ty tree r → AllFit (pairs tree)
keys_fit types objects ty leaf r is = tt
keys_fit types objects ty (node x k v y) r is =
    fit_append (pairs x) ((k, v) ∷ pairs y) (keys_fit types objects ty x is.left is.is_left)
    (number_fits k is.is_node.key_bits is.is_node.key_is, keys_fit types objects ty y is.right is.is_right)

-- so it is low
pub root_low : {D : Type 0} (s : StoreView D) (t : Table D) (ty : ℕ) (root : Option GcRootIndex) (tree : Tree) → RootIs s t ty root tree → IsSearch tree → height tree < 92
root_low s t ty root tree is search = low_height tree search.balanced (keys_fit t.types t.objects ty tree is.reference is.is) search.rising

-- the parts of a search tree are search trees
pub left_search : (x : Tree) (k v : ℤ) (y : Tree) → IsSearch (node x k v y) → IsSearch x
left_search x k v y search = record { balanced = search.balanced.in_left; rising = (around (pairs x) (k, v) (pairs y) search.rising).before }

pub right_search : (x : Tree) (k v : ℤ) (y : Tree) → IsSearch (node x k v y) → IsSearch y
right_search x k v y search = record { balanced = search.balanced.in_right; rising = (around (pairs x) (k, v) (pairs y) search.rising).behind }

-- what is found where a key is compared with that of a node
pub found_left : (q : ℤ) (x : Tree) (k v : ℤ) (y : Tree) → IsSearch (node x k v y) → int_cmp q k ≡ Less → find int_cmp q (pairs (node x k v y)) ≡ find int_cmp q (pairs x)
found_left q x k v y search e =
    let parts = around (pairs x) (k, v) (pairs y) search.rising in
    find_front q (pairs x) ((k, v) ∷ pairs y) (e, above_further (pairs y) k q e parts.above)

pub found_right : (q : ℤ) (x : Tree) (k v : ℤ) (y : Tree) → IsSearch (node x k v y) → int_cmp q k ≡ Greater → find int_cmp q (pairs (node x k v y)) ≡ find int_cmp q (pairs y)
found_right q x k v y search e =
    let parts = around (pairs x) (k, v) (pairs y) search.rising in
    let less = lesser q k e in
    find_past q (pairs x) ((k, v) ∷ pairs y) (below_further (pairs x) k q less parts.below) ∙ find_past q ((k, v) ∷ []) (pairs y) (less, tt)

pub found_here : (q : ℤ) (x : Tree) (k v : ℤ) (y : Tree) → IsSearch (node x k v y) → int_cmp q k ≡ Equal → find int_cmp q (pairs (node x k v y)) ≡ Some v
found_here q x k v y search e =
    let parts = around (pairs x) (k, v) (pairs y) search.rising in
    let same : k ≡ q = sym (int_ranked q k Equal (sym e)) in
    find_past q (pairs x) ((k, v) ∷ pairs y) (subst (AllBelow (pairs x)) same parts.below) ∙ (rw e refl)

equal_order : (p : Ordering) → is_eq p ≡ true → p ≡ Equal
equal_order Less e = absurd (cc)
equal_order Equal e = refl
equal_order Greater e = absurd (cc)

module _ {D : Type 0} (layouts : Layouts) (s : StoreView D) (t : Table D) (place : Placing) (holds : Holds layouts s t place) (ty : ℕ) (tree : Tree) (key : ℤ) (before : ℕ) where
  pub looks_start : (here : ℕ) → HasTree t place ty here tree → IsSearch tree → Looks t place ty tree key 0 before before here
  looks_start here has search = record {
    part = tree;
    has = has;
    search = search;
    found = refl;
    low = omega arith;
    counted = omega arith;
    way = omega arith;
  }

  module _ (i now here : ℕ) where
    -- nothing is left where the word is 0
    nothing : here ≡ 0 → (looks : Looks t place ty tree key i before now here) → looks.part ≡ leaf
    nothing none looks = at_zero layouts s t place holds ty looks.part (subst (λ (n : ℕ). HasTree t place ty n looks.part) none looks.has)

    pub looks_none : here ≡ 0 → Looks t place ty tree key i before now here → None ≡ find int_cmp key (pairs tree)
    looks_none none looks = sym (looks.found ∙ ap (λ (x : Tree). find int_cmp key (pairs x)) (nothing none looks))

    pub looks_count : Looks t place ty tree key i before now here → now ≤ before + height tree
    looks_count looks = let low = looks.low in let counted = looks.counted in omega (arith, low, counted)

    -- then each node on the way was counted
    pub looks_all : here ≡ 0 → Looks t place ty tree key i before now here → now ≡ before + nodes_toward key tree
    looks_all none looks =
        let left : nodes_toward key looks.part ≡ 0 = ap (nodes_toward key) (nothing none looks) in
        omega (arith, looks.counted, looks.way, left)

    -- beyond the greatest height nothing is left
    pub looks_past : (root : Option GcRootIndex) → RootIs s t ty root tree → IsSearch tree → 92 ≤ i → Looks t place ty tree key i before now here → ⊥
    looks_past root is search past looks = let low = looks.low in let high = root_low s t ty root tree is search in omega (arith, low, high, past)

    module _ (some : here ≡ 0 → ⊥) where
      pub looks_node : Looks t place ty tree key i before now here → NodeWordIn D layouts s here
      looks_node looks = at_word layouts s t place holds ty here some looks.part looks.has

      count_at : (part : Tree) → HasTree t place ty here part → height part + i ≤ height tree → now ≡ before + i → now + 1 ≤ before + height tree
      count_at leaf has low counted = absurd (some (leaf_zero t place ty here has))
      count_at (node x k v y) has low counted = omega (arith, low, counted)

      pub looks_counted : Looks t place ty tree key i before now here → now + 1 ≤ before + height tree
      looks_counted looks = count_at looks.part looks.has looks.low looks.counted

      module _ (read : FoundNode) (finds : FindsNode D layouts s here read) (o : Ordering) (is : o ≡ int_cmp key read.key) where
        abbrev Found : Tree → Type 0
        Found part = find int_cmp key (pairs tree) ≡ find int_cmp key (pairs part)

        here_at : is_eq o ≡ true → (part : Tree) → HasTree t place ty here part → IsSearch part → Found part → Some (to_z w64 (of_z w64 read.value)) ≡ find int_cmp key (pairs tree)
        here_at equal leaf has search found = absurd (some (leaf_zero t place ty here has))
        here_at equal (node x k v y) has search found =
            let at = finds t place ty x k v y holds has in
            ap (λ (z : ℤ). Some (to_z w64 (of_z w64 z))) at.value_is ∙ ap Some (to_z-of_z w64 v at.value_fits)
            ∙ sym (found ∙ found_here key x k v y search (ap (int_cmp key) (sym at.key_is) ∙ sym is ∙ equal_order o equal))

        pub looks_here : is_eq o ≡ true → Looks t place ty tree key i before now here → Some (to_z w64 (of_z w64 read.value)) ≡ find int_cmp key (pairs tree)
        looks_here equal looks = here_at equal looks.part looks.has looks.search looks.found

        last_at : is_eq o ≡ true → (part : Tree) → HasTree t place ty here part → nodes_toward key part ≡ 1
        last_at equal leaf has = absurd (some (leaf_zero t place ty here has))
        last_at equal (node x k v y) has =
            let at = finds t place ty x k v y holds has in
            ap (λ (p : Ordering). one_further p (nodes_toward key x) (nodes_toward key y)) (ap (int_cmp key) (sym at.key_is) ∙ sym is ∙ equal_order o equal)

        -- at its own node each node on the way was counted
        pub looks_last : is_eq o ≡ true → Looks t place ty tree key i before now here → now + 1 ≡ before + nodes_toward key tree
        looks_last equal looks =
            let one = last_at equal looks.part looks.has in
            omega (arith, looks.counted, looks.way, one)

        next_of : (p : Ordering) → p ≡ int_cmp key read.key → is_eq p ≡ false → (part : Tree) → HasTree t place ty here part → IsSearch part → Found part → height part + i ≤ height tree → now ≡ before + i
            → nodes_toward key tree ≡ i + nodes_toward key part → Looks t place ty tree key (i + 1) before (now + 1) (toward read p)
        next_of p e other leaf has search found low counted way = absurd (some (leaf_zero t place ty here has))
        next_of Less e other (node x k v y) has search found low counted way =
            let at = finds t place ty x k v y holds has in
            let order : int_cmp key k ≡ Less = ap (int_cmp key) (sym at.key_is) ∙ sym e in
            let here = ap (λ (p : Ordering). one_further p (nodes_toward key x) (nodes_toward key y)) order in
            record {
              part = x;
              has = link_word t place s.ids ty read.left x at.left;
              search = left_search x k v y search;
              found = found ∙ found_left key x k v y search order;
              low = omega (arith, low);
              counted = omega (arith, counted);
              way = omega (arith, way, here);
            }
        next_of Equal e other (node x k v y) has search found low counted way = absurd (cc)
        next_of Greater e other (node x k v y) has search found low counted way =
            let at = finds t place ty x k v y holds has in
            let order : int_cmp key k ≡ Greater = ap (int_cmp key) (sym at.key_is) ∙ sym e in
            let here = ap (λ (p : Ordering). one_further p (nodes_toward key x) (nodes_toward key y)) order in
            record {
              part = y;
              has = link_word t place s.ids ty read.right y at.right;
              search = right_search x k v y search;
              found = found ∙ found_right key x k v y search order;
              low = omega (arith, low);
              counted = omega (arith, counted);
              way = omega (arith, way, here);
            }

        pub looks_next : is_eq o ≡ false → Looks t place ty tree key i before now here → Looks t place ty tree key (i + 1) before (now + 1) (toward read o)
        looks_next other looks = next_of o is other looks.part looks.has looks.search looks.found looks.low looks.counted looks.way

-- a key is passed as it is
module _ {D : Type 0} (t : Table D) (place : Placing) (ty : ℕ) (tree : Tree) (key : ℤ) (fits : SFits w64 key) (i before now here : ℕ) where
  pub with_key : Looks t place ty tree (to_z w64 (of_z w64 key)) i before now here → Looks t place ty tree key i before now here
  with_key looks = subst (λ (z : ℤ). Looks t place ty tree z i before now here) (to_z-of_z w64 key fits) looks

  pub as_passed : Looks t place ty tree key i before now here → Looks t place ty tree (to_z w64 (of_z w64 key)) i before now here
  as_passed looks = subst (λ (z : ℤ). Looks t place ty tree z i before now here) (sym (to_z-of_z w64 key fits)) looks
