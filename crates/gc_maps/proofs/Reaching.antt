-- What a map's reference reaches: its nodes, of which it has one for each entry.
use Rattle.std.proofs.Common.{inl, inr, ◌≡◌, ℕ, suc, ℤ, pos, nat_eq, T, false, List, [], ◌∷◌, ◌++◌, length, Option, Some, None, Contains, refl, sym, ap, ◌∙◌, subst, ne_eqb, arith}
use Rattle.std.specs.List.{slice_get, IsDistinct, AllByRecursion}
use Rattle.std.specs.Cmp.{int_cmp_total, tied_itself}
use Rattle.std.specs.FinMap as finite
use Rattle.std.specs.FinMap.Entries.{is_sorted}
use Rattle.std.specs.Ordering.{int_cmp}
use Rattle.std.proofs.Common.{Less, Equal}
use Rattle.std.proofs.lemmas.List.Elements.{Contains-append_cases, Contains-append_left, Contains-append_right}
use Rattle.std.proofs.lemmas.Map.Keys.{IsDistinct-cons}
use Rattle.std.proofs.lemmas.Option.{same_Some}
use Rattle.gc_types.specs.Declarations.{Declaration}
use Rattle.gc_model.specs.Reach.{HasNumber, NamesPosition, Reached, by_start, by_step, references_in}
use Rattle.gc_model.specs.Values.{Reference, at, Value, numeric, function, continuation, reference, Object, struct, array, host, exception}
use Rattle.gc_model.proofs.Members.{get_contains}
use Rattle.gc_memory.proofs.ListLemmas.{only_item}
use Rattle.gc_lists.specs.Cells as cells
use Rattle.gc_maps.specs.Maps.{IntMap, IsMap, IsTree}
use Rattle.gc_maps.specs.Trees.{Tree, leaf, node, height, pairs}
use Rattle.gc_maps.proofs.Entries.{first, second, all_above, AllAbove}

-- the key of an object, where it is a node
abbrev key_of : List Value → ℤ
key_of [] = pos 0
key_of (numeric kind bits ∷ values) = cells.number_of bits
key_of (function f ∷ values) = pos 0
key_of (continuation c ∷ values) = pos 0
key_of (reference class r ∷ values) = pos 0

abbrev key_in : {D : Type 0} → Option (Object D) → ℤ
key_in None = pos 0
key_in (Some (struct ty values)) = key_of values
key_in (Some (array ty values)) = pos 0
key_in (Some (host value)) = pos 0
key_in (Some (exception ty tag values)) = pos 0

module _ {D : Type 0} (types : List Declaration) (objects : List (Object D)) (ty : ℕ) where
  -- the positions of a tree's nodes, from left to right
  abbrev positions : (tree : Tree) (r : Reference) → IsTree types objects ty tree r → List ℕ
  positions leaf r is = []
  positions (node a k v b) r is = positions a is.left is.is_left ++ is.is_node.position ∷ positions b is.right is.is_right

  abbrev key_at : ℕ → ℤ
  key_at p = key_in (slice_get objects p)

  -- the objects at some positions have the keys of some entries, in order
  abbrev AreKeyed : List ℕ → List (ℤ × ℤ) → Type 0
  AreKeyed [] [] = Unit {0}
  AreKeyed [] (e ∷ es) = ⊥
  AreKeyed (p ∷ ps) [] = ⊥
  AreKeyed (p ∷ ps) (e ∷ es) = (key_at p ≡ e.0) × AreKeyed ps es

  keyed_append : (ps qs : List ℕ) (es fs : List (ℤ × ℤ)) → AreKeyed ps es → AreKeyed qs fs → AreKeyed (ps ++ qs) (es ++ fs)
  keyed_append [] qs [] fs first second = second
  keyed_append [] qs (e ∷ es) fs first second = absurd first
  keyed_append (p ∷ ps) qs [] fs first second = absurd first
  keyed_append (p ∷ ps) qs (e ∷ es) fs first second = (first.0, keyed_append ps qs es fs first.1 second)

  as_many : (ps : List ℕ) (es : List (ℤ × ℤ)) → AreKeyed ps es → length es ≡ length ps
  as_many [] [] keyed = refl
  as_many [] (e ∷ es) keyed = absurd keyed
  as_many (p ∷ ps) [] keyed = absurd keyed
  as_many (p ∷ ps) (e ∷ es) keyed = ap suc (as_many ps es keyed.1)

  -- a position with a lesser key is none of those with greater ones
  apart : (p : ℕ) (key : ℤ) → key_at p ≡ key → (ps : List ℕ) (es : List (ℤ × ℤ)) → AreKeyed ps es → AllAbove es key → AllByRecursion (λ y. nat_eq p y ≡ false) ps
  apart p key is [] es keyed above = tt
  apart p key is (q ∷ ps) [] keyed above = absurd keyed
  apart p key is (q ∷ ps) (e ∷ es) keyed above = (ne_eqb p q (λ same. differ (sym is ∙ ap key_at same ∙ keyed.0) above.0), apart p key is ps es keyed.1 above.1)
    where
      differ : key ≡ e.0 → int_cmp key e.0 ≡ Less → ⊥
      differ same less = let both : Less ≡ Equal = sym less ∙ ap (int_cmp key) (sym same) ∙ tied_itself int_cmp_total key in absurd (cc both)

  distinct : (ps : List ℕ) (es : List (ℤ × ℤ)) → AreKeyed ps es → T (is_sorted int_cmp es) → IsDistinct nat_eq ps
  unfolding IsDistinct
  distinct [] es keyed rising = tt
  distinct (p ∷ ps) [] keyed rising = absurd keyed
  distinct (p ∷ ps) (e ∷ es) keyed rising =
      IsDistinct-cons nat_eq p ps (apart p e.0 keyed.0 ps es keyed.1 (all_above e.0 es (first _ _ rising))) (distinct ps es keyed.1 (second _ _ rising))

  keyed : (tree : Tree) (r : Reference) (is : IsTree types objects ty tree r) → AreKeyed (positions tree r is) (pairs tree)
  keyed leaf r is = tt
  keyed (node a k v b) r is =
      keyed_append (positions a is.left is.is_left) (is.is_node.position ∷ positions b is.right is.is_right) (pairs a) ((k, v) ∷ pairs b) (keyed a is.left is.is_left)
      (ap key_in is.is_node.object_is ∙ sym is.is_node.key_is, keyed b is.right is.is_right)

  -- a tree's own node is one of its nodes
  topmost : (tree : Tree) (r : Reference) (is : IsTree types objects ty tree r) (q : ℕ) → r ≡ at q → Contains (positions tree r is) q
  topmost leaf r is q named = absurd (cc (sym is ∙ named))
  topmost (node a k v b) r is q named =
      let here : at is.is_node.position ≡ at q = sym is.is_node.named ∙ named in
      let same : is.is_node.position ≡ q = cc here in
      Contains-append_right (positions a is.left is.is_left) (is.is_node.position ∷ positions b is.right is.is_right) q (get_contains (is.is_node.position ∷ positions b is.right is.is_right) 0 q (ap (λ n. Some n) same))

  -- what a node names is one of a tree's nodes
  module _ (a : Tree) (k v : ℤ) (b : Tree) (r : Reference) (is : IsTree types objects ty (node a k v b) r) where
    abbrev before : List ℕ
    before = positions a is.left is.is_left

    abbrev behind : List ℕ
    behind = positions b is.right is.is_right

    abbrev here : ℕ
    here = is.is_node.position

    child : (q : ℕ) → Contains (is.left ∷ is.right ∷ []) (at q) → Contains (before ++ here ∷ behind) q
    child q among = elim (Contains-append_cases (is.left ∷ []) (is.right ∷ []) (at q) among) [
      | inl one ↦ Contains-append_left before (here ∷ behind) q (topmost a is.left is.is_left q (only_item is.left (at q) one))
      | inr other ↦ Contains-append_right before (here ∷ behind) q (Contains-append_right (here ∷ []) behind q (topmost b is.right is.is_right q (only_item is.right (at q) other)))
    ]

    names_child : (holder q : ℕ) → holder ≡ here → NamesPosition objects holder q → Contains (is.left ∷ is.right ∷ []) (at q)
    names_child holder q same names =
        let object : cells.node is.is_node.ty is.is_node.key_bits is.is_node.value_bits (height (node a k v b)) is.left is.right ≡ names.object =
        same_Some _ _ (sym is.is_node.object_is ∙ sym (ap (slice_get objects) same) ∙ names.there) in
        subst (λ (o : Object D). Contains (references_in o) (at q)) (sym object) names.among

    abbrev Named : List ℕ → Type 0
    Named ps = (holder : ℕ) → Contains ps holder → (q : ℕ) → NamesPosition objects holder q → Contains ps q

    named_here : Named before → Named behind → Named (before ++ here ∷ behind)
    named_here in_left in_right holder among q names = elim (Contains-append_cases before (here ∷ behind) holder among) [
      | inl left ↦ Contains-append_left before (here ∷ behind) q (in_left holder left q names)
      | inr later ↦ elim (Contains-append_cases (here ∷ []) behind holder later) [
        | inl one ↦ child q (names_child holder q (sym (only_item here holder one)) names)
        | inr right ↦ Contains-append_right before (here ∷ behind) q (Contains-append_right (here ∷ []) behind q (in_right holder right q names))
      ]
    ]

  named : (tree : Tree) (r : Reference) (is : IsTree types objects ty tree r) (holder : ℕ) → Contains (positions tree r is) holder → (q : ℕ) → NamesPosition objects holder q → Contains (positions tree r is) q
  named leaf r is holder among q names = absurd (omega (arith, among.1))
  named (node a k v b) r is holder among q names =
      named_here a k v b r is (λ h c p n. named a is.left is.is_left h c p n) (λ h c p n. named b is.right is.is_right h c p n) holder among q names

  -- each is reached
  module _ (roots : List Reference) where
    by_node : (a : Tree) (k v : ℤ) (b : Tree) (r : Reference) (is : IsTree types objects ty (node a k v b) r) (i : ℕ) (child : Reference) → slice_get (is.left ∷ is.right ∷ []) i ≡ Some child
        → Reached objects roots is.is_node.position → (q : ℕ) → child ≡ at q → Reached objects roots q
    by_node a k v b r is i child there reached q named = by_step reached (record {
      object = cells.node is.is_node.ty is.is_node.key_bits is.is_node.value_bits (height (node a k v b)) is.left is.right;
      there = is.is_node.object_is;
      among = get_contains (is.left ∷ is.right ∷ []) i (at q) (there ∙ ap (λ (x : Reference). Some x) named);
    })

    reached : (tree : Tree) (r : Reference) (is : IsTree types objects ty tree r) → ((q : ℕ) → r ≡ at q → Reached objects roots q) → (p : ℕ) → Contains (positions tree r is) p → Reached objects roots p
    reached leaf r is root p among = absurd (omega (arith, among.1))
    reached (node a k v b) r is root p among =
        let own = root is.is_node.position is.is_node.named in
        elim (Contains-append_cases (positions a is.left is.is_left) (is.is_node.position ∷ positions b is.right is.is_right) p among) [
          | inl left ↦ reached a is.left is.is_left (λ q e. by_node a k v b r is 0 is.left refl own q e) p left
          | inr later ↦ elim (Contains-append_cases (is.is_node.position ∷ []) (positions b is.right is.is_right) p later) [
            | inl one ↦ subst (Reached objects roots) (only_item is.is_node.position p one) own
            | inr right ↦ reached b is.right is.is_right (λ q e. by_node a k v b r is 1 is.right refl own q e) p right
          ]
        ]

  -- and nothing else is
  only : (tree : Tree) (r : Reference) (is : IsTree types objects ty tree r) {p : ℕ} → Reached objects (r ∷ []) p → Contains (positions tree r is) p
  only tree r is {p} (by_start among) = topmost tree r is p (only_item r (at p) among)
  only tree r is {p} (by_step {y = y} before names) = named tree r is y (only tree r is before) p names

  pub map_nodes : (m : IntMap) (r : Reference) → IsMap types objects ty m r → HasNumber (Reached objects (r ∷ [])) (finite.len m)
  map_nodes m r is =
      let tree = is.tree in
      let keys = keyed tree r is.is in (
        positions tree r is.is,
        (
          record {
            distinct = distinct (positions tree r is.is) (pairs tree) keys (subst (λ (es : List (ℤ × ℤ)). T (is_sorted int_cmp es)) is.entries (finite.entries_sorted m));
            all = λ p. (reached (r ∷ []) tree r is.is (λ q e. by_start (get_contains (r ∷ []) 0 (at q) (ap (λ (x : Reference). Some x) e))) p, λ there. only tree r is.is there);
          },
          finite.len-entries m ∙ ap length is.entries ∙ as_many (positions tree r is.is) (pairs tree) keys,
        ),
      )
