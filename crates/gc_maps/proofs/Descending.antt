-- A way down to a key, node by node.
use Rattle.std.proofs.Common.{◌≡◌, ℕ, ◌+◌, ◌≤◌, ◌<◌, ℤ, Bool, true, false, List, [], ◌∷◌, ◌++◌, Option, Some, None, Result, Ok, Err, Ordering, Less, Equal, Greater, sym, ap, ◌∙◌, refl, subst, arith, w64, FitsSigned}
use Rattle.std.specs.Ordering.{int_cmp, is_eq, is_lt}
use Rattle.std.specs.Cmp.{int_ranked}
use Rattle.std.specs.FinMap.Entries.{put}
use Rattle.std.proofs.lemmas.List.{append_assoc, append-nil}
use Rattle.gc_types.specs.declared.kind.Layouts.{Layouts}
use Rattle.gc_model.specs.Table.{Table}
use Rattle.gc_model.specs.Stores.{StoreView}
use Rattle.gc_model.specs.Values.{reference}
use Rattle.gc_model.specs.Forms.{Names, naming}
use Rattle.gc_model.specs.Holds.{Holds, Placing}
use Rattle.gc_owner.specs.declared.entry.GcClass.TheVariants.{Any}
use Rattle.gc_model.specs.Accounts.{Account, HoldsAccount}
use Rattle.gc_values.specs.declared.root.GcRootIndex.{GcRootIndex}
use Rattle.gc_store.specs.Reading.{IsFoundHere}
use Rattle.gc_store.specs.Stores.{IsSameStore}
use Rattle.gc_lists.specs.declared.fault.ListFault.{ListFault}
use Rattle.gc_lists.specs.Frames.{Leaves}
use Rattle.gc_maps.specs.declared.part.FoundNode.{FoundNode}
use Rattle.gc_maps.specs.declared.part.Frame.{Frame}
use Rattle.gc_maps.specs.declared.part.Node.{Node}
use Rattle.gc_maps.specs.Trees.{Tree, leaf, node, height, pairs}
use Rattle.gc_maps.specs.Parts.{NamesLink, RootIs, NodeIs}
use Rattle.gc_maps.specs.FoundNodes.{link_found, HasTree, NodeWordIn, LinkFound, NodeFound, NodeFoundIn, FindsNode, GivesLink}
use Rattle.gc_maps.specs.Paths.{TakesSide, LeadsDown, Descended, away}
use Rattle.gc_maps.specs.Searching.{IsSearch, toward}
use Rattle.gc_maps.specs.Ends.{Pushes, EndsReading}
use Rattle.gc_maps.proofs.Naming.{Keeps, root_kept, tree_kept}
use Rattle.gc_maps.proofs.Entries.{AllBelow, around, above_further, below_further, put_past, put_front, put_there, lesser}
use Rattle.gc_maps.proofs.NodeReads.{at_zero, at_word, leaf_zero, link_word, GivesRoot, refused_later}
use Rattle.gc_maps.proofs.Growing.{pushes_none, pushes_then, pushes_keep}
use Rattle.gc_maps.proofs.Lookups.{pushes_within, refused_within, root_low, left_search, right_search}
use Rattle.gc_maps.proofs.WayLemmas.{LastStep, path_push}

-- Frames lead from a whole tree to a part of it, and a key is put into the whole as into that part.
pub record Reaches {D : Type 0} (s : StoreView D) (t : Table D) (ty : ℕ) (whole : Tree) (key : ℤ) (frames : List Frame) (here : Tree) : Type 0 where
  pub before : List (ℤ × ℤ)
  pub behind : List (ℤ × ℤ)
  pub path : LeadsDown s t ty frames here whole before behind
  pub puts : (value : ℤ) → put int_cmp key value (pairs whole) ≡ before ++ (put int_cmp key value (pairs here) ++ behind)

-- So many nodes were read on the way down, and the word is that of the part that is looked at now.
pub record Descends {D : Type 0} (layouts : Layouts) (t : Table D) (ty : ℕ) (tree : Tree) (key : ℤ) (read : ℕ) (frames : List Frame) (s : StoreView D) (here : ℕ) : Type 0 where
  pub part : Tree
  pub place : Placing
  pub leaves : Leaves layouts (λ u. Pushes read t u × (Holds layouts s u place × (HasTree u place ty here part × Reaches s u ty tree key frames part))) s
  pub search : IsSearch part
  pub low : height part + read ≤ height tree

-- a way stays as a table grows
module _ {D : Type 0} (s : StoreView D) (t : Table D) (s' : StoreView D) (u : Table D) (keeps : Keeps s t s' u) (ty : ℕ) where
  side_kept : (f : Frame) (Rest Rest' : Tree → List (ℤ × ℤ) → List (ℤ × ℤ) → Type 0) (by : (child : Tree) (b a : List (ℤ × ℤ)) → Rest child b a → Rest' child b a)
      (side : Bool) (x : Tree) (k v : ℤ) (y : Tree) (b a before behind : List (ℤ × ℤ)) → TakesSide s t ty f side x k v y Rest b a before behind → TakesSide s' u ty f side x k v y Rest' b a before behind
  side_kept f Rest Rest' by true x k v y b a before behind takes = (root_kept s t s' u keeps ty f.other y takes.0, (by x b a takes.1.0, takes.1.1))
  side_kept f Rest Rest' by false x k v y b a before behind takes = (root_kept s t s' u keeps ty f.other x takes.0, (by y b a takes.1.0, takes.1.1))

  pub path_kept : (fs : List Frame) (here whole : Tree) (b a : List (ℤ × ℤ)) → LeadsDown s t ty fs here whole b a → LeadsDown s' u ty fs here whole b a
  path_kept [] here whole b a path = path
  path_kept (f ∷ fs) here whole b a path = record {
    left = path.left;
    key = path.key;
    value = path.value;
    right = path.right;
    is = path.is;
    key_is = path.key_is;
    value_is = path.value_is;
    key_fits = path.key_fits;
    value_fits = path.value_fits;
    b = path.b;
    a = path.a;
    side = side_kept f (LeadsDown s t ty fs here) (LeadsDown s' u ty fs here) (λ child b' a' rest. path_kept fs here child b' a' rest) f.goes_left path.left path.key path.value path.right path.b path.a b a path.side;
  }

-- what a key is put into, where it is compared with that of a node
pub put_left : (q n : ℤ) (x : Tree) (k v : ℤ) (y : Tree) → IsSearch (node x k v y) → int_cmp q k ≡ Less → put int_cmp q n (pairs (node x k v y)) ≡ put int_cmp q n (pairs x) ++ (k, v) ∷ pairs y
put_left q n x k v y search e =
    let parts = around (pairs x) (k, v) (pairs y) search.rising in
    put_front q n (pairs x) ((k, v) ∷ pairs y) (e, above_further (pairs y) k q e parts.above)

pub put_right : (q n : ℤ) (x : Tree) (k v : ℤ) (y : Tree) → IsSearch (node x k v y) → int_cmp q k ≡ Greater → put int_cmp q n (pairs (node x k v y)) ≡ pairs x ++ (k, v) ∷ put int_cmp q n (pairs y)
put_right q n x k v y search e =
    let parts = around (pairs x) (k, v) (pairs y) search.rising in
    let less = lesser q k e in
    put_past q n (pairs x) ((k, v) ∷ pairs y) (below_further (pairs x) k q less parts.below) ∙ ap (λ es. pairs x ++ es) (put_past q n ((k, v) ∷ []) (pairs y) (less, tt))

pub put_here : (q n : ℤ) (x : Tree) (k v : ℤ) (y : Tree) → IsSearch (node x k v y) → int_cmp q k ≡ Equal → put int_cmp q n (pairs (node x k v y)) ≡ pairs (node x q n y)
put_here q n x k v y search e =
    let parts = around (pairs x) (k, v) (pairs y) search.rising in
    let same : k ≡ q = sym (int_ranked q k Equal (sym e)) in
    ap (λ (j : ℤ). put int_cmp q n (pairs x ++ (j, v) ∷ pairs y)) same ∙ put_there q n v (pairs x) (pairs y) (subst (λ (j : ℤ). AllBelow (pairs x) j) same parts.below)

module _ {D : Type 0} (layouts : Layouts) (t : Table D) (ty : ℕ) (tree : Tree) (key : ℤ) where
  abbrev pub Goes : List Frame → StoreView D → Table D → Option Node → Type 0
  Goes frames s u found = Descended s u ty tree key frames found

  pub begun : (a : Account) (s : StoreView D) (here : ℕ) (frames : List Frame) → frames ≡ [] → (holds : HoldsAccount layouts s t a) → HasTree t holds.place ty here tree → IsSearch tree → Descends layouts t ty tree key 0 frames s here
  begun a s here frames none holds has search = subst (λ (fs : List Frame). Descends layouts t ty tree key 0 fs s here) (sym none) (record {
    part = tree;
    place = holds.place;
    leaves = record {
      after = t;
      account = a;
      holds = holds;
      changed = (pushes_none 0 t, (holds.holds, (has, record { before = []; behind = []; path = (refl, (refl, refl)); puts = λ value. sym (append-nil (put int_cmp key value (pairs tree))) })));
    };
    search = search;
    low = omega arith;
  })

  module _ (i : ℕ) (frames : List Frame) (s : StoreView D) (here : ℕ) where
    nothing_at : (part : Tree) → part ≡ leaf → (u : Table D) → Reaches s u ty tree key frames part → Goes frames s u None
    nothing_at leaf is u reaches = record {
      here = leaf;
      left = leaf;
      right = leaf;
      before = reaches.before;
      behind = reaches.behind;
      path = reaches.path;
      children = (refl, refl);
      there = refl;
      balanced = record { level = record { left = omega arith; right = omega arith }; in_left = tt; in_right = tt };
      close = record { left = omega arith; right = omega arith };
      puts = reaches.puts;
    }
    nothing_at (node x k v y) is u reaches = absurd (cc)

    pub nothing_there : here ≡ 0 → i < 92 → Descends layouts t ty tree key i frames s here → EndsReading layouts 184 t (Goes frames) (Ok None) s
    nothing_there zero below d =
        let at = d.leaves in
        let none = at_zero layouts s at.after d.place at.changed.1.0 ty d.part (subst (λ (n : ℕ). HasTree at.after d.place ty n d.part) zero at.changed.1.1.0) in
        record {
          after = at.after;
          account = at.account;
          holds = at.holds;
          changed = (pushes_within i 184 t at.after (omega (arith, below)) at.changed.0, nothing_at d.part none at.after at.changed.1.1.1);
        }

    -- beyond the greatest height nothing is left
    pub too_far : (root : Option GcRootIndex) (s0 : StoreView D) → RootIs s0 t ty root tree → IsSearch tree → 92 ≤ i → Descends layouts t ty tree key i frames s here → ⊥
    too_far root s0 is search past d = let low = d.low in let high = root_low s0 t ty root tree is search in omega (arith, low, high, past)

    module _ (some : here ≡ 0 → ⊥) where
      pub node_there : Descends layouts t ty tree key i frames s here → NodeWordIn D layouts s here
      node_there d = at_word layouts s d.leaves.after d.place d.leaves.changed.1.0 ty here some d.part d.leaves.changed.1.1.0

      -- what was found by the word
      module _ (found : FoundNode) (finds : FindsNode D layouts s here found) (o : Ordering) (is : o ≡ int_cmp key found.key) where
        equals : (p : Ordering) → is_eq p ≡ true → p ≡ Equal
        equals Less e = absurd (cc)
        equals Equal e = refl
        equals Greater e = absurd (cc)

        -- it is the key's node
        node_in : (part : Tree) (u : Table D) (place : Placing) → Holds layouts s u place → HasTree u place ty here part → NodeFoundIn D layouts s found
        node_in leaf u place holds has = absurd (some (leaf_zero u place ty here has))
        node_in (node x k v y) u place holds has = record { table = u; place = place; holds = holds; ty = ty; left = x; key = k; value = v; right = y; is = finds u place ty x k v y holds has }

        pub found_in : Descends layouts t ty tree key i frames s here → NodeFoundIn D layouts s found
        found_in d = node_in d.part d.leaves.after d.place d.leaves.changed.1.0 d.leaves.changed.1.1.0

        module _ (s1 : StoreView D) where
          abbrev pub Gives : Result Node ListFault → Type 0
          Gives answer = (u : Table D) (place : Placing) (ty : ℕ) (x : Tree) (k v : ℤ) (y : Tree) → Holds layouts s u place → NodeFound (naming place s.ids) u ty found x k v y
              → EndsReading layouts 2 u (λ s u read. NodeIs s u ty read x k v y) answer s1

          refused_at : (f : ListFault) → Gives (Err f) → (part : Tree) (u : Table D) (place : Placing) → Holds layouts s u place → HasTree u place ty here part → Pushes i t u
              → (Done : StoreView D → Table D → Option Node → Type 0) → EndsReading {A = Option Node} layouts (i + 2) t Done (Err f) s1
          refused_at f gives leaf u place holds has pushes Done = absurd (some (leaf_zero u place ty here has))
          refused_at f gives (node x k v y) u place holds has pushes Done =
              refused_later {A = Node} layouts i 2 t u (λ s u read. NodeIs s u ty read x k v y) Done f s1 pushes (gives u place ty x k v y holds (finds u place ty x k v y holds has))

          pub node_refused : i < 92 → Descends layouts t ty tree key i frames s here → (f : ListFault) → Gives (Err f) → (Done : StoreView D → Table D → Option Node → Type 0)
              → EndsReading {A = Option Node} layouts 184 t Done (Err f) s1
          node_refused below d f gives Done =
              refused_within {A = Option Node} layouts (i + 2) 184 t Done f s1 (omega (arith, below)) (refused_at f gives d.part d.leaves.after d.place d.leaves.changed.1.0 d.leaves.changed.1.1.0 d.leaves.changed.0 Done)

          module _ (read : Node) (gives : Gives (Ok read)) (same : IsSameStore s s1) where
            found_at : is_eq o ≡ true → (part : Tree) (u : Table D) (place : Placing) → Holds layouts s u place → HasTree u place ty here part → Pushes i t u → IsSearch part → Reaches s u ty tree key frames part
                → EndsReading layouts (i + 2) t (Goes frames) (Ok (Some read)) s1
            found_at equal leaf u place holds has pushes search reaches = absurd (some (leaf_zero u place ty here has))
            found_at equal (node x k v y) u place holds has pushes search reaches =
                let of_node = finds u place ty x k v y holds has in
                let ends = gives u place ty x k v y holds of_node in
                let at = ends.changed.1 in
                let order = ap (int_cmp key) (sym of_node.key_is) ∙ sym is ∙ equals o equal in
                record {
                  after = ends.after;
                  account = ends.account;
                  holds = ends.holds;
                  changed = (
                    pushes_then i 2 t u ends.after pushes ends.changed.0,
                    record {
                      here = node x k v y;
                      left = x;
                      right = y;
                      before = reaches.before;
                      behind = reaches.behind;
                      path = path_kept s u s1 ends.after (pushes_keep 2 s u s1 ends.after same ends.changed.0) ty frames (node x k v y) tree reaches.before reaches.behind reaches.path;
                      children = (at.left, at.right);
                      there = λ i. node x (sym (int_ranked key k Equal (sym order)) i) (sym at.value_is i) y;
                      balanced = search.balanced;
                      close = record { left = omega arith; right = omega arith };
                      puts = λ value. reaches.puts value
                          ∙ ap (λ (es : List (ℤ × ℤ)). reaches.before ++ (es ++ reaches.behind)) (put_here key value x k v y search order);
                    },
                  );
                }

            pub found_there : is_eq o ≡ true → i < 92 → Descends layouts t ty tree key i frames s here → EndsReading layouts 184 t (Goes frames) (Ok (Some read)) s1
            found_there equal below d =
                let ends = found_at equal d.part d.leaves.after d.place d.leaves.changed.1.0 d.leaves.changed.1.1.0 d.leaves.changed.0 d.search d.leaves.changed.1.1.1 in
                record { after = ends.after; account = ends.account; holds = ends.holds; changed = (pushes_within (i + 2) 184 t ends.after (omega (arith, below)) ends.changed.0, ends.changed.1) }

        -- a step to one of its children
        module _ (other : is_eq o ≡ false) where
          -- the link that is not taken leads to a tree
          some_link : (p : Ordering) → is_eq p ≡ false → (u : Table D) (place : Placing) (x : Tree) (k v : ℤ) (y : Tree) → NodeFound (naming place s.ids) u ty found x k v y
              → (z : Tree) × LinkFound (naming place s.ids) u ty (link_found (away found p)) z
          some_link Less e u place x k v y at = (y, at.right)
          some_link Equal e u place x k v y at = absurd (cc)
          some_link Greater e u place x k v y at = (x, at.left)

          link_in : (part : Tree) (u : Table D) (place : Placing) → Holds layouts s u place → HasTree u place ty here part → IsFoundHere D layouts s (link_found (away found o))
          link_in leaf u place holds has = absurd (some (leaf_zero u place ty here has))
          link_in (node x k v y) u place holds has =
              let link = some_link o other u place x k v y (finds u place ty x k v y holds has) in
              record { table = u; place = place; holds = holds; value = reference Any link.1.root; stands = link.1.stands }

          pub link_there : Descends layouts t ty tree key i frames s here → IsFoundHere D layouts s (link_found (away found o))
          link_there d = link_in d.part d.leaves.after d.place d.leaves.changed.1.0 d.leaves.changed.1.1.0

          module _ (s1 : StoreView D) (same : IsSameStore s s1) where
            -- what giving a root for it does
            abbrev pub Links : Result (Option GcRootIndex) ListFault → Type 0
            Links answer = GivesRoot layouts s s1 same (link_found (away found o)) answer

            -- the reference of the link, and the tree that it leads to
            abbrev LinkOf : Names → Table D → Tree → Type 0
            LinkOf names u z = LinkFound names u ty (link_found (away found o)) z

            step_refused_at : (f : ListFault) → Links (Err f) → (part : Tree) (u : Table D) (place : Placing) → Holds layouts s u place → HasTree u place ty here part → Pushes i t u
                → (Done : StoreView D → Table D → Option Node → Type 0) → EndsReading {A = Option Node} layouts (i + 1) t Done (Err f) s1
            step_refused_at f links leaf u place holds has pushes Done = absurd (some (leaf_zero u place ty here has))
            step_refused_at f links (node x k v y) u place holds has pushes Done =
                let link = some_link o other u place x k v y (finds u place ty x k v y holds has) in
                refused_later {A = Option GcRootIndex} layouts i 1 t u (GivesLink layouts place link.1.root) Done f s1 pushes (links u place link.1.root holds link.1.stands)

            pub step_refused : i < 92 → Descends layouts t ty tree key i frames s here → (f : ListFault) → Links (Err f) → (Done : StoreView D → Table D → Option Node → Type 0)
                → EndsReading {A = Option Node} layouts 184 t Done (Err f) s1
            step_refused below d f links Done =
                refused_within {A = Option Node} layouts (i + 1) 184 t Done f s1 (omega (arith, below)) (step_refused_at f links d.part d.leaves.after d.place d.leaves.changed.1.0 d.leaves.changed.1.1.0 d.leaves.changed.0 Done)

            module _ (given : Option GcRootIndex) (links : Links (Ok given)) where
              -- no memory for the frame
              wanting_at : (part : Tree) (u : Table D) (place : Placing) → Holds layouts s u place → HasTree u place ty here part → Pushes i t u → Leaves layouts (Pushes (i + 1) t) s1
              wanting_at leaf u place holds has pushes = absurd (some (leaf_zero u place ty here has))
              wanting_at (node x k v y) u place holds has pushes =
                  let link = some_link o other u place x k v y (finds u place ty x k v y holds has) in
                  let ends = links u place link.1.root holds link.1.stands in
                  record { after = ends.after; account = ends.account; holds = ends.holds; changed = pushes_then i 1 t u ends.after pushes ends.changed.0 }

              pub wanting : i < 92 → Descends layouts t ty tree key i frames s here → Leaves layouts (Pushes 184 t) s1
              wanting below d =
                  let at = wanting_at d.part d.leaves.after d.place d.leaves.changed.1.0 d.leaves.changed.1.1.0 d.leaves.changed.0 in
                  record { after = at.after; account = at.account; holds = at.holds; changed = pushes_within (i + 1) 184 t at.after (omega (arith, below)) at.changed }

              module _ (f : Frame) (goes : f.goes_left ≡ is_lt o) (key_is : FitsSigned w64 found.key → f.key ≡ found.key) (value_is : FitsSigned w64 found.value → f.value ≡ found.value) (other_is : f.other ≡ given) where
                step_of : (p : Ordering) → f.goes_left ≡ is_lt p → (u : Table D) (place : Placing) (u1 : Table D) (x : Tree) (k v : ℤ) (y : Tree) → NodeFound (naming place s.ids) u ty found x k v y
                    → (part : Tree) (bs as' : List (ℤ × ℤ)) → TakesSide s1 u1 ty f (is_lt p) x k v y (LeadsDown s1 u1 ty [] part) [] [] bs as' → LastStep s1 u1 ty f part (node x k v y) bs as'
                step_of p goes_p u place u1 x k v y at part bs as' side = record {
                  left = x;
                  key = k;
                  value = v;
                  right = y;
                  is = refl;
                  key_is = key_is (subst (FitsSigned w64) (sym at.key_is) at.key_fits) ∙ at.key_is;
                  value_is = value_is (subst (FitsSigned w64) (sym at.value_is) at.value_fits) ∙ at.value_is;
                  key_fits = at.key_fits;
                  value_fits = at.value_fits;
                  b = [];
                  a = [];
                  side = subst (λ (b : Bool). TakesSide s1 u1 ty f b x k v y (LeadsDown s1 u1 ty [] part) [] [] bs as') (sym goes_p) side;
                }

                -- the root of the other child
                beside : (u : Table D) (place : Placing) (z : Tree) (link : LinkOf (naming place s.ids) u z) (u1 : Table D) → Pushes 1 u u1 → NamesLink s1 u1 given link.root → RootIs s1 u1 ty f.other z
                beside u place z link u1 pushes names = subst (λ (r : Option GcRootIndex). RootIs s1 u1 ty r z) (sym other_is)
                    (record { reference = link.root; names = names; is = tree_kept s u s1 u1 (pushes_keep 1 s u s1 u1 same pushes) ty z link.root link.is })

                -- the child that is taken, where objects lie as they lay
                taken : (u : Table D) (place : Placing) (word : ℕ) (z : Tree) → LinkFound (naming place s.ids) u ty (link_found word) z → (u1 : Table D) → Pushes 1 u u1 → HasTree u1 place ty word z
                taken u place word z link u1 pushes =
                    let has = link_word u place s.ids ty word z link in
                    record { root = has.root; is_word = has.is_word; is = tree_kept s u s1 u1 (pushes_keep 1 s u s1 u1 same pushes) ty z has.root has.is }

                further : (p : Ordering) → o ≡ p → p ≡ int_cmp key found.key → f.goes_left ≡ is_lt p → is_eq p ≡ false → (part : Tree) (u : Table D) (place : Placing) → Holds layouts s u place → HasTree u place ty here part
                    → Pushes i t u → IsSearch part → Reaches s u ty tree key frames part → height part + i ≤ height tree → Descends layouts t ty tree key (i + 1) (frames ++ f ∷ []) s1 (toward found p)
                further p op e goes_p other_p leaf u place holds has pushes search reaches low = absurd (some (leaf_zero u place ty here has))
                further Less op e goes_p other_p (node x k v y) u place holds has pushes search reaches low =
                    let at = finds u place ty x k v y holds has in
                    let link : LinkOf (naming place s.ids) u y = subst (λ (q : Ordering). LinkFound (naming place s.ids) u ty (link_found (away found q)) y) (sym op) at.right in
                    let ends = links u place link.root holds link.stands in
                    let path = path_kept s u s1 ends.after (pushes_keep 1 s u s1 ends.after same ends.changed.0) ty frames (node x k v y) tree reaches.before reaches.behind reaches.path in
                    let last = step_of Less goes_p u place ends.after x k v y at x [] ((k, v) ∷ pairs y)
                    (beside u place y link ends.after ends.changed.0 ends.changed.1.0, ((refl, (refl, refl)), (refl, refl))) in
                    let order = ap (int_cmp key) (sym at.key_is) ∙ sym e in
                    record {
                      part = x;
                      place = place;
                      leaves = record {
                        after = ends.after;
                        account = ends.account;
                        holds = ends.holds;
                        changed = (
                          pushes_then i 1 t u ends.after pushes ends.changed.0,
                          (
                            ends.changed.1.1,
                            (
                              taken u place found.left x at.left ends.after ends.changed.0,
                              record {
                                before = reaches.before ++ [];
                                behind = ((k, v) ∷ pairs y) ++ reaches.behind;
                                path = path_push s1 ends.after ty frames f x (node x k v y) tree reaches.before reaches.behind [] ((k, v) ∷ pairs y) path last;
                                puts = λ value. reaches.puts value
                                    ∙ ap (λ (es : List (ℤ × ℤ)). reaches.before ++ (es ++ reaches.behind)) (put_left key value x k v y search order)
                                    ∙ ap (λ (es : List (ℤ × ℤ)). reaches.before ++ es) (append_assoc (put int_cmp key value (pairs x)) ((k, v) ∷ pairs y) reaches.behind)
                                    ∙ ap (λ (es : List (ℤ × ℤ)). es ++ (put int_cmp key value (pairs x) ++ (((k, v) ∷ pairs y) ++ reaches.behind))) (sym (append-nil reaches.before));
                              },
                            ),
                          ),
                        );
                      };
                      search = left_search x k v y search;
                      low = omega (arith, low);
                    }
                further Equal op e goes_p other_p (node x k v y) u place holds has pushes search reaches low = absurd (cc)
                further Greater op e goes_p other_p (node x k v y) u place holds has pushes search reaches low =
                    let at = finds u place ty x k v y holds has in
                    let link : LinkOf (naming place s.ids) u x = subst (λ (q : Ordering). LinkFound (naming place s.ids) u ty (link_found (away found q)) x) (sym op) at.left in
                    let ends = links u place link.root holds link.stands in
                    let path = path_kept s u s1 ends.after (pushes_keep 1 s u s1 ends.after same ends.changed.0) ty frames (node x k v y) tree reaches.before reaches.behind reaches.path in
                    let last = step_of Greater goes_p u place ends.after x k v y at y (pairs x ++ (k, v) ∷ []) []
                    (beside u place x link ends.after ends.changed.0 ends.changed.1.0, ((refl, (refl, refl)), (refl, refl))) in
                    let order = ap (int_cmp key) (sym at.key_is) ∙ sym e in
                    record {
                      part = y;
                      place = place;
                      leaves = record {
                        after = ends.after;
                        account = ends.account;
                        holds = ends.holds;
                        changed = (
                          pushes_then i 1 t u ends.after pushes ends.changed.0,
                          (
                            ends.changed.1.1,
                            (
                              taken u place found.right y at.right ends.after ends.changed.0,
                              record {
                                before = reaches.before ++ (pairs x ++ (k, v) ∷ []);
                                behind = reaches.behind;
                                path = path_push s1 ends.after ty frames f y (node x k v y) tree reaches.before reaches.behind (pairs x ++ (k, v) ∷ []) [] path last;
                                puts = λ value. reaches.puts value
                                    ∙ ap (λ (es : List (ℤ × ℤ)). reaches.before ++ (es ++ reaches.behind)) (put_right key value x k v y search order)
                                    ∙ regroup reaches.before (pairs x) (k, v) (put int_cmp key value (pairs y)) reaches.behind;
                              },
                            ),
                          ),
                        );
                      };
                      search = right_search x k v y search;
                      low = omega (arith, low);
                    }
                  where
                    regroup : (b xs : List (ℤ × ℤ)) (e : ℤ × ℤ) (ps a : List (ℤ × ℤ)) → b ++ ((xs ++ e ∷ ps) ++ a) ≡ (b ++ (xs ++ e ∷ [])) ++ (ps ++ a)
                    regroup b xs e ps a = simp append_assoc

                pub gone_on : Descends layouts t ty tree key i frames s here → Descends layouts t ty tree key (i + 1) (frames ++ f ∷ []) s1 (toward found o)
                gone_on d = further o refl is goes other d.part d.leaves.after d.place d.leaves.changed.1.0 d.leaves.changed.1.1.0 d.leaves.changed.0 d.search d.leaves.changed.1.1.1 d.low
