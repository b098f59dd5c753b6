-- The gap that a node leaves: another node of the same height in its place, and the part that closes it where a child is missing.
use Rattle.std.proofs.Common.{◌≡◌, ℕ, ◌+◌, ◌<◌, max, ℤ, Bool, true, false, List, [], ◌∷◌, ◌++◌, Option, Some, None, Ok, refl, sym, ap, ◌∙◌, subst, arith}
use Rattle.std.proofs.lemmas.List.{append-nil}
use Rattle.gc_types.specs.declared.kind.Layouts.{Layouts}
use Rattle.gc_model.specs.Table.{Table}
use Rattle.gc_model.specs.Stores.{StoreView}
use Rattle.gc_model.specs.Accounts.{Account, HoldsAccount}
use Rattle.gc_values.specs.declared.root.GcRootIndex.{GcRootIndex}
use Rattle.gc_store.specs.Stores.{IsSameStore}
use Rattle.gc_maps.specs.declared.part.Frame.{Frame}
use Rattle.gc_maps.specs.declared.part.Node.{Node}
use Rattle.gc_maps.specs.declared.part.Part.{Part}
use Rattle.gc_maps.specs.Trees.{Tree, leaf, node, height, pairs, AreLevel, IsBalanced}
use Rattle.gc_maps.specs.Parts.{RootIs, PartIs, RootIn}
use Rattle.gc_maps.specs.Paths.{TakesSide, LeadsDown, Descended}
use Rattle.gc_maps.specs.Gaps.{others, Closes}
use Rattle.gc_maps.specs.Searching.{IsSearch}
use Rattle.gc_maps.specs.Ends.{EndsReading}
use Rattle.gc_maps.proofs.Naming.{held_table}
use Rattle.gc_maps.proofs.NodeReads.{table_keeps}
use Rattle.gc_maps.proofs.Growing.{pushes_none}
use Rattle.gc_maps.proofs.Descending.{path_kept}
use Rattle.gc_maps.proofs.Rising.{path_high}
use Rattle.gc_maps.proofs.Putting.{ReadsPart}
use Rattle.gc_maps.proofs.Removals.{Gap, gap_of}

module _ {D : Type 0} (s : StoreView D) (t : Table D) (ty : ℕ) where
  -- a tree in which frames lead to another part, as high as the one that they lead to here
  pub record Swapped (fs : List Frame) (other whole : Tree) (b a : List (ℤ × ℤ)) : Type 0 where
    pub tree : Tree
    pub path : LeadsDown s t ty fs other tree b a
    pub high : height tree ≡ height whole
    pub balanced : IsBalanced whole → IsBalanced tree

  module _ (here other : Tree) (same : height other ≡ height here) (other_balanced : IsBalanced other) where
    module _ (fs : List Frame) (f : Frame) (less : (child : Tree) (b a : List (ℤ × ℤ)) → LeadsDown s t ty fs here child b a → Swapped fs other child b a) (whole : Tree) (before behind : List (ℤ × ℤ))
        (path : LeadsDown s t ty (f ∷ fs) here whole before behind) where
      balanced_here : IsBalanced whole → IsBalanced (node path.left path.key path.value path.right)
      balanced_here balanced = subst IsBalanced path.is balanced

      abbrev Side : Bool → Tree → Tree → Type 0
      Side side l r = TakesSide s t ty f side l path.key path.value r (LeadsDown s t ty fs other) path.b path.a before behind

      led : (l r : Tree) → Side f.goes_left l r → LeadsDown s t ty (f ∷ fs) other (node l path.key path.value r) before behind
      led l r side = record {
        left = l;
        key = path.key;
        value = path.value;
        right = r;
        is = refl;
        key_is = path.key_is;
        value_is = path.value_is;
        key_fits = path.key_fits;
        value_fits = path.value_fits;
        b = path.b;
        a = path.a;
        side = side;
      }

      swap_side : (side : Bool) → f.goes_left ≡ side → TakesSide s t ty f side path.left path.key path.value path.right (LeadsDown s t ty fs here) path.b path.a before behind → Swapped (f ∷ fs) other whole before behind
      swap_side true e takes =
          let p = less path.left path.b path.a takes.1.0 in
          record {
            tree = node p.tree path.key path.value path.right;
            path = led p.tree path.right (subst (λ (z : Bool). Side z p.tree path.right) (sym e) (takes.0, (p.path, takes.1.1)));
            high = ap (λ (n : ℕ). max n (height path.right) + 1) p.high ∙ sym (ap height path.is);
            balanced = λ w.
                let at = balanced_here w in
                record { level = subst (λ (n : ℕ). AreLevel n (height path.right)) (sym p.high) at.level; in_left = p.balanced at.in_left; in_right = at.in_right };
          }
      swap_side false e takes =
          let p = less path.right path.b path.a takes.1.0 in
          record {
            tree = node path.left path.key path.value p.tree;
            path = led path.left p.tree (subst (λ (z : Bool). Side z path.left p.tree) (sym e) (takes.0, (p.path, takes.1.1)));
            high = ap (λ (n : ℕ). max (height path.left) n + 1) p.high ∙ sym (ap height path.is);
            balanced = λ w.
                let at = balanced_here w in
                record { level = subst (λ (n : ℕ). AreLevel (height path.left) n) (sym p.high) at.level; in_left = at.in_left; in_right = p.balanced at.in_right };
          }

    pub path_swap : (fs : List Frame) (whole : Tree) (b a : List (ℤ × ℤ)) → LeadsDown s t ty fs here whole b a → Swapped fs other whole b a
    path_swap [] whole b a path = record { tree = other; path = (refl, path.1); high = same ∙ sym (ap height path.0); balanced = λ w. other_balanced }
    path_swap (f ∷ fs) whole b a path = swap_side fs f (λ child b' a' rest. path_swap fs child b' a' rest) whole b a path f.goes_left refl path.side

  -- where there is no root, there is no node
  pub no_tree : (tree : Tree) → RootIs s t ty None tree → tree ≡ leaf
  no_tree leaf is = refl
  no_tree (node x k v y) is = let named = is.is.is_node.named in let none = is.names in absurd (cc (named, none))

-- A node that has the key was found.
module _ {D : Type 0} (layouts : Layouts) (s : StoreView D) (t : Table D) (a : Account) (holds : HoldsAccount layouts s t a) (ty : ℕ) (tree : Tree) (key : ℤ) (frames : List Frame) (read : Node)
    (search : IsSearch tree) (low : height tree < 92) (d : Descended s t ty tree key frames (Some read)) where
  pub gap : Gap key (pairs tree) d.before (pairs d.left) (pairs d.right) d.behind
  gap = gap_of key (pairs tree) d.before (pairs d.left) (pairs d.right) d.behind search.rising (d.puts key)

  pub low_here : height d.here < 92
  low_here = let high = path_high s t ty frames d.here tree d.before d.behind d.path in omega (arith, high, low)

  pub low_children : (height d.left < 92) × (height d.right < 92)
  low_children = let e = ap height d.there in let h = low_here in (omega (arith, e, h), omega (arith, e, h))

  pub left_in : RootIn D layouts s read.left
  left_in = record { table = t; holds = held_table layouts s t a holds; ty = ty; tree = d.left; is = d.children.0 }

  pub right_in : RootIn D layouts s read.right
  right_in = record { table = t; holds = held_table layouts s t a holds; ty = ty; tree = d.right; is = d.children.1 }

  abbrev pub Closing : List Frame → StoreView D → Table D → Part → Type 0
  Closing fs s u part = Closes s u ty fs part (others key (pairs tree))

  module _ (s1 : StoreView D) (same : IsSameStore s s1) (part : Part) where
    -- a child takes the place
    closed_by : (child : Tree) → PartIs s1 t ty part child → IsBalanced child → AreLevel (height child) (height d.here) → d.before ++ (pairs child ++ d.behind) ≡ others key (pairs tree) → HoldsAccount layouts s1 t a
        → EndsReading layouts 184 t (Closing frames) (Ok part) s1
    closed_by child is balanced close whole_is held = record {
      after = t;
      account = a;
      holds = held;
      changed = (
        pushes_none 184 t,
        record {
          whole = tree;
          balanced = search.balanced;
          low = low;
          rises = record {
            old = d.here;
            new = child;
            before = d.before;
            behind = d.behind;
            path = path_kept s t s1 t (table_keeps s t s1 same) ty frames d.here tree d.before d.behind d.path;
            is = is;
            balanced = balanced;
            close = close;
            whole_is = whole_is;
          };
        },
      );
    }

    pub left_closes : read.right ≡ None → ReadsPart layouts s s1 read.left part → EndsReading layouts 184 t (Closing frames) (Ok part) s1
    left_closes none reads =
        let gone = no_tree s t ty d.right (subst (λ (r : Option GcRootIndex). RootIs s t ty r d.right) none d.children.1) in
        let below = low_children.0 in
        let got = reads t a ty d.left holds d.children.0 (omega (arith, below)) in
        let e = ap height d.there in
        let r = ap height gone in
        closed_by d.left got.0 d.balanced.in_left (record { left = omega (arith, e, r); right = omega (arith, e, r) })
        (ap (λ (es : List (ℤ × ℤ)). d.before ++ (es ++ d.behind)) (sym (append-nil (pairs d.left))) ∙ ap (λ (es : List (ℤ × ℤ)). d.before ++ ((pairs d.left ++ es) ++ d.behind)) (sym (ap pairs gone)) ∙ sym gap.without)
        got.1

    pub right_closes : read.left ≡ None → ReadsPart layouts s s1 read.right part → EndsReading layouts 184 t (Closing frames) (Ok part) s1
    right_closes none reads =
        let gone = no_tree s t ty d.left (subst (λ (r : Option GcRootIndex). RootIs s t ty r d.left) none d.children.0) in
        let below = low_children.1 in
        let got = reads t a ty d.right holds d.children.1 (omega (arith, below)) in
        let e = ap height d.there in
        let l = ap height gone in
        closed_by d.right got.0 d.balanced.in_right (record { left = omega (arith, e, l); right = omega (arith, e, l) })
        (ap (λ (es : List (ℤ × ℤ)). d.before ++ ((es ++ pairs d.right) ++ d.behind)) (sym (ap pairs gone)) ∙ sym gap.without)
        got.1
