-- The way back up: for each frame, the last first, a part takes the place of a child.
use Rattle.std.proofs.Common.{◌≡◌, ℕ, ◌+◌, ◌≤◌, ◌<◌, ◌^◌, ℤ, Option, Bool, true, false, if◌then◌else◌, List, [], ◌∷◌, ◌++◌, length, sym, ap, ◌∙◌, subst, arith, w64, FitsSigned}
use Rattle.std.proofs.lemmas.List.{append_assoc, append-nil}
use Rattle.gc_types.specs.declared.kind.Layouts.{Layouts}
use Rattle.gc_model.specs.Table.{Table}
use Rattle.gc_model.specs.Stores.{StoreView}
use Rattle.gc_model.specs.Accounts.{Account, HoldsAccount}
use Rattle.gc_store.specs.Stores.{IsSameStore}
use Rattle.gc_lists.specs.declared.kit.Kit.{Kit}
use Rattle.gc_lists.specs.Kits.{IsNodeType}
use Rattle.gc_maps.specs.declared.part.Frame.{Frame}
use Rattle.gc_maps.specs.declared.part.Opened.{Opened}
use Rattle.gc_maps.specs.declared.part.Part.{Part}
use Rattle.gc_maps.specs.Trees.{Tree, node, height, pairs, AreLevel, IsBalanced}
use Rattle.gc_maps.specs.Parts.{RootIs, PartIs, RootIn}
use Rattle.gc_maps.specs.Paths.{TakesSide, LeadsDown, Rises}
use Rattle.gc_maps.specs.Lowering.{IsJoinable, IsJoined, JoinableIn}
use Rattle.gc_maps.specs.Ends.{MakesNodes}
use Rattle.gc_maps.proofs.Naming.{keeps_then, held_table, part_kept}
use Rattle.gc_maps.proofs.NodeReads.{table_keeps}
use Rattle.gc_maps.proofs.Growing.{grows_keep}
use Rattle.gc_maps.proofs.Shapes.{near_left, near_right}
use Rattle.gc_maps.proofs.Descending.{path_kept}
use Rattle.gc_maps.proofs.WayLemmas.{LastStep}

module _ {D : Type 0} (s : StoreView D) (t : Table D) (ty : ℕ) where
  side_high : (f : Frame) (Rest : Tree → List (ℤ × ℤ) → List (ℤ × ℤ) → Type 0) (n : ℕ) (by : (child : Tree) (b a : List (ℤ × ℤ)) → Rest child b a → n ≤ height child)
      (side : Bool) (x : Tree) (k v : ℤ) (y : Tree) (b a before behind : List (ℤ × ℤ)) → TakesSide s t ty f side x k v y Rest b a before behind → n + 1 ≤ height (node x k v y)
  side_high f Rest n by true x k v y b a before behind takes = let h = by x b a takes.1.0 in omega (arith, h)
  side_high f Rest n by false x k v y b a before behind takes = let h = by y b a takes.1.0 in omega (arith, h)

  -- a way is no longer than its tree is high
  pub path_high : (fs : List Frame) (here whole : Tree) (b a : List (ℤ × ℤ)) → LeadsDown s t ty fs here whole b a → length fs + height here ≤ height whole
  path_high [] here whole b a path = let e = ap height path.0 in omega (arith, e)
  path_high (f ∷ fs) here whole b a path =
      let h = side_high f (LeadsDown s t ty fs here) (length fs + height here) (λ child b' a' rest. path_high fs here child b' a' rest) f.goes_left path.left path.key path.value path.right path.b path.a b a path.side in
      let e = ap height path.is in
      omega (arith, h, e)

  side_balanced : (f : Frame) (Rest : Tree → List (ℤ × ℤ) → List (ℤ × ℤ) → Type 0) (P : Type 0) (by : (child : Tree) (b a : List (ℤ × ℤ)) → Rest child b a → IsBalanced child → P)
      (side : Bool) (x : Tree) (k v : ℤ) (y : Tree) (b a before behind : List (ℤ × ℤ)) → TakesSide s t ty f side x k v y Rest b a before behind → IsBalanced (node x k v y) → P
  side_balanced f Rest P by true x k v y b a before behind takes balanced = by x b a takes.1.0 balanced.in_left
  side_balanced f Rest P by false x k v y b a before behind takes balanced = by y b a takes.1.0 balanced.in_right

  -- it leads to a balanced part of a balanced tree
  pub path_balanced : (fs : List Frame) (here whole : Tree) (b a : List (ℤ × ℤ)) → LeadsDown s t ty fs here whole b a → IsBalanced whole → IsBalanced here
  path_balanced [] here whole b a path balanced = subst IsBalanced path.0 balanced
  path_balanced (f ∷ fs) here whole b a path balanced =
      side_balanced f (LeadsDown s t ty fs here) (IsBalanced here) (λ child b' a' rest. path_balanced fs here child b' a' rest) f.goes_left path.left path.key path.value path.right path.b path.a b a path.side
      (subst IsBalanced path.is balanced)

-- the pairs of a whole, where a part with its node takes the place of the part
glue_left : (pb ns ys pa bs as' b a : List (ℤ × ℤ)) (e : ℤ × ℤ) → b ≡ [] → a ≡ [] → bs ≡ b → as' ≡ a ++ e ∷ ys → pb ++ ((ns ++ e ∷ ys) ++ pa) ≡ (pb ++ bs) ++ (ns ++ (as' ++ pa))
glue_left pb ns ys pa bs as' b a e b_is a_is bs_is as_is =
    let q : bs ≡ [] = bs_is ∙ b_is in
    let r : as' ≡ e ∷ ys = as_is ∙ ap (λ (z : List (ℤ × ℤ)). z ++ e ∷ ys) a_is in
    ap (λ (z : List (ℤ × ℤ)). pb ++ z) (append_assoc ns (e ∷ ys) pa) ∙ ap (λ (z : List (ℤ × ℤ)). z ++ (ns ++ ((e ∷ ys) ++ pa))) (sym (append-nil pb))
    ∙ (λ i. (pb ++ sym q i) ++ (ns ++ (sym r i ++ pa)))

regroup : (pb xs ns pa : List (ℤ × ℤ)) (e : ℤ × ℤ) → pb ++ ((xs ++ e ∷ ns) ++ pa) ≡ (pb ++ (xs ++ e ∷ [])) ++ (ns ++ pa)
regroup pb xs ns pa e = simp append_assoc

glue_right : (pb xs ns pa bs as' b a : List (ℤ × ℤ)) (e : ℤ × ℤ) → b ≡ [] → a ≡ [] → bs ≡ xs ++ e ∷ b → as' ≡ a → pb ++ ((xs ++ e ∷ ns) ++ pa) ≡ (pb ++ bs) ++ (ns ++ (as' ++ pa))
glue_right pb xs ns pa bs as' b a e b_is a_is bs_is as_is =
    let q : bs ≡ xs ++ e ∷ [] = bs_is ∙ ap (λ (z : List (ℤ × ℤ)). xs ++ e ∷ z) b_is in
    let r : as' ≡ [] = as_is ∙ a_is in
    regroup pb xs ns pa e ∙ (λ i. (pb ++ sym q i) ++ (ns ++ (sym r i ++ pa)))

-- One frame: it leads from a parent to the part that was.
module _ {D : Type 0} (layouts : Layouts) (ty : ℕ) (s : StoreView D) (u : Table D) (b : Account) (held : HoldsAccount layouts s u b) (f : Frame) (here parent : Tree) (bs as' : List (ℤ × ℤ))
    (last : LastStep s u ty f here parent bs as') (balanced : IsBalanced parent) (low : height parent < 92) where
  abbrev Side : Bool → Type 0
  Side side = TakesSide s u ty f side last.left last.key last.value last.right (LeadsDown s u ty [] here) last.b last.a bs as'

  abbrev pub other_of : Bool → Tree
  other_of true = last.right
  other_of false = last.left

  other_root : (side : Bool) → Side side → RootIs s u ty f.other (other_of side)
  other_root true takes = takes.0
  other_root false takes = takes.0

  node_balanced : IsBalanced (node last.left last.key last.value last.right)
  node_balanced = subst IsBalanced last.is balanced

  node_low : height (node last.left last.key last.value last.right) < 92
  node_low = let e = ap height last.is in omega (arith, e, low)

  other_low : (side : Bool) → height (other_of side) < 2 ^ 31
  other_low true = let h = node_low in omega (arith, h)
  other_low false = let h = node_low in omega (arith, h)

  pub other_in : RootIn D layouts s f.other
  other_in = record { table = u; holds = held_table layouts s u b held; ty = ty; tree = other_of f.goes_left; is = other_root f.goes_left last.side }

  module _ (s1 : StoreView D) (same1 : IsSameStore s s1) (other : Part)
      (reads : (t : Table D) (a : Account) (ty : ℕ) (tree : Tree) → HoldsAccount layouts s t a → RootIs s t ty f.other tree → height tree < 2 ^ 31 → PartIs s1 t ty other tree × HoldsAccount layouts s1 t a)
      (part : Part) (new : Tree) (part_is : PartIs s u ty part new) (new_balanced : IsBalanced new) (close : AreLevel (height new) (height here))
      (o : Opened) (left_is : o.left ≡ (if f.goes_left then part else other)) (key_is : FitsSigned w64 f.key → o.key ≡ f.key) (value_is : FitsSigned w64 f.value → o.value ≡ f.value)
      (right_is : o.right ≡ (if f.goes_left then other else part)) where
    pub read : PartIs s1 u ty other (other_of f.goes_left) × HoldsAccount layouts s1 u b
    read = reads u b ty (other_of f.goes_left) held (other_root f.goes_left last.side) (other_low f.goes_left)

    part1 : PartIs s1 u ty part new
    part1 = part_kept s u s1 u (table_keeps s u s1 same1) ty part new part_is

    abbrev pub left_of : Bool → Tree
    left_of true = new
    left_of false = last.left

    abbrev pub right_of : Bool → Tree
    right_of true = last.right
    right_of false = new

    key_here : o.key ≡ last.key
    key_here = key_is (subst (FitsSigned w64) (sym last.key_is) last.key_fits) ∙ last.key_is

    value_here : o.value ≡ last.value
    value_here = value_is (subst (FitsSigned w64) (sym last.value_is) last.value_fits) ∙ last.value_is

    joinable_at : (side : Bool) → o.left ≡ (if side then part else other) → o.right ≡ (if side then other else part) → PartIs s1 u ty other (other_of side) → Side side
        → IsJoinable s1 u ty o (left_of side) last.key last.value (right_of side)
    joinable_at true l r other_is takes =
        let e = ap height takes.1.0.0 in
        let h = node_low in
        let c1 = close.left in let c2 = close.right in
        let n1 = node_balanced.level.left in let n2 = node_balanced.level.right in
        record {
          is = record {
            key_is = key_here;
            value_is = value_here;
            key_fits = last.key_fits;
            value_fits = last.value_fits;
            left = subst (λ (p : Part). PartIs s1 u ty p new) (sym l) part1;
            right = subst (λ (p : Part). PartIs s1 u ty p last.right) (sym r) other_is;
          };
          left = new_balanced;
          right = node_balanced.in_right;
          near_left = omega (arith, e, c1, c2, n1, n2);
          near_right = omega (arith, e, c1, c2, n1, n2);
          low_left = omega (arith, e, c1, h);
          low_right = omega (arith, h);
        }
    joinable_at false l r other_is takes =
        let e = ap height takes.1.0.0 in
        let h = node_low in
        let c1 = close.left in let c2 = close.right in
        let n1 = node_balanced.level.left in let n2 = node_balanced.level.right in
        record {
          is = record {
            key_is = key_here;
            value_is = value_here;
            key_fits = last.key_fits;
            value_fits = last.value_fits;
            left = subst (λ (p : Part). PartIs s1 u ty p last.left) (sym l) other_is;
            right = subst (λ (p : Part). PartIs s1 u ty p new) (sym r) part1;
          };
          left = node_balanced.in_left;
          right = new_balanced;
          near_left = omega (arith, e, c1, c2, n1, n2);
          near_right = omega (arith, e, c1, c2, n1, n2);
          low_left = omega (arith, h);
          low_right = omega (arith, e, c1, h);
        }

    pub joinable : IsJoinable s1 u ty o (left_of f.goes_left) last.key last.value (right_of f.goes_left)
    joinable = joinable_at f.goes_left left_is right_is read.0 last.side

    pub can_join : IsNodeType s1.types ty → JoinableIn D layouts s1 ty o
    can_join of = record {
      of_nodes = of;
      table = u;
      holds = held_table layouts s1 u b read.1;
      x = left_of f.goes_left;
      key = last.key;
      value = last.value;
      y = right_of f.goes_left;
      is = joinable;
    }

    module _ (s2 : StoreView D) (same2 : IsSameStore s1 s2) (limit : Option ℕ) (kit : Kit) (u2 : Table D) (grows : MakesNodes limit kit 3 7 u u2) (part2 : Part) (fs : List Frame) (whole : Tree) (pb pa before behind entries : List (ℤ × ℤ))
        (path : LeadsDown s u ty fs parent whole pb pa) (before_is : before ≡ pb ++ bs) (behind_is : behind ≡ as' ++ pa) (whole_is : before ++ (pairs new ++ behind) ≡ entries) where
      whole_here : (pb ++ bs) ++ (pairs new ++ (as' ++ pa)) ≡ entries
      whole_here = (λ i. sym before_is i ++ (pairs new ++ sym behind_is i)) ∙ whole_is

      path2 : LeadsDown s2 u2 ty fs parent whole pb pa
      path2 = path_kept s u s2 u2 (keeps_then s u s1 u s2 u2 (table_keeps s u s1 same1) (grows_keep kit 3 7 s1 u s2 u2 same2 grows)) ty fs parent whole pb pa path

      lifted_at : (side : Bool) → Side side → IsJoined s2 u2 ty part2 (left_of side) (last.key, last.value) (right_of side) → Rises s2 u2 ty whole fs part2 entries
      lifted_at true takes joined = record {
        old = parent;
        new = joined.tree;
        before = pb;
        behind = pa;
        path = path2;
        is = joined.is;
        balanced = joined.joins.balanced;
        close = subst (λ (p : Tree). AreLevel (height joined.tree) (height p)) (sym last.is)
            (near_left last.left new last.right joined.tree last.key last.value node_balanced.level (subst (λ (p : Tree). AreLevel (height new) (height p)) (sym takes.1.0.0) close) joined.joins);
        whole_is = ap (λ (z : List (ℤ × ℤ)). pb ++ (z ++ pa)) joined.joins.entries
            ∙ glue_left pb (pairs new) (pairs last.right) pa bs as' last.b last.a (last.key, last.value) takes.1.0.1.0 takes.1.0.1.1 takes.1.1.0 takes.1.1.1 ∙ whole_here;
      }
      lifted_at false takes joined = record {
        old = parent;
        new = joined.tree;
        before = pb;
        behind = pa;
        path = path2;
        is = joined.is;
        balanced = joined.joins.balanced;
        close = subst (λ (p : Tree). AreLevel (height joined.tree) (height p)) (sym last.is)
            (near_right last.right last.left new joined.tree last.key last.value node_balanced.level (subst (λ (p : Tree). AreLevel (height new) (height p)) (sym takes.1.0.0) close) joined.joins);
        whole_is = ap (λ (z : List (ℤ × ℤ)). pb ++ (z ++ pa)) joined.joins.entries
            ∙ glue_right pb (pairs last.left) (pairs new) pa bs as' last.b last.a (last.key, last.value) takes.1.0.1.0 takes.1.0.1.1 takes.1.1.0 takes.1.1.1 ∙ whole_here;
      }

      pub lifted : IsJoined s2 u2 ty part2 (left_of f.goes_left) (last.key, last.value) (right_of f.goes_left) → Rises s2 u2 ty whole fs part2 entries
      lifted joined = lifted_at f.goes_left last.side joined
