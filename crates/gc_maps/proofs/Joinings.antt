-- Two parts are joined, with a pair between.
use Rattle.std.proofs.Common.{◌≡◌, ℕ, ◌+◌, ◌<◌, ℤ, pos, Bool, true, false, nat_lt, Option, Some, Result, sym, ◌∙◌, subst, arith, ltb-true, ltb-false}
use Rattle.gc_types.specs.declared.kind.Layouts.{Layouts}
use Rattle.gc_model.specs.Allocation.{Limits}
use Rattle.gc_model.specs.Table.{Table}
use Rattle.gc_model.specs.Stores.{StoreView}
use Rattle.gc_model.specs.Accounts.{Account, HoldsAccount}
use Rattle.gc_values.specs.declared.root.GcRootIndex.{GcRootIndex}
use Rattle.gc_lists.specs.declared.fault.ListFault.{ListFault}
use Rattle.gc_lists.specs.declared.kit.Kit.{Kit}
use Rattle.gc_maps.specs.declared.part.Part.{Part}
use Rattle.gc_maps.specs.declared.part.Opened.{Opened}
use Rattle.gc_maps.specs.Trees.{Tree, height}
use Rattle.gc_maps.specs.Parts.{RootIs, PartIs, node_of}
use Rattle.gc_maps.specs.Makes.{IsLow}
use Rattle.gc_maps.specs.Lowering.{IsHighLeft, IsHighRight, IsJoined, IsJoinable}
use Rattle.gc_maps.specs.Ends.{EndsMakingNodes}
use Rattle.gc_maps.proofs.Steps.{ends_within, ends_map}
use Rattle.gc_maps.proofs.Shapes.{level}

abbrev pub Tested : Part → Part → Bool → Type 0
Tested first second test = (m n : ℕ) → first.height ≡ pos m → second.height ≡ pos n → m < 1000 → n < 1000 → test ≡ nat_lt (n + 1) m

module _ {D : Type 0} (s : StoreView D) (t : Table D) (ty : ℕ) (opened : Opened) (x : Tree) (k v : ℤ) (y : Tree) (is : IsJoinable s t ty opened x k v y) where
  pub low_left : IsLow opened.left.height
  low_left = let p = is.low_left in record { number = height x; is = is.is.left.height_is; low = omega (arith, p) }

  pub low_right : IsLow opened.right.height
  low_right = let p = is.low_right in record { number = height y; is = is.is.right.height_is; low = omega (arith, p) }

  left_test : (test : Bool) → Tested opened.left opened.right test → test ≡ nat_lt (height y + 1) (height x)
  left_test test tested = let p = is.low_left in let q = is.low_right in tested (height x) (height y) is.is.left.height_is is.is.right.height_is (omega (arith, p)) (omega (arith, q))

  right_test : (test : Bool) → Tested opened.right opened.left test → test ≡ nat_lt (height x + 1) (height y)
  right_test test tested = let p = is.low_left in let q = is.low_right in tested (height y) (height x) is.is.right.height_is is.is.left.height_is (omega (arith, q)) (omega (arith, p))

  pub is_left : (test : Bool) → Tested opened.left opened.right test → test ≡ true → (root : GcRootIndex) → opened.left.root ≡ Some root → IsHighLeft s t ty root opened x k v y
  is_left test tested on root there =
      let e = ltb-true (height y + 1) (height x) (sym (left_test test tested) ∙ on) in
      let p = is.near_left in
      record {
        is = is.is;
        root_is = subst (λ (r : Option GcRootIndex). RootIs s t ty r x) there is.is.left.root;
        left = is.left;
        right = is.right;
        high = omega (arith, e, p);
        low = is.low_left;
      }

  pub is_right : (test : Bool) → Tested opened.right opened.left test → test ≡ true → (root : GcRootIndex) → opened.right.root ≡ Some root → IsHighRight s t ty root opened x k v y
  is_right test tested on root there =
      let e = ltb-true (height x + 1) (height y) (sym (right_test test tested) ∙ on) in
      let p = is.near_right in
      record {
        is = is.is;
        root_is = subst (λ (r : Option GcRootIndex). RootIs s t ty r y) there is.is.right.root;
        left = is.left;
        right = is.right;
        high = omega (arith, e, p);
        low = is.low_right;
      }

  pub is_level : (layouts : Layouts) (kit : Kit) (a : Account) (limits limits' : Limits) (new : StoreView D) (result : Result Part ListFault) (one two : Bool) → ty ≡ kit.node → Tested opened.left opened.right one → Tested opened.right opened.left two → one ≡ false → two ≡ false
      → HoldsAccount layouts s t a → ((made : EndsMakingNodes layouts s.alloc_counter kit 1 1 t limits limits' (λ s' u part. PartIs s' u ty part (node_of x k v y)) result new)
      → EndsMakingNodes layouts s.alloc_counter kit 3 7 t limits limits' (λ s' u part. IsJoined s' u ty part x (k, v) y) result new)
  is_level layouts kit a limits limits' new result one two same tested_one tested_two off_one off_two holds made =
      let p = ltb-false (height y + 1) (height x) (sym (left_test one tested_one) ∙ off_one) in
      let q = ltb-false (height x + 1) (height y) (sym (right_test two tested_two) ∙ off_two) in
      ends_within layouts s.alloc_counter kit 1 1 3 7 t limits limits' new (omega arith) (omega arith) (λ s' u part. IsJoined s' u ty part x (k, v) y) result
      (ends_map layouts s.alloc_counter kit 1 1 t limits limits' new (λ s' u part. PartIs s' u ty part (node_of x k v y)) (λ s' u part. IsJoined s' u ty part x (k, v) y)
      (λ s' u part is'. record { tree = node_of x k v y; is = is'; joins = level x k v y is.left is.right (record { left = omega (arith, p); right = omega (arith, q) }) }) result made)
