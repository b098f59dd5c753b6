-- A node whose right child is too high is made lower.
use Rattle.std.proofs.Common.{◌≡◌, ℕ, ◌+◌, ◌≤◌, ◌<◌, ◌^◌, ℤ, pos, Bool, true, false, nat_le, Some, Result, Ok, Err, sym, ◌∙◌, subst, arith, to_z, of_z, w64, leb-true, leb-false}
use Rattle.gc_types.specs.declared.kind.Layouts.{Layouts}
use Rattle.gc_model.specs.Allocation.{Limits}
use Rattle.gc_model.specs.Table.{Table}
use Rattle.gc_model.specs.Stores.{StoreView}
use Rattle.gc_model.specs.Accounts.{Account, HoldsAccount}
use Rattle.gc_values.specs.declared.root.GcRootIndex.{GcRootIndex}
use Rattle.gc_store.specs.Stores.{IsSameStore}
use Rattle.gc_lists.specs.declared.fault.ListFault.{ListFault}
use Rattle.gc_lists.specs.declared.kit.Kit.{Kit}
use Rattle.gc_lists.specs.Frames.{Leaves}
use Rattle.gc_lists.specs.Kits.{IsNodeType}
use Rattle.gc_lists.proofs.Limiting.{counts_same}
use Rattle.gc_maps.specs.declared.part.Part.{Part}
use Rattle.gc_maps.specs.declared.part.Opened.{Opened}
use Rattle.gc_maps.specs.Trees.{Tree, leaf, node, height}
use Rattle.gc_maps.specs.Parts.{RootIs, PartIs, OpenedIs, node_of, LowNodeIn}
use Rattle.gc_maps.specs.Makes.{CanMakeOver}
use Rattle.gc_maps.specs.Lowering.{Turns, CanTurn, IsHighRight, IsJoined}
use Rattle.gc_maps.specs.Ends.{Pushes, MakesNodes, EndsReading, EndsMakingNodes}
use Rattle.gc_maps.proofs.Naming.{Keeps, held_table, part_kept}
use Rattle.gc_maps.proofs.Growing.{pushes_keep, pushes_grow}
use Rattle.gc_maps.proofs.Steps.{ends_after, ends_within, ends_map, nodes_later, passed}
use Rattle.gc_maps.proofs.Turning.{reading_refused}
use Rattle.gc_maps.proofs.Shapes.{right_outer, right_inner}

module _ {D : Type 0} (layouts : Layouts) (kit : Kit) (s0 s1 s2 : StoreView D) (same1 : IsSameStore s0 s1) (root : GcRootIndex) (opened : Opened)
    (t : Table D) (a : Account) (holds : HoldsAccount layouts s0 t a) (l : Tree) (k v : ℤ) where
  abbrev pub High : Tree → Type 0
  High x = IsHighRight s0 t kit.node root opened l k v x

  pub high_in : (x : Tree) → High x → LowNodeIn D layouts s0 root
  high_in leaf high = let e = high.high in absurd (omega (arith, e))
  high_in (node b j u x) high =
      let p = high.low in
      record { here = record { table = t; holds = held_table layouts s0 t a holds; ty = kit.node; left = b; key = j; value = u; right = x; is = high.root_is }; low = omega (arith, p) }

  abbrev pub Opens : Result Opened ListFault → Type 0
  Opens answer = (t : Table D) (a : Account) (ty : ℕ) (x : Tree) (k v : ℤ) (y : Tree) → HoldsAccount layouts s0 t a → RootIs s0 t ty (Some root) (node_of x k v y)
      → height (node_of x k v y) < 2 ^ 31 → EndsReading layouts 2 t (λ s u o. OpenedIs s u ty o x k v y) answer s1

  pub high_refused : (limits limits' : Limits) (f : ListFault) → Opens (Err f) → (Done : StoreView D → Table D → Part → Type 0) → (x : Tree) → High x → EndsMakingNodes {A = Part} layouts s0.alloc_counter kit 3 7 t limits limits' Done (Err f) s1
  high_refused limits limits' f opens Done leaf high = let e = high.high in absurd (omega (arith, e))
  high_refused limits limits' f opens Done (node b j u x) high =
      let p = high.low in
      ends_within {A = Part} layouts s0.alloc_counter kit 0 2 3 7 t limits limits' s1 (omega arith) (omega arith) Done (Err f)
      (reading_refused {A = Opened} {B = Part} layouts s0.alloc_counter kit 0 2 t limits limits' (λ s w o. OpenedIs s w kit.node o b j u x) Done f s1 (opens t a kit.node b j u x holds high.root_is (omega (arith, p))))

  module _ (first : Opened) (opens : Opens (Ok first)) (x : Tree) (j u : ℤ) (b : Tree) (high : High (node b j u x)) where
    pub small : height (node_of b j u x) < 2 ^ 31
    small = let p = high.low in omega (arith, p)

    abbrev pub at : Leaves layouts (λ w. Pushes 2 t w × OpenedIs s1 w kit.node first b j u x) s1
    at = opens t a kit.node b j u x holds high.root_is small

    pub keeps : Keeps s0 t s1 at.after
    keeps = pushes_keep 2 s0 t s1 at.after same1 at.changed.0

    later : IsNodeType s0.types kit.node → IsNodeType s1.types kit.node
    later of = nodes_later layouts s0 t a s1 at.after at.account kit.node holds at.holds keeps of

    abbrev pub low : Opened
    low = record { left = opened.left; key = to_z w64 (of_z w64 opened.key); value = to_z w64 (of_z w64 opened.value); right = first.left }

    pub low_is : OpenedIs s1 at.after kit.node low l k v b
    low_is = record {
      key_is = passed opened.key k high.is.key_fits high.is.key_is;
      value_is = passed opened.value v high.is.value_fits high.is.value_is;
      key_fits = high.is.key_fits;
      value_fits = high.is.value_fits;
      left = part_kept s0 t s1 at.after keeps kit.node opened.left l high.is.left;
      right = at.changed.1.left;
    }

    pub can_over : IsNodeType s0.types kit.node → CanMakeOver D layouts s1 kit.node first.right low
    can_over of =
        let p = high.low in let q = high.high in
        record {
          of_nodes = later of;
          table = at.after;
          holds = held_table layouts s1 at.after at.account at.holds;
          in_part = record { tree = x; is = at.changed.1.right; low = omega (arith, p) };
          in_low = record { left = l; key = k; value = v; right = b; is = low_is; low_left = omega (arith, p, q); low_right = omega (arith, p) };
        }

  module _ (first : Opened) (limits limits' : Limits) (result : Result Part ListFault) where
    joined : (Made : StoreView D → Table D → Part → Type 0) (x : Tree) (n m : ℕ) (u : Table D) → MakesNodes limits'.limit kit 0 2 t u → n ≤ 3 → 2 + m ≤ 7
        → ((s : StoreView D) (w : Table D) (part : Part) → Made s w part → IsJoined s w kit.node part l (k, v) x)
        → EndsMakingNodes layouts s1.alloc_counter kit n m u limits limits' Made result s2 → EndsMakingNodes layouts s0.alloc_counter kit 3 7 t limits limits' (λ s w part. IsJoined s w kit.node part l (k, v) x) result s2
    joined Made x n m u grows few low gives ends =
        ends_within layouts s0.alloc_counter kit (0 + n) (2 + m) 3 7 t limits limits' s2 (omega (arith, few)) low (λ s w part. IsJoined s w kit.node part l (k, v) x) result
        (ends_after layouts s0.alloc_counter s1.alloc_counter same1.counter kit 0 2 n m t u limits limits limits' (counts_same limits) s2 grows (λ s w part. IsJoined s w kit.node part l (k, v) x) result
        (ends_map layouts s1.alloc_counter kit n m u limits limits' s2 Made (λ s w part. IsJoined s w kit.node part l (k, v) x) gives result ends))

  -- one turn suffices, or two are wanted
  module _ (first : Opened) (opens : Opens (Ok first)) (test : Bool) (tested : (m n : ℕ) → first.left.height ≡ pos m → first.right.height ≡ pos n → m < 1000 → n < 1000 → test ≡ nat_le m n) where
    heights : (x : Tree) (j u : ℤ) (b : Tree) (high : High (node b j u x)) → test ≡ nat_le (height b) (height x)
    heights x j u b high =
        let is = (at first opens x j u b high).changed.1 in
        let p = high.low in
        tested (height b) (height x) is.left.height_is is.right.height_is (omega (arith, p)) (omega (arith, p))

    pub over_in : IsNodeType s0.types kit.node → (x : Tree) → High x → CanMakeOver D layouts s1 kit.node first.right (record { left = opened.left; key = to_z w64 (of_z w64 opened.key); value = to_z w64 (of_z w64 opened.value); right = first.left })
    over_in of leaf high = let e = high.high in absurd (omega (arith, e))
    over_in of (node b j u x) high = can_over first opens x j u b high of

    pub over_joined : test ≡ true → (limits limits' : Limits) (result : Result Part ListFault)
        → ((t : Table D) (a : Account) (x y z : Tree) (k v : ℤ) → HoldsAccount layouts s1 t a → PartIs s1 t kit.node first.right x
        → OpenedIs s1 t kit.node (record { left = opened.left; key = to_z w64 (of_z w64 opened.key); value = to_z w64 (of_z w64 opened.value); right = first.left }) y k v z
        → EndsMakingNodes layouts s1.alloc_counter kit 2 2 t limits limits' (λ s u part. PartIs s u kit.node part (node_of (node_of y k v z) (to_z w64 (of_z w64 first.key)) (to_z w64 (of_z w64 first.value)) x)) result s2)
        → (x : Tree) → High x → EndsMakingNodes layouts s0.alloc_counter kit 3 7 t limits limits' (λ s u part. IsJoined s u kit.node part l (k, v) x) result s2
    over_joined is limits limits' result makes leaf high = let e = high.high in absurd (omega (arith, e))
    over_joined is limits limits' result makes (node b j u x) high =
        let here = at first opens x j u b high in
        let outer = leb-true (height b) (height x) (sym (heights x j u b high) ∙ is) in
        let key = here.changed.1 in
        let Made : ℤ → ℤ → StoreView D → Table D → Part → Type 0 = λ m n s w part. PartIs s w kit.node part (node_of (node_of l k v b) m n x) in
        joined first limits limits' result (Made j u) (node b j u x) 2 2 here.after (pushes_grow kit 2 t here.after here.changed.0) (omega arith) (omega arith)
        (λ s w part made. record { tree = node_of (node_of l k v b) j u x; is = made; joins = right_outer l k v b j u x high.left high.right high.high outer })
        (subst (λ (m : ℤ). EndsMakingNodes layouts s1.alloc_counter kit 2 2 here.after limits limits' (Made m u) result s2) (passed first.key j key.key_fits key.key_is)
        (subst (λ (n : ℤ). EndsMakingNodes layouts s1.alloc_counter kit 2 2 here.after limits limits' (Made (to_z w64 (of_z w64 first.key)) n) result s2) (passed first.value u key.value_fits key.value_is)
        (makes here.after here.account x l b k v here.holds key.right (low_is first opens x j u b high))))

    turns_here : test ≡ false → (x : Tree) (j u : ℤ) (b : Tree) (i w : ℤ) (c : Tree) (high : High (node (node b i w c) j u x)) → Turns s1 (at first opens x j u (node b i w c) high).after kit.node (record { left = opened.left; key = to_z w64 (of_z w64 opened.key); value = to_z w64 (of_z w64 opened.value); right = first.left }) first l k v b i w c j u x
    turns_here is x j u b i w c high =
        let low = low_is first opens x j u (node b i w c) high in
        let p = high.low in let q = high.high in
        let here = (at first opens x j u (node b i w c) high).changed.1 in
        record {
          first = low;
          low_x = omega (arith, p, q);
          low_b = omega (arith, p);
          low_c = omega (arith, p);
          key_is = here.key_is;
          value_is = here.value_is;
          key_fits = here.key_fits;
          value_fits = here.value_fits;
          right = here.right;
          low_y = omega (arith, p);
        }

    inner_high : test ≡ false → (x : Tree) (j u : ℤ) (b : Tree) (high : High (node b j u x)) → height x < height b
    inner_high is x j u b high = let e = leb-false (height b) (height x) (sym (heights x j u b high) ∙ is) in omega (arith, e)

    pub turn_in : test ≡ false → IsNodeType s0.types kit.node → (x : Tree) → High x → CanTurn D layouts s1 kit.node (record { left = opened.left; key = to_z w64 (of_z w64 opened.key); value = to_z w64 (of_z w64 opened.value); right = first.left }) first
    turn_in is of leaf high = let e = high.high in absurd (omega (arith, e))
    turn_in is of (node leaf j u x) high = let e = inner_high is x j u leaf high in absurd (omega (arith, e))
    turn_in is of (node (node b i w c) j u x) high =
        let here = at first opens x j u (node b i w c) high in
        record {
          of_nodes = later first opens x j u (node b i w c) high of;
          table = here.after;
          holds = held_table layouts s1 here.after here.account here.holds;
          x = l;
          b = b;
          c = c;
          y = x;
          j = k;
          u = v;
          i = i;
          w = w;
          k = j;
          v = u;
          turns = turns_here is x j u b i w c high;
        }

    pub turn_joined : test ≡ false → (limits limits' : Limits) (result : Result Part ListFault)
        → ((t : Table D) (a : Account) (x b c y : Tree) (j u i w k v : ℤ) → HoldsAccount layouts s1 t a → Turns s1 t kit.node (record { left = opened.left; key = to_z w64 (of_z w64 opened.key); value = to_z w64 (of_z w64 opened.value); right = first.left }) first x j u b i w c k v y
        → EndsMakingNodes layouts s1.alloc_counter kit 3 5 t limits limits' (λ s u' part. PartIs s u' kit.node part (node_of (node_of x j u b) i w (node_of c k v y))) result s2)
        → (x : Tree) → High x → EndsMakingNodes layouts s0.alloc_counter kit 3 7 t limits limits' (λ s u part. IsJoined s u kit.node part l (k, v) x) result s2
    turn_joined is limits limits' result makes leaf high = let e = high.high in absurd (omega (arith, e))
    turn_joined is limits limits' result makes (node leaf j u x) high = let e = inner_high is x j u leaf high in absurd (omega (arith, e))
    turn_joined is limits limits' result makes (node (node b i w c) j u x) high =
        let here = at first opens x j u (node b i w c) high in
        joined first limits limits' result (λ s w' part. PartIs s w' kit.node part (node_of (node_of l k v b) i w (node_of c j u x))) (node (node b i w c) j u x) 3 5 here.after
        (pushes_grow kit 2 t here.after here.changed.0) (omega arith) (omega arith)
        (λ s w' part made. record { tree = node_of (node_of l k v b) i w (node_of c j u x); is = made; joins = right_inner l k v b i w c j u x high.left high.right high.high (inner_high is x j u (node b i w c) high) })
        (makes here.after here.account l b c x k v i w j u here.holds (turns_here is x j u b i w c high))
