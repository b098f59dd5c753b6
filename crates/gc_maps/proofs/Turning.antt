-- Two nodes that were opened become three.
use Rattle.std.proofs.Common.{◌≡◌, ℕ, ◌+◌, ◌<◌, ◌^◌, ℤ, Option, Some, Result, Ok, Err, subst, arith, to_z, of_z, w64}
use Rattle.gc_types.specs.declared.kind.Layouts.{Layouts}
use Rattle.gc_model.specs.Allocation.{Limits}
use Rattle.gc_model.specs.Table.{Table}
use Rattle.gc_model.specs.Stores.{StoreView}
use Rattle.gc_model.specs.Accounts.{Account, HoldsAccount}
use Rattle.gc_values.specs.declared.root.GcRootIndex.{GcRootIndex}
use Rattle.gc_store.specs.Stores.{IsSameStore}
use Rattle.gc_lists.specs.declared.fault.ListFault.{ListFault}
use Rattle.gc_lists.specs.declared.fault.ListFault.TheVariants as fault
use Rattle.gc_lists.specs.declared.kit.Kit.{Kit}
use Rattle.gc_lists.specs.Frames.{Leaves}
use Rattle.gc_lists.specs.Kits.{IsNodeType}
use Rattle.gc_lists.proofs.Limiting.{counts_same}
use Rattle.gc_maps.specs.declared.part.Part.{Part}
use Rattle.gc_maps.specs.declared.part.Opened.{Opened}
use Rattle.gc_maps.specs.Trees.{Tree, node, height}
use Rattle.gc_maps.specs.Parts.{RootIs, PartIs, OpenedIs, node_of, LowNodeIn}
use Rattle.gc_maps.specs.Makes.{CanMakeTwo}
use Rattle.gc_maps.specs.Lowering.{Turns}
use Rattle.gc_maps.specs.Ends.{Pushes, EndsReading, EndsMakingNodes}
use Rattle.gc_maps.proofs.Naming.{Keeps, held_table, part_kept}
use Rattle.gc_maps.proofs.Growing.{pushes_keep, pushes_grow}
use Rattle.gc_maps.proofs.Steps.{ends_after, ends_within, nodes_later, passed}

-- a refusal of steps that only read, where nodes are made
pub reading_refused : {D A B : Type 0} (layouts : Layouts) (counter : Option ℕ) (kit : Kit) (n m : ℕ) (t : Table D) (limits limits' : Limits) (DoneA : StoreView D → Table D → A → Type 0) (DoneB : StoreView D → Table D → B → Type 0)
    (f : ListFault) (new : StoreView D) → EndsReading {A = A} layouts m t DoneA (Err f) new → EndsMakingNodes {A = B} layouts counter kit 0 m t limits limits' DoneB (Err f) new
reading_refused layouts counter kit n m t limits limits' DoneA DoneB fault.WrongStore new ends = ends
reading_refused layouts counter kit n m t limits limits' DoneA DoneB fault.RootsFull new ends = record { after = ends.after; account = ends.account; holds = ends.holds; changed = (pushes_grow kit m t ends.after ends.changed.0, ends.changed.1) }
reading_refused layouts counter kit n m t limits limits' DoneA DoneB (fault.HeapOutOfMemory f) new ends = absurd ends
reading_refused layouts counter kit n m t limits limits' DoneA DoneB fault.Memory new ends = record { after = ends.after; account = ends.account; holds = ends.holds; changed = pushes_grow kit m t ends.after ends.changed }

module _ {D : Type 0} (layouts : Layouts) (kit : Kit) (s0 s1 s2 : StoreView D) (same1 : IsSameStore s0 s1) (high opened : Opened) (middle : GcRootIndex) (is_middle : high.right.root ≡ Some middle)
    (t : Table D) (a : Account) (holds : HoldsAccount layouts s0 t a) (x : Tree) (j u : ℤ) (b : Tree) (i w : ℤ) (c : Tree) (k v : ℤ) (y : Tree) (turns : Turns s0 t kit.node high opened x j u b i w c k v y) where
  pub middle_root : RootIs s0 t kit.node (Some middle) (node b i w c)
  middle_root = subst (λ (r : Option GcRootIndex). RootIs s0 t kit.node r (node b i w c)) is_middle turns.first.right.root

  pub middle_in : LowNodeIn D layouts s0 middle
  middle_in =
      let p = turns.low_b in let q = turns.low_c in
      record {
        here = record { table = t; holds = held_table layouts s0 t a holds; ty = kit.node; left = b; key = i; value = w; right = c; is = middle_root };
        low = omega (arith, p, q);
      }

  pub middle_low : height (node_of b i w c) < 2 ^ 31
  middle_low = let p = turns.low_b in let q = turns.low_c in omega (arith, p, q)

  abbrev pub Opens : Result Opened ListFault → Type 0
  Opens answer = (t : Table D) (a : Account) (ty : ℕ) (x : Tree) (k v : ℤ) (y : Tree) → HoldsAccount layouts s0 t a → RootIs s0 t ty (Some middle) (node_of x k v y)
      → height (node_of x k v y) < 2 ^ 31 → EndsReading layouts 2 t (λ s u o. OpenedIs s u ty o x k v y) answer s1

  pub turn_refused : (limits limits' : Limits) (f : ListFault) → Opens (Err f) → (Done : StoreView D → Table D → Part → Type 0) → EndsMakingNodes {A = Part} layouts s0.alloc_counter kit 3 5 t limits limits' Done (Err f) s1
  turn_refused limits limits' f opens Done =
      ends_within {A = Part} layouts s0.alloc_counter kit 0 2 3 5 t limits limits' s1 (omega arith) (omega arith) Done (Err f)
      (reading_refused {A = Opened} {B = Part} layouts s0.alloc_counter kit 0 2 t limits limits' (λ s u o. OpenedIs s u kit.node o b i w c) Done f s1 (opens t a kit.node b i w c holds middle_root middle_low))

  module _ (inner : Opened) (opens : Opens (Ok inner)) where
    abbrev pub at : Leaves layouts (λ u. Pushes 2 t u × OpenedIs s1 u kit.node inner b i w c) s1
    at = opens t a kit.node b i w c holds middle_root middle_low

    pub keeps : Keeps s0 t s1 at.after
    keeps = pushes_keep 2 s0 t s1 at.after same1 at.changed.0

    abbrev pub low_left : Opened
    low_left = record { left = high.left; key = to_z w64 (of_z w64 high.key); value = to_z w64 (of_z w64 high.value); right = inner.left }

    abbrev pub low_right : Opened
    low_right = record { left = inner.right; key = to_z w64 (of_z w64 opened.key); value = to_z w64 (of_z w64 opened.value); right = opened.right }

    pub left_is : OpenedIs s1 at.after kit.node low_left x j u b
    left_is = record {
      key_is = passed high.key j turns.first.key_fits turns.first.key_is;
      value_is = passed high.value u turns.first.value_fits turns.first.value_is;
      key_fits = turns.first.key_fits;
      value_fits = turns.first.value_fits;
      left = part_kept s0 t s1 at.after keeps kit.node high.left x turns.first.left;
      right = at.changed.1.left;
    }

    pub right_is : OpenedIs s1 at.after kit.node low_right c k v y
    right_is = record {
      key_is = passed opened.key k turns.key_fits turns.key_is;
      value_is = passed opened.value v turns.value_fits turns.value_is;
      key_fits = turns.key_fits;
      value_fits = turns.value_fits;
      left = at.changed.1.right;
      right = part_kept s0 t s1 at.after keeps kit.node opened.right y turns.right;
    }

    pub can_turn : IsNodeType s0.types kit.node → CanMakeTwo D layouts s1 kit.node low_left low_right
    can_turn of =
        let p = turns.low_x in let q = turns.low_b in let r = turns.low_c in let l = turns.low_y in
        record {
          of_nodes = nodes_later layouts s0 t a s1 at.after at.account kit.node holds at.holds keeps of;
          table = at.after;
          holds = held_table layouts s1 at.after at.account at.holds;
          in_left = record { left = x; key = j; value = u; right = b; is = left_is; low_left = omega (arith, p); low_right = omega (arith, q) };
          in_right = record { left = c; key = k; value = v; right = y; is = right_is; low_left = omega (arith, r); low_right = omega (arith, l) };
        }

    pub turned : (limits limits' : Limits) (result : Result Part ListFault)
        → ((t : Table D) (a : Account) (x y z w : Tree) (j u k v : ℤ) → HoldsAccount layouts s1 t a → OpenedIs s1 t kit.node low_left x j u y → OpenedIs s1 t kit.node low_right z k v w
        → EndsMakingNodes layouts s1.alloc_counter kit 3 3 t limits limits' (λ s u' part. PartIs s u' kit.node part (node_of (node_of x j u y) (to_z w64 (of_z w64 inner.key)) (to_z w64 (of_z w64 inner.value)) (node_of z k v w))) result s2)
        → EndsMakingNodes layouts s0.alloc_counter kit 3 5 t limits limits' (λ s u' part. PartIs s u' kit.node part (node_of (node_of x j u b) i w (node_of c k v y))) result s2
    turned limits limits' result makes =
        let the : ℤ → ℤ → StoreView D → Table D → Part → Type 0 = λ m n s u' part. PartIs s u' kit.node part (node_of (node_of x j u b) m n (node_of c k v y)) in
        let is = at.changed.1 in
        ends_within layouts s0.alloc_counter kit (0 + 3) (2 + 3) 3 5 t limits limits' s2 (omega arith) (omega arith) (the i w) result
        (ends_after layouts s0.alloc_counter s1.alloc_counter same1.counter kit 0 2 3 3 t at.after limits limits limits' (counts_same limits) s2 (pushes_grow kit 2 t at.after at.changed.0) (the i w) result
        (subst (λ (m : ℤ). EndsMakingNodes layouts s1.alloc_counter kit 3 3 at.after limits limits' (the m w) result s2) (passed inner.key i is.key_fits is.key_is)
        (subst (λ (n : ℤ). EndsMakingNodes layouts s1.alloc_counter kit 3 3 at.after limits limits' (the (to_z w64 (of_z w64 inner.key)) n) result s2) (passed inner.value w is.value_fits is.value_is)
        (makes at.after at.account x b c y j u k v at.holds left_is right_is))))
