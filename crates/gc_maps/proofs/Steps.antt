-- Steps of a call that makes nodes, one behind the other.
use Rattle.std.proofs.Common.{◌≡◌, ℕ, ◌+◌, ◌≤◌, ◌<◌, ℤ, Option, Result, Ok, Err, sym, ap, ◌∙◌, refl, subst, arith, to_z, of_z, w64, SFits, List}
use Rattle.std.proofs.lemmas.Int.{to_z-of_z}
use Rattle.gc_types.specs.declared.kind.Layouts.{Layouts}
use Rattle.gc_types.specs.Declarations.{Declaration}
use Rattle.gc_model.specs.Allocation.{Limits}
use Rattle.gc_model.specs.Table.{Table}
use Rattle.gc_model.specs.Stores.{StoreView}
use Rattle.gc_model.specs.Accounts.{Account, HoldsAccount}
use Rattle.gc_store.specs.Places.{LacksPlace}
use Rattle.gc_store.specs.Stores.{IsSameStore}
use Rattle.gc_lists.specs.declared.fault.ListFault.{ListFault}
use Rattle.gc_lists.specs.declared.fault.ListFault.TheVariants as fault
use Rattle.gc_lists.specs.declared.kit.Kit.{Kit}
use Rattle.gc_lists.specs.Frames.{Leaves}
use Rattle.gc_lists.specs.Kits.{IsNodeType}
use Rattle.gc_lists.specs.Refusals.{CountsOn}
use Rattle.gc_lists.proofs.Limiting.{counts_same, counts_twice}
use Rattle.gc_maps.specs.declared.part.Part.{Part}
use Rattle.gc_maps.specs.declared.part.Opened.{Opened}
use Rattle.gc_maps.specs.Trees.{Tree, height}
use Rattle.gc_maps.specs.Parts.{PartIs, OpenedIs, node_of}
use Rattle.gc_maps.specs.Makes.{CanMakeNode}
use Rattle.gc_maps.specs.Ends.{MakesNodes, EndsMakingNodes}
use Rattle.gc_maps.proofs.Naming.{Keeps, held_table, part_kept}
use Rattle.gc_maps.proofs.Growing.{grows_none, grows_then, grows_under, grows_within, grows_keep}

module _ {D A B : Type 0} (layouts : Layouts) (counter counter' : Option ℕ) (same : counter' ≡ counter) (kit : Kit) (n m n' m' : ℕ) (t u : Table D) (limits between limits' : Limits) (counts : CountsOn limits between)
    (new : StoreView D) (grows : MakesNodes limits'.limit kit n m t u) where
  pub refused_after : (DoneA : StoreView D → Table D → A → Type 0) (DoneB : StoreView D → Table D → B → Type 0) (f : ListFault)
      → EndsMakingNodes {A = A} layouts counter' kit n' m' u between limits' DoneA (Err f) new → EndsMakingNodes {A = B} layouts counter kit (n + n') (m + m') t limits limits' DoneB (Err f) new
  refused_after DoneA DoneB fault.WrongStore ends = ends
  refused_after DoneA DoneB fault.RootsFull ends = record { after = ends.after; account = ends.account; holds = ends.holds; changed = (grows_then kit n n' m m' t u ends.after grows ends.changed.0, ends.changed.1) }
  refused_after DoneA DoneB (fault.HeapOutOfMemory f) ends = record {
    before = ends.before;
    counts = counts_twice limits between ends.before.limits counts ends.counts;
    grows = grows_then kit n n' m m' t u ends.before.table grows ends.grows;
    asked = ends.asked;
    held = ends.held;
    object = ends.object;
    of_kit = ends.of_kit;
    lacks = subst (λ (c : Option ℕ). LacksPlace layouts c ends.object ends.before limits' f.bytes_needed new) same ends.lacks;
  }
  refused_after DoneA DoneB fault.Memory ends = record { after = ends.after; account = ends.account; holds = ends.holds; changed = grows_then kit n n' m m' t u ends.after grows ends.changed }

module _ {D A : Type 0} (layouts : Layouts) (counter counter' : Option ℕ) (same : counter' ≡ counter) (kit : Kit) (n m n' m' : ℕ) (t u : Table D) (limits between limits' : Limits) (counts : CountsOn limits between)
    (new : StoreView D) (grows : MakesNodes limits'.limit kit n m t u) (Done : StoreView D → Table D → A → Type 0) where
  pub ends_after : (result : Result A ListFault) → EndsMakingNodes layouts counter' kit n' m' u between limits' Done result new → EndsMakingNodes layouts counter kit (n + n') (m + m') t limits limits' Done result new
  ends_after (Ok x) ends = record { after = ends.after; account = ends.account; holds = ends.holds; changed = (grows_then kit n n' m m' t u ends.after grows ends.changed.0, ends.changed.1) }
  ends_after (Err f) ends = refused_after {A = A} {B = A} layouts counter counter' same kit n m n' m' t u limits between limits' counts new grows Done Done f ends

module _ {D A : Type 0} (layouts : Layouts) (counter : Option ℕ) (kit : Kit) (n m n' m' : ℕ) (t : Table D) (limits limits' : Limits) (new : StoreView D) (few : n ≤ n') (low : m ≤ m') (Done : StoreView D → Table D → A → Type 0) where
  pub ends_within : (result : Result A ListFault) → EndsMakingNodes layouts counter kit n m t limits limits' Done result new → EndsMakingNodes layouts counter kit n' m' t limits limits' Done result new
  ends_within (Ok x) ends = record { after = ends.after; account = ends.account; holds = ends.holds; changed = (grows_within kit n n' m m' t ends.after few low ends.changed.0, ends.changed.1) }
  ends_within (Err fault.WrongStore) ends = ends
  ends_within (Err fault.RootsFull) ends = record { after = ends.after; account = ends.account; holds = ends.holds; changed = (grows_within kit n n' m m' t ends.after few low ends.changed.0, ends.changed.1) }
  ends_within (Err (fault.HeapOutOfMemory f)) ends = record { before = ends.before; counts = ends.counts; grows = grows_within kit n n' m m' t ends.before.table few low ends.grows; asked = ends.asked; held = ends.held; object = ends.object; of_kit = ends.of_kit; lacks = ends.lacks }
  ends_within (Err fault.Memory) ends = record { after = ends.after; account = ends.account; holds = ends.holds; changed = grows_within kit n n' m m' t ends.after few low ends.changed }

module _ {D A : Type 0} (layouts : Layouts) (counter : Option ℕ) (kit : Kit) (n m : ℕ) (t : Table D) (limits limits' : Limits) (new : StoreView D) (DoneA : StoreView D → Table D → A → Type 0) (DoneB : StoreView D → Table D → A → Type 0)
    (gives : (s : StoreView D) (u : Table D) (x : A) → DoneA s u x → DoneB s u x) where
  pub ends_map : (result : Result A ListFault) → EndsMakingNodes layouts counter kit n m t limits limits' DoneA result new → EndsMakingNodes layouts counter kit n m t limits limits' DoneB result new
  ends_map (Ok x) ends = record { after = ends.after; account = ends.account; holds = ends.holds; changed = (ends.changed.0, gives new ends.after x ends.changed.1) }
  ends_map (Err fault.WrongStore) ends = ends
  ends_map (Err fault.RootsFull) ends = ends
  ends_map (Err (fault.HeapOutOfMemory f)) ends = ends
  ends_map (Err fault.Memory) ends = ends

-- the type of nodes stays declared
pub nodes_later : {D : Type 0} (layouts : Layouts) (s : StoreView D) (t : Table D) (a : Account) (s' : StoreView D) (u : Table D) (b : Account) (ty : ℕ) → HoldsAccount layouts s t a → HoldsAccount layouts s' u b → Keeps s t s' u
    → IsNodeType s.types ty → IsNodeType s'.types ty
nodes_later layouts s t a s' u b ty holds held keeps of =
    subst (λ (types : List Declaration). IsNodeType types ty) (sym held.holds.types) (keeps.types ty _ (subst (λ (types : List Declaration). IsNodeType types ty) holds.holds.types of))

-- what making a node says
abbrev pub MakesNode : {D : Type 0} → Layouts → Kit → StoreView D → Limits → Limits → Part → ℤ → ℤ → Part → Result Part ListFault → StoreView D → Type 0
MakesNode {D} layouts kit s limits limits' left k v right result new = (t : Table D) (a : Account) (x y : Tree) → HoldsAccount layouts s t a → PartIs s t kit.node left x → PartIs s t kit.node right y
    → EndsMakingNodes layouts s.alloc_counter kit 1 1 t limits limits' (λ s' u part. PartIs s' u kit.node part (node_of x k v y)) result new

pub opened_kept : {D : Type 0} (s : StoreView D) (t : Table D) (s' : StoreView D) (u : Table D) → Keeps s t s' u → (ty : ℕ) (o : Opened) (x : Tree) (k v : ℤ) (y : Tree) → OpenedIs s t ty o x k v y → OpenedIs s' u ty o x k v y
opened_kept s t s' u keeps ty o x k v y is = record {
  key_is = is.key_is;
  value_is = is.value_is;
  key_fits = is.key_fits;
  value_fits = is.value_fits;
  left = part_kept s t s' u keeps ty o.left x is.left;
  right = part_kept s t s' u keeps ty o.right y is.right;
}

-- a number that is passed is what it was
pub passed : (z k : ℤ) → SFits w64 k → z ≡ k → to_z w64 (of_z w64 z) ≡ k
passed z k fits is = ap (λ (x : ℤ). to_z w64 (of_z w64 x)) is ∙ to_z-of_z w64 k fits

-- a node that was opened is made
module _ {D : Type 0} (layouts : Layouts) (kit : Kit) (s : StoreView D) (limits limits' : Limits) (o : Opened) (new : StoreView D) where
  pub opened_made : (result : Result Part ListFault) → MakesNode layouts kit s limits limits' o.left (to_z w64 (of_z w64 o.key)) (to_z w64 (of_z w64 o.value)) o.right result new
      → (t : Table D) (a : Account) (x : Tree) (k v : ℤ) (y : Tree) → HoldsAccount layouts s t a → OpenedIs s t kit.node o x k v y
      → EndsMakingNodes layouts s.alloc_counter kit 1 1 t limits limits' (λ s' u part. PartIs s' u kit.node part (node_of x k v y)) result new
  opened_made result makes t a x k v y holds is =
      subst (λ (i : ℤ). EndsMakingNodes layouts s.alloc_counter kit 1 1 t limits limits' (λ s' u part. PartIs s' u kit.node part (node_of x i v y)) result new) (passed o.key k is.key_fits is.key_is)
      (subst (λ (j : ℤ). EndsMakingNodes layouts s.alloc_counter kit 1 1 t limits limits' (λ s' u part. PartIs s' u kit.node part (node_of x (to_z w64 (of_z w64 o.key)) j y)) result new) (passed o.value v is.value_fits is.value_is)
      (makes t a x y holds is.left is.right))

-- Three nodes are made.
module _ {D : Type 0} (layouts : Layouts) (kit : Kit) (s0 s1 s2 s3 : StoreView D) (same1 : IsSameStore s0 s1) (same2 : IsSameStore s1 s2) (left right : Opened) (key value : ℤ) (fits_k : SFits w64 key) (fits_v : SFits w64 value) where
  module _ (limits0 limits1 : Limits) (low : Part) (makes1 : MakesNode layouts kit s0 limits0 limits1 left.left (to_z w64 (of_z w64 left.key)) (to_z w64 (of_z w64 left.value)) left.right (Ok low) s1)
      (t : Table D) (a : Account) (x y z w : Tree) (j u k v : ℤ) (holds : HoldsAccount layouts s0 t a) (in_left : OpenedIs s0 t kit.node left x j u y) (in_right : OpenedIs s0 t kit.node right z k v w) where
    abbrev pub one : Leaves layouts (λ u'. MakesNodes limits1.limit kit 1 1 t u' × PartIs s1 u' kit.node low (node_of x j u y)) s1
    one = opened_made layouts kit s0 limits0 limits1 left s1 (Ok low) makes1 t a x j u y holds in_left

    pub keeps1 : Keeps s0 t s1 one.after
    keeps1 = grows_keep kit 1 1 s0 t s1 one.after same1 one.changed.0

    abbrev pub right1 : OpenedIs s1 one.after kit.node right z k v w
    right1 = opened_kept s0 t s1 one.after keeps1 kit.node right z k v w in_right

    pub can2 : IsNodeType s0.types kit.node → height z < 500 → height w < 500 → CanMakeNode D layouts s1 kit.node right.left right.right
    can2 of low_z low_w = record {
      of_nodes = nodes_later layouts s0 t a s1 one.after one.account kit.node holds one.holds keeps1 of;
      table = one.after;
      holds = held_table layouts s1 one.after one.account one.holds;
      in_left = record { tree = z; is = right1.left; low = omega (arith, low_z) };
      in_right = record { tree = w; is = right1.right; low = omega (arith, low_w) };
    }

    module _ (counts1 : CountsOn limits0 limits1) (limits2 : Limits) (stays2 : limits2.limit ≡ limits1.limit) where
      pub refused2 : (f : ListFault) → MakesNode layouts kit s1 limits1 limits2 right.left (to_z w64 (of_z w64 right.key)) (to_z w64 (of_z w64 right.value)) right.right (Err f) s2
          → (Done : StoreView D → Table D → Part → Type 0) → EndsMakingNodes {A = Part} layouts s0.alloc_counter kit 3 3 t limits0 limits2 Done (Err f) s2
      refused2 f makes2 Done =
          ends_within {A = Part} layouts s0.alloc_counter kit (1 + 1) (1 + 1) 3 3 t limits0 limits2 s2 (omega arith) (omega arith) Done (Err f)
          (refused_after {A = Part} {B = Part} layouts s0.alloc_counter s1.alloc_counter same1.counter kit 1 1 1 1 t one.after limits0 limits1 limits2 counts1 s2 (grows_under limits2.limit kit 1 1 t one.after stays2 one.changed.0) (λ s' u' part. PartIs s' u' kit.node part (node_of z k v w)) Done f
          (opened_made layouts kit s1 limits1 limits2 right s2 (Err f) makes2 one.after one.account z k v w one.holds right1))

      module _ (counts2 : CountsOn limits1 limits2) (high : Part) (makes2 : MakesNode layouts kit s1 limits1 limits2 right.left (to_z w64 (of_z w64 right.key)) (to_z w64 (of_z w64 right.value)) right.right (Ok high) s2) where
        abbrev pub two : Leaves layouts (λ u'. MakesNodes limits2.limit kit 1 1 one.after u' × PartIs s2 u' kit.node high (node_of z k v w)) s2
        two = opened_made layouts kit s1 limits1 limits2 right s2 (Ok high) makes2 one.after one.account z k v w one.holds right1

        pub keeps2 : Keeps s1 one.after s2 two.after
        keeps2 = grows_keep kit 1 1 s1 one.after s2 two.after same2 two.changed.0

        abbrev pub low2 : PartIs s2 two.after kit.node low (node_of x j u y)
        low2 = part_kept s1 one.after s2 two.after keeps2 kit.node low (node_of x j u y) one.changed.1

        pub can3 : IsNodeType s0.types kit.node → height x < 500 → height y < 500 → height z < 500 → height w < 500 → CanMakeNode D layouts s2 kit.node low high
        can3 of low_x low_y low_z low_w = record {
          of_nodes = nodes_later layouts s1 one.after one.account s2 two.after two.account kit.node one.holds two.holds keeps2 (nodes_later layouts s0 t a s1 one.after one.account kit.node holds one.holds keeps1 of);
          table = two.after;
          holds = held_table layouts s2 two.after two.account two.holds;
          in_left = record { tree = node_of x j u y; is = low2; low = omega (arith, low_x, low_y) };
          in_right = record { tree = node_of z k v w; is = two.changed.1; low = omega (arith, low_z, low_w) };
        }

        pub three : (limits3 : Limits) → limits3.limit ≡ limits2.limit → (result : Result Part ListFault) → MakesNode layouts kit s2 limits2 limits3 low (to_z w64 (of_z w64 key)) (to_z w64 (of_z w64 value)) high result s3
            → EndsMakingNodes layouts s0.alloc_counter kit 3 3 t limits0 limits3 (λ s' u' part. PartIs s' u' kit.node part (node_of (node_of x j u y) key value (node_of z k v w))) result s3
        three limits3 stays3 result makes3 =
            let the : ℤ → ℤ → StoreView D → Table D → Part → Type 0 = λ i n s' u' part. PartIs s' u' kit.node part (node_of (node_of x j u y) i n (node_of z k v w)) in
            ends_within layouts s0.alloc_counter kit (1 + 2) (1 + 2) 3 3 t limits0 limits3 s3 (omega arith) (omega arith) (the key value) result
            (ends_after layouts s0.alloc_counter s1.alloc_counter same1.counter kit 1 1 2 2 t one.after limits0 limits1 limits3 counts1 s3 (grows_under limits3.limit kit 1 1 t one.after (stays3 ∙ stays2) one.changed.0) (the key value) result
            (ends_within layouts s1.alloc_counter kit (1 + 1) (1 + 1) 2 2 one.after limits1 limits3 s3 (omega arith) (omega arith) (the key value) result
            (ends_after layouts s1.alloc_counter s2.alloc_counter same2.counter kit 1 1 1 1 one.after two.after limits1 limits2 limits3 counts2 s3 (grows_under limits3.limit kit 1 1 one.after two.after stays3 two.changed.0) (the key value) result
            (subst (λ (i : ℤ). EndsMakingNodes layouts s2.alloc_counter kit 1 1 two.after limits2 limits3 (the i value) result s3) (to_z-of_z w64 key fits_k)
            (subst (λ (n : ℤ). EndsMakingNodes layouts s2.alloc_counter kit 1 1 two.after limits2 limits3 (the (to_z w64 (of_z w64 key)) n) result s3) (to_z-of_z w64 value fits_v)
            (makes3 two.after two.account (node_of x j u y) (node_of z k v w) two.holds low2 two.changed.1))))))

  pub refused1 : (limits0 limits1 : Limits) (f : ListFault) → MakesNode layouts kit s0 limits0 limits1 left.left (to_z w64 (of_z w64 left.key)) (to_z w64 (of_z w64 left.value)) left.right (Err f) s1
      → (t : Table D) (a : Account) (x y : Tree) (j u : ℤ) → HoldsAccount layouts s0 t a → OpenedIs s0 t kit.node left x j u y → (Done : StoreView D → Table D → Part → Type 0)
      → EndsMakingNodes {A = Part} layouts s0.alloc_counter kit 3 3 t limits0 limits1 Done (Err f) s1
  refused1 limits0 limits1 f makes1 t a x y j u holds in_left Done =
      ends_within {A = Part} layouts s0.alloc_counter kit (0 + 1) (0 + 1) 3 3 t limits0 limits1 s1 (omega arith) (omega arith) Done (Err f)
      (refused_after {A = Part} {B = Part} layouts s0.alloc_counter s0.alloc_counter refl kit 0 0 1 1 t t limits0 limits0 limits1 (counts_same limits0) s1 (grows_none kit 0 0 t) (λ s' u' part. PartIs s' u' kit.node part (node_of x j u y)) Done f
      (opened_made layouts kit s0 limits0 limits1 left s1 (Err f) makes1 t a x j u y holds in_left))

-- A node is made, and one over it and another part.
module _ {D : Type 0} (layouts : Layouts) (kit : Kit) (s0 s1 s2 : StoreView D) (same1 : IsSameStore s0 s1) (other : Part) (low : Opened) (key value : ℤ) (fits_k : SFits w64 key) (fits_v : SFits w64 value) where
  pub first_refused : (limits0 limits1 : Limits) (f : ListFault) → MakesNode layouts kit s0 limits0 limits1 low.left (to_z w64 (of_z w64 low.key)) (to_z w64 (of_z w64 low.value)) low.right (Err f) s1
      → (t : Table D) (a : Account) (y : Tree) (k v : ℤ) (z : Tree) → HoldsAccount layouts s0 t a → OpenedIs s0 t kit.node low y k v z → (Done : StoreView D → Table D → Part → Type 0)
      → EndsMakingNodes {A = Part} layouts s0.alloc_counter kit 2 2 t limits0 limits1 Done (Err f) s1
  first_refused limits0 limits1 f makes1 t a y k v z holds in_low Done =
      ends_within {A = Part} layouts s0.alloc_counter kit (0 + 1) (0 + 1) 2 2 t limits0 limits1 s1 (omega arith) (omega arith) Done (Err f)
      (refused_after {A = Part} {B = Part} layouts s0.alloc_counter s0.alloc_counter refl kit 0 0 1 1 t t limits0 limits0 limits1 (counts_same limits0) s1 (grows_none kit 0 0 t) (λ s' u' part. PartIs s' u' kit.node part (node_of y k v z)) Done f
      (opened_made layouts kit s0 limits0 limits1 low s1 (Err f) makes1 t a y k v z holds in_low))

  module _ (limits0 limits1 : Limits) (made : Part) (makes1 : MakesNode layouts kit s0 limits0 limits1 low.left (to_z w64 (of_z w64 low.key)) (to_z w64 (of_z w64 low.value)) low.right (Ok made) s1)
      (t : Table D) (a : Account) (x y : Tree) (k v : ℤ) (z : Tree) (holds : HoldsAccount layouts s0 t a) (in_other : PartIs s0 t kit.node other x) (in_low : OpenedIs s0 t kit.node low y k v z) where
    abbrev pub first : Leaves layouts (λ u'. MakesNodes limits1.limit kit 1 1 t u' × PartIs s1 u' kit.node made (node_of y k v z)) s1
    first = opened_made layouts kit s0 limits0 limits1 low s1 (Ok made) makes1 t a y k v z holds in_low

    pub first_keeps : Keeps s0 t s1 first.after
    first_keeps = grows_keep kit 1 1 s0 t s1 first.after same1 first.changed.0

    abbrev pub other1 : PartIs s1 first.after kit.node other x
    other1 = part_kept s0 t s1 first.after first_keeps kit.node other x in_other

    pub can_over_right : IsNodeType s0.types kit.node → height x < 1000 → height y < 500 → height z < 500 → CanMakeNode D layouts s1 kit.node other made
    can_over_right of low_x low_y low_z = record {
      of_nodes = nodes_later layouts s0 t a s1 first.after first.account kit.node holds first.holds first_keeps of;
      table = first.after;
      holds = held_table layouts s1 first.after first.account first.holds;
      in_left = record { tree = x; is = other1; low = low_x };
      in_right = record { tree = node_of y k v z; is = first.changed.1; low = omega (arith, low_y, low_z) };
    }

    pub can_over_left : IsNodeType s0.types kit.node → height x < 1000 → height y < 500 → height z < 500 → CanMakeNode D layouts s1 kit.node made other
    can_over_left of low_x low_y low_z = let c = can_over_right of low_x low_y low_z in record { of_nodes = c.of_nodes; table = c.table; holds = c.holds; in_left = c.in_right; in_right = c.in_left }

    module _ (counts1 : CountsOn limits0 limits1) (limits2 : Limits) (stays2 : limits2.limit ≡ limits1.limit) (result : Result Part ListFault) where
      over : (Done : ℤ → ℤ → StoreView D → Table D → Part → Type 0) → EndsMakingNodes layouts s1.alloc_counter kit 1 1 first.after limits1 limits2 (Done (to_z w64 (of_z w64 key)) (to_z w64 (of_z w64 value))) result s2
          → EndsMakingNodes layouts s0.alloc_counter kit 2 2 t limits0 limits2 (Done key value) result s2
      over Done ends =
          ends_within layouts s0.alloc_counter kit (1 + 1) (1 + 1) 2 2 t limits0 limits2 s2 (omega arith) (omega arith) (Done key value) result
          (ends_after layouts s0.alloc_counter s1.alloc_counter same1.counter kit 1 1 1 1 t first.after limits0 limits1 limits2 counts1 s2 (grows_under limits2.limit kit 1 1 t first.after stays2 first.changed.0) (Done key value) result
          (subst (λ (i : ℤ). EndsMakingNodes layouts s1.alloc_counter kit 1 1 first.after limits1 limits2 (Done i value) result s2) (to_z-of_z w64 key fits_k)
          (subst (λ (n : ℤ). EndsMakingNodes layouts s1.alloc_counter kit 1 1 first.after limits1 limits2 (Done (to_z w64 (of_z w64 key)) n) result s2) (to_z-of_z w64 value fits_v) ends)))

      pub made_over_right : MakesNode layouts kit s1 limits1 limits2 other (to_z w64 (of_z w64 key)) (to_z w64 (of_z w64 value)) made result s2
          → EndsMakingNodes layouts s0.alloc_counter kit 2 2 t limits0 limits2 (λ s' u' part. PartIs s' u' kit.node part (node_of x key value (node_of y k v z))) result s2
      made_over_right makes2 = over (λ i n s' u' part. PartIs s' u' kit.node part (node_of x i n (node_of y k v z))) (makes2 first.after first.account x (node_of y k v z) first.holds other1 first.changed.1)

      pub made_over_left : MakesNode layouts kit s1 limits1 limits2 made (to_z w64 (of_z w64 key)) (to_z w64 (of_z w64 value)) other result s2
          → EndsMakingNodes layouts s0.alloc_counter kit 2 2 t limits0 limits2 (λ s' u' part. PartIs s' u' kit.node part (node_of (node_of y k v z) key value x)) result s2
      made_over_left makes2 = over (λ i n s' u' part. PartIs s' u' kit.node part (node_of (node_of y k v z) i n x)) (makes2 first.after first.account (node_of y k v z) x first.holds first.changed.1 other1)
