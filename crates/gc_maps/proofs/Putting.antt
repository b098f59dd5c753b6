-- A key is put: a way down, a node, and the way back up.
use Rattle.std.proofs.Common.{◌≡◌, ℕ, ◌+◌, ◌≤◌, ◌<◌, ◌^◌, ℤ, List, Option, None, Result, Ok, Err, sym, refl, subst, arith, to_z, of_z, w64, SFits}
use Rattle.std.specs.Ordering.{int_cmp}
use Rattle.std.specs.FinMap.Entries.{put}
use Rattle.std.proofs.lemmas.Int.{to_z-of_z}
use Rattle.gc_types.specs.declared.kind.Layouts.{Layouts}
use Rattle.gc_model.specs.Allocation.{Limits}
use Rattle.gc_model.specs.Table.{Table}
use Rattle.gc_model.specs.Stores.{StoreView}
use Rattle.gc_model.specs.Accounts.{Account, HoldsAccount}
use Rattle.gc_values.specs.declared.root.GcRootIndex.{GcRootIndex}
use Rattle.gc_store.specs.Stores.{IsSameStore}
use Rattle.gc_lists.specs.declared.fault.ListFault.{ListFault}
use Rattle.gc_lists.specs.declared.fault.ListFault.TheVariants as fault
use Rattle.gc_lists.specs.declared.kit.Kit.{Kit}
use Rattle.gc_lists.specs.Frames.{Leaves}
use Rattle.gc_lists.specs.Kits.{IsNodeType}
use Rattle.gc_lists.specs.Refusals.{CountsOn}
use Rattle.gc_lists.proofs.Limiting.{counts_same}
use Rattle.gc_maps.specs.declared.part.Frame.{Frame}
use Rattle.gc_maps.specs.declared.part.Node.{Node}
use Rattle.gc_maps.specs.declared.part.Part.{Part}
use Rattle.gc_maps.specs.Trees.{Tree, leaf, height, pairs, IsBalanced}
use Rattle.gc_maps.specs.Parts.{RootIs, PartIs, RootIn, node_of}
use Rattle.gc_maps.specs.Makes.{CanMakeNode}
use Rattle.gc_maps.specs.Paths.{HasChildren, Descended, FoundIn, Rises, RisesIn, IsBuilt}
use Rattle.gc_maps.specs.Searching.{IsSearch}
use Rattle.gc_maps.specs.Ends.{Pushes, MakesNodes, EndsReading, EndsMakingNodes}
use Rattle.gc_maps.proofs.Naming.{Keeps, keeps_then, held_table, root_kept, part_kept}
use Rattle.gc_maps.proofs.NodeReads.{table_keeps}
use Rattle.gc_maps.proofs.Growing.{grows_none, grows_under, grows_within, grows_keep, pushes_grow, pushes_keep, same_then}
use Rattle.gc_maps.proofs.Steps.{MakesNode, refused_after, ends_after, ends_within, nodes_later}
use Rattle.gc_maps.proofs.Descending.{path_kept}
use Rattle.gc_maps.proofs.Rising.{path_high}

-- what reading a part says
abbrev pub ReadsPart : {D : Type 0} → Layouts → StoreView D → StoreView D → Option GcRootIndex → Part → Type 0
ReadsPart {D} layouts s s' root part = (t : Table D) (a : Account) (ty : ℕ) (tree : Tree) → HoldsAccount layouts s t a → RootIs s t ty root tree → height tree < 2 ^ 31 → PartIs s' t ty part tree × HoldsAccount layouts s' t a

-- A node over what two roots name.
module _ {D : Type 0} (layouts : Layouts) (kit : Kit) (s0 s1 : StoreView D) (same1 : IsSameStore s0 s1) (left right : Option GcRootIndex) (lp : Part) (reads1 : ReadsPart layouts s0 s1 left lp)
    (t : Table D) (a : Account) (holds : HoldsAccount layouts s0 t a) (x y : Tree) (left_is : RootIs s0 t kit.node left x) (right_is : RootIs s0 t kit.node right y) (low_x : height x < 400) (low_y : height y < 400) where
  got : PartIs s1 t kit.node lp x × HoldsAccount layouts s1 t a
  got = reads1 t a kit.node x holds left_is (omega (arith, low_x))

  right1 : RootIs s1 t kit.node right y
  right1 = root_kept s0 t s1 t (table_keeps s0 t s1 same1) kit.node right y right_is

  pub second_in : RootIn D layouts s1 right
  second_in = record { table = t; holds = held_table layouts s1 t a got.1; ty = kit.node; tree = y; is = right1 }

  module _ (s2 : StoreView D) (same2 : IsSameStore s1 s2) (rp : Part) (reads2 : ReadsPart layouts s1 s2 right rp) where
    got2 : PartIs s2 t kit.node rp y × HoldsAccount layouts s2 t a
    got2 = reads2 t a kit.node y got.1 right1 (omega (arith, low_y))

    left2 : PartIs s2 t kit.node lp x
    left2 = part_kept s1 t s2 t (table_keeps s1 t s2 same2) kit.node lp x got.0

    same12 : IsSameStore s0 s2
    same12 = same_then s0 s1 s2 same1 same2

    pub can_between : IsNodeType s0.types kit.node → CanMakeNode D layouts s2 kit.node lp rp
    can_between of = record {
      of_nodes = nodes_later layouts s0 t a s2 t a kit.node holds got2.1 (table_keeps s0 t s2 same12) of;
      table = t;
      holds = held_table layouts s2 t a got2.1;
      in_left = record { tree = x; is = left2; low = omega (arith, low_x) };
      in_right = record { tree = y; is = got2.0; low = omega (arith, low_y) };
    }

    pub between_made : (key value : ℤ) → SFits w64 key → SFits w64 value → (s3 : StoreView D) (limits limits' : Limits) (result : Result Part ListFault)
        → MakesNode layouts kit s2 limits limits' lp (to_z w64 (of_z w64 key)) (to_z w64 (of_z w64 value)) rp result s3
        → EndsMakingNodes layouts s0.alloc_counter kit 1 1 t limits limits' (λ s' u part. PartIs s' u kit.node part (node_of x key value y)) result s3
    between_made key value fits_k fits_v s3 limits limits' result makes =
        let the : ℤ → ℤ → StoreView D → Table D → Part → Type 0 = λ i n s' u part. PartIs s' u kit.node part (node_of x i n y) in
        ends_within layouts s0.alloc_counter kit (0 + 1) (0 + 1) 1 1 t limits limits' s3 (omega arith) (omega arith) (the key value) result
        (ends_after layouts s0.alloc_counter s2.alloc_counter same12.counter kit 0 0 1 1 t t limits limits limits' (counts_same limits) s3 (grows_none kit 0 0 t) (the key value) result
        (subst (λ (i : ℤ). EndsMakingNodes layouts s2.alloc_counter kit 1 1 t limits limits' (the i value) result s3) (to_z-of_z w64 key fits_k)
        (subst (λ (n : ℤ). EndsMakingNodes layouts s2.alloc_counter kit 1 1 t limits limits' (the (to_z w64 (of_z w64 key)) n) result s3) (to_z-of_z w64 value fits_v)
        (makes t a x y got2.1 left2 got2.0))))

-- a key and a value that are passed on are what they were
pub as_they_were : {D : Type 0} (layouts : Layouts) (counter : Option ℕ) (kit : Kit) (t : Table D) (limits limits' : Limits) (x y : Tree) (key value : ℤ) → SFits w64 key → SFits w64 value → (s3 : StoreView D) (result : Result Part ListFault)
    → EndsMakingNodes layouts counter kit 1 1 t limits limits' (λ s' u part. PartIs s' u kit.node part (node_of x (to_z w64 (of_z w64 key)) (to_z w64 (of_z w64 value)) y)) result s3
    → EndsMakingNodes layouts counter kit 1 1 t limits limits' (λ s' u part. PartIs s' u kit.node part (node_of x key value y)) result s3
as_they_were layouts counter kit t limits limits' x y key value fits_k fits_v s3 result ends =
    subst (λ (i : ℤ). EndsMakingNodes layouts counter kit 1 1 t limits limits' (λ s' u part. PartIs s' u kit.node part (node_of x i value y)) result s3) (to_z-of_z w64 key fits_k)
    (subst (λ (n : ℤ). EndsMakingNodes layouts counter kit 1 1 t limits limits' (λ s' u part. PartIs s' u kit.node part (node_of x (to_z w64 (of_z w64 key)) n y)) result s3) (to_z-of_z w64 value fits_v) ends)

-- the tree without nodes is no root
pub no_root : {D : Type 0} (s : StoreView D) (t : Table D) (ty : ℕ) (x : Tree) → x ≡ leaf → RootIs s t ty None x
no_root s t ty x is = subst (λ (z : Tree). RootIs s t ty None z) (sym is) (record { reference = _; names = refl; is = refl })

-- a read that was refused ends a call that makes nodes
pub read_refused : {D A B : Type 0} (layouts : Layouts) (counter : Option ℕ) (kit : Kit) (n m m' : ℕ) (t : Table D) (limits limits' : Limits) (DoneA : StoreView D → Table D → A → Type 0) (DoneB : StoreView D → Table D → B → Type 0)
    (f : ListFault) (new : StoreView D) → m ≤ m' → EndsReading {A = A} layouts m t DoneA (Err f) new → EndsMakingNodes {A = B} layouts counter kit n m' t limits limits' DoneB (Err f) new
read_refused layouts counter kit n m m' t limits limits' DoneA DoneB fault.WrongStore new few ends = ends
read_refused layouts counter kit n m m' t limits limits' DoneA DoneB fault.RootsFull new few ends =
    record { after = ends.after; account = ends.account; holds = ends.holds; changed = (grows_within kit 0 n m m' t ends.after (omega arith) few (pushes_grow kit m t ends.after ends.changed.0), ends.changed.1) }
read_refused layouts counter kit n m m' t limits limits' DoneA DoneB (fault.HeapOutOfMemory f) new few ends = absurd ends
read_refused layouts counter kit n m m' t limits limits' DoneA DoneB fault.Memory new few ends =
    record { after = ends.after; account = ends.account; holds = ends.holds; changed = grows_within kit 0 n m m' t ends.after (omega arith) few (pushes_grow kit m t ends.after ends.changed) }

-- A way down was gone.
module _ {D : Type 0} (layouts : Layouts) (kit : Kit) (s0 s1 : StoreView D) (same1 : IsSameStore s0 s1) (tree : Tree) (key value : ℤ) (fits_k : SFits w64 key) (fits_v : SFits w64 value) (frames : List Frame) (found : Option Node)
    (t : Table D) (a : Account) (holds : HoldsAccount layouts s0 t a) (search_is : IsSearch tree) (low : height tree < 92) (down : Leaves layouts (λ u. Pushes 184 t u × Descended s1 u kit.node tree key frames found) s1) where
  abbrev u1 : Table D
  u1 = down.after

  abbrev d : Descended s1 u1 kit.node tree key frames found
  d = down.changed.1

  keeps1 : Keeps s0 t s1 u1
  keeps1 = pushes_keep 184 s0 t s1 u1 same1 down.changed.0

  low_left : height d.left < 400
  low_left = let high = path_high s1 u1 kit.node frames d.here tree d.before d.behind d.path in let c = d.close.left in omega (arith, high, c, low)

  low_right : height d.right < 400
  low_right = let high = path_high s1 u1 kit.node frames d.here tree d.before d.behind d.path in let c = d.close.left in omega (arith, high, c, low)

  pub found_in : IsNodeType s0.types kit.node → FoundIn D layouts s1 kit.node found
  found_in of = record {
    of_nodes = nodes_later layouts s0 t a s1 u1 down.account kit.node holds down.holds keeps1 of;
    table = u1;
    holds = held_table layouts s1 u1 down.account down.holds;
    left = d.left;
    right = d.right;
    children = d.children;
    low_left = low_left;
    low_right = low_right;
  }

  module _ (s2 : StoreView D) (limits1 limits2 : Limits) where
    abbrev pub MakesEntry : Result Part ListFault → Type 0
    MakesEntry result = (t : Table D) (a : Account) (x y : Tree) → HoldsAccount layouts s1 t a → HasChildren s1 t kit.node found x y → height x < 400 → height y < 400
        → EndsMakingNodes layouts s1.alloc_counter kit 1 1 t limits1 limits2 (λ s u part. PartIs s u kit.node part (node_of x (to_z w64 (of_z w64 key)) (to_z w64 (of_z w64 value)) y)) result s2

    pub entry_ends : (result : Result Part ListFault) → MakesEntry result → EndsMakingNodes layouts s1.alloc_counter kit 1 1 u1 limits1 limits2 (λ s u part. PartIs s u kit.node part (node_of d.left key value d.right)) result s2
    entry_ends result makes =
        as_they_were layouts s1.alloc_counter kit u1 limits1 limits2 d.left d.right key value fits_k fits_v s2 result (makes u1 down.account d.left d.right down.holds d.children low_left low_right)

    pub entry_refused : (f : ListFault) → MakesEntry (Err f) → (Done : StoreView D → Table D → Part → Type 0) → EndsMakingNodes {A = Part} layouts s0.alloc_counter kit 277 829 t limits1 limits2 Done (Err f) s2
    entry_refused f makes Done =
        ends_within {A = Part} layouts s0.alloc_counter kit (0 + 1) (184 + 1) 277 829 t limits1 limits2 s2 (omega arith) (omega arith) Done (Err f)
        (refused_after {A = Part} {B = Part} layouts s0.alloc_counter s1.alloc_counter same1.counter kit 0 184 1 1 t u1 limits1 limits1 limits2 (counts_same limits1) s2 (pushes_grow kit 184 t u1 down.changed.0)
        (λ s u part. PartIs s u kit.node part (node_of d.left key value d.right)) Done f (entry_ends (Err f) makes))

    module _ (same2 : IsSameStore s1 s2) (part : Part) (makes : MakesEntry (Ok part)) where
      abbrev two : Leaves layouts (λ u. MakesNodes limits2.limit kit 1 1 u1 u × PartIs s2 u kit.node part (node_of d.left key value d.right)) s2
      two = entry_ends (Ok part) makes

      keeps2 : Keeps s1 u1 s2 two.after
      keeps2 = grows_keep kit 1 1 s1 u1 s2 two.after same2 two.changed.0

      pub rises : Rises s2 two.after kit.node tree frames part (put int_cmp key value (pairs tree))
      rises = record {
        old = d.here;
        new = node_of d.left key value d.right;
        before = d.before;
        behind = d.behind;
        path = path_kept s1 u1 s2 two.after keeps2 kit.node frames d.here tree d.before d.behind d.path;
        is = two.changed.1;
        balanced = d.balanced;
        close = d.close;
        whole_is = sym (d.puts value);
      }

      pub rises_in : IsNodeType s0.types kit.node → RisesIn D layouts s2 kit.node frames part
      rises_in of = record {
        of_nodes = nodes_later layouts s0 t a s2 two.after two.account kit.node holds two.holds (keeps_then s0 t s1 u1 s2 two.after keeps1 keeps2) of;
        table = two.after;
        holds = held_table layouts s2 two.after two.account two.holds;
        whole = tree;
        entries = put int_cmp key value (pairs tree);
        balanced = search_is.balanced;
        low = low;
        rises = rises;
      }

      pub put_ends : CountsOn limits1 limits2 → (s3 : StoreView D) (limits3 : Limits) → limits3.limit ≡ limits2.limit → (result : Result Part ListFault)
          → ((t : Table D) (a : Account) (whole : Tree) (entries : List (ℤ × ℤ)) → HoldsAccount layouts s2 t a → IsBalanced whole → height whole < 92 → Rises s2 t kit.node whole frames part entries
          → EndsMakingNodes layouts s2.alloc_counter kit 276 644 t limits2 limits3 (λ s u built. IsBuilt s u kit.node built entries) result s3)
          → EndsMakingNodes layouts s0.alloc_counter kit 277 829 t limits1 limits3 (λ s u built. IsBuilt s u kit.node built (put int_cmp key value (pairs tree))) result s3
      put_ends counts s3 limits3 stays result builds =
          let Built : StoreView D → Table D → Part → Type 0 = λ s u built. IsBuilt s u kit.node built (put int_cmp key value (pairs tree)) in
          ends_within layouts s0.alloc_counter kit (0 + 277) (184 + 645) 277 829 t limits1 limits3 s3 (omega arith) (omega arith) Built result
          (ends_after layouts s0.alloc_counter s1.alloc_counter same1.counter kit 0 184 277 645 t u1 limits1 limits1 limits3 (counts_same limits1) s3 (pushes_grow kit 184 t u1 down.changed.0) Built result
          (ends_within layouts s1.alloc_counter kit (1 + 276) (1 + 644) 277 645 u1 limits1 limits3 s3 (omega arith) (omega arith) Built result
          (ends_after layouts s1.alloc_counter s2.alloc_counter same2.counter kit 1 1 276 644 u1 two.after limits1 limits2 limits3 counts s3 (grows_under limits3.limit kit 1 1 u1 two.after stays two.changed.0) Built result
          (builds two.after two.account tree (put int_cmp key value (pairs tree)) two.holds search_is.balanced low rises))))
