-- A key is taken out: a way down, the gap that its node leaves, and the way back up.
use Rattle.std.proofs.Common.{◌≡◌, ℕ, ◌+◌, ◌<◌, ℤ, List, ◌++◌, Option, Some, None, Result, Ok, Err, sym, ap, ◌∙◌, subst, arith, to_z, of_z, w64, SFits}
use Rattle.std.proofs.lemmas.Int.{to_z-of_z}
use Rattle.gc_types.specs.declared.kind.Layouts.{Layouts}
use Rattle.gc_model.specs.Allocation.{Limits}
use Rattle.gc_model.specs.Table.{Table}
use Rattle.gc_model.specs.Stores.{StoreView}
use Rattle.gc_model.specs.Accounts.{Account, HoldsAccount}
use Rattle.gc_values.specs.declared.root.GcRootIndex.{GcRootIndex}
use Rattle.gc_store.specs.Stores.{IsSameStore}
use Rattle.gc_lists.specs.declared.fault.ListFault.{ListFault}
use Rattle.gc_lists.specs.declared.kit.Kit.{Kit}
use Rattle.gc_lists.specs.Frames.{Leaves}
use Rattle.gc_lists.specs.Kits.{IsNodeType}
use Rattle.gc_lists.proofs.Limiting.{counts_same}
use Rattle.gc_maps.specs.declared.part.Frame.{Frame}
use Rattle.gc_maps.specs.declared.part.Node.{Node}
use Rattle.gc_maps.specs.declared.part.Part.{Part}
use Rattle.gc_maps.specs.Trees.{Tree, height, pairs, IsBalanced}
use Rattle.gc_maps.specs.Parts.{RootIs, PartIs, RootIn}
use Rattle.gc_maps.specs.Paths.{Descended, Rises, RisesIn, IsBuilt}
use Rattle.gc_maps.specs.Gaps.{others, Closes, GapIn}
use Rattle.gc_maps.specs.Searching.{IsSearch}
use Rattle.gc_maps.specs.Ends.{Pushes, EndsReading, EndsMakingNodes}
use Rattle.gc_maps.proofs.Naming.{Keeps, keeps_then, held_table, root_kept}
use Rattle.gc_maps.proofs.Growing.{grows_within, pushes_grow, pushes_keep}
use Rattle.gc_maps.proofs.Steps.{refused_after, ends_after, ends_within, nodes_later}
use Rattle.gc_maps.proofs.Putting.{ReadsPart, read_refused}
use Rattle.gc_maps.proofs.Removals.{Gap, gap_of}
use Rattle.gc_maps.proofs.WayLemmas.{path_pairs}

-- what closing a gap says
abbrev pub ClosesGap : {D : Type 0} → Layouts → StoreView D → List Frame → Node → List Frame → StoreView D → ℤ → Result Part ListFault → Type 0
ClosesGap {D} layouts s frames read fs new key result = (t : Table D) (a : Account) (ty : ℕ) (tree : Tree) → HoldsAccount layouts s t a → IsSearch tree → height tree < 92 → Descended s t ty tree key frames (Some read)
    → EndsReading layouts 184 t (λ s u part. Closes s u ty fs part (others key (pairs tree))) result new

-- a key that is passed on is what it was
pub closes_passed : {D : Type 0} (layouts : Layouts) (s : StoreView D) (frames : List Frame) (read : Node) (fs : List Frame) (new : StoreView D) (key : ℤ) → SFits w64 key → (result : Result Part ListFault)
    → ClosesGap layouts s frames read fs new (to_z w64 (of_z w64 key)) result → ClosesGap layouts s frames read fs new key result
closes_passed layouts s frames read fs new key fits result closes = subst (λ (z : ℤ). ClosesGap layouts s frames read fs new z result) (to_z-of_z w64 key fits) closes

pub gap_passed : {D : Type 0} (layouts : Layouts) (s : StoreView D) (key : ℤ) → SFits w64 key → (frames : List Frame) (read : Node) → GapIn D layouts s key frames read → GapIn D layouts s (to_z w64 (of_z w64 key)) frames read
gap_passed {D} layouts s key fits frames read gap = subst (λ (z : ℤ). GapIn D layouts s z frames read) (sym (to_z-of_z w64 key fits)) gap

module _ {D : Type 0} (layouts : Layouts) (kit : Kit) (s0 s1 : StoreView D) (same1 : IsSameStore s0 s1) (tree : Tree) (key : ℤ) (frames : List Frame)
    (t : Table D) (a : Account) (holds : HoldsAccount layouts s0 t a) (search_is : IsSearch tree) (low : height tree < 92) where
  abbrev pub Built : StoreView D → Table D → Part → Type 0
  Built s u part = IsBuilt s u kit.node part (others key (pairs tree))

  -- there is no such key
  module _ (root : Option GcRootIndex) (is : RootIs s0 t kit.node root tree) (down : Leaves layouts (λ u. Pushes 184 t u × Descended s1 u kit.node tree key frames None) s1) where
    root1 : RootIs s1 down.after kit.node root tree
    root1 = root_kept s0 t s1 down.after (pushes_keep 184 s0 t s1 down.after same1 down.changed.0) kit.node root tree is

    pub root_in : RootIn D layouts s1 root
    root_in = record { table = down.after; holds = held_table layouts s1 down.after down.account down.holds; ty = kit.node; tree = tree; is = root1 }

    none_less : (u : Table D) → Descended s1 u kit.node tree key frames None → pairs tree ≡ others key (pairs tree)
    none_less u d =
        let gap : Gap key (pairs tree) d.before (pairs d.left) (pairs d.right) d.behind = gap_of key (pairs tree) d.before (pairs d.left) (pairs d.right) d.behind search_is.rising (d.puts key) in
        path_pairs s1 u kit.node frames d.here tree d.before d.behind d.path ∙ ap (λ (here : Tree). d.before ++ (pairs here ++ d.behind)) d.there
        ∙ sym (gap.without ∙ ap (λ (left : Tree). d.before ++ ((pairs left ++ pairs d.right) ++ d.behind)) d.children.0 ∙ ap (λ (right : Tree). d.before ++ (pairs right ++ d.behind)) d.children.1)

    pub stays : (s2 : StoreView D) (part : Part) (limits limits' : Limits) → ReadsPart layouts s1 s2 root part → EndsMakingNodes layouts s0.alloc_counter kit 276 1012 t limits limits' Built (Ok part) s2
    stays s2 part limits limits' reads =
        let got : PartIs s2 down.after kit.node part tree × HoldsAccount layouts s2 down.after down.account = reads down.after down.account kit.node tree down.holds root1 (omega (arith, low)) in
        record {
          after = down.after;
          account = down.account;
          holds = got.1;
          changed = (
            grows_within kit 0 276 184 1012 t down.after (omega arith) (omega arith) (pushes_grow kit 184 t down.after down.changed.0),
            record { tree = tree; is = got.0; balanced = search_is.balanced; pairs_are = none_less down.after down.changed.1 },
          );
        }

  -- its node was found
  module _ (read : Node) (down : Leaves layouts (λ u. Pushes 184 t u × Descended s1 u kit.node tree key frames (Some read)) s1) where
    abbrev u1 : Table D
    u1 = down.after

    keeps1 : Keeps s0 t s1 u1
    keeps1 = pushes_keep 184 s0 t s1 u1 same1 down.changed.0

    pub gap_in : GapIn D layouts s1 key frames read
    gap_in = record { table = u1; holds = held_table layouts s1 u1 down.account down.holds; ty = kit.node; tree = tree; search = search_is; low = low; descended = down.changed.1 }

    module _ (s2 : StoreView D) (fs : List Frame) where
      abbrev Closing : Result Part ListFault → Type 0
      Closing result = ClosesGap layouts s1 frames read fs s2 key result

      pub gap_refused : (limits limits' : Limits) (f : ListFault) → Closing (Err f) → EndsMakingNodes {A = Part} layouts s0.alloc_counter kit 276 1012 t limits limits' Built (Err f) s2
      gap_refused limits limits' f closes =
          ends_within {A = Part} layouts s0.alloc_counter kit (0 + 0) (184 + 184) 276 1012 t limits limits' s2 (omega arith) (omega arith) Built (Err f)
          (refused_after {A = Part} {B = Part} layouts s0.alloc_counter s1.alloc_counter same1.counter kit 0 184 0 184 t u1 limits limits limits' (counts_same limits) s2 (pushes_grow kit 184 t u1 down.changed.0) Built Built f
          (read_refused {A = Part} {B = Part} layouts s1.alloc_counter kit 0 184 184 u1 limits limits' (λ s u part. Closes s u kit.node fs part (others key (pairs tree))) Built f s2 (omega arith)
          (closes u1 down.account kit.node tree down.holds search_is low down.changed.1)))

      module _ (same2 : IsSameStore s1 s2) (part : Part) (closes : Closing (Ok part)) where
        abbrev two : Leaves layouts (λ u. Pushes 184 u1 u × Closes s2 u kit.node fs part (others key (pairs tree))) s2
        two = closes u1 down.account kit.node tree down.holds search_is low down.changed.1

        abbrev c : Closes s2 two.after kit.node fs part (others key (pairs tree))
        c = two.changed.1

        pub rises_in : IsNodeType s0.types kit.node → RisesIn D layouts s2 kit.node fs part
        rises_in of = record {
          of_nodes = nodes_later layouts s0 t a s2 two.after two.account kit.node holds two.holds (keeps_then s0 t s1 u1 s2 two.after keeps1 (pushes_keep 184 s1 u1 s2 two.after same2 two.changed.0)) of;
          table = two.after;
          holds = held_table layouts s2 two.after two.account two.holds;
          whole = c.whole;
          entries = others key (pairs tree);
          balanced = c.balanced;
          low = c.low;
          rises = c.rises;
        }

        pub taken_out : (s3 : StoreView D) (limits limits' : Limits) (result : Result Part ListFault)
            → ((t : Table D) (a : Account) (whole : Tree) (entries : List (ℤ × ℤ)) → HoldsAccount layouts s2 t a → IsBalanced whole → height whole < 92 → Rises s2 t kit.node whole fs part entries
            → EndsMakingNodes layouts s2.alloc_counter kit 276 644 t limits limits' (λ s u built. IsBuilt s u kit.node built entries) result s3)
            → EndsMakingNodes layouts s0.alloc_counter kit 276 1012 t limits limits' Built result s3
        taken_out s3 limits limits' result builds =
            ends_within layouts s0.alloc_counter kit (0 + 276) (184 + 828) 276 1012 t limits limits' s3 (omega arith) (omega arith) Built result
            (ends_after layouts s0.alloc_counter s1.alloc_counter same1.counter kit 0 184 276 828 t u1 limits limits limits' (counts_same limits) s3 (pushes_grow kit 184 t u1 down.changed.0) Built result
            (ends_within layouts s1.alloc_counter kit (0 + 276) (184 + 644) 276 828 u1 limits limits' s3 (omega arith) (omega arith) Built result
            (ends_after layouts s1.alloc_counter s2.alloc_counter same2.counter kit 0 184 276 644 u1 two.after limits limits limits' (counts_same limits) s3 (pushes_grow kit 184 u1 two.after two.changed.0) Built result
            (builds two.after two.account c.whole (others key (pairs tree)) two.holds c.balanced c.low c.rises))))
