-- The way back up: what was climbed so far, and a step more.
use Rattle.std.proofs.Common.{◌≡◌, ℕ, ◌+◌, ◌*◌, ◌≤◌, ◌<◌, ◌^◌, ℤ, if◌then◌else◌, Option, List, [], ◌∷◌, ◌++◌, length, Result, Ok, Err, sym, ap, ◌∙◌, subst, arith, w64, FitsSigned, length-append}
use Rattle.std.proofs.lemmas.List.{append-nil}
use Rattle.gc_types.specs.declared.kind.Layouts.{Layouts}
use Rattle.gc_model.specs.Allocation.{Limits}
use Rattle.gc_model.specs.Table.{Table}
use Rattle.gc_model.specs.Stores.{StoreView}
use Rattle.gc_model.specs.Accounts.{Account, HoldsAccount}
use Rattle.gc_store.specs.Stores.{IsSameStore}
use Rattle.gc_lists.specs.declared.fault.ListFault.{ListFault}
use Rattle.gc_lists.specs.declared.kit.Kit.{Kit}
use Rattle.gc_lists.specs.Kits.{IsNodeType}
use Rattle.gc_lists.specs.Frames.{Leaves}
use Rattle.gc_lists.specs.Refusals.{CountsOn}
use Rattle.gc_maps.specs.declared.part.Frame.{Frame}
use Rattle.gc_maps.specs.declared.part.Opened.{Opened}
use Rattle.gc_maps.specs.declared.part.Part.{Part}
use Rattle.gc_maps.specs.Trees.{Tree, height, pairs, IsBalanced}
use Rattle.gc_maps.specs.Parts.{RootIs, PartIs, RootIn}
use Rattle.gc_maps.specs.Paths.{LeadsDown, Rises, IsBuilt}
use Rattle.gc_maps.specs.Lowering.{IsJoinable, IsJoined, JoinableIn}
use Rattle.gc_maps.specs.Ends.{EndsMakingNodes, MakesNodes}
use Rattle.gc_maps.proofs.Naming.{keeps_then}
use Rattle.gc_maps.proofs.NodeReads.{table_keeps}
use Rattle.gc_maps.proofs.Growing.{grows_none, grows_then, grows_under, grows_within, grows_keep, same_then}
use Rattle.gc_maps.proofs.Steps.{refused_after, ends_within, nodes_later}
use Rattle.gc_maps.proofs.Rising.{path_high, path_balanced, other_in, read, can_join, joinable, left_of, right_of, lifted}
use Rattle.gc_maps.proofs.WayLemmas.{Popped, path_pop}

-- So many nodes of the way were made anew.
pub record Climbs {D : Type 0} (layouts : Layouts) (limit : Option ℕ) (kit : Kit) (t : Table D) (whole : Tree) (turns : ℕ) (frames : List Frame) (s : StoreView D) (part : Part) (entries : List (ℤ × ℤ)) : Type 0 where
  pub leaves : Leaves layouts (λ u. MakesNodes limit kit (3 * turns) (7 * turns) t u × Rises s u kit.node whole frames part entries) s
  pub few : length frames + turns ≤ 92

module _ {D : Type 0} (layouts : Layouts) (limit : Option ℕ) (kit : Kit) (s0 : StoreView D) (t : Table D) (a : Account) (holds : HoldsAccount layouts s0 t a) (whole : Tree) (entries : List (ℤ × ℤ)) (balanced : IsBalanced whole)
    (low : height whole < 92) where
  pub climb_start : (fs : List Frame) (part : Part) → Rises s0 t kit.node whole fs part entries → Climbs layouts limit kit t whole 0 fs s0 part entries
  climb_start fs part rises =
      let high = path_high s0 t kit.node fs rises.old whole rises.before rises.behind rises.path in
      record { leaves = record { after = t; account = a; holds = holds; changed = (grows_none kit 0 0 t, rises) }; few = omega (arith, high, low) }

  built : (s : StoreView D) (u : Table D) (part : Part) → Rises s u kit.node whole [] part entries → IsBuilt s u kit.node part entries
  built s u part rises = record {
    tree = rises.new;
    is = rises.is;
    balanced = rises.balanced;
    pairs_are = sym (append-nil (pairs rises.new)) ∙ (λ i. sym rises.path.1.0 i ++ (pairs rises.new ++ sym rises.path.1.1 i)) ∙ rises.whole_is;
  }

  abbrev pub Builds : StoreView D → Table D → Part → Type 0
  Builds s u part = IsBuilt s u kit.node part entries

  pub climb_done : (i : ℕ) (fs : List Frame) (s : StoreView D) (part : Part) (limits limits' : Limits) → limits'.limit ≡ limit → i ≤ 92 → fs ≡ [] → Climbs layouts limit kit t whole i fs s part entries
      → EndsMakingNodes layouts s0.alloc_counter kit 276 644 t limits limits' Builds (Ok part) s
  climb_done i fs s part limits limits' stays few none climbs =
      let at = climbs.leaves in
      record {
        after = at.after;
        account = at.account;
        holds = at.holds;
        changed = (
          grows_under limits'.limit kit 276 644 t at.after stays (grows_within kit (3 * i) 276 (7 * i) 644 t at.after (omega (arith, few)) (omega (arith, few)) at.changed.0),
          built s at.after part (subst (λ (z : List Frame). Rises s at.after kit.node whole z part entries) none at.changed.1),
        );
      }

  -- a frame more
  module _ (i : ℕ) (below : i < 92) (fs frames : List Frame) (f : Frame) (frames_is : frames ≡ fs ++ f ∷ []) (s : StoreView D) (same : IsSameStore s0 s) (part : Part)
      (climbs : Climbs layouts limit kit t whole i frames s part entries) where
    abbrev u : Table D
    u = climbs.leaves.after

    abbrev r : Rises s u kit.node whole frames part entries
    r = climbs.leaves.changed.1

    abbrev at : Popped s u kit.node fs f r.old whole r.before r.behind
    at = path_pop s u kit.node fs f r.old whole r.before r.behind (subst (λ (z : List Frame). LeadsDown s u kit.node z r.old whole r.before r.behind) frames_is r.path)

    parent_balanced : IsBalanced at.parent
    parent_balanced = path_balanced s u kit.node fs at.parent whole at.b at.a at.path balanced

    parent_low : height at.parent < 92
    parent_low = let high = path_high s u kit.node fs at.parent whole at.b at.a at.path in omega (arith, high, low)

    pub sibling_in : RootIn D layouts s f.other
    sibling_in = other_in layouts kit.node s u climbs.leaves.account climbs.leaves.holds f r.old at.parent at.bs at.as' at.last parent_balanced parent_low

    module _ (s1 : StoreView D) (same1 : IsSameStore s s1) (other : Part)
        (reads : (t : Table D) (a : Account) (ty : ℕ) (tree : Tree) → HoldsAccount layouts s t a → RootIs s t ty f.other tree → height tree < 2 ^ 31 → PartIs s1 t ty other tree × HoldsAccount layouts s1 t a)
        (o : Opened) (left_is : o.left ≡ (if f.goes_left then part else other)) (key_is : FitsSigned w64 f.key → o.key ≡ f.key) (value_is : FitsSigned w64 f.value → o.value ≡ f.value)
        (right_is : o.right ≡ (if f.goes_left then other else part)) where
      held1 : HoldsAccount layouts s1 u climbs.leaves.account
      held1 = (read layouts kit.node s u climbs.leaves.account climbs.leaves.holds f r.old at.parent at.bs at.as' at.last parent_balanced parent_low s1 same1 other reads part r.new r.is r.balanced r.close o left_is key_is value_is right_is).1

      pub can : IsNodeType s0.types kit.node → JoinableIn D layouts s1 kit.node o
      can of =
          can_join layouts kit.node s u climbs.leaves.account climbs.leaves.holds f r.old at.parent at.bs at.as' at.last parent_balanced parent_low s1 same1 other reads part r.new r.is r.balanced r.close o left_is key_is value_is right_is
          (nodes_later layouts s0 t a s1 u climbs.leaves.account kit.node holds held1 (keeps_then s0 t s u s1 u (grows_keep kit (3 * i) (7 * i) s0 t s u same climbs.leaves.changed.0) (table_keeps s u s1 same1)) of)

      module _ (s2 : StoreView D) (limits between limits' : Limits) (counts : CountsOn limits between) (stays : limits'.limit ≡ limit) where
        abbrev pub Joining : Result Part ListFault → Type 0
        Joining result = (t : Table D) (a : Account) (x y : Tree) (k v : ℤ) → HoldsAccount layouts s1 t a → IsJoinable s1 t kit.node o x k v y
            → EndsMakingNodes layouts s1.alloc_counter kit 3 7 t between limits' (λ s u part. IsJoined s u kit.node part x (k, v) y) result s2

        abbrev xl : Tree
        xl = left_of layouts kit.node s u climbs.leaves.account climbs.leaves.holds f r.old at.parent at.bs at.as' at.last parent_balanced parent_low s1 same1 other reads part r.new r.is r.balanced r.close o left_is key_is value_is right_is f.goes_left

        abbrev xr : Tree
        xr = right_of layouts kit.node s u climbs.leaves.account climbs.leaves.holds f r.old at.parent at.bs at.as' at.last parent_balanced parent_low s1 same1 other reads part r.new r.is r.balanced r.close o left_is key_is value_is right_is f.goes_left

        join_ends : (result : Result Part ListFault) → Joining result
            → EndsMakingNodes layouts s1.alloc_counter kit 3 7 u between limits' (λ s u part. IsJoined s u kit.node part xl (at.last.key, at.last.value) xr) result s2
        join_ends result joins = joins u climbs.leaves.account xl xr at.last.key at.last.value held1
            (joinable layouts kit.node s u climbs.leaves.account climbs.leaves.holds f r.old at.parent at.bs at.as' at.last parent_balanced parent_low s1 same1 other reads part r.new r.is r.balanced r.close o left_is key_is value_is right_is)

        pub climb_refused : (why : ListFault) → Joining (Err why) → EndsMakingNodes {A = Part} layouts s0.alloc_counter kit 276 644 t limits limits' Builds (Err why) s2
        climb_refused why joins =
            ends_within {A = Part} layouts s0.alloc_counter kit (3 * i + 3) (7 * i + 7) 276 644 t limits limits' s2 (omega (arith, below)) (omega (arith, below)) Builds (Err why)
            (refused_after {A = Part} {B = Part} layouts s0.alloc_counter s1.alloc_counter (same_then s0 s s1 same same1).counter kit (3 * i) (7 * i) 3 7 t u limits between limits' counts s2 (grows_under limits'.limit kit (3 * i) (7 * i) t u stays climbs.leaves.changed.0)
            (λ s u part. IsJoined s u kit.node part xl (at.last.key, at.last.value) xr) Builds why (join_ends (Err why) joins))

        pub climb_next : IsSameStore s1 s2 → (joined : Part) → Joining (Ok joined) → Climbs layouts limit kit t whole (i + 1) fs s2 joined entries
        climb_next same2 joined joins =
            let ends = join_ends (Ok joined) joins in
            let grows : MakesNodes limit kit 3 7 u ends.after = grows_under limit kit 3 7 u ends.after (sym stays) ends.changed.0 in
            let few = climbs.few in
            let count = ap length frames_is ∙ length-append fs (f ∷ []) in
            record {
              leaves = record {
                after = ends.after;
                account = ends.account;
                holds = ends.holds;
                changed = (
                  grows_within kit (3 * i + 3) (3 * (i + 1)) (7 * i + 7) (7 * (i + 1)) t ends.after (omega arith) (omega arith) (grows_then kit (3 * i) 3 (7 * i) 7 t u ends.after climbs.leaves.changed.0 grows),
                  lifted layouts kit.node s u climbs.leaves.account climbs.leaves.holds f r.old at.parent at.bs at.as' at.last parent_balanced parent_low s1 same1 other reads part r.new r.is r.balanced r.close o left_is key_is value_is right_is
                      s2 same2 limit kit ends.after grows joined fs whole at.b at.a r.before r.behind entries at.path at.before_is at.behind_is r.whole_is ends.changed.1,
                );
              };
              few = omega (arith, few, count);
            }
