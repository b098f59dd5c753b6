-- Parts of a tree whose entries are copied: what that leaves of the table, and how it ends.
use Rattle.std.proofs.Common.{inl, inr, ◌≡◌, ℕ, ◌+◌, ◌-◌, ◌*◌, ◌≤◌, ◌^◌, nat_lt, min, ℤ, Bool, true, false, cond, List, [], ◌∷◌, ◌++◌, length, Option, Some, None, Result, Ok, Err, sym, ap, ◌∙◌, refl, subst, arith, to_z, of_z, w64, length-append}
use Rattle.std.specs.FinMap as finite
use Rattle.std.proofs.lemmas.List.{append_assoc, append-nil}
use Rattle.gc_types.specs.declared.kind.Layouts.{Layouts}
use Rattle.gc_model.specs.Live.{roots_full}
use Rattle.gc_model.specs.Table.{Table, Scoped, leave}
use Rattle.gc_model.specs.Stores.{StoreView}
use Rattle.gc_model.specs.Accounts.{Account, HoldsAccount}
use Rattle.gc_values.specs.declared.root.GcRootIndex.{GcRootIndex}
use Rattle.gc_store.specs.Roots.{NamesReference}
use Rattle.gc_store.specs.Stores.{IsSameStore}
use Rattle.gc_model.specs.Values.{Reference}
use Rattle.gc_lists.specs.declared.fault.ListFault.{ListFault}
use Rattle.gc_lists.specs.declared.fault.ListFault.TheVariants as fault
use Rattle.gc_lists.specs.Frames.{ChangesOwned, Leaves, most_objects}
use Rattle.gc_lists.specs.Versions.{is_version_of}
use Rattle.gc_lists.proofs.Scopes.{full_lacks}
use Rattle.gc_maps.specs.declared.part.Node.{Node}
use Rattle.gc_maps.specs.Trees.{Tree, leaf, node, height, pairs}
use Rattle.gc_maps.specs.Maps.{IntMap, MapStands, StandsForMapOf}
use Rattle.gc_maps.specs.Parts.{RootIs, NodeIs, node_of}
use Rattle.gc_maps.specs.Ends.{Pushes, EndsReading}
use Rattle.gc_maps.specs.Copies.{VisitsNodes, LacksVisits, StopsForRoots, RootWithin, NodeWithin, EndsCopying, CopiedEntries, FailsToCopyEntries}
use Rattle.gc_maps.proofs.Naming.{Keeps, keeps_then, names_more, root_kept, held_table}
use Rattle.gc_lists.proofs.Scopes.{drops_more}
use Rattle.gc_maps.proofs.Growing.{pushes_none}
use Rattle.gc_maps.proofs.NodeReads.{not_null}
use Rattle.gc_maps.proofs.Lookups.{root_low}
use Rattle.gc_maps.proofs.Leaving.{take_front, map_in, map_root, map_search}
use Rattle.gc_maps.proofs.Steps.{passed}

empty_list : {X : Type 0} (xs : List X) → length xs ≤ 0 → xs ≡ []
empty_list [] few = refl
empty_list (x ∷ xs) few = absurd (omega (arith, few))

-- the count of scope ends grows by at most one
ended_more : (b : Bool) (drops ends before : ℕ) → drops ≤ before + ends → cond b (min (drops + 1) (2 ^ 64 - 1)) drops ≤ before + (ends + 1)
ended_more true drops ends before few = omega (arith, few)
ended_more false drops ends before few = omega (arith, few)

module _ {D : Type 0} where
  pub pushes_visit : (most : ℕ) (t u : Table D) → Pushes most t u → VisitsNodes most 0 t u
  pushes_visit most t u pushes =
      let same : u.drops ≡ t.drops = ap (λ (w : Table D). w.drops) pushes.rest in
      record {
        scoped = pushes.scoped;
        few = pushes.few;
        pushes = pushes.pushes;
        ended = omega (arith, same);
        onward = omega (arith, same);
        rest = pushes.rest ∙ (λ i. record t { scoped = t.scoped ++ pushes.scoped; pushes = t.pushes ++ pushes.pushes; drops = sym same i });
      }

  pub visits_none : (t : Table D) → VisitsNodes 0 0 t t
  visits_none t = pushes_visit 0 t t (pushes_none 0 t)

  pub visits_within : (m a n b : ℕ) (t u : Table D) → m ≤ n → a ≤ b → VisitsNodes m a t u → VisitsNodes n b t u
  visits_within m a n b t u below fewer visits =
      let few = visits.few in let ended = visits.ended in
      record { scoped = visits.scoped; few = omega (arith, few, below); pushes = visits.pushes; ended = omega (arith, ended, fewer); onward = visits.onward; rest = visits.rest }

  pub visits_then : (m a n b : ℕ) (t u v : Table D) → VisitsNodes m a t u → VisitsNodes n b u v → VisitsNodes (m + n) (a + b) t v
  visits_then m a n b t u v first second =
      let p = first.few in let q = second.few in let e = length-append first.scoped second.scoped in
      let x = first.ended in let y = second.ended in
      record {
        scoped = first.scoped ++ second.scoped;
        few = omega (arith, p, q, e);
        pushes = first.pushes ++ second.pushes;
        ended = omega (arith, x, y);
        onward = let i = first.onward in let j = second.onward in omega (arith, i, j);
        rest = second.rest ∙ ap (λ (w : Table D). record w { scoped = w.scoped ++ second.scoped; pushes = w.pushes ++ second.pushes; drops = v.drops }) first.rest
            ∙ (λ i. record t { scoped = append_assoc t.scoped first.scoped second.scoped i; pushes = append_assoc t.pushes first.pushes second.pushes i; drops = v.drops });
      }

  -- what handles name stays
  drops_keep : (s : StoreView D) (t : Table D) (drops : ℕ) → Keeps s t s (record t { drops = drops })
  drops_keep s t drops = record { handles = named; objects = λ p o e. e; types = λ ty d e. e }
    where
      named : (h : GcRootIndex) (r : Reference) → NamesReference s t h r → NamesReference s (record t { drops = drops }) h r
      named h r (inl n) = inl (record { serial = n.serial; names = record { push = n.names.push; pushed = n.names.pushed; is = n.names.is }; live = n.live })
      named h r (inr n) = inr (record { number = n.number; names = n.names; live = n.live })

  pub visits_keep : (most ends : ℕ) (s : StoreView D) (t : Table D) (s' : StoreView D) (u : Table D) → IsSameStore s s' → VisitsNodes most ends t u → Keeps s t s' u
  visits_keep most ends s t s' u same visits =
      let w : Table D = record t { drops = u.drops } in
      let is : u ≡ record w { objects = w.objects ++ []; scoped = w.scoped ++ visits.scoped; pushes = w.pushes ++ visits.pushes; made = w.made; pages = w.pages } =
      visits.rest ∙ (λ i. record t { objects = sym (append-nil t.objects) i; scoped = t.scoped ++ visits.scoped; pushes = t.pushes ++ visits.pushes; drops = u.drops }) in
      keeps_then s t s w s' u (drops_keep s t u.drops) (subst (λ (x : Table D). Keeps s w s' x) (sym is) (names_more s w s' same [] visits.scoped visits.pushes t.made t.pages))

  -- a scope is left
  pub visits_left : (most ends : ℕ) (t u : Table D) → VisitsNodes most ends t u → VisitsNodes 0 (ends + 1) t (leave (length t.scoped) u)
  visits_left most ends t u visits =
      let w : Table D = record t { scoped = t.scoped ++ visits.scoped; pushes = t.pushes ++ visits.pushes; drops = u.drops } in
      record {
        scoped = [];
        few = omega arith;
        pushes = visits.pushes;
        ended = ended_more (nat_lt (length t.scoped) (length u.scoped)) u.drops ends t.drops visits.ended;
        onward = let i = visits.onward in let j = drops_more (nat_lt (length t.scoped) (length u.scoped)) u.drops in omega (arith, i, j);
        rest = ap (leave (length t.scoped)) visits.rest
            ∙ (λ i. record t { scoped = (take_front t.scoped visits.scoped ∙ sym (append-nil t.scoped)) i; pushes = t.pushes ++ visits.pushes; drops = (leave (length t.scoped) w).drops })
            ∙ (λ i. record t { scoped = t.scoped ++ []; pushes = t.pushes ++ visits.pushes; drops = (leave (length t.scoped) (sym visits.rest i)).drops });
      }

  -- where no root that was pushed stands, nothing else has changed
  pub visits_change : (ends : ℕ) (t u : Table D) → VisitsNodes 0 ends t u → ChangesOwned t t.owned u
  visits_change ends t u visits = record {
    pushes = visits.pushes;
    counts = let same : u.owns ≡ t.owns = ap (λ (w : Table D). w.owns) visits.rest in record { drops = visits.onward; owns = omega (arith, same) };
    rest = visits.rest
        ∙ (λ i. record t { scoped = (ap (λ (xs : List Scoped). t.scoped ++ xs) (empty_list visits.scoped visits.few) ∙ append-nil t.scoped) i; pushes = t.pushes ++ visits.pushes; drops = u.drops })
        ∙ (λ i. record t { pushes = t.pushes ++ visits.pushes; drops = u.drops; owns = (sym visits.rest i).owns });
  }

  -- why a root is refused behind what was visited
  lacks_then : (m a roots ends : ℕ) (t u : Table D) → VisitsNodes m a t u → LacksVisits u roots ends → LacksVisits t (m + roots) (a + ends)
  lacks_then m a roots ends t u visits (inl few) =
      let greatest : u.max_scoped ≡ t.max_scoped = ap (λ (w : Table D). w.max_scoped) visits.rest in
      let count : length u.scoped ≡ length t.scoped + length visits.scoped = ap (λ (w : Table D). length w.scoped) visits.rest ∙ length-append t.scoped visits.scoped in
      let most = visits.few in
      inl (omega (arith, few, greatest, count, most))
  lacks_then m a roots ends t u visits (inr end) = let ended = visits.ended in inr (omega (arith, end, ended))

  lacks_within : (roots ends roots' ends' : ℕ) (t : Table D) → roots ≤ roots' → ends ≤ ends' → LacksVisits t roots ends → LacksVisits t roots' ends'
  lacks_within roots ends roots' ends' t below fewer (inl few) = inl (omega (arith, few, below))
  lacks_within roots ends roots' ends' t below fewer (inr end) = inr (omega (arith, end, fewer))

  lacks_full : (u : Table D) → roots_full u ≡ true → LacksVisits u 1 0
  lacks_full u full = elim (full_lacks u 1 (omega arith) full) [
    | inl less ↦ inl less
    | inr end ↦ inr (omega (arith, end))
  ]

-- so where steps stop
module _ {D : Type 0} (layouts : Layouts) where
  stops_then : (m a roots ends : ℕ) (t u : Table D) → VisitsNodes m a t u → StopsForRoots layouts roots ends u → StopsForRoots layouts (m + roots) (a + ends) t
  stops_then m a roots ends t u visits stops =
      record { inside = stops.inside; step = stops.step; account = stops.account; holds = stops.holds; visits = visits_then m a roots ends t u stops.step visits stops.visits; full = stops.full }

  stops_within : (roots ends roots' ends' : ℕ) (t : Table D) → roots ≤ roots' → ends ≤ ends' → StopsForRoots layouts roots ends t → StopsForRoots layouts roots' ends' t
  stops_within roots ends roots' ends' t below fewer stops =
      record { inside = stops.inside; step = stops.step; account = stops.account; holds = stops.holds; visits = visits_within roots ends roots' ends' t stops.step below fewer stops.visits; full = stops.full }

  stops_lack : (roots ends : ℕ) (t : Table D) → StopsForRoots layouts roots ends t → LacksVisits t (roots + 1) (ends + 0)
  stops_lack roots ends t stops = lacks_then roots ends 1 0 t stops.step stops.visits (lacks_full stops.step stops.full)

-- Steps behind those that came before, within what is allowed for all
module _ {D : Type 0} (layouts : Layouts) (t u : Table D) (new : StoreView D) (m a n roots ends n' roots' ends' : ℕ) (before : VisitsNodes m a t u) (within : m + n ≤ n') (room : m + roots ≤ roots') (fewer : a + ends ≤ ends') where
  leaves_after : Leaves layouts (VisitsNodes n ends u) new → Leaves layouts (VisitsNodes n' ends' t) new
  leaves_after leaves = record {
    after = leaves.after;
    account = leaves.account;
    holds = leaves.holds;
    changed = visits_within (m + n) (a + ends) n' ends' t leaves.after within fewer (visits_then m a n ends t u leaves.after before leaves.changed);
  }

  pub refused_after : (copied copied' : Type 0) (f : ListFault) → EndsCopying layouts n roots ends u copied (Err f) new → EndsCopying layouts n' roots' ends' t copied' (Err f) new
  refused_after copied copied' fault.WrongStore stopped = stopped
  refused_after copied copied' fault.RootsFull stopped =
      (stops_within layouts (m + roots) (a + ends) roots' ends' t room fewer (stops_then layouts m a roots ends t u before stopped.0), leaves_after stopped.1)
  refused_after copied copied' (fault.HeapOutOfMemory f) stopped = stopped
  refused_after copied copied' fault.Memory stopped = leaves_after stopped

  pub copied_after : (copied copied' : Type 0) → (copied → copied') → (result : Result (Unit {0}) ListFault) → EndsCopying layouts n roots ends u copied result new → EndsCopying layouts n' roots' ends' t copied' result new
  copied_after copied copied' on (Ok x) done = (leaves_after done.0, on done.1)
  copied_after copied copied' on (Err f) done = refused_after copied copied' f done

-- what a copy of a part and of a node says
abbrev pub CopiesPart : {D : Type 0} → Layouts → StoreView D → Option GcRootIndex → ℕ → List (ℤ × ℤ) → List (ℤ × ℤ) → Result (Unit {0}) ListFault → StoreView D → Type 0
CopiesPart {D} layouts s root depth old now result new = (t : Table D) (a : Account) (ty : ℕ) (tree : Tree) → HoldsAccount layouts s t a → RootIs s t ty root tree → height tree ≤ depth
    → EndsCopying layouts 0 (2 * depth) (length (pairs tree)) t (now ≡ old ++ pairs tree) result new

abbrev pub CopiesNode : {D : Type 0} → Layouts → StoreView D → GcRootIndex → ℕ → List (ℤ × ℤ) → List (ℤ × ℤ) → Result (Unit {0}) ListFault → StoreView D → Type 0
CopiesNode {D} layouts s h depth old now result new = (t : Table D) (a : Account) (ty : ℕ) (x : Tree) (k v : ℤ) (y : Tree) → HoldsAccount layouts s t a → RootIs s t ty (Some h) (node_of x k v y)
    → height (node_of x k v y) ≤ depth + 1
    → EndsCopying layouts 2 (2 * depth + 2) (length (pairs x) + length (pairs y)) t (now ≡ old ++ pairs (node_of x k v y)) result new

abbrev pub ReadsNode : {D : Type 0} → Layouts → StoreView D → GcRootIndex → Result Node ListFault → StoreView D → Type 0
ReadsNode {D} layouts s h result new = (t : Table D) (a : Account) (ty : ℕ) (x : Tree) (k v : ℤ) (y : Tree) → HoldsAccount layouts s t a → RootIs s t ty (Some h) (node_of x k v y)
    → EndsReading layouts 2 t (λ s' u read. NodeIs s' u ty read x k v y) result new

-- a part without a root has no entries
pub nothing_copied : {D : Type 0} (layouts : Layouts) (s : StoreView D) (root : Option GcRootIndex) (depth : ℕ) (old : List (ℤ × ℤ)) → root ≡ None → CopiesPart layouts s root depth old old (Ok tt) s
nothing_copied {D} layouts s root depth old none t a ty tree holds is low = by tree (subst (λ (r : Option GcRootIndex). RootIs s t ty r tree) none is)
  where
    by : (part : Tree) → RootIs s t ty None part → EndsCopying layouts 0 (2 * depth) (length (pairs part)) t (old ≡ old ++ pairs part) (Ok tt) s
    by leaf at = (record { after = t; account = a; holds = holds; changed = visits_none t }, sym (append-nil old))
    by (node x k v y) at = let named = at.is.is_node.named in let null_is = at.names in absurd (cc (named, null_is))

-- the root of a tree with nodes
module _ {D : Type 0} (layouts : Layouts) (s : StoreView D) (root : Option GcRootIndex) (h : GcRootIndex) (some : root ≡ Some h) where
  pub node_in : (most : ℕ) → RootWithin D layouts s root most → NodeWithin D layouts s h most
  node_in most within = by within.here.tree (subst (λ (r : Option GcRootIndex). RootIs s within.here.table within.here.ty r within.here.tree) some within.here.is) within.low
    where
      by : (part : Tree) → RootIs s within.here.table within.here.ty (Some h) part → height part ≤ most → NodeWithin D layouts s h most
      by leaf at low = absurd (not_null layouts s within.here.table within.here.holds h at.reference at.names at.is)
      by (node x k v y) at low = record { here = record { table = within.here.table; holds = within.here.holds; ty = within.here.ty; left = x; key = k; value = v; right = y; is = at }; low = low }

  -- isn't of height 0
  pub too_high : RootWithin D layouts s root 0 → ⊥
  too_high within = let is = node_in 0 within in let low = is.low in omega (arith, low)

  -- Its node was copied, and the scope is left.
  module _ (mid new : StoreView D) (scope : ℕ) (seen : (t : Table D) (a : Account) → HoldsAccount layouts s t a → scope ≡ length t.scoped)
      (left : (u : Table D) (b : Account) → HoldsAccount layouts mid u b → HoldsAccount layouts new (leave scope u) b) where
    leaves_left : (t : Table D) (a : Account) → HoldsAccount layouts s t a → (most ends ends' : ℕ) → ends + 1 ≡ ends' → Leaves layouts (VisitsNodes most ends t) mid → Leaves layouts (VisitsNodes 0 ends' t) new
    leaves_left t a holds most ends ends' count leaves = record {
      after = leave (length t.scoped) leaves.after;
      account = leaves.account;
      holds = subst (λ (n : ℕ). HoldsAccount layouts new (leave n leaves.after) leaves.account) (seen t a holds) (left leaves.after leaves.account leaves.holds);
      changed = subst (λ (n : ℕ). VisitsNodes 0 n t (leave (length t.scoped) leaves.after)) count (visits_left most ends t leaves.after leaves.changed);
    }

    ends_left : (t : Table D) (a : Account) → HoldsAccount layouts s t a → (roots roots' ends ends' : ℕ) → roots ≡ roots' → ends + 1 ≡ ends' → (copied : Type 0) (result : Result (Unit {0}) ListFault)
        → EndsCopying layouts 2 roots ends t copied result mid → EndsCopying layouts 0 roots' ends' t copied result new
    ends_left t a holds roots roots' ends ends' room count copied (Ok x) done = (leaves_left t a holds 2 ends ends' count done.0, done.1)
    ends_left t a holds roots roots' ends ends' room count copied (Err fault.WrongStore) done = done
    ends_left t a holds roots roots' ends ends' room count copied (Err fault.RootsFull) done =
        (stops_within layouts roots ends roots' ends' t (omega (arith, room)) (omega (arith, count)) done.0, leaves_left t a holds 2 ends ends' count done.1)
    ends_left t a holds roots roots' ends ends' room count copied (Err (fault.HeapOutOfMemory f)) done = done
    ends_left t a holds roots roots' ends ends' room count copied (Err fault.Memory) done = leaves_left t a holds 2 ends ends' count done

    pub part_copied : (depth below : ℕ) → below + 1 ≡ depth → (old now : List (ℤ × ℤ)) (result : Result (Unit {0}) ListFault) → CopiesNode layouts s h below old now result mid
        → CopiesPart layouts s root depth old now result new
    part_copied depth below is old now result copies t a ty tree holds at = by tree (subst (λ (r : Option GcRootIndex). RootIs s t ty r tree) some at)
      where
        by : (part : Tree) → RootIs s t ty (Some h) part → height part ≤ depth → EndsCopying layouts 0 (2 * depth) (length (pairs part)) t (now ≡ old ++ pairs part) result new
        by leaf here low = absurd (not_null layouts s t (held_table layouts s t a holds) h here.reference here.names here.is)
        by (node x k v y) here low =
            let count : length (pairs (node x k v y)) ≡ length (pairs x) + length ((k, v) ∷ pairs y) = length-append (pairs x) ((k, v) ∷ pairs y) in
            ends_left t a holds (2 * below + 2) (2 * depth) (length (pairs x) + length (pairs y)) (length (pairs (node x k v y))) (omega (arith, is)) (omega (arith, count)) (now ≡ old ++ pairs (node x k v y)) result
            (copies t a ty x k v y holds here (omega (arith, low, is)))

-- a node that can't be read
pub node_refused : {D : Type 0} (layouts : Layouts) (s : StoreView D) (h : GcRootIndex) (depth : ℕ) (old now : List (ℤ × ℤ)) (new : StoreView D) (f : ListFault) → ReadsNode layouts s h (Err f) new
    → CopiesNode layouts s h depth old now (Err f) new
node_refused {D} layouts s h depth old now new f reads t a ty x k v y holds is low = by f (reads t a ty x k v y holds is)
  where
    ends : ℕ
    ends = length (pairs x) + length (pairs y)

    left_as : (u : Table D) (b : Account) → HoldsAccount layouts new u b → Pushes 2 t u → Leaves layouts (VisitsNodes 2 ends t) new
    left_as u b held pushes = record { after = u; account = b; holds = held; changed = visits_within 2 0 2 ends t u (omega arith) (omega arith) (pushes_visit 2 t u pushes) }

    by : (g : ListFault) → EndsReading {A = Node} layouts 2 t (λ s' u read. NodeIs s' u ty read x k v y) (Err g) new
        → EndsCopying layouts 2 (2 * depth + 2) ends t (now ≡ old ++ pairs (node x k v y)) (Err g) new
    by fault.WrongStore stopped = stopped
    by fault.RootsFull stopped = (
      stops_within layouts 2 0 (2 * depth + 2) ends t (omega arith) (omega arith)
          (record { inside = new; step = stopped.after; account = stopped.account; holds = stopped.holds; visits = pushes_visit 2 t stopped.after stopped.changed.0; full = stopped.changed.1 }),
      left_as stopped.after stopped.account stopped.holds stopped.changed.0,
    )
    by (fault.HeapOutOfMemory g) stopped = stopped
    by fault.Memory stopped = left_as stopped.after stopped.account stopped.holds stopped.changed

-- A node was read.
module _ {D : Type 0} (layouts : Layouts) (s0 s1 s2 s3 : StoreView D) (h : GcRootIndex) (read : Node) (reads : ReadsNode layouts s0 h (Ok read) s1) (depth : ℕ) where
  module _ (t : Table D) (a : Account) (ty : ℕ) (x : Tree) (k v : ℤ) (y : Tree) (holds : HoldsAccount layouts s0 t a) (is : RootIs s0 t ty (Some h) (node_of x k v y)) where
    abbrev pub one : Leaves layouts (λ u. Pushes 2 t u × NodeIs s1 u ty read x k v y) s1
    one = reads t a ty x k v y holds is

    pub left_in : height (node_of x k v y) ≤ depth + 1 → RootWithin D layouts s1 read.left depth
    left_in low = record {
      here = record { table = one.after; holds = held_table layouts s1 one.after one.account one.holds; ty = ty; tree = x; is = one.changed.1.left };
      low = omega (arith, low);
    }

    visited : VisitsNodes 2 0 t one.after
    visited = pushes_visit 2 t one.after one.changed.0

    pub left_refused : (old mid now : List (ℤ × ℤ)) (f : ListFault) → CopiesPart layouts s1 read.left depth old mid (Err f) s2 → height (node_of x k v y) ≤ depth + 1
        → EndsCopying layouts 2 (2 * depth + 2) (length (pairs x) + length (pairs y)) t (now ≡ old ++ pairs (node_of x k v y)) (Err f) s2
    left_refused old mid now f copies low =
        refused_after layouts t one.after s2 2 0 0 (2 * depth) (length (pairs x)) 2 (2 * depth + 2) (length (pairs x) + length (pairs y)) visited (omega arith) (omega arith) (omega arith)
        (mid ≡ old ++ pairs x) (now ≡ old ++ pairs (node_of x k v y)) f (copies one.after one.account ty x one.holds one.changed.1.left (omega (arith, low)))

    -- and its left child copied
    module _ (same : IsSameStore s1 s2) (old mid : List (ℤ × ℤ)) (copies : CopiesPart layouts s1 read.left depth old mid (Ok tt) s2) (low : height (node_of x k v y) ≤ depth + 1) where
      abbrev pub two : Leaves layouts (VisitsNodes 0 (length (pairs x)) one.after) s2 × (mid ≡ old ++ pairs x)
      two = copies one.after one.account ty x one.holds one.changed.1.left (omega (arith, low))

      right_is : RootIs s2 two.0.after ty read.right y
      right_is = root_kept s1 one.after s2 two.0.after (visits_keep 0 (length (pairs x)) s1 one.after s2 two.0.after same two.0.changed) ty read.right y one.changed.1.right

      pub right_in : RootWithin D layouts s2 read.right depth
      right_in = record {
        here = record { table = two.0.after; holds = held_table layouts s2 two.0.after two.0.account two.0.holds; ty = ty; tree = y; is = right_is };
        low = omega (arith, low);
      }

      visited_both : VisitsNodes (2 + 0) (0 + length (pairs x)) t two.0.after
      visited_both = visits_then 2 0 0 (length (pairs x)) t one.after two.0.after visited two.0.changed

      pub no_room : (now : List (ℤ × ℤ)) → EndsCopying layouts 2 (2 * depth + 2) (length (pairs x) + length (pairs y)) t (now ≡ old ++ pairs (node_of x k v y)) (Err fault.Memory) s2
      no_room now = record {
        after = two.0.after;
        account = two.0.account;
        holds = two.0.holds;
        changed = visits_within (2 + 0) (0 + length (pairs x)) 2 (length (pairs x) + length (pairs y)) t two.0.after (omega arith) (omega arith) visited_both;
      }

      all_copied : (pushed now : List (ℤ × ℤ)) → pushed ≡ mid ++ (to_z w64 (of_z w64 read.key), to_z w64 (of_z w64 read.value)) ∷ [] → now ≡ pushed ++ pairs y → now ≡ old ++ pairs (node_of x k v y)
      all_copied pushed now push is =
          let at = one.changed.1 in
          is ∙ ap (λ (es : List (ℤ × ℤ)). es ++ pairs y) (push ∙ ap (λ (es : List (ℤ × ℤ)). es ++ (to_z w64 (of_z w64 read.key), to_z w64 (of_z w64 read.value)) ∷ []) two.1)
          ∙ (λ i. ((old ++ pairs x) ++ (passed read.key k at.key_fits at.key_is i, passed read.value v at.value_fits at.value_is i) ∷ []) ++ pairs y)
          ∙ append_assoc (old ++ pairs x) ((k, v) ∷ []) (pairs y) ∙ append_assoc old (pairs x) ((k, v) ∷ pairs y)

      pub right_copied : (pushed now : List (ℤ × ℤ)) → pushed ≡ mid ++ (to_z w64 (of_z w64 read.key), to_z w64 (of_z w64 read.value)) ∷ [] → (result : Result (Unit {0}) ListFault) → CopiesPart layouts s2 read.right depth pushed now result s3
          → EndsCopying layouts 2 (2 * depth + 2) (length (pairs x) + length (pairs y)) t (now ≡ old ++ pairs (node_of x k v y)) result s3
      right_copied pushed now push result right =
          copied_after layouts t two.0.after s3 (2 + 0) (0 + length (pairs x)) 0 (2 * depth) (length (pairs y)) 2 (2 * depth + 2) (length (pairs x) + length (pairs y)) visited_both
          (omega arith) (omega arith) (omega arith) (now ≡ pushed ++ pairs y) (now ≡ old ++ pairs (node_of x k v y)) (all_copied pushed now push) result
          (right two.0.after two.0.account ty y two.0.holds right_is (omega (arith, low)))

-- The whole map was copied.
module _ {D : Type 0} (layouts : Layouts) (s : StoreView D) (version : Option GcRootIndex) where
  pub map_root_in : MapStands D layouts s version → is_version_of s version ≡ true → RootWithin D layouts s version 92
  map_root_in stands own =
      let within = map_in layouts s version stands own in
      let low = root_low s within.table within.ty version within.tree within.is within.search in
      record { here = record { table = within.table; holds = within.holds; ty = within.ty; tree = within.tree; is = within.is }; low = omega (arith, low) }

  module _ (old now : List (ℤ × ℤ)) (empty : old ≡ []) (new : StoreView D) (t : Table D) (a : Account) (ty : ℕ) (m : IntMap) (holds : HoldsAccount layouts s t a) (stands : StandsForMapOf s t version ty m) where
    ended : (result : Result (Unit {0}) ListFault) → CopiesPart layouts s version 92 old now result new → EndsCopying layouts 0 184 (length (pairs stands.is.tree)) t (now ≡ old ++ pairs stands.is.tree) result new
    ended result copies =
        let is = map_root s t version ty m stands in
        let low = root_low s t ty version stands.is.tree is (map_search s t version ty m stands) in
        copies t a ty stands.is.tree holds is (omega (arith, low))

    roots_changed : Leaves layouts (VisitsNodes 0 (length (pairs stands.is.tree)) t) new → Leaves layouts (ChangesOwned t t.owned) new
    roots_changed leaves = record { after = leaves.after; account = leaves.account; holds = leaves.holds; changed = visits_change (length (pairs stands.is.tree)) t leaves.after leaves.changed }

    pub map_copied : CopiesPart layouts s version 92 old now (Ok tt) new → CopiedEntries layouts m t now new
    map_copied copies =
        let done = ended (Ok tt) copies in
        (done.1 ∙ ap (λ (es : List (ℤ × ℤ)). es ++ pairs stands.is.tree) empty ∙ sym stands.is.entries, roots_changed done.0)

    pub map_refused : (f : ListFault) → CopiesPart layouts s version 92 old now (Err f) new → FailsToCopyEntries layouts m t f new
    map_refused f copies = by f (ended (Err f) copies)
      where
        count : length (pairs stands.is.tree) ≡ finite.len m
        count = ap length (sym stands.is.entries) ∙ sym (finite.len-entries m)

        by : (g : ListFault) → EndsCopying layouts 0 184 (length (pairs stands.is.tree)) t (now ≡ old ++ pairs stands.is.tree) (Err g) new → FailsToCopyEntries layouts m t g new
        by fault.WrongStore stopped = stopped
        by fault.RootsFull stopped = (
          (
            stops_within layouts 184 (length (pairs stands.is.tree)) most_objects (finite.len m) t (omega arith) (omega (arith, count)) stopped.0,
            lacks_within (184 + 1) (length (pairs stands.is.tree) + 0) most_objects (finite.len m) t (omega arith) (omega (arith, count)) (stops_lack layouts 184 (length (pairs stands.is.tree)) t stopped.0),
          ),
          roots_changed stopped.1,
        )
        by (fault.HeapOutOfMemory g) stopped = stopped
        by fault.Memory stopped = roots_changed stopped
