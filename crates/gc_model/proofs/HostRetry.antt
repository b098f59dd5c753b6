-- An allocation with a host value that was put in before is one without it: until there is an object for the value, none has its id.
use Rattle.std.proofs.Common.{◌≡◌, ◌≢◌, ℕ, ◌*◌, inl, inr, Bool, true, false, List, Some, None, is_some, sym, ap, ◌∙◌, subst, arith}
use Rattle.std.specs.Ordering.{nat_cmp}
use Rattle.std.specs.FinMap.{FinMap, get, insert, remove, same_map, nat_cmp-IsAntisymmetric, gets}
use Rattle.std.specs.Cmp.{nat_cmp_total}
use Rattle.std.proofs.lemmas.Bool.{cases_eq}
use Rattle.std.proofs.lemmas.Grind.{common_steps}
use Rattle.gc_types.specs.declared.kind.Layouts.{Layouts}
use Rattle.gc_types.specs.declared.kind.Layouts.TheVariants.{Null, Counting, Copying}
use Rattle.gc_types.specs.Declarations.{Declaration}
use Rattle.gc_roots.specs.Roots.{Root}
use Rattle.gc_view.specs.Pages.{page}
use Rattle.gc_view.specs.Sizes.{external_size}
use Rattle.gc_view.specs.Heaps.{HeapView, HeapObject}
use Rattle.gc_view.specs.Reach.{by_start, by_step}
use Rattle.gc_heap.specs.Content.{IsHeap}
use Rattle.gc_heap.specs.Extents.{host_id}
use Rattle.gc_heap.specs.Objects.{external}
use Rattle.gc_heap.specs.Collection.{ReachedPlace, Kept, KindCollected, IsExternal, IsPartOf, has_host}
use Rattle.gc_heap.proofs.AgainLemmas.{origin, external_origin}
use Rattle.gc_owner.specs.RootColumns.{roots_of}
use Rattle.gc_owner.specs.Tracing.{start_from}
use Rattle.gc_owner.specs.Owners.{OwnerView, CanBegin, Trims, Collects, CollectsAll, start_of}
use Rattle.gc_owner.specs.Growing.{OwnerState, state_of, CollectsState, Readies, GrowsReadied, asked, pages_of, heap_after, owner_rules}
use Rattle.gc_owner.specs.Retry.{HasFoundRoom, Retry, at_once, after_collection, after_both, after_growth, after_refusal, Growing, Paused, at_first, in_collection, in_both, in_growth, in_refusal}
use Rattle.gc_owner.specs.Makes.{AddsScoped, LacksSpace}
use Rattle.gc_owner.specs.HostValues.{with_host, PlacesValue, TakesBack}
use Rattle.gc_owner.proofs.Begins.{memory_heap}
use Rattle.gc_owner.proofs.GrowthLemmas.{grown_kept}
use Rattle.gc_owner.proofs.HostLemmas.{more_kept, less_kept}
use Rattle.gc_model.specs.HostMaking.{MadeHost}
use Rattle.gc_model.proofs.CollectedHolds.{part_value}

-- the owner without the value under an id
abbrev less : {D : Type 0} → ℕ → OwnerView D → OwnerView D
less id v = record v { hosts = remove v.hosts id }

abbrev less_state : {D : Type 0} → ℕ → OwnerState D → OwnerState D
less_state id s = state_of (less id s.owner) s.limits

-- Which values a host table has doesn't matter to what a collection keeps

reached_with : (layouts : Layouts) (types : List Declaration) (h : HeapView) (roots : List Root) (hosts hosts' : ℕ → Bool) (place : ℕ) → ReachedPlace layouts (start_from types h roots hosts) place → ReachedPlace layouts (start_from types h roots hosts') place
reached_with layouts types h roots hosts hosts' _ (by_start n) = by_start (record { held = n.held; root = n.root; among = n.among; names = n.names })
reached_with layouts types h roots hosts hosts' _ (by_step {y = from} reached n) =
    by_step (reached_with layouts types h roots hosts hosts' from reached) (record { held = n.held; object = n.object; there = n.there; among = n.among })

kept_with : (layouts : Layouts) (types : List Declaration) (h : HeapView) (roots : List Root) (hosts hosts' : ℕ → Bool) (place : ℕ) → Kept layouts (start_from types h roots hosts) place → Kept layouts (start_from types h roots hosts') place
kept_with Null types h roots hosts hosts' place kept = kept
kept_with Counting types h roots hosts hosts' place kept = reached_with Counting types h roots hosts hosts' place kept
kept_with Copying types h roots hosts hosts' place kept = reached_with Copying types h roots hosts hosts' place kept

kind_with : (layouts : Layouts) (types : List Declaration) (h : HeapView) (roots : List Root) (hosts hosts' : ℕ → Bool) (to : ℕ → ℕ) (h' : HeapView) (roots' : List Root)
    → KindCollected layouts (start_from types h roots hosts) to h' roots' → KindCollected layouts (start_from types h roots hosts') to h' roots'
kind_with Null types h roots hosts hosts' to h' roots' is = is
kind_with Counting types h roots hosts hosts' to h' roots' is = ((λ place kept. is.0 place (reached_with Counting types h roots hosts' hosts place kept)), is.1)
kind_with Copying types h roots hosts hosts' to h' roots' is = is

-- The host table with and without a value

module _ {D : Type 0} (id : ℕ) where
  less_gone : (m : FinMap nat_cmp D) → has_host (remove m id) id ≡ false
  less_gone m = grind (arith, common_steps, gets)

  less_other : (m : FinMap nat_cmp D) (q : ℕ) → q ≢ id → get (remove m id) q ≡ get m q
  less_other m q other = grind (arith, common_steps, gets)

  less_false : (m : FinMap nat_cmp D) (q : ℕ) → has_host m q ≡ false → has_host (remove m id) q ≡ false
  less_false m q none = elim (cases_eq q id) [
    | inl same ↦ ap (has_host (remove m id)) same ∙ less_gone m
    | inr other ↦ ap is_some (less_other m q other) ∙ none
  ]

  less_same : (m n : FinMap nat_cmp D) (q : ℕ) → has_host m q ≡ has_host n q → has_host (remove m id) q ≡ has_host (remove n id) q
  less_same m n q same = elim (cases_eq q id) [
    | inl at ↦ ap (has_host (remove m id)) at ∙ less_gone m ∙ sym (ap (has_host (remove n id)) at ∙ less_gone n)
    | inr other ↦ ap is_some (less_other m q other) ∙ same ∙ sym (ap is_some (less_other n q other))
  ]

  less_part : (m n : FinMap nat_cmp D) → IsPartOf m n → IsPartOf (remove m id) (remove n id)
  less_part m n within q value found = elim (cases_eq q id) [
    | inl at ↦
        let there : has_host (remove m id) id ≡ true = ap (has_host (remove m id)) (sym at) ∙ ap is_some found in
        absurd (cc (sym there ∙ less_gone m))
    | inr other ↦ less_other n q other ∙ within q value (sym (less_other m q other) ∙ found)
  ]

  put_less : (m : FinMap nat_cmp D) (value : D) → get m id ≡ None → remove (insert m id value) id ≡ m
  put_less m value fresh = same_map nat_cmp_total nat_cmp-IsAntisymmetric (remove (insert m id value) id) m (λ q. at q)
    where
      at : (q : ℕ) → get (remove (insert m id value) id) q ≡ get m q
      at q = elim (cases_eq q id) [
        | inl same ↦ grind (arith, common_steps, gets)
        | inr other ↦ grind (arith, common_steps, gets)
      ]

  less_put : (m : FinMap nat_cmp D) (value : D) → get m id ≡ Some value → m ≡ insert (remove m id) id value
  less_put m value there = sym (same_map nat_cmp_total nat_cmp-IsAntisymmetric (insert (remove m id) id value) m (λ q. at q))
    where
      at : (q : ℕ) → get (insert (remove m id) id value) q ≡ get m q
      at q = elim (cases_eq q id) [
        | inl same ↦ grind (arith, common_steps, gets)
        | inr other ↦ grind (arith, common_steps, gets)
      ]

-- A value stands under an id that no object has.
record HasSpare {D : Type 0} (layouts : Layouts) (id : ℕ) (value : D) (v : OwnerView D) : Type 0 where
  heap : IsHeap layouts v.heap
  can : CanBegin layouts v
  unused : (place : ℕ) (o : HeapObject) → IsExternal v.heap place o → host_id o ≡ id → ⊥
  value_is : get v.hosts id ≡ Some value

module _ {D : Type 0} (layouts : Layouts) (id : ℕ) (value : D) where
  -- once it was put in
  put_spare : (v : OwnerView D) → IsHeap layouts v.heap → CanBegin layouts v → get v.hosts id ≡ None → HasSpare layouts id value (with_host id value v)
  put_spare v heap can fresh = record {
    heap = heap;
    can = more_kept layouts v.types.declarations v.heap (roots_of v.roots) v.hosts id value can;
    unused = λ place o is same.
        let has : has_host v.hosts id ≡ true = ap (has_host v.hosts) (sym same) ∙ can.collects.hosts place o (record { held = is.held; kind = is.kind }) in
        let none : has_host v.hosts id ≡ false = ap is_some fresh in
        absurd (cc (sym has ∙ none));
    value_is = there v.hosts;
  }
    where
      there : (m : FinMap nat_cmp D) → get (insert m id value) id ≡ Some value
      there m = grind (arith, common_steps, gets)

  -- after a trim
  trimmed_spare : (old new : OwnerView D) → HasSpare layouts id value old → Trims layouts old new → HasSpare layouts id value new
  trimmed_spare old new has trims = record {
    heap = trims.is_heap;
    can = trims.can;
    unused = λ place o is same. has.unused place o (record { held = ap (λ (m : FinMap nat_cmp HeapObject). get m place) (sym trims.changes.held.content) ∙ is.held; kind = is.kind }) same;
    value_is = ap (λ (v : OwnerView D). get v.hosts id) trims.changes.rest ∙ has.value_is;
  }

  -- after a run from what that left
  run_spare : (old new : OwnerView D) → HasSpare layouts id value old → CollectsAll layouts old new → HasSpare layouts id value new
  run_spare old new has collects = record {
    heap = collects.is_heap;
    can = collects.can;
    unused = λ place o is same.
        let from = origin layouts (start_of old) new.heap (roots_of new.roots) (has_host new.hosts) (memory_heap layouts old.heap has.heap) has.can.collects collects.collected place o is.held in
        let was = external_origin layouts (start_of old) new.heap (roots_of new.roots) (has_host new.hosts) (memory_heap layouts old.heap has.heap) has.can.collects collects.collected place o from is in
        has.unused from.place from.object (record { held = was.0.held; kind = was.0.kind }) (sym was.1 ∙ same);
    value_is = part_value new.hosts old.hosts id value collects.values has.value_is
        (collects.collected.hosts_kept id (λ place o is same. absurd (has.unused place o (record { held = is.held; kind = is.kind }) same)) ∙ ap is_some has.value_is);
  }

  -- after a collection
  collected_spare : (old new : OwnerView D) → HasSpare layouts id value old → Collects layouts old new → HasSpare layouts id value new
  collected_spare old new has collects = run_spare collects.trimmed new (trimmed_spare old collects.trimmed has collects.trims) collects.runs

  -- a trim with the value is one without it
  trimmed_less : (old new : OwnerView D) → HasSpare layouts id value old → Trims layouts old new → Trims layouts (less id old) (less id new)
  trimmed_less old new has trims = record {
    changes = record { held = trims.changes.held; rest = ap (less id) trims.changes.rest };
    is_heap = trims.is_heap;
    can = less_kept layouts new.types.declarations new.heap (roots_of new.roots) new.hosts id (trimmed_spare old new has trims).unused trims.can;
  }

  -- so is a run
  run_less : (old new : OwnerView D) → HasSpare layouts id value old → CollectsAll layouts old new → CollectsAll layouts (less id old) (less id new)
  run_less old new has collects =
      let done = collects.collected in
      let types : List Declaration = old.types.declarations in
      let forth = kept_with layouts types old.heap (roots_of old.roots) (has_host old.hosts) (has_host (remove old.hosts id)) in
      let back = kept_with layouts types old.heap (roots_of old.roots) (has_host (remove old.hosts id)) (has_host old.hosts) in
      let after = run_spare old new has collects in
      record {
        collected = record {
          to = done.to;
          injective = λ p q is_p is_q. done.injective p q (back p is_p) (back q is_q);
          kept = λ place o kept. done.kept place o (back place kept);
          only = λ place held. let from = done.only place held in (from.0, (forth from.0 from.1.0, from.1.1));
          roots_moved = done.roots_moved;
          hosts_lost = λ place o is dropped.
              less_false id new.hosts (host_id o) (done.hosts_lost place o (record { held = is.held; kind = is.kind }) (λ kept. dropped (forth place kept)));
          hosts_kept = λ q all.
              less_same id new.hosts old.hosts q (done.hosts_kept q (λ place o is same. back place (all place o (record { held = is.held; kind = is.kind }) same)));
          attached = done.attached;
          capacity = done.capacity;
          scopes = done.scopes;
          by_kind = kind_with layouts types old.heap (roots_of old.roots) (has_host old.hosts) (has_host (remove old.hosts id)) done.to new.heap (roots_of new.roots) done.by_kind;
        };
        roots = collects.roots;
        values = less_part id new.hosts old.hosts collects.values;
        is_heap = collects.is_heap;
        can = less_kept layouts new.types.declarations new.heap (roots_of new.roots) new.hosts id after.unused collects.can;
        rest = ap (less id) collects.rest;
      }

  -- and so is a collection
  collected_less : (old new : OwnerView D) → HasSpare layouts id value old → Collects layouts old new → Collects layouts (less id old) (less id new)
  collected_less old new has collects = record {
    trimmed = less id collects.trimmed;
    trims = trimmed_less old collects.trimmed has collects.trims;
    runs = run_less collects.trimmed new (trimmed_spare old collects.trimmed has collects.trims) collects.runs;
  }

  state_less : (s e : OwnerState D) → HasSpare layouts id value s.owner → CollectsState layouts s e → CollectsState layouts (less_state id s) (less_state id e)
  state_less s e has ran = (collected_less s.owner e.owner has ran.0, ran.1)

  readied_less : (s e : OwnerState D) → HasSpare layouts id value s.owner → Readies layouts s e → Readies layouts (less_state id s) (less_state id e)
  readied_less s e has (inl (upper, ran)) = inl (upper, state_less s e has ran)
  readied_less s e has (inr (lower, same)) = inr (lower, ap (less_state id) same)

  readied_spare : (s e : OwnerState D) → HasSpare layouts id value s.owner → Readies layouts s e → HasSpare layouts id value e.owner
  readied_spare s e has (inl (upper, ran)) = collected_spare s.owner e.owner has ran.0
  readied_spare s e has (inr (lower, same)) = subst (λ (x : OwnerState D). HasSpare layouts id value x.owner) (sym same) has

  -- after a growth, or its refusal
  heap_spare : (granted : Bool) (bytes : ℕ) (v : OwnerView D) → HasSpare layouts id value v → IsHeap layouts (heap_after layouts granted bytes v.heap) → HasSpare layouts id value (record v { heap = heap_after layouts granted bytes v.heap })
  heap_spare true bytes v has heap = record {
    heap = heap;
    can = grown_kept layouts v.types.declarations v.heap (page * asked (pages_of v.heap) bytes) (roots_of v.roots) (has_host v.hosts) has.can;
    unused = λ place o is same. has.unused place o (record { held = is.held; kind = is.kind }) same;
    value_is = has.value_is;
  }
  heap_spare false bytes v has heap = has

  grown_less : (bytes : ℕ) (s : OwnerState D) (granted : Bool) (e : OwnerState D) → HasSpare layouts id value s.owner → GrowsReadied layouts bytes s granted e → GrowsReadied layouts bytes (less_state id s) granted (less_state id e)
  grown_less bytes s granted e has grows = record {
    ready = less_state id grows.ready;
    readied = readied_less s grows.ready has grows.readied;
    asks = grows.asks;
    after = ap (less_state id) grows.after;
    is_heap = grows.is_heap;
  }

  grown_spare : (bytes : ℕ) (s : OwnerState D) (granted : Bool) (e : OwnerState D) → HasSpare layouts id value s.owner → GrowsReadied layouts bytes s granted e → HasSpare layouts id value e.owner
  grown_spare bytes s granted e has grows =
      subst (λ (x : OwnerState D). HasSpare layouts id value x.owner) (sym grows.after)
      (heap_spare granted bytes grows.ready.owner (readied_spare s grows.ready has grows.readied) (subst (λ (x : OwnerState D). IsHeap layouts x.owner.heap) grows.after grows.is_heap))

  -- The rule of retry

  module _ (size : ℕ) where
    ends_less : (ok : Bool) (e : OwnerState D) → HasFoundRoom (owner_rules layouts size) ok e → HasFoundRoom (owner_rules layouts size) ok (less_state id e)
    ends_less true e ends = ends
    ends_less false e ends = ends

    retry_less : (s : OwnerState D) (ok : Bool) (e : OwnerState D) → HasSpare layouts id value s.owner → Retry (owner_rules layouts size) s ok e → Retry (owner_rules layouts size) (less_state id s) ok (less_state id e)
    retry_less s _ _ has (at_once room) = at_once room
    retry_less s _ e has (after_collection full first ran room) = after_collection full first (state_less s e has ran) room
    retry_less s ok e has (after_both {m = m} {granted = granted} full first ran still grew goes end) =
        after_both full first (state_less s m has ran) still (grown_less _ m granted e (collected_spare s.owner m.owner has ran.0) grew) goes (ends_less ok e end)
    retry_less s _ e has (after_growth full first grew room) = after_growth full first (grown_less _ s true e has grew) room
    retry_less s ok e has (after_refusal {m = m} full first grew ran end) =
        after_refusal full first (grown_less _ s false m has grew) (state_less m e (grown_spare _ s false m has grew) ran) (ends_less ok e end)

    retry_spare : (s : OwnerState D) (ok : Bool) (e : OwnerState D) → HasSpare layouts id value s.owner → Retry (owner_rules layouts size) s ok e → HasSpare layouts id value e.owner
    retry_spare s _ _ has (at_once room) = has
    retry_spare s _ e has (after_collection full first ran room) = collected_spare s.owner e.owner has ran.0
    retry_spare s ok e has (after_both {m = m} {granted = granted} full first ran still grew goes end) = grown_spare _ m granted e (collected_spare s.owner m.owner has ran.0) grew
    retry_spare s _ e has (after_growth full first grew room) = grown_spare _ s true e has grew
    retry_spare s ok e has (after_refusal {m = m} full first grew ran end) = collected_spare m.owner e.owner (grown_spare _ s false m has grew) ran.0

    growing_less : (s e : OwnerState D) → HasSpare layouts id value s.owner → Growing (owner_rules layouts size) s e → Growing (owner_rules layouts size) (less_state id s) (less_state id e)
    growing_less s e has (inl readied) = inl (readied_less s e has readied)
    growing_less s e has (inr (granted, grew)) = inr (granted, grown_less _ s granted e has grew)

    paused_less : (s e : OwnerState D) → HasSpare layouts id value s.owner → Paused (owner_rules layouts size) s e → Paused (owner_rules layouts size) (less_state id s) (less_state id e)
    paused_less s _ has at_first = at_first
    paused_less s e has (in_collection full first ran) = in_collection full first (state_less s e has ran)
    paused_less s e has (in_both {m = m} full first ran still growing) = in_both full first (state_less s m has ran) still (growing_less m e (collected_spare s.owner m.owner has ran.0) growing)
    paused_less s e has (in_growth full first growing) = in_growth full first (growing_less s e has growing)
    paused_less s e has (in_refusal {m = m} full first grew ran) = in_refusal full first (grown_less _ s false m has grew) (state_less m e (grown_spare _ s false m has grew) ran)

module _ {D : Type 0} (layouts : Layouts) (value : D) (s : OwnerState D) (heap : IsHeap layouts s.owner.heap) (can : CanBegin layouts s.owner) where
  abbrev put : ℕ → OwnerState D
  put id = state_of (with_host id value s.owner) s.limits

  put_back : (id : ℕ) → get s.owner.hosts id ≡ None → less_state id (put id) ≡ s
  put_back id fresh = ap (λ (m : FinMap nat_cmp D). state_of (record s.owner { hosts = m }) s.limits) (put_less id s.owner.hosts value fresh)

  pub host_made : (e : OwnerState D) (index : ℕ) → PlacesValue layouts value s e index → MadeHost layouts value s e index
  host_made e index places =
      let id : ℕ = places.id in
      let mid : OwnerState D = places.allocates.mid in
      let has = put_spare layouts id value s.owner heap can places.fresh in
      let there = (retry_spare layouts id value (external_size layouts) (put id) true mid has places.allocates.retried).value_is in
      record {
        id = id;
        small = places.small;
        mid = less_state id mid;
        retried = subst (λ (x : OwnerState D). Retry (owner_rules layouts (external_size layouts)) x true (less_state id mid)) (put_back id places.fresh)
            (retry_less layouts id value (external_size layouts) (put id) true mid has places.allocates.retried);
        fresh = gone mid.owner.hosts id;
        adds = subst (λ (m : FinMap nat_cmp D). AddsScoped layouts (record mid.owner { hosts = m }) e.owner (external id) (external_size layouts) index) (less_put id mid.owner.hosts value there) places.allocates.adds;
        limits = places.allocates.limits;
      }
    where
      gone : (m : FinMap nat_cmp D) (id : ℕ) → get (remove m id) id ≡ None
      gone m id = grind (arith, common_steps, gets)

  module _ (e : OwnerState D) where
    -- the end without the value
    taken_less : (Ended : OwnerState D → OwnerState D → Type 0) (taken : TakesBack value s e Ended) → less_state taken.id taken.end ≡ e
    taken_less Ended taken =
        ap (less_state taken.id) taken.taken
        ∙ ap (λ (m : FinMap nat_cmp D). state_of (record e.owner { hosts = m }) e.limits) (put_less taken.id e.owner.hosts value taken.gone)

    -- a refusal with a value that is taken back is one without it
    pub taken_lacks : (need : ℕ) → TakesBack value s e (λ a b. LacksSpace layouts (external_size layouts) a b need) → LacksSpace layouts (external_size layouts) s e need
    taken_lacks need taken =
        let has = put_spare layouts taken.id value s.owner heap can taken.fresh in
        record {
          retried = subst (λ (x : OwnerState D). Retry (owner_rules layouts (external_size layouts)) x false e) (put_back taken.id taken.fresh)
              (subst (λ (x : OwnerState D). Retry (owner_rules layouts (external_size layouts)) (less_state taken.id (put taken.id)) false x) (taken_less (λ a b. LacksSpace layouts (external_size layouts) a b need) taken)
              (retry_less layouts taken.id value (external_size layouts) (put taken.id) false taken.end has taken.ended.retried));
          asked = taken.ended.asked;
        }

    -- and so is want of memory
    pub taken_pauses : TakesBack value s e (Paused (owner_rules layouts (external_size layouts))) → Paused (owner_rules layouts (external_size layouts)) s e
    taken_pauses taken =
        let has = put_spare layouts taken.id value s.owner heap can taken.fresh in
        subst (λ (x : OwnerState D). Paused (owner_rules layouts (external_size layouts)) x e) (put_back taken.id taken.fresh)
        (subst (λ (x : OwnerState D). Paused (owner_rules layouts (external_size layouts)) (less_state taken.id (put taken.id)) x) (taken_less (Paused (owner_rules layouts (external_size layouts))) taken)
        (paused_less layouts taken.id value (external_size layouts) (put taken.id) taken.end has taken.ended))
