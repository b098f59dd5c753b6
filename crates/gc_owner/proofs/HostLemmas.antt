-- A host value and its external object: the value is put under a new id, and taken back where there is no room.
use Rattle.std.proofs.Common.{◌≡◌, ℕ, ◌+◌, ◌^◌, ◌<◌, inl, inr, Bool, true, false, List, length, Option, Some, None, is_some, Result, Ok, Err, refl, sym, ap, ◌∙◌, subst, arith}
use Rattle.std.specs.Prelude.{◌↔◌, is_none}
use Rattle.std.specs.FinMap.{FinMap, get, len, insert, remove, same_map, nat_cmp-IsAntisymmetric, gets}
use Rattle.std.specs.Cmp.{nat_cmp_total}
use Rattle.std.specs.Ordering.{nat_cmp}
use Rattle.std.proofs.lemmas.Bool.{cases_eq}
use Rattle.std.proofs.lemmas.Grind.{common_steps}
use Rattle.std.proofs.lemmas.Option.{same_Some}
use Rattle.gc_types.specs.declared.kind.Layouts.{Layouts}
use Rattle.gc_types.specs.Declarations.{Declaration, TypeTable}
use Rattle.gc_roots.specs.Roots.{Root}
use Rattle.gc_view.specs.Sizes.{external_size}
use Rattle.gc_view.specs.Heaps.{HeapObject, HeapView}
use Rattle.gc_heap.specs.Content.{IsHeap}
use Rattle.gc_heap.specs.Extents.{host_id}
use Rattle.gc_heap.specs.Objects.{external}
use Rattle.gc_heap.specs.Collection.{has_host, IsExternal, Stage, Start}
use Rattle.gc_heap.proofs.AddedLemmas.{more_hosts}
use Rattle.gc_tables.specs.declared.slab.SlabFault.{SlabFault}
use Rattle.gc_tables.specs.declared.slab.SlabFault.TheVariants as slab
use Rattle.gc_tables.specs.SideTables.{max_entries}
use Rattle.gc_tables.specs.Slabs.{returned}
use Rattle.gc_owner.specs.HostSteps.{PutsIn, PutsValue}
use Rattle.gc_owner.specs.declared.allocate.Description.TheVariants as of
use Rattle.gc_owner.specs.RootColumns.{RootsView, roots_of}
use Rattle.gc_owner.specs.Owners.{OwnerView, OwnerValue, Collects, CanBegin, IsReady, InOrder, owner_value}
use Rattle.gc_owner.specs.Growing.{OwnerState, state_of, Readies, GrowsReadied, owner_rules}
use Rattle.gc_owner.specs.Retry.{Retry, Paused, Growing}
use Rattle.gc_owner.specs.Tracing.{IsCollectable}
use Rattle.gc_owner.specs.Makes.{IsFreeHost, CanMakeDescribed, LacksSpace}
use Rattle.gc_owner.specs.HostValues.{with_host, TakesBack}
use Rattle.gc_owner.proofs.Begins.{with_memory}
use Rattle.gc_owner.proofs.OwnerLemmas.{heap_kind, in_order}
use Rattle.gc_owner.proofs.RetryLemmas.{CanTry, collected_try, grown_try}

-- The table of host values

host_there : {D : Type 0} (entries : FinMap nat_cmp D) (id : ℕ) (value : D) → has_host (insert entries id value) id ≡ true
host_there entries id value = grind (arith, common_steps, gets)

host_more : {D : Type 0} (entries : FinMap nat_cmp D) (id q : ℕ) (value : D) → has_host entries q ≡ true → has_host (insert entries id value) q ≡ true
host_more entries id q value is = grind (arith, common_steps, gets)

host_less : {D : Type 0} (entries : FinMap nat_cmp D) (id q : ℕ) → (q ≡ id → ⊥) → has_host entries q ≡ true → has_host (remove entries id) q ≡ true
host_less entries id q other is = grind (arith, common_steps, gets)

host_gone : {D : Type 0} (entries : FinMap nat_cmp D) (id : ℕ) → get (remove entries id) id ≡ None
host_gone entries id = grind (arith, common_steps, gets)

host_again : {D : Type 0} (entries : FinMap nat_cmp D) (id q : ℕ) (value : D) → get entries id ≡ Some value → get (insert (remove entries id) id value) q ≡ get entries q
host_again entries id q value is = elim (cases_eq q id) [
  | inl at ↦ grind (arith, common_steps, gets)
  | inr other ↦ grind (arith, common_steps, gets)
]

-- a value that was taken out was in
taken_out : {D : Type 0} (entries : FinMap nat_cmp D) (id : ℕ) (value : D) → get entries id ≡ Some value → entries ≡ insert (remove entries id) id value
taken_out entries id value is = sym (same_map nat_cmp_total nat_cmp-IsAntisymmetric _ _ (λ q. host_again entries id q value is))

-- a value is put in

pub more_kept : {D : Type 0} (layouts : Layouts) (types : List Declaration) (h : HeapView) (roots : List Root) (entries : FinMap nat_cmp D) (id : ℕ) (value : D) → IsCollectable layouts types h roots (has_host entries)
    → IsCollectable layouts types h roots (has_host (insert entries id value))
more_kept layouts types h roots entries id value can =
    record { traced = can.traced; collects = more_hosts layouts types (with_memory h) roots (has_host entries) (has_host (insert entries id value)) can.collects (λ q is. host_more entries id q value is) }

-- its id is free for an external object
pub free_put : {D : Type 0} (layouts : Layouts) (v : OwnerView D) (id : ℕ) (value : D) → CanBegin layouts v → get v.hosts id ≡ None → id + 1 < 2 ^ 32 → IsFreeHost (with_host id value v) id
free_put layouts v id value can fresh small = record {
  there = host_there v.hosts id value;
  small = small;
  unused = λ place o ext same.
      let has : has_host v.hosts id ≡ true = ap (has_host v.hosts) (sym same) ∙ can.collects.hosts place o (record { held = ext.held; kind = ext.kind }) in
      let none : has_host v.hosts id ≡ false = ap is_some fresh in
      absurd (cc);
}

-- a value is taken out that no object has
pub less_kept : {D : Type 0} (layouts : Layouts) (types : List Declaration) (h : HeapView) (roots : List Root) (entries : FinMap nat_cmp D) (id : ℕ) → ((place : ℕ) (o : HeapObject) → IsExternal h place o → host_id o ≡ id → ⊥)
    → IsCollectable layouts types h roots (has_host entries) → IsCollectable layouts types h roots (has_host (remove entries id))
less_kept layouts types h roots entries id unused can = record {
  traced = can.traced;
  collects = record {
    attached = refl;
    open_scopes = can.collects.open_scopes;
    roots = can.collects.roots;
    fields = can.collects.fields;
    typed = can.collects.typed;
    hosts = λ q x is. host_less entries id (host_id x) (λ same. unused q x (record { held = is.held; kind = is.kind }) same) (can.collects.hosts q x is);
    own_hosts = can.collects.own_hosts;
    counts = can.collects.counts;
  };
}

-- what a full table and want of memory tell
pub not_put : {D : Type 0} (value : D) (old new : FinMap nat_cmp D) (fault : SlabFault D) → ((◌≡◌ {A = Result ℕ (SlabFault D)} (Err fault) (Err (slab.Full value))) ↔ (len old ≡ max_entries)) → returned fault ≡ value → new ≡ old
    → PutsIn value old new (Err fault)
not_put {D} value old new (slab.Full back) full is same = (is, (full.0 (ap (λ (x : D). Err (slab.Full x)) is), same))
not_put value old new (slab.Memory back) full is same = (is, same)

-- the table of an owner
pub puts_kept : {D : Type 0} (layouts : Layouts) (types : List Declaration) (h : HeapView) (roots : List Root) (value : D) (old new : FinMap nat_cmp D) (result : Result ℕ (SlabFault D)) → PutsIn value old new result
    → IsCollectable layouts types h roots (has_host old) → IsCollectable layouts types h roots (has_host new)
puts_kept {D} layouts types h roots value old new (Ok id) is can = subst (λ (m : FinMap nat_cmp D). IsCollectable layouts types h roots (has_host m)) (sym is.put) (more_kept layouts types h roots old id value can)
puts_kept {D} layouts types h roots value old new (Err (slab.Full back)) is can = subst (λ (m : FinMap nat_cmp D). IsCollectable layouts types h roots (has_host m)) (sym is.1.1) can
puts_kept {D} layouts types h roots value old new (Err (slab.Memory back)) is can = subst (λ (m : FinMap nat_cmp D). IsCollectable layouts types h roots (has_host m)) (sym is.1) can

pub puts_value : {D : Type 0} (layouts : Layouts) (v : OwnerView D) (value : D) (new : FinMap nat_cmp D) (result : Result ℕ (SlabFault D)) → CanBegin layouts v → PutsIn value v.hosts new result → PutsValue value v (record v { hosts = new }) result
puts_value {D} layouts v value new (Ok id) can is =
    let more : record v { hosts = new } ≡ with_host id value v = ap (λ (m : FinMap nat_cmp D). record v { hosts = m }) is.put in
    record { fresh = is.fresh; put = more; free = subst (λ (x : OwnerView D). IsFreeHost x id) (sym more) (free_put layouts v id value can is.fresh is.small) }
puts_value {D} layouts v value new (Err (slab.Full back)) can is = (is.0, (is.1.0, ap (λ (m : FinMap nat_cmp D). record v { hosts = m }) is.1.1))
puts_value {D} layouts v value new (Err (slab.Memory back)) can is = (is.0, ap (λ (m : FinMap nat_cmp D). record v { hosts = m }) is.1)

-- an owner is ready with other host values, where a collection may begin with them
pub hosts_order : {H S D : Type 0} (layouts : Layouts) (seen : H → HeapView) (sound : H → Type 0) (under_way : Start → ℕ → Bool → Stage H S → Type 0) (heap : H) (types : TypeTable) (hosts : FinMap nat_cmp D) (roots : RootsView) (last : ℕ) (state : Option S)
    (hosts' : FinMap nat_cmp D) → is_none state ≡ true → IsReady layouts (sound heap) (owner_value (seen heap) types hosts roots last heap state).seen → IsCollectable layouts types.declarations (seen heap) (roots_of roots) (has_host hosts')
    → InOrder (heap_kind layouts seen sound under_way) (owner_value (seen heap) types hosts' roots last heap state) state
hosts_order layouts seen sound under_way heap types hosts roots last state hosts' idle ready can = in_order (heap_kind layouts seen sound under_way) (owner_value (seen heap) types hosts' roots last heap state) state idle (record {
  sound = ready.sound;
  can = can;
  unlisted = ready.unlisted;
  unused = ready.unused;
  placed = ready.placed;
})

pub put_seen : {H S D : Type 0} (layouts : Layouts) (before now : OwnerValue H S D) (value : D) (new : FinMap nat_cmp D) (result : Result ℕ (SlabFault D)) → before ≡ now → CanBegin layouts before.seen → PutsIn value before.seen.hosts new result
    → PutsValue value now.seen (record before.seen { hosts = new }) result
put_seen {H} {S} {D} layouts before now value new result is can puts =
    subst (λ (v : OwnerValue H S D). PutsValue value v.seen (record before.seen { hosts = new }) result) is (puts_value layouts before.seen value new result can puts)

-- The value stays under its id while the allocation goes on

part_value : {D : Type 0} (found : Option D) (value : D) → is_some found ≡ true → ((x : D) → found ≡ Some x → Some value ≡ Some x) → found ≡ Some value
part_value None value some is = absurd (cc)
part_value (Some x) value some is = sym (is x refl)

record HasValue {D : Type 0} (layouts : Layouts) (id : ℕ) (value : D) (v : OwnerView D) : Type 0 where
  at : CanTry layouts (of.External id) (external id) (external_size layouts) v
  value_is : get v.hosts id ≡ Some value

module _ {D : Type 0} (layouts : Layouts) (id : ℕ) (value : D) where
  collected_value : (old new : OwnerView D) → HasValue layouts id value old → Collects layouts old new → HasValue layouts id value new
  collected_value old new has collects =
      let at = collected_try layouts (of.External id) (external id) (external_size layouts) old new has.at collects in
      record { at = at; value_is = part_value (get new.hosts id) value at.described.0.there (λ x is. sym has.value_is ∙ ap (λ (v : OwnerView D). get v.hosts id) (sym collects.trims.changes.rest) ∙ collects.runs.values id x is) }

  readied_value : (s e : OwnerState D) → HasValue layouts id value s.owner → Readies layouts s e → HasValue layouts id value e.owner
  readied_value s e has (inl collected) = collected_value s.owner e.owner has collected.1.0
  readied_value s e has (inr same) = subst (λ (x : OwnerState D). HasValue layouts id value x.owner) (sym same.1) has

  grown_value : (bytes : ℕ) (s : OwnerState D) (granted : Bool) (e : OwnerState D) → HasValue layouts id value s.owner → GrowsReadied layouts bytes s granted e → HasValue layouts id value e.owner
  grown_value bytes s granted e has grows = record {
    at = grown_try layouts (of.External id) (external id) (external_size layouts) bytes s granted e has.at grows;
    value_is = ap (λ (x : OwnerState D). get x.owner.hosts id) grows.after ∙ (readied_value s grows.ready has grows.readied).value_is;
  }

  growing_value : (s e : OwnerState D) → HasValue layouts id value s.owner → Growing (owner_rules layouts (external_size layouts)) s e → HasValue layouts id value e.owner
  growing_value s e has (inl readied) = readied_value s e has readied
  growing_value s e has (inr grown) = grown_value _ s grown.0 e has grown.1

  retried_value : (s : OwnerState D) (ok : Bool) (e : OwnerState D) → HasValue layouts id value s.owner → Retry (owner_rules layouts (external_size layouts)) s ok e → HasValue layouts id value e.owner
  retried_value s ok e has (Retry.at_once fits) = has
  retried_value s ok e has (Retry.after_collection lacks rule collects fits) = collected_value s.owner e.owner has collects.0
  retried_value s ok e has (Retry.after_both {m} lacks rule collects still grows room ends) = grown_value _ m _ e (collected_value s.owner m.owner has collects.0) grows
  retried_value s ok e has (Retry.after_growth lacks rule grows fits) = grown_value _ s true e has grows
  retried_value s ok e has (Retry.after_refusal {m} lacks rule grows collects ends) = collected_value m.owner e.owner (grown_value _ s false m has grows) collects.0

  paused_value : (s e : OwnerState D) → HasValue layouts id value s.owner → Paused (owner_rules layouts (external_size layouts)) s e → HasValue layouts id value e.owner
  paused_value s e has Paused.at_first = has
  paused_value s e has (Paused.in_collection lacks rule collects) = collected_value s.owner e.owner has collects.0
  paused_value s e has (Paused.in_both {m} lacks rule collects still growing) = growing_value m e (collected_value s.owner m.owner has collects.0) growing
  paused_value s e has (Paused.in_growth lacks rule growing) = growing_value s e has growing
  paused_value s e has (Paused.in_refusal {m} lacks rule grows collects) = collected_value m.owner e.owner (grown_value _ s false m has grows) collects.0

  -- How an owner stands once the value was put in

  module _ (s : OwnerState D) (put : OwnerView D) (fresh : get s.owner.hosts id ≡ None) (is_put : put ≡ with_host id value s.owner) (free : IsFreeHost put id) (heap : IsHeap layouts put.heap) (can : CanBegin layouts put)
      (idle : s.owner.idle ≡ true) (attached : s.owner.heap.attached ≡ true) (room : 0 < s.owner.roots.spare) (few : length s.owner.roots.scoped < 2 ^ 32) where
    can_place : CanMakeDescribed layouts put (of.External id)
    can_place = record {
      idle = ap (λ (v : OwnerView D). v.idle) is_put ∙ idle;
      attached = ap (λ (v : OwnerView D). v.heap.attached) is_put ∙ attached;
      spare = subst (λ (v : OwnerView D). 0 < v.roots.spare) (sym is_put) room;
      few = subst (λ (v : OwnerView D). length v.roots.scoped < 2 ^ 32) (sym is_put) few;
      object = external id;
      size = external_size layouts;
      described = (free, (refl, refl));
    }

    has_put : HasValue layouts id value put
    has_put = record {
      at = record { heap = heap; can = can; make = can_place; described = (free, (refl, refl)) };
      value_is = ap (λ (v : OwnerView D). get v.hosts id) is_put ∙ put_there s.owner.hosts;
    }
      where
        put_there : (entries : FinMap nat_cmp D) → get (insert entries id value) id ≡ Some value
        put_there entries = grind (arith, common_steps, gets)

    module _ (end : OwnerState D) (back : D) (e : OwnerView D) (out : get end.owner.hosts id ≡ Some back) (rest : e ≡ record end.owner { hosts = remove end.owner.hosts id }) where
      takes_back : HasValue layouts id value end.owner → (Ended : OwnerState D → OwnerState D → Type 0) → Ended (state_of put s.limits) end → (back ≡ value) × TakesBack value s (state_of e end.limits) Ended
      takes_back has Ended ended =
          let again : end.owner.hosts ≡ insert (remove end.owner.hosts id) id value = taken_out end.owner.hosts id value has.value_is in (
            same_Some back value (sym out ∙ has.value_is),
            record {
              id = id;
              fresh = fresh;
              end = end;
              ended = subst (λ (v : OwnerView D). Ended (state_of v s.limits) end) is_put ended;
              taken = ap (λ (m : FinMap nat_cmp D). state_of (record end.owner { hosts = m }) end.limits) again ∙ ap (λ (v : OwnerView D). state_of (with_host id value v) end.limits) (sym rest);
              gone = ap (λ (v : OwnerView D). get v.hosts id) rest ∙ host_gone end.owner.hosts id;
            },
          )

      -- there was no room, and it is handed back
      pub taken_lacking : (need : ℕ) → LacksSpace layouts (external_size layouts) (state_of put s.limits) end need
          → (back ≡ value) × TakesBack value s (state_of e end.limits) (λ a b. LacksSpace layouts (external_size layouts) a b need)
      taken_lacking need lacks = takes_back (retried_value (state_of put s.limits) false end has_put lacks.retried) (λ a b. LacksSpace layouts (external_size layouts) a b need) lacks

      -- memory was wanting, and it is handed back
      pub taken_wanting : Paused (owner_rules layouts (external_size layouts)) (state_of put s.limits) end
          → (back ≡ value) × TakesBack value s (state_of e end.limits) (Paused (owner_rules layouts (external_size layouts)))
      taken_wanting paused = takes_back (paused_value (state_of put s.limits) end has_put paused) (Paused (owner_rules layouts (external_size layouts))) paused

    -- the id may be given back
    pub free_lacking : (end : OwnerState D) (need : ℕ) → LacksSpace layouts (external_size layouts) (state_of put s.limits) end need → CanMakeDescribed layouts end.owner (of.External id)
    free_lacking end need lacks = (retried_value (state_of put s.limits) false end has_put lacks.retried).at.make

    pub free_wanting : (end : OwnerState D) → Paused (owner_rules layouts (external_size layouts)) (state_of put s.limits) end → CanMakeDescribed layouts end.owner (of.External id)
    free_wanting end paused = (paused_value (state_of put s.limits) end has_put paused).at.make
