-- An allocation by the rule of retry: what it keeps on its way, and what each way through it answers and leaves.
use Rattle.std.proofs.Common.{◌≡◌, ℕ, ◌*◌, ◌^◌, ◌<◌, ◌≤◌, inl, inr, Bool, true, false, length, Result, Ok, Err, refl, sym, ap, ◌∙◌, subst, arith}
use Rattle.std.specs.Ordering.{nat_cmp}
use Rattle.std.specs.FinMap.{FinMap, get}
use Rattle.std.proofs.lemmas.List.{length-map}
use Rattle.gc_types.specs.declared.kind.Layouts.{Layouts}
use Rattle.gc_types.specs.Declarations.{TypeTable}
use Rattle.gc_types.specs.Layouts.{layout_at, array_layout_at}
use Rattle.gc_view.specs.Sizes.{IsTooLarge, need_of}
use Rattle.gc_view.specs.Pages.{page}
use Rattle.gc_view.specs.Heaps.{HeapObject, HeapView}
use Rattle.gc_heap.specs.Content.{IsHeap}
use Rattle.gc_heap.specs.Heap.{HasRoom, LacksRoom, grown}
use Rattle.gc_heap.specs.Collection.{has_host}
use Rattle.gc_heap.proofs.AgainLemmas.{origin, external_origin}
use Rattle.gc_owner.specs.declared.allocate.Description.{Description}
use Rattle.gc_owner.specs.declared.allocate.Description.TheVariants as of
use Rattle.gc_owner.specs.declared.allocate.AllocateFault.{AllocateFault}
use Rattle.gc_owner.specs.declared.allocate.AllocateFault.TheVariants as fault
use Rattle.gc_owner.specs.declared.pages.PagesFault.{PagesFault}
use Rattle.gc_owner.specs.declared.pages.PagesFault.TheVariants as pages_fault
use Rattle.gc_owner.specs.RootColumns.{RootsView, roots_of}
use Rattle.gc_owner.specs.Limiters.{Limits}
use Rattle.gc_owner.specs.Owners.{OwnerView, Trims, Collects, CollectsAll, CanBegin, start_of}
use Rattle.gc_owner.specs.Growing.{OwnerState, state_of, Readies, GrowsReadied, GrowsBy, asked, pages_of, heap_after, collects_first, owner_rules}
use Rattle.gc_owner.specs.Retry.{Retry, Paused}
use Rattle.gc_owner.specs.Makes.{IsFreeHost, Describes, CanMakeDescribed, AllocateAnswers}
use Rattle.gc_owner.specs.Tries.{Tries, Lacks}
use Rattle.gc_owner.proofs.Begins.{memory_heap}
use Rattle.gc_owner.proofs.GrowthLemmas.{grown_kept, grown_fits, asked_holds}

-- What a collection and a growth keep

-- what is described may be made there, and a collection may begin
pub record CanTry {D : Type 0} (layouts : Layouts) (d : Description) (o : HeapObject) (size : ℕ) (v : OwnerView D) : Type 0 where
  pub heap : IsHeap layouts v.heap
  pub can : CanBegin layouts v
  pub make : CanMakeDescribed layouts v d
  pub described : Describes layouts v d o size

free_collected : {D : Type 0} (layouts : Layouts) (id : ℕ) (old new : OwnerView D) → IsHeap layouts old.heap → CanBegin layouts old → CollectsAll layouts old new → IsFreeHost old id → IsFreeHost new id
free_collected layouts id old new heap can collects free = record {
  there = collects.collected.hosts_kept id (λ place o ext same. absurd (free.unused place o (record { held = ext.held; kind = ext.kind }) same)) ∙ free.there;
  small = free.small;
  unused = λ place o ext same.
      let from = origin layouts (start_of old) new.heap (roots_of new.roots) (has_host new.hosts) (memory_heap layouts old.heap heap) can.collects collects.collected place o ext.held in
      let was = external_origin layouts (start_of old) new.heap (roots_of new.roots) (has_host new.hosts) (memory_heap layouts old.heap heap) can.collects collects.collected place o from ext in
      free.unused from.place from.object (record { held = was.0.held; kind = was.0.kind }) (sym was.1 ∙ same);
}

free_trimmed : {D : Type 0} (layouts : Layouts) (id : ℕ) (old new : OwnerView D) → Trims layouts old new → IsFreeHost old id → IsFreeHost new id
free_trimmed {D} layouts id old new trims free = record {
  there = ap (λ (v : OwnerView D). has_host v.hosts id) trims.changes.rest ∙ free.there;
  small = free.small;
  unused = λ place o ext same. free.unused place o (record { held = ap (λ (m : FinMap nat_cmp HeapObject). get m place) (sym trims.changes.held.content) ∙ ext.held; kind = ext.kind }) same;
}

free_grown : {D : Type 0} (layouts : Layouts) (id bytes : ℕ) (v : OwnerView D) → IsFreeHost v id → IsFreeHost (record v { heap = grown layouts v.heap bytes }) id
free_grown layouts id bytes v free = record {
  there = free.there;
  small = free.small;
  unused = λ place o ext same. free.unused place o (record { held = ext.held; kind = ext.kind }) same;
}

described_later : {D : Type 0} (layouts : Layouts) (d : Description) (o : HeapObject) (size : ℕ) (old new : OwnerView D) → new.types ≡ old.types → ((id : ℕ) → IsFreeHost old id → IsFreeHost new id) → Describes layouts old d o size → Describes layouts new d o size
described_later layouts (of.Object ty layout) o size old new types free (declared, rest) = (ap (λ (t : TypeTable). layout_at layouts t.declarations ty) types ∙ declared, rest)
described_later layouts (of.Array ty count layout) o size old new types free (declared, rest) = (ap (λ (t : TypeTable). array_layout_at layouts t.declarations ty) types ∙ declared, rest)
described_later layouts (of.External id) o size old new types free (is, rest) = (free id is, rest)

make_later : {D : Type 0} (layouts : Layouts) (d : Description) (o : HeapObject) (size : ℕ) (old new : OwnerView D) → new.idle ≡ true → new.heap.attached ≡ true → old.roots.spare ≤ new.roots.spare → length new.roots.scoped ≡ length old.roots.scoped
    → Describes layouts new d o size → CanMakeDescribed layouts old d → CanMakeDescribed layouts new d
make_later layouts d o size old new idle attached spare count described can = record {
  idle = idle;
  attached = attached;
  spare = let some = can.spare in omega arith;
  few = subst (λ n. n < 2 ^ 32) (sym count) can.few;
  object = o;
  size = size;
  described = described;
}

module _ {D : Type 0} (layouts : Layouts) (d : Description) (o : HeapObject) (size : ℕ) where
  trimmed_try : (old new : OwnerView D) → CanTry layouts d o size old → Trims layouts old new → CanTry layouts d o size new
  trimmed_try old new at trims =
      let described = described_later layouts d o size old new (ap (λ (v : OwnerView D). v.types) trims.changes.rest) (λ id. free_trimmed layouts id old new trims) at.described in
      record {
        heap = trims.is_heap;
        can = trims.can;
        make = make_later layouts d o size old new (ap (λ (v : OwnerView D). v.idle) trims.changes.rest ∙ at.make.idle) (trims.changes.held.attached ∙ at.make.attached) (let same = ap (λ (v : OwnerView D). v.roots.spare) trims.changes.rest in omega arith)
            (ap (λ (v : OwnerView D). length v.roots.scoped) trims.changes.rest) described at.make;
        described = described;
      }

  run_try : (old new : OwnerView D) → CanTry layouts d o size old → CollectsAll layouts old new → CanTry layouts d o size new
  run_try old new at collects =
      let described = described_later layouts d o size old new (ap (λ (v : OwnerView D). v.types) collects.rest) (λ id. free_collected layouts id old new at.heap at.can collects) at.described in
      record {
        heap = collects.is_heap;
        can = collects.can;
        make = make_later layouts d o size old new (ap (λ (v : OwnerView D). v.idle) collects.rest ∙ at.make.idle) collects.collected.attached (let same = ap (λ (r : RootsView). r.spare) collects.roots in omega arith)
            (ap (λ (r : RootsView). length r.scoped) collects.roots ∙ length-map old.roots.scoped _) described at.make;
        described = described;
      }

  pub collected_try : (old new : OwnerView D) → CanTry layouts d o size old → Collects layouts old new → CanTry layouts d o size new
  collected_try old new at collects = run_try collects.trimmed new (trimmed_try old collects.trimmed at collects.trims) collects.runs

  pub readied_try : (s e : OwnerState D) → CanTry layouts d o size s.owner → Readies layouts s e → CanTry layouts d o size e.owner
  readied_try s e at (inl collected) = collected_try s.owner e.owner at collected.1.0
  readied_try s e at (inr same) = subst (λ (x : OwnerState D). CanTry layouts d o size x.owner) (sym same.1) at

  heap_try : (granted : Bool) (bytes : ℕ) (v : OwnerView D) → CanTry layouts d o size v → IsHeap layouts (heap_after layouts granted bytes v.heap) → CanTry layouts d o size (record v { heap = heap_after layouts granted bytes v.heap })
  heap_try true bytes v at heap =
      let more : ℕ = page * asked (pages_of v.heap) bytes in
      let new : OwnerView D = record v { heap = grown layouts v.heap more } in
      let described = described_later layouts d o size v new refl (λ id. free_grown layouts id more v) at.described in
      record {
        heap = heap;
        can = grown_kept layouts v.types.declarations v.heap more (roots_of v.roots) (has_host v.hosts) at.can;
        make = make_later layouts d o size v new at.make.idle at.make.attached (omega arith) refl described at.make;
        described = described;
      }
  heap_try false bytes v at heap = at

  pub grown_try : (bytes : ℕ) (s : OwnerState D) (granted : Bool) (e : OwnerState D) → CanTry layouts d o size s.owner → GrowsReadied layouts bytes s granted e → CanTry layouts d o size e.owner
  grown_try bytes s granted e at grows =
      let after : e.owner ≡ record grows.ready.owner { heap = heap_after layouts granted bytes grows.ready.owner.heap } = ap (λ (x : OwnerState D). x.owner) grows.after in
      subst (CanTry layouts d o size) (sym after)
      (heap_try granted bytes grows.ready.owner (readied_try s grows.ready at grows.readied) (subst (λ (v : OwnerView D). IsHeap layouts v.heap) after grows.is_heap))

  -- whatever a growth answers
  pub grows_try : (bytes : ℕ) (s e : OwnerState D) (result : Result (Unit {0}) PagesFault) → CanTry layouts d o size s.owner → GrowsBy layouts bytes s e result → CanTry layouts d o size e.owner
  grows_try bytes s e (Ok done) at grows = grown_try bytes s true e at grows
  grows_try bytes s e (Err pages_fault.Refused) at grows = grown_try bytes s false e at grows
  grows_try bytes s e (Err pages_fault.Memory) at readied = readied_try s e at readied

-- What a try answers on the way

-- an answer that ends an allocation anyhow
abbrev pub Ends : Result ℕ AllocateFault → Type 0
Ends (Ok index) = Unit {0}
Ends (Err fault.TooLarge) = Unit {0}
Ends (Err (fault.HeapOutOfMemory need)) = ⊥
Ends (Err fault.Memory) = Unit {0}

ready_heap : {D : Type 0} (layouts : Layouts) (s ready : OwnerState D) → IsHeap layouts s.owner.heap → Readies layouts s ready → IsHeap layouts ready.owner.heap
ready_heap layouts s ready is_heap (inl collected) = collected.1.0.runs.is_heap
ready_heap {D} layouts s ready is_heap (inr same) = subst (λ (r : OwnerState D). IsHeap layouts r.owner.heap) (sym same.1) is_heap

-- a growth that was granted makes room
granted_room : {D : Type 0} (layouts : Layouts) (size : ℕ) (s e : OwnerState D) → IsHeap layouts s.owner.heap → GrowsReadied layouts (need_of layouts size) s true e → HasRoom layouts e.owner.heap size
granted_room {D} layouts size s e is_heap grows =
    let h : HeapView = grows.ready.owner.heap in
    let more : ℕ = page * asked (pages_of h) (need_of layouts size) in
    subst (λ (r : OwnerState D). HasRoom layouts r.owner.heap size) (sym grows.after)
    (grown_fits layouts h size more (ready_heap layouts s grows.ready is_heap grows.readied) (omega arith) (asked_holds (pages_of h) (need_of layouts size)))

module _ {D : Type 0} (layouts : Layouts) (o : HeapObject) (size : ℕ) (s : OwnerState D) where
  -- the first try ended it
  pub at_once : (e : OwnerView D) (result : Result ℕ AllocateFault) → Ends result → Tries layouts o size s.owner e result → AllocateAnswers layouts o size s (state_of e s.limits) result
  at_once e (Ok index) ends tries = record { mid = s; retried = Retry.at_once tries.adds.room; adds = tries; limits = refl }
  at_once e (Err fault.TooLarge) ends tries = (tries.0, ap (λ v. state_of v s.limits) tries.1)
  at_once e (Err (fault.HeapOutOfMemory need)) ends tries = absurd ends
  at_once e (Err fault.Memory) ends tries = subst (λ v. Paused (owner_rules layouts size) s (state_of v s.limits)) (sym tries) Paused.at_first

  -- A later try: with room there it ends.
  record AtTry (m : OwnerState D) : Type 0 where
    fits : HasRoom layouts m.owner.heap size → Retry (owner_rules layouts size) s true m
    paused : Paused (owner_rules layouts size) s m
    small : IsTooLarge layouts size → ⊥

  there : (m : OwnerState D) → AtTry m → (e : OwnerView D) (result : Result ℕ AllocateFault) → Ends result → Tries layouts o size m.owner e result → AllocateAnswers layouts o size s (state_of e m.limits) result
  there m at e (Ok index) ends tries = record { mid = m; retried = at.fits tries.adds.room; adds = tries; limits = refl }
  there m at e (Err fault.TooLarge) ends tries = absurd (at.small tries.0)
  there m at e (Err (fault.HeapOutOfMemory need)) ends tries = absurd ends
  there m at e (Err fault.Memory) ends tries = subst (λ v. Paused (owner_rules layouts size) s (state_of v m.limits)) (sym tries) at.paused

  -- the last one: without room it ends too
  last_there : (m : OwnerState D) → AtTry m → ((HasRoom layouts m.owner.heap size → ⊥) → Retry (owner_rules layouts size) s false m) → (e : OwnerView D) (result : Result ℕ AllocateFault) → Tries layouts o size m.owner e result
      → AllocateAnswers layouts o size s (state_of e m.limits) result
  last_there m at last e (Ok index) tries = there m at e (Ok index) tt tries
  last_there m at last e (Err fault.TooLarge) tries = there m at e (Err fault.TooLarge) tt tries
  last_there m at last e (Err (fault.HeapOutOfMemory need)) tries = record {
    retried = subst (λ v. Retry (owner_rules layouts size) s false (state_of v m.limits)) (sym tries.1) (last tries.0.no_room);
    asked = tries.0.asked;
  }
  last_there m at last e (Err fault.Memory) tries = there m at e (Err fault.Memory) tt tries

  module _ (need : ℕ) (lacks : LacksRoom layouts s.owner.heap s.owner.heap need size) where
    rule_is : (first : Bool) → collects_first need s.owner.heap.capacity s.owner.last ≡ first → collects_first (need_of layouts size) s.owner.heap.capacity s.owner.last ≡ first
    rule_is first rule = ap (λ n. collects_first n s.owner.heap.capacity s.owner.last) (sym lacks.asked) ∙ rule

    module _ (rule : collects_first need s.owner.heap.capacity s.owner.last ≡ true) (m : OwnerView D) (collects : Collects layouts s.owner m) where
      -- a collection made room, or the try failed otherwise
      pub collected_there : (e : OwnerView D) (result : Result ℕ AllocateFault) → Ends result → Tries layouts o size m e result → AllocateAnswers layouts o size s (state_of e s.limits) result
      collected_there e result ends tries = there (state_of m s.limits) (record {
        fits = Retry.after_collection lacks.no_room (rule_is true rule) (collects, refl);
        paused = Paused.in_collection lacks.no_room (rule_is true rule) (collects, refl);
        small = lacks.small;
      }) e result ends tries

      module _ (m' : OwnerView D) (need' : ℕ) (still : Tries layouts o size m m' (Err (fault.HeapOutOfMemory need'))) where
        collects_again : Collects layouts s.owner m'
        collects_again = subst (Collects layouts s.owner) (sym still.1) collects

        none_again : HasRoom layouts m'.heap size → ⊥
        none_again = subst (λ (v : OwnerView D). HasRoom layouts v.heap size → ⊥) (sym still.1) still.0.no_room

        last_after_both : (granted : Bool) (e : OwnerState D) → GrowsReadied layouts (need_of layouts size) (state_of m' s.limits) granted e → (HasRoom layouts e.owner.heap size → ⊥) → Retry (owner_rules layouts size) s false e
        last_after_both true e grows none = absurd (none (granted_room layouts size (state_of m' s.limits) e collects_again.runs.is_heap grows))
        last_after_both false e grows none = Retry.after_both lacks.no_room (rule_is true rule) (collects_again, refl) none_again grows (λ is. absurd (cc)) none

        -- a growth was granted or refused after the collection
        pub grown_after_collection : (granted : Bool) (e : OwnerState D) → GrowsReadied layouts need' (state_of m' s.limits) granted e → (new : OwnerView D) (result : Result ℕ AllocateFault) → Tries layouts o size e.owner new result
            → AllocateAnswers layouts o size s (state_of new e.limits) result
        grown_after_collection granted e grows new result tries =
            let grows' = subst (λ n. GrowsReadied layouts n (state_of m' s.limits) granted e) still.0.asked grows in
            last_there e (record {
              fits = Retry.after_both lacks.no_room (rule_is true rule) (collects_again, refl) none_again grows' (λ is. refl);
              paused = Paused.in_both lacks.no_room (rule_is true rule) (collects_again, refl) none_again (inr (granted, grows'));
              small = lacks.small;
            }) (last_after_both granted e grows') new result tries

        -- memory was wanting in the growth
        pub wanting_after_collection : (e : OwnerState D) → Readies layouts (state_of m' s.limits) e → Paused (owner_rules layouts size) s e
        wanting_after_collection e readied = Paused.in_both lacks.no_room (rule_is true rule) (collects_again, refl) none_again (inl readied)

    module _ (rule : collects_first need s.owner.heap.capacity s.owner.last ≡ false) where
      -- a growth was granted at once
      pub grown_at_once : (e : OwnerState D) → IsHeap layouts s.owner.heap → GrowsReadied layouts need s true e → (new : OwnerView D) (result : Result ℕ AllocateFault) → Tries layouts o size e.owner new result → AllocateAnswers layouts o size s (state_of new e.limits) result
      grown_at_once e is_heap grows new result tries =
          let grows' = subst (λ n. GrowsReadied layouts n s true e) lacks.asked grows in
          last_there e (record {
            fits = Retry.after_growth lacks.no_room (rule_is false rule) grows';
            paused = Paused.in_growth lacks.no_room (rule_is false rule) (inr (true, grows'));
            small = lacks.small;
          }) (λ none. absurd (none (granted_room layouts size s e is_heap grows'))) new result tries

      -- a growth was refused, and a collection ran
      pub collected_after_refusal : (m : OwnerState D) (e : OwnerView D) → GrowsReadied layouts need s false m → Collects layouts m.owner e → (new : OwnerView D) (result : Result ℕ AllocateFault) → Tries layouts o size e new result
          → AllocateAnswers layouts o size s (state_of new m.limits) result
      collected_after_refusal m e grows collects new result tries =
          let grows' = subst (λ n. GrowsReadied layouts n s false m) lacks.asked grows in
          last_there (state_of e m.limits) (record {
            fits = Retry.after_refusal lacks.no_room (rule_is false rule) grows' (collects, refl);
            paused = Paused.in_refusal lacks.no_room (rule_is false rule) grows' (collects, refl);
            small = lacks.small;
          }) (Retry.after_refusal lacks.no_room (rule_is false rule) grows' (collects, refl)) new result tries

      -- memory was wanting in the growth
      pub wanting_at_once : (e : OwnerState D) → Readies layouts s e → Paused (owner_rules layouts size) s e
      wanting_at_once e readied = Paused.in_growth lacks.no_room (rule_is false rule) (inl readied)

-- From a first try that found no room

module _ {D : Type 0} (layouts : Layouts) (d : Description) (old new : OwnerView D) (need : ℕ) (can : CanMakeDescribed layouts old d)
    (tries : (o : HeapObject) (size : ℕ) → Describes layouts old d o size → Tries layouts o size old new (Err (fault.HeapOutOfMemory need))) where
  pub as_before : new ≡ old
  as_before = (tries can.object can.size can.described).1

  pub can_still : CanMakeDescribed layouts new d
  can_still = subst (λ (v : OwnerView D). CanMakeDescribed layouts v d) (sym as_before) can

  pub lacks_still : (first : Bool) → collects_first need new.heap.capacity new.last ≡ first → Lacks layouts new d need first
  lacks_still first rule = record {
    lacks = λ o size described. subst (λ (v : OwnerView D). LacksRoom layouts v.heap new.heap need size) (sym as_before) (tries o size (subst (λ (v : OwnerView D). Describes layouts v d o size) as_before described)).0;
    rule = rule;
  }

  -- it goes on as from there
  pub goes_on : (o : HeapObject) (size : ℕ) (limits : Limits) (e : OwnerState D) (result : Result ℕ AllocateFault) → Describes layouts old d o size → (Describes layouts new d o size → AllocateAnswers layouts o size (state_of new limits) e result)
      → AllocateAnswers layouts o size (state_of old limits) e result
  goes_on o size limits e result described allocated =
      subst (λ (v : OwnerView D). AllocateAnswers layouts o size (state_of v limits) e result) as_before (allocated (subst (λ (v : OwnerView D). Describes layouts v d o size) (sym as_before) described))

-- A collection, and then a growth

module _ {D : Type 0} (layouts : Layouts) (d : Description) (old m : OwnerView D) (limits : Limits) (heap : IsHeap layouts old.heap) (can : CanBegin layouts old) (make : CanMakeDescribed layouts old d)
    (lacks : (need : ℕ) × Lacks layouts old d need true) (collects : Collects layouts old m) where
  abbrev start : OwnerState D
  start = state_of old limits

  try_collected : (o : HeapObject) (size : ℕ) → Describes layouts old d o size → CanTry layouts d o size m
  try_collected o size described = collected_try layouts d o size old m (record { heap = heap; can = can; make = make; described = described }) collects

  pub make_collected : CanMakeDescribed layouts m d
  make_collected = (try_collected make.object make.size make.described).make

  -- the try behind the collection ended it
  pub collected_ends : (e : OwnerView D) (result : Result ℕ AllocateFault) → Ends result → ((o : HeapObject) (size : ℕ) → Describes layouts m d o size → Tries layouts o size m e result) → (o : HeapObject) (size : ℕ) → Describes layouts old d o size
      → AllocateAnswers layouts o size start (state_of e limits) result
  collected_ends e result ends tries o size described =
      collected_there layouts o size start lacks.0 (lacks.1.lacks o size described) lacks.1.rule m collects e result ends (tries o size (try_collected o size described).described)

  module _ (m' : OwnerView D) (need : ℕ) (still : (o : HeapObject) (size : ℕ) → Describes layouts m d o size → Tries layouts o size m m' (Err (fault.HeapOutOfMemory need))) where
    try_still : (o : HeapObject) (size : ℕ) → Describes layouts old d o size → CanTry layouts d o size m'
    try_still o size described =
        let at = try_collected o size described in
        subst (CanTry layouts d o size) (sym (still o size at.described).1) at

    pub make_still : CanMakeDescribed layouts m' d
    make_still = (try_still make.object make.size make.described).make

    pub make_grown : (e : OwnerState D) (result : Result (Unit {0}) PagesFault) → GrowsBy layouts need (state_of m' limits) e result → CanMakeDescribed layouts e.owner d
    make_grown e result grows = (grows_try layouts d make.object make.size need (state_of m' limits) e result (try_still make.object make.size make.described) grows).make

    -- it was the last try that ended it
    pub both_end : (granted : Bool) (e : OwnerState D) → GrowsReadied layouts need (state_of m' limits) granted e → (new : OwnerView D) (result : Result ℕ AllocateFault)
        → ((o : HeapObject) (size : ℕ) → Describes layouts e.owner d o size → Tries layouts o size e.owner new result) → (o : HeapObject) (size : ℕ) → Describes layouts old d o size → AllocateAnswers layouts o size start (state_of new e.limits) result
    both_end granted e grows new result tries o size described =
        let now = grown_try layouts d o size need (state_of m' limits) granted e (try_still o size described) grows in
        grown_after_collection layouts o size start lacks.0 (lacks.1.lacks o size described) lacks.1.rule m collects m' need (still o size (try_collected o size described).described) granted e grows new result (tries o size now.described)

    -- or the growth wanted memory
    pub wanting_both : (e : OwnerState D) → Readies layouts (state_of m' limits) e → (o : HeapObject) (size : ℕ) → Describes layouts old d o size → Paused (owner_rules layouts size) start e
    wanting_both e readied o size described =
        wanting_after_collection layouts o size start lacks.0 (lacks.1.lacks o size described) lacks.1.rule m collects m' need (still o size (try_collected o size described).described) e readied

-- A growth, and a collection where it was refused

module _ {D : Type 0} (layouts : Layouts) (d : Description) (old : OwnerView D) (limits : Limits) (heap : IsHeap layouts old.heap) (can : CanBegin layouts old) (make : CanMakeDescribed layouts old d) (need : ℕ) (lacks : Lacks layouts old d need false) where
  try_old : (o : HeapObject) (size : ℕ) → Describes layouts old d o size → CanTry layouts d o size old
  try_old o size described = record { heap = heap; can = can; make = make; described = described }

  pub make_after : (e : OwnerState D) (result : Result (Unit {0}) PagesFault) → GrowsBy layouts need (state_of old limits) e result → CanMakeDescribed layouts e.owner d
  make_after e result grows = (grows_try layouts d make.object make.size need (state_of old limits) e result (try_old make.object make.size make.described) grows).make

  -- it was granted
  pub growth_ends : (e : OwnerState D) → GrowsReadied layouts need (state_of old limits) true e → (new : OwnerView D) (result : Result ℕ AllocateFault)
      → ((o : HeapObject) (size : ℕ) → Describes layouts e.owner d o size → Tries layouts o size e.owner new result) → (o : HeapObject) (size : ℕ) → Describes layouts old d o size → AllocateAnswers layouts o size (state_of old limits) (state_of new e.limits) result
  growth_ends e grows new result tries o size described =
      let now = grown_try layouts d o size need (state_of old limits) true e (try_old o size described) grows in
      grown_at_once layouts o size (state_of old limits) need (lacks.lacks o size described) lacks.rule e heap grows new result (tries o size now.described)

  module _ (m : OwnerState D) (grows : GrowsReadied layouts need (state_of old limits) false m) (e : OwnerView D) (collects : Collects layouts m.owner e) where
    try_refused : (o : HeapObject) (size : ℕ) → Describes layouts old d o size → CanTry layouts d o size e
    try_refused o size described = collected_try layouts d o size m.owner e (grown_try layouts d o size need (state_of old limits) false m (try_old o size described) grows) collects

    pub make_refused : CanMakeDescribed layouts e d
    make_refused = (try_refused make.object make.size make.described).make

    -- it was refused
    pub refusal_ends : (new : OwnerView D) (result : Result ℕ AllocateFault) → ((o : HeapObject) (size : ℕ) → Describes layouts e d o size → Tries layouts o size e new result) → (o : HeapObject) (size : ℕ) → Describes layouts old d o size
        → AllocateAnswers layouts o size (state_of old limits) (state_of new m.limits) result
    refusal_ends new result tries o size described =
        collected_after_refusal layouts o size (state_of old limits) need (lacks.lacks o size described) lacks.rule m e grows collects new result (tries o size (try_refused o size described).described)

  -- it wanted memory
  pub wanting_growth : (e : OwnerState D) → Readies layouts (state_of old limits) e → (o : HeapObject) (size : ℕ) → Describes layouts old d o size → Paused (owner_rules layouts size) (state_of old limits) e
  wanting_growth e readied o size described = wanting_at_once layouts o size (state_of old limits) need (lacks.lacks o size described) lacks.rule e readied
