use Rattle.std.proofs.Common.{◌≡◌, ℕ, Some, sym, ap, ◌∙◌, subst, refl}
use Rattle.gc_values.specs.declared.root.RawValue.TheVariants as raw
use Rattle.std.specs.Prelude.{Result, Ok, Err}
use Rattle.gc_owner.specs.declared.entry.GcClass.{GcClass}
use Rattle.gc_script.specs.Requested.{class_of, IsPlainRequest}
use Rattle.gc_model.specs.Values.{Object}
use Rattle.gc_values.specs.declared.root.GcRootIndex.{GcRootIndex}
use Rattle.gc_values.specs.declared.faults.PlaceFault.{PlaceFault}
use Rattle.gc_values.specs.declared.faults.PlaceFault.TheVariants as fault
use Rattle.gc_store.specs.Places.{Places}
use Rattle.gc_store.specs.Requests.{CanPlaceIn, IsObjectOf}
use Rattle.gc_values.specs.declared.request.Contents.{Contents}
use Rattle.gc_model.specs.Table.{Table}
use Rattle.gc_script.specs.NewValues.{contents_of}
use Rattle.gc_script.specs.declared.runner.RunError.TheVariants as error
use Rattle.gc_script.specs.Slots.{RunnerRest, with_registers}
use Rattle.gc_script.specs.State.{State, HoldsState, visible}
use Rattle.gc_model.specs.Policy.{policy_state}
use Rattle.gc_script.specs.Policy.{policy_of}
use Rattle.gc_script.proofs.PlainValues.{RequestedPlain, requested_plain, never_lacks_cont_ids, never_lacks_ids}
use Rattle.gc_script.proofs.StandLemmas.{holds_table, same_store, holds_same}
use Rattle.gc_script.proofs.GoesLemmas.{wants_nothing}
use Rattle.gc_script.proofs.OperandLemmas.{contents_same, plain_given}
use Rattle.gc_script.proofs.PlaceLemmas.{placed, refused_large, refused_full, lacked, unplaced}
use Rattle.gc_script.proofs.make.place.Given as given
use Rattle.gc_script.proofs.make.place.Goals as goal
use Rattle.gc_script.proofs.make.place.Goals.{After-make_room, After-place_shaped}

-- the values are the same with room for one more register
same_values : (g : given.Over) (c : After-make_room g) → contents_of c.args.registers.now c.args.values ≡ contents_of c.make_room.new.self c.args.values
same_values g c = contents_same c.args.registers.now c.make_room.new.self (λ d. sym (c.make_room.ensures.same d)) c.args.values

as_asked : (g : given.Over) (c : After-place_shaped g) (t : Table ℕ) (o : Object ℕ) → IsObjectOf c.args.store.now t c.args.request (contents_of c.args.registers.now c.args.values) o → IsObjectOf c.args.store.now t c.args.request (contents_of c.make_room.new.self c.args.values) o
as_asked g c t o is = subst (λ (x : Contents). IsObjectOf c.args.store.now t c.args.request x o) (same_values g (goal.at.After-place_shaped g c).After-make_room) is

pub invariant_of-contents : goal.invariant_of-contents
invariant_of-contents g c = record {
  plain = plain_given c.make_room.new.self c.args.request c.args.values (subst (IsPlainRequest c.args.request) (same_values g (goal.at.invariant_of-contents g c).After-make_room) c.requires.plain);
}

pub place_shaped-requires-clause-can : goal.place_shaped-requires-clause-can
place_shaped-requires-clause-can g c =
    subst (λ (x : Contents). CanPlaceIn ℕ g.H.GcHeap.KIND c.args.store.now c.args.request x) (same_values g (goal.at.place_shaped-requires-clause-can g c).After-make_room) c.requires.can

-- what was placed, by a result that is known
places_as : (g : given.Over) (c : After-place_shaped g) (s : State) (rest : RunnerRest) (o : Object ℕ) (result : Result GcRootIndex PlaceFault) → c.place_shaped.result ≡ result → HoldsState g.H.GcHeap.KIND c.args.store.now (with_registers c.args.registers.now rest) s → IsObjectOf c.args.store.now s.table c.args.request (contents_of c.args.registers.now c.args.values) o → Places g.H.GcHeap.KIND c.args.store.now.alloc_counter o (policy_of s (g.L.ResourceLimiter.limits c.args.limiter.now)) (g.L.ResourceLimiter.limits c.place_shaped.new.limiter) result c.place_shaped.new.self
places_as g c s rest o result is holds is_object =
    subst (λ (r : Result GcRootIndex PlaceFault). Places g.H.GcHeap.KIND c.args.store.now.alloc_counter o (policy_of s (g.L.ResourceLimiter.limits c.args.limiter.now)) (g.L.ResourceLimiter.limits c.place_shaped.new.limiter) r c.place_shaped.new.self) is
    (c.place_shaped.ensures.places s.table s.account o holds.table (as_asked g c s.table o is_object))

pub returns-then-is_err-clause-runs : goal.returns-then-is_err-clause-runs
returns-then-is_err-clause-runs g c s rest object holds is_object =
    wants_nothing _ _ _ s _ _ _ _
    (holds_same g.H.GcHeap.KIND c.args.store.now c.args.store.now (with_registers c.args.registers.now rest) _ s (same_store c.args.store.now)
    c.make_room.ensures.same
    refl holds holds.table)

pub returns-in-Ok-clause-runs : goal.returns-in-Ok-clause-runs
returns-in-Ok-clause-runs g c s rest object holds is_object =
    let at = (goal.at.returns-in-Ok-clause-runs g c).After-place_shaped in
    placed _ _ _ _ c.args.store.now _ (with_registers c.args.registers.now rest) _ s c.args.d (class_of c.args.request) object c.place_shaped.ensures.same holds refl
    c.in-Ok.handle (places_as g at s rest (object (visible s)) (Ok c.in-Ok.handle) c.in-Ok.is holds is_object)
    (c.set.ensures.set ∙ ap (λ (x : GcClass). Some (raw.Ref x (Some c.in-Ok.handle))) c.class_of-class.ensures)
    (λ k other. c.set.ensures.others k other ∙ c.make_room.ensures.same k)

pub returns-in-Err-TooLarge-clause-runs : goal.returns-in-Err-TooLarge-clause-runs
returns-in-Err-TooLarge-clause-runs g c s rest object holds is_object =
    let at = (goal.at.returns-in-Err-TooLarge-clause-runs g c).After-place_shaped in
    refused_large _ _ _ _ c.args.store.now _ (with_registers c.args.registers.now rest) _ s c.args.d (class_of c.args.request) object c.place_shaped.ensures.same holds refl c.make_room.ensures.same
    (places_as g at s rest (object (visible s)) (Err fault.TooLarge) (c.in-Err-TooLarge.is ∙ ap Err c.in-Err-TooLarge.field-0-is) holds is_object)

pub returns-in-Err-RootsFull-clause-runs : goal.returns-in-Err-RootsFull-clause-runs
returns-in-Err-RootsFull-clause-runs g c s rest object holds is_object =
    let at = (goal.at.returns-in-Err-RootsFull-clause-runs g c).After-place_shaped in
    refused_full _ _ _ _ c.args.store.now _ (with_registers c.args.registers.now rest) _ s c.args.d (class_of c.args.request) object c.place_shaped.ensures.same holds refl c.make_room.ensures.same
    (places_as g at s rest (object (visible s)) (Err fault.RootsFull) (c.in-Err-RootsFull.is ∙ ap Err c.in-Err-RootsFull.field-0-is) holds is_object)

pub returns-in-Err-HeapOutOfMemory-clause-runs : goal.returns-in-Err-HeapOutOfMemory-clause-runs
returns-in-Err-HeapOutOfMemory-clause-runs g c s rest object holds is_object =
    let at = (goal.at.returns-in-Err-HeapOutOfMemory-clause-runs g c).After-place_shaped in
    lacked _ _ _ _ c.args.store.now _ (with_registers c.args.registers.now rest) _ s c.args.d (class_of c.args.request) object c.place_shaped.ensures.same holds refl c.make_room.ensures.same
    c.in-Err-HeapOutOfMemory.field-0-0.bytes_needed
    (places_as g at s rest (object (visible s)) (Err (fault.HeapOutOfMemory c.in-Err-HeapOutOfMemory.field-0-0)) (c.in-Err-HeapOutOfMemory.is ∙ ap Err c.in-Err-HeapOutOfMemory.field-0-is) holds is_object)

-- what is requested, of a table that the store holds, needs no ids
needs_none : (g : given.Over) (c : After-place_shaped g) → RequestedPlain g.H.GcHeap.KIND c.args.store.now c.stores_hold_tables.ensures.0 (holds_table c.stores_hold_tables.ensures.1.1) c.args.request (contents_of c.args.registers.now c.args.values)
needs_none g c = requested_plain g.H.GcHeap.KIND c.args.store.now c.stores_hold_tables.ensures.0 (holds_table c.stores_hold_tables.ensures.1.1) c.args.request (contents_of c.args.registers.now c.args.values) c.requires.can c.requires.plain

never : (g : given.Over) (c : After-place_shaped g) (f : PlaceFault) → c.place_shaped.result ≡ Err f
    → Places g.H.GcHeap.KIND c.args.store.now.alloc_counter (needs_none g c).0 (policy_state c.stores_hold_tables.ensures.0 c.stores_hold_tables.ensures.1.0 (g.L.ResourceLimiter.limits c.args.limiter.now)) (g.L.ResourceLimiter.limits c.place_shaped.new.limiter) (Err f) c.place_shaped.new.self
never g c f is =
    subst (λ (r : Result GcRootIndex PlaceFault). Places g.H.GcHeap.KIND c.args.store.now.alloc_counter (needs_none g c).0 (policy_state c.stores_hold_tables.ensures.0 c.stores_hold_tables.ensures.1.0 (g.L.ResourceLimiter.limits c.args.limiter.now)) (g.L.ResourceLimiter.limits c.place_shaped.new.limiter) r c.place_shaped.new.self) is
    (c.place_shaped.ensures.places c.stores_hold_tables.ensures.0 c.stores_hold_tables.ensures.1.0 (needs_none g c).0 c.stores_hold_tables.ensures.1.1 (as_asked g c c.stores_hold_tables.ensures.0 (needs_none g c).0 (needs_none g c).1.0))

pub unreachable-requires : goal.unreachable-requires
unreachable-requires g c =
    let at = (goal.at.unreachable-requires g c).After-place_shaped in
    never_lacks_ids g.H.GcHeap.KIND c.args.store.now c.stores_hold_tables.ensures.0 (holds_table c.stores_hold_tables.ensures.1.1) (needs_none g at).0 (needs_none g at).1.1
    (never g at fault.FuncTableFull (c.in-Err-FuncTableFull.is ∙ ap Err c.in-Err-FuncTableFull.field-0-is)).0

pub unreachable-requires-in-Err-ContTableFull : goal.unreachable-requires-in-Err-ContTableFull
unreachable-requires-in-Err-ContTableFull g c =
    let at = (goal.at.unreachable-requires-in-Err-ContTableFull g c).After-place_shaped in
    never_lacks_cont_ids g.H.GcHeap.KIND c.args.store.now c.stores_hold_tables.ensures.0 (holds_table c.stores_hold_tables.ensures.1.1) (needs_none g at).0 (needs_none g at).1.1
    (never g at fault.ContTableFull (c.in-Err-ContTableFull.is ∙ ap Err c.in-Err-ContTableFull.field-0-is)).0

pub returns-in-Err-Memory-clause-runs : goal.returns-in-Err-Memory-clause-runs
returns-in-Err-Memory-clause-runs g c s rest object holds is_object =
    let at = (goal.at.returns-in-Err-Memory-clause-runs g c).After-place_shaped in
    unplaced _ _ _ _ c.args.store.now _ (with_registers c.args.registers.now rest) _ s c.args.d (class_of c.args.request) object c.place_shaped.ensures.same holds refl c.make_room.ensures.same error.OutOfMemory
    (places_as g at s rest (object (visible s)) (Err fault.Memory) (c.in-Err-Memory.is ∙ ap Err c.in-Err-Memory.field-0-is) holds is_object)
