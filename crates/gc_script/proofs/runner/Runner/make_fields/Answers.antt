use Rattle.std.proofs.Common.{◌≡◌, ℕ, List, length, Option, Some, false, refl, sym, ap, ◌∙◌, subst}
use Rattle.std.specs.Prelude.{unwrap_or, []}
use Rattle.std.specs.List.{slice_get}
use Rattle.std.proofs.lemmas.List.{length-map}
use Rattle.std.proofs.lemmas.Option.{none-some}
use Rattle.gc_types.specs.declared.value.FieldType.{FieldType}
use Rattle.gc_types.specs.Declarations.{Declaration, TypeTable, fields_at, shape_at}
use Rattle.gc_values.specs.declared.request.Place.{Place}
use Rattle.gc_values.specs.declared.request.Place.TheVariants as place
use Rattle.gc_values.specs.Filling.{asked_type, each_of}
use Rattle.gc_types.specs.declared.kind.Layouts.{Layouts}
use Rattle.gc_model.specs.Stores.{StoreView}
use Rattle.gc_commands.specs.declared.command.Operand.{Operand}
use Rattle.gc_values.specs.declared.root.RawValue.{RawValue}
use Rattle.gc_store.specs.Requests.{CanPlaceIn, CanPlaceFields, IsObjectOf}
use Rattle.gc_store.specs.Values.{AllStand}
use Rattle.gc_commands.specs.declared.reply.Refusal.TheVariants as refusal
use Rattle.gc_script.specs.Endings.{answer_of}
use Rattle.gc_script.specs.declared.objects.ValueTypes.TheVariants as types_of
use Rattle.gc_script.specs.Slots.{RunnerView, with_registers, register_at}
use Rattle.gc_script.specs.State.{State, HoldsState, RegisterStands, visible}
use Rattle.gc_script.specs.Given.{given_values}
use Rattle.gc_script.specs.Shapes.{making}
use Rattle.gc_script.specs.Steps.{first_failing, any_unset, all_value_tests, heap_tests}
use Rattle.gc_script.specs.Requested.{class_of, requested, requested_fields, requested_tests}
use Rattle.gc_script.specs.Named.{type_at}
use Rattle.gc_script.specs.Values.{AreRegisters, set_operand, set_operands, AllHeld, typed_tests}
use Rattle.gc_script.proofs.CountLemmas.{mild_found, append_mild}
use Rattle.gc_script.proofs.FieldRequests.{requested_types, fields_request, fields_unset, fields_count, fields_value, fields_heap, typed_by, refused_on, runs_on}
use Rattle.gc_script.proofs.GoesLemmas.{values_mild, wants_nothing}
use Rattle.gc_script.proofs.OperandLemmas.{are_held}
use Rattle.gc_script.proofs.ResultLemmas.{on_any_err, second_is}
use Rattle.gc_script.proofs.StandLemmas.{holds_table}
use Rattle.gc_script.proofs.WantLemmas.{room_only, unrefused_by}
use Rattle.gc_script.proofs.runner.Runner.make_fields.Given as given
use Rattle.gc_script.proofs.runner.Runner.make_fields.Goals as goal
use Rattle.gc_script.proofs.runner.Runner.make_fields.Goals.{After-any_unset, After-check_fields, After-clone}

-- the fields of what is requested
known : (g : given.Over) (c : After-any_unset g) → requested_fields c.args.store.now.types c.args.request ≡ Some c.in-Some.fields.now
known g c =
    second_is c.requested_shape.result c.in-Some.shape c.in-Some.fields (requested_fields c.args.store.now.types c.args.request)
    (c.requested_shape.ensures.fields ∙ ap (λ (t : TypeTable). requested_fields t.declarations c.args.request) c.types.ensures) c.in-Some.is

known_in : (g : given.Over) (c : After-any_unset g) (s : State) → HoldsState g.H.GcHeap.KIND c.args.store.now c.args.self.now s → requested_fields s.table.types c.args.request ≡ Some c.in-Some.fields.now
known_in g c s holds = ap (λ (ts : List Declaration). requested_fields ts c.args.request) (sym holds.table.holds.types) ∙ known g c

registers_are : (g : given.Over) (c : After-any_unset g) (s : State) → HoldsState g.H.GcHeap.KIND c.args.store.now c.args.self.now s → AreRegisters c.args.store.now c.self.inside.registers s
registers_are g c s holds d =
    subst (λ (o : Option RawValue). RegisterStands c.args.store.now s.table o (s.registers d)) (sym (ap (λ (r : RunnerView). register_at r.registers d) c.self.view_is)) (holds.registers d)

-- no operand is unset
set : (g : given.Over) (c : After-check_fields g) (s : State) → HoldsState g.H.GcHeap.KIND c.args.store.now c.args.self.now s → any_unset s c.args.operands.now ≡ false
set g c s holds = c.any_unset.ensures.set c.if-any_unset.false c.args.store.now s (registers_are g (goal.at.After-check_fields g c).After-any_unset s holds)

-- the values are what the operands hold
held : (g : given.Over) (c : After-check_fields g) (s : State) → HoldsState g.H.GcHeap.KIND c.args.store.now c.args.self.now s → AllHeld c.args.store.now s c.args.operands.now (set_operands c.self.inside.registers c.args.operands.now)
held g c s holds = are_held c.self.inside.registers c.args.operands.now c.args.store.now s (registers_are g (goal.at.After-check_fields g c).After-any_unset s holds) (set g c s holds)

pub returns-then-any_unset-clause-runs : goal.returns-then-any_unset-clause-runs
returns-then-any_unset-clause-runs g c s holds =
    let at = (goal.at.returns-then-any_unset-clause-runs g c).After-any_unset in
    refused_on g.H.GcHeap.KIND c.args.store.now.alloc_counter (g.L.ResourceLimiter.limits c.args.limiter.now) s _ (requested_tests g.H.GcHeap.KIND s c.args.request c.args.operands.now) refusal.NoSuchName c.args.store.now c.args.self.now holds refl
    (fields_unset s (requested_fields s.table.types c.args.request) c.args.operands.now _ at.in-Some.fields.now (known_in g at s holds) (c.any_unset.ensures.unset c.if-any_unset.true c.args.store.now s (registers_are g at s holds)))

pub returns-then-operands-fields-clause-runs : goal.returns-then-operands-fields-clause-runs
returns-then-operands-fields-clause-runs g c s holds =
    let at = (goal.at.returns-then-operands-fields-clause-runs g c).After-any_unset in
    refused_on g.H.GcHeap.KIND c.args.store.now.alloc_counter (g.L.ResourceLimiter.limits c.args.limiter.now) s _ (requested_tests g.H.GcHeap.KIND s c.args.request c.args.operands.now) refusal.FieldCount c.args.store.now c.args.self.now holds refl
    (fields_count s (requested_fields s.table.types c.args.request) c.args.operands.now _ at.in-Some.fields.now (known_in g at s holds) (c.any_unset.ensures.set c.if-any_unset.false c.args.store.now s (registers_are g at s holds)) c.if-operands-fields.true)

-- as many operands as fields
many : (g : given.Over) (c : After-check_fields g) → length c.args.operands.now ≡ length c.in-Some.fields.now
many g c = c.if-operands-fields.false

-- which are those of its type
of_type : (g : given.Over) (c : After-check_fields g) → fields_at c.args.store.now.types (asked_type c.args.request) ≡ Some c.in-Some.fields.now
of_type g c = requested_types c.args.store.now.types c.args.request c.in-Some.fields.now (known g (goal.at.After-check_fields g c).After-any_unset)

-- the tests of the values by their fields
typed : (g : given.Over) (c : After-check_fields g) (s : State) → HoldsState g.H.GcHeap.KIND c.args.store.now c.args.self.now s
    → typed_tests s (type_at s.table.types (types_of.Fields (asked_type c.args.request))) 0 c.args.operands.now ≡ typed_tests s (λ i. slice_get c.in-Some.fields.now i) 0 c.args.operands.now
typed g c s holds =
    typed_by s s.table.types (asked_type c.args.request) c.in-Some.fields.now c.args.operands.now
    (requested_types s.table.types c.args.request c.in-Some.fields.now (known_in g (goal.at.After-check_fields g c).After-any_unset s holds))

pub returns-in-Err-clause-runs : goal.returns-in-Err-clause-runs
returns-in-Err-clause-runs g c s holds =
    let after = (goal.at.returns-in-Err-clause-runs g c).After-check_fields in
    let at = (goal.at.After-check_fields g after).After-any_unset in
    let checks = c.in-Err.ensures.checks (asked_type c.args.request) (of_type g after) s c.args.operands.now (holds_table holds.table) (held g after s holds) in
    let is = fields_value s (requested_fields s.table.types c.args.request) c.args.operands.now (heap_tests g.H.GcHeap.KIND s (requested c.args.request c.args.operands.now s)) at.in-Some.fields.now (known_in g at s holds)
    (set g after s holds) (many g after) c.in-Err.refusal (sym (ap first_failing (typed g after s holds)) ∙ checks) in
    refused_on g.H.GcHeap.KIND c.args.store.now.alloc_counter (g.L.ResourceLimiter.limits c.args.limiter.now) s _ (requested_tests g.H.GcHeap.KIND s c.args.request c.args.operands.now) c.in-Err.refusal c.args.store.now c.args.self.now holds
    (mild_found (requested_tests g.H.GcHeap.KIND s c.args.request c.args.operands.now) c.in-Err.refusal
    (append_mild (all_value_tests s (unwrap_or (requested_fields s.table.types c.args.request) []) c.args.operands.now) (heap_tests g.H.GcHeap.KIND s (requested c.args.request c.args.operands.now s))
    (values_mild s (unwrap_or (requested_fields s.table.types c.args.request) []) c.args.operands.now) refl) is)
    is

-- what is left is up to the heap
left : (g : given.Over) (c : After-clone g) (s : State) → HoldsState g.H.GcHeap.KIND c.args.store.now c.args.self.now s → first_failing (requested_tests g.H.GcHeap.KIND s c.args.request c.args.operands.now) ≡ first_failing (heap_tests g.H.GcHeap.KIND s (requested c.args.request c.args.operands.now s))
left g c s holds =
    let after = (goal.at.After-clone g c).After-check_fields in
    let at = (goal.at.After-check_fields g after).After-any_unset in
    let checks = c.in_default-check_fields.ensures.checks (asked_type c.args.request) (of_type g after) s c.args.operands.now (holds_table holds.table) (held g after s holds) in
    fields_heap s (requested_fields s.table.types c.args.request) c.args.operands.now (heap_tests g.H.GcHeap.KIND s (requested c.args.request c.args.operands.now s)) at.in-Some.fields.now (known_in g at s holds)
    (set g after s holds) (many g after) (sym (ap first_failing (typed g after s holds)) ∙ checks.0)

-- what may be placed of a request with fields
can_place : (layouts : Layouts) (store : StoreView ℕ) (raws : List RawValue) (request : Place) (fields : List FieldType) → requested_fields store.types request ≡ Some fields
    → CanPlaceFields ℕ layouts store (requested_fields store.types request) raws → CanPlaceIn ℕ layouts store request (each_of raws)
can_place layouts store raws (place.Struct ty) fields e can = can
can_place layouts store raws (place.Exn ty tag) fields e can = can
can_place layouts store raws (place.Array ty n) fields e can = absurd (none-some fields e)

-- and the object that it asks for
asks_for : (store : StoreView ℕ) (s : State) (vs : List Operand) (raws : List RawValue) (request : Place) (fields : List FieldType) → requested_fields s.table.types request ≡ Some fields
    → AllStand store s.table raws (given_values s vs) → IsObjectOf store s.table request (each_of raws) (requested request vs (visible s))
asks_for store s vs raws (place.Struct ty) fields e stand = (given_values s vs, (stand, refl))
asks_for store s vs raws (place.Exn ty tag) fields e stand = (given_values s vs, (stand, refl))
asks_for store s vs raws (place.Array ty n) fields e stand = absurd (none-some fields e)

pub place-requires-clause-can : goal.place-requires-clause-can
place-requires-clause-can g c =
    let after = (goal.at.place-requires-clause-can g c).After-check_fields in
    let at = (goal.at.After-check_fields g after).After-any_unset in
    can_place g.H.GcHeap.KIND c.args.store.now (set_operands c.self.inside.registers c.args.operands.now) c.args.request at.in-Some.fields.now (known g at)
    (fields_request g.H.GcHeap.KIND c.args.store.now c.args.request (set_operands c.self.inside.registers c.args.operands.now) at.in-Some.fields.now (known g at) (length-map c.args.operands.now (set_operand c.self.inside.registers) ∙ many g after)
    (c.in_default-check_fields.ensures.stores (asked_type c.args.request) (of_type g after)))

pub place-requires-clause-plain : goal.place-requires-clause-plain
place-requires-clause-plain g c = c.in_default-check_fields.ensures.plain

pub returns-clause-runs : goal.returns-clause-runs
returns-clause-runs g c s holds =
    let placed = (goal.at.returns-clause-runs g c).After-clone in
    let after = (goal.at.After-clone g placed).After-check_fields in
    let at = (goal.at.After-check_fields g after).After-any_unset in
    let checks = c.in_default-check_fields.ensures.checks (asked_type c.args.request) (of_type g after) s c.args.operands.now (holds_table holds.table) (held g after s holds) in
    runs_on g.H.GcHeap.KIND c.args.store.now.alloc_counter (g.L.ResourceLimiter.limits c.args.limiter.now) (g.L.ResourceLimiter.limits c.place.new.limiter) s (making c.args.d (class_of c.args.request) (requested c.args.request c.args.operands.now))
    (requested_tests g.H.GcHeap.KIND s c.args.request c.args.operands.now) (heap_tests g.H.GcHeap.KIND s (requested c.args.request c.args.operands.now s)) (answer_of c.place.result) c.place.new.store (with_registers c.place.new.registers (record { owned = c.self.inside.owned; marks = c.self.inside.marks.items }))
    (left g placed s holds)
    (c.place.ensures.runs s (record { owned = c.self.inside.owned; marks = c.self.inside.marks.items }) (requested c.args.request c.args.operands.now) (subst (λ (r : RunnerView). HoldsState g.H.GcHeap.KIND c.args.store.now r s) (sym c.self.view_is) holds)
    (asks_for c.args.store.now s c.args.operands.now (set_operands c.self.inside.registers c.args.operands.now) c.args.request at.in-Some.fields.now (known_in g at s holds) checks.1))

pub returns-clause-cause : goal.returns-clause-cause
returns-clause-cause g c =
    on_any_err (answer_of c.place.result)
    (λ s holds. unrefused_by (first_failing (requested_tests g.H.GcHeap.KIND s c.args.request c.args.operands.now)) (first_failing (heap_tests g.H.GcHeap.KIND s (requested c.args.request c.args.operands.now s))) (left g (goal.at.returns-clause-cause g c).After-clone s holds) (room_only _ _))

pub returns-in_default-clone-clause-runs : goal.returns-in_default-clone-clause-runs
returns-in_default-clone-clause-runs g c s holds = wants_nothing g.H.GcHeap.KIND c.args.store.now.alloc_counter (g.L.ResourceLimiter.limits c.args.limiter.now) s _ _ c.args.store.now c.args.self.now holds

pub place-requires-clause-listed : goal.place-requires-clause-listed
place-requires-clause-listed g c =
    ap (λ (t : TypeTable). shape_at t.declarations (asked_type c.args.request)) (sym c.types.ensures) ∙ c.in-Some.ensures.listed ∙ ap Some (sym (c.deref.ensures ∙ c.in-Ok.ensures.cases))

pub returns-in_default-clone-clause-cause : goal.returns-in_default-clone-clause-cause
returns-in_default-clone-clause-cause g c = λ s holds.
    unrefused_by (first_failing (requested_tests g.H.GcHeap.KIND s c.args.request c.args.operands.now)) (first_failing (heap_tests g.H.GcHeap.KIND s (requested c.args.request c.args.operands.now s)))
    (left g (goal.at.returns-in_default-clone-clause-cause g c).After-clone s holds) (room_only _ _)
