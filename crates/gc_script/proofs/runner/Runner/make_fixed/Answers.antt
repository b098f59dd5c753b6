use Rattle.std.proofs.Common.{◌≡◌, ℕ, List, Some, false, sym, ap, ◌∙◌, subst, refl, arith}
use Rattle.gc_types.specs.Declarations.{Declaration, elem_at, shape_at}
use Rattle.gc_types.specs.declared.types.Types.{Types}
use Rattle.gc_commands.specs.declared.command.Command.TheVariants.{Fixed}
use Rattle.gc_commands.specs.declared.reply.Refusal.TheVariants as refusal
use Rattle.gc_commands.specs.declared.reply.Reply.TheVariants as reply
use Rattle.std.specs.Prelude.{Ok}
use Rattle.std.specs.Prelude.{map}
use Rattle.std.proofs.lemmas.List.{length-map}
use Rattle.gc_commands.specs.declared.command.Operand.{Operand}
use Rattle.gc_model.specs.Stored.{stored}
use Rattle.gc_store.specs.Requests.{element_of}
use Rattle.gc_script.specs.Endings.{answer_of}
use Rattle.gc_script.specs.Slots.{RunnerView, with_registers, register_at}
use Rattle.gc_script.specs.State.{State, HoldsState}
use Rattle.gc_script.specs.Given.{given, given_value, given_values}
use Rattle.gc_script.specs.Shapes.{new_fixed}
use Rattle.gc_script.specs.Run.{RunsOne}
use Rattle.gc_script.specs.Values.{AreRegisters, set_operand, set_operands, AllHeld}
use Rattle.gc_script.proofs.StandLemmas.{holds_table, register_held}
use Rattle.gc_script.proofs.GoesLemmas.{refused_runs, wants_nothing}
use Rattle.gc_script.proofs.MakeTests.{runs_rest, fixed_unset, fixed_refused, fixed_heap}
use Rattle.gc_script.proofs.RequestLemmas.{elements_request, many_refused}
use Rattle.gc_script.specs.Steps.{any_unset, tests, first_failing, heap_tests}
use Rattle.gc_script.specs.Wants.{MayWant}
use Rattle.gc_script.proofs.OperandLemmas.{are_held}
use Rattle.gc_script.proofs.ResultLemmas.{on_any_err, second_is}
use Rattle.gc_script.proofs.WantLemmas.{room_may}
use Rattle.gc_script.proofs.runner.Runner.make_fixed.Given as given
use Rattle.gc_script.proofs.runner.Runner.make_fixed.Goals as goal
use Rattle.gc_script.proofs.runner.Runner.make_fixed.Goals.{After-any_unset, After-check_elements, After-clone}

-- the type of its elements, in each table that the store holds
known : (g : given.Over) (c : After-any_unset g) (types : List Declaration) → c.args.store.now.types ≡ types → elem_at types c.new-ty.result ≡ Some c.in-Some.element.now
known g c types same =
    second_is c.array_shape.result c.in-Some.shape c.in-Some.element (elem_at types c.new-ty.result)
    (c.array_shape.ensures.element
    ∙ ap (λ (x : Types). elem_at x.declarations c.new-ty.result) c.types.ensures
    ∙ ap (λ (ts : List Declaration). elem_at ts c.new-ty.result) same)
    c.in-Some.is

are_registers : (g : given.Over) (c : After-any_unset g) (s : State) → HoldsState g.H.GcHeap.KIND c.args.store.now c.args.self.now s → AreRegisters c.args.store.now c.self.inside.registers s
are_registers g c s holds d = register_held g.H.GcHeap.KIND c.args.store.now c.args.self.now _ s d (register_at c.self.inside.registers d) c.self.view_is refl holds

set : (g : given.Over) (c : After-check_elements g) (s : State) → HoldsState g.H.GcHeap.KIND c.args.store.now c.args.self.now s → any_unset s c.args.operands.now ≡ false
set g c s holds = c.any_unset.ensures.set c.if-any_unset.false c.args.store.now s (are_registers g (goal.at.After-check_elements g c).After-any_unset s holds)

held : (g : given.Over) (c : After-check_elements g) (s : State) → HoldsState g.H.GcHeap.KIND c.args.store.now c.args.self.now s → AllHeld c.args.store.now s c.args.operands.now (set_operands c.self.inside.registers c.args.operands.now)
held g c s holds = are_held c.self.inside.registers c.args.operands.now c.args.store.now s (are_registers g (goal.at.After-check_elements g c).After-any_unset s holds) (set g c s holds)

pub returns-then-any_unset-clause-runs : goal.returns-then-any_unset-clause-runs
returns-then-any_unset-clause-runs g c s holds =
    let at = (goal.at.returns-then-any_unset-clause-runs g c).After-any_unset in
    subst (λ (ty : ℕ). RunsOne g.H.GcHeap.KIND c.args.store.now.alloc_counter (g.L.ResourceLimiter.limits c.args.limiter.now) (g.L.ResourceLimiter.limits c.args.limiter.now) s (Fixed c.args.d ty c.args.operands.now) (Ok (reply.Refused refusal.NoSuchName)) c.args.store.now c.args.self.now) c.new-ty.ensures
    (refused_runs g.H.GcHeap.KIND c.args.store.now.alloc_counter (g.L.ResourceLimiter.limits c.args.limiter.now) s (Fixed c.args.d c.new-ty.result c.args.operands.now) refusal.NoSuchName c.args.store.now c.args.self.now holds
    (fixed_unset g.H.GcHeap.KIND s c.args.d c.new-ty.result c.args.operands.now c.in-Some.element.now (known g at s.table.types holds.table.holds.types) (c.any_unset.ensures.unset c.if-any_unset.true c.args.store.now s (are_registers g at s holds))))

pub returns-in-Err-clause-runs : goal.returns-in-Err-clause-runs
returns-in-Err-clause-runs g c s holds =
    let after = (goal.at.returns-in-Err-clause-runs g c).After-check_elements in
    let at = (goal.at.After-check_elements g after).After-any_unset in
    subst (λ (ty : ℕ). RunsOne g.H.GcHeap.KIND c.args.store.now.alloc_counter (g.L.ResourceLimiter.limits c.args.limiter.now) (g.L.ResourceLimiter.limits c.args.limiter.now) s (Fixed c.args.d ty c.args.operands.now) (Ok (reply.Refused c.in-Err.refusal)) c.args.store.now c.args.self.now) c.new-ty.ensures
    (refused_runs g.H.GcHeap.KIND c.args.store.now.alloc_counter (g.L.ResourceLimiter.limits c.args.limiter.now) s (Fixed c.args.d c.new-ty.result c.args.operands.now) c.in-Err.refusal c.args.store.now c.args.self.now holds
    (fixed_refused g.H.GcHeap.KIND s c.args.d c.new-ty.result c.args.operands.now c.in-Some.element.now (known g at s.table.types holds.table.holds.types) (set g after s holds) c.in-Err.refusal (c.in-Err.ensures.checks s c.args.operands.now (holds_table holds.table) (held g after s holds))))

pub returns-in_default-try_from-clause-runs : goal.returns-in_default-try_from-clause-runs
returns-in_default-try_from-clause-runs g c s holds =
    let after = (goal.at.returns-in_default-try_from-clause-runs g c).After-check_elements in
    let at = (goal.at.After-check_elements g after).After-any_unset in
    let declared = known g at s.table.types holds.table.holds.types in
    let checks = c.in_default-check_elements.ensures.checks s c.args.operands.now (holds_table holds.table) (held g after s holds) in
    subst (λ (ty : ℕ). RunsOne g.H.GcHeap.KIND c.args.store.now.alloc_counter (g.L.ResourceLimiter.limits c.args.limiter.now) (g.L.ResourceLimiter.limits c.args.limiter.now) s (Fixed c.args.d ty c.args.operands.now) (Ok (reply.Refused refusal.TooLarge)) c.args.store.now c.args.self.now) c.new-ty.ensures
    (refused_runs g.H.GcHeap.KIND c.args.store.now.alloc_counter (g.L.ResourceLimiter.limits c.args.limiter.now) s (Fixed c.args.d c.new-ty.result c.args.operands.now) refusal.TooLarge c.args.store.now c.args.self.now holds
    (fixed_heap g.H.GcHeap.KIND s c.args.d c.new-ty.result c.args.operands.now c.in-Some.element.now declared (set g after s holds) checks.0
    ∙ many_refused g.H.GcHeap.KIND s c.new-ty.result (map (stored (element_of s.table.types c.new-ty.result)) (given_values s c.args.operands.now)) c.in-Some.element.now declared (omega (arith, c.in_default-try_from.ensures, length-map (given_values s c.args.operands.now) (stored (element_of s.table.types c.new-ty.result)), length-map c.args.operands.now (λ (v : Operand). given_value (given s v))))))

-- what is left is up to the heap
left : (g : given.Over) (c : After-clone g) (s : State) → HoldsState g.H.GcHeap.KIND c.args.store.now c.args.self.now s → first_failing (tests g.H.GcHeap.KIND s (Fixed c.args.d c.new-ty.result c.args.operands.now)) ≡ first_failing (heap_tests g.H.GcHeap.KIND s (new_fixed s c.new-ty.result c.args.operands.now))
left g c s holds =
    let after = (goal.at.After-clone g c).After-check_elements in
    let at = (goal.at.After-check_elements g after).After-any_unset in
    fixed_heap g.H.GcHeap.KIND s c.args.d c.new-ty.result c.args.operands.now c.in-Some.element.now (known g at s.table.types holds.table.holds.types) (set g after s holds)
    (c.in_default-check_elements.ensures.checks s c.args.operands.now (holds_table holds.table) (held g after s holds)).0

may : (g : given.Over) (c : After-clone g) (s : State) → HoldsState g.H.GcHeap.KIND c.args.store.now c.args.self.now s → MayWant g.H.GcHeap.KIND s (Fixed c.args.d c.args.t c.args.operands.now)
may g c s holds =
    subst (λ (ty : ℕ). MayWant g.H.GcHeap.KIND s (Fixed c.args.d ty c.args.operands.now)) c.new-ty.ensures (room_may g.H.GcHeap.KIND s (Fixed c.args.d c.new-ty.result c.args.operands.now) (new_fixed s c.new-ty.result c.args.operands.now) refl (left g c s holds))

pub place-requires-clause-can : goal.place-requires-clause-can
place-requires-clause-can g c =
    let at = (goal.at.place-requires-clause-can g c).After-any_unset in
    elements_request g.H.GcHeap.KIND c.args.store.now c.new-ty.result c.in-Ok.len (set_operands c.self.inside.registers c.args.operands.now) c.in-Some.element.now (known g at c.args.store.now.types refl)
    (length-map c.args.operands.now (set_operand c.self.inside.registers) ∙ sym c.in-Ok.ensures.1)
    c.in_default-check_elements.ensures.stores

pub place-requires-clause-plain : goal.place-requires-clause-plain
place-requires-clause-plain g c = c.in_default-check_elements.ensures.plain

pub returns-clause-runs : goal.returns-clause-runs
returns-clause-runs g c s holds =
    let placed = (goal.at.returns-clause-runs g c).After-clone in
    let after = (goal.at.After-clone g placed).After-check_elements in
    let checks = c.in_default-check_elements.ensures.checks s c.args.operands.now (holds_table holds.table) (held g after s holds) in
    subst (λ (ty : ℕ). RunsOne g.H.GcHeap.KIND c.args.store.now.alloc_counter (g.L.ResourceLimiter.limits c.args.limiter.now) (g.L.ResourceLimiter.limits c.place.new.limiter) s (Fixed c.args.d ty c.args.operands.now) (answer_of c.place.result) c.place.new.store (with_registers c.place.new.registers (record { owned = c.self.inside.owned; marks = c.self.inside.marks.items }))) c.new-ty.ensures
    (runs_rest g.H.GcHeap.KIND c.args.store.now.alloc_counter (g.L.ResourceLimiter.limits c.args.limiter.now) (g.L.ResourceLimiter.limits c.place.new.limiter) s (Fixed c.args.d c.new-ty.result c.args.operands.now)
    (heap_tests g.H.GcHeap.KIND s (new_fixed s c.new-ty.result c.args.operands.now)) (answer_of c.place.result) c.place.new.store (with_registers c.place.new.registers (record { owned = c.self.inside.owned; marks = c.self.inside.marks.items }))
    (left g placed s holds)
    (c.place.ensures.runs s (record { owned = c.self.inside.owned; marks = c.self.inside.marks.items }) (λ (x : State). new_fixed x c.new-ty.result c.args.operands.now) (subst (λ (r : RunnerView). HoldsState g.H.GcHeap.KIND c.args.store.now r s) (sym c.self.view_is) holds) (given_values s c.args.operands.now, (checks.1, refl))))

pub returns-clause-cause : goal.returns-clause-cause
returns-clause-cause g c = on_any_err (answer_of c.place.result) (may g (goal.at.returns-clause-cause g c).After-clone)

pub returns-in_default-clone-clause-cause : goal.returns-in_default-clone-clause-cause
returns-in_default-clone-clause-cause g c = may g (goal.at.returns-in_default-clone-clause-cause g c).After-clone

pub returns-in_default-clone-clause-runs : goal.returns-in_default-clone-clause-runs
returns-in_default-clone-clause-runs g c s holds = record { wants = wants_nothing g.H.GcHeap.KIND c.args.store.now.alloc_counter (g.L.ResourceLimiter.limits c.args.limiter.now) s _ _ c.args.store.now c.args.self.now holds }

pub place-requires-clause-listed : goal.place-requires-clause-listed
place-requires-clause-listed g c =
    ap (λ (x : Types). shape_at x.declarations c.new-ty.result) (sym c.types.ensures) ∙ c.in-Some.ensures.listed ∙ ap Some (sym (c.deref.ensures ∙ c.in-Ok-clone.ensures.cases))
