use Rattle.std.proofs.Common.{◌≡◌, ℕ, List, Some, true, sym, ap, ◌∙◌, subst, refl}
use Rattle.gc_types.specs.Declarations.{Declaration, elem_at, shape_at}
use Rattle.gc_types.specs.declared.types.Types.{Types}
use Rattle.gc_commands.specs.declared.command.Command.TheVariants.{NewBytes}
use Rattle.gc_script.specs.Endings.{answer_of}
use Rattle.gc_script.specs.Slots.{RunnerView, with_registers}
use Rattle.gc_script.specs.State.{State, HoldsState}
use Rattle.gc_script.specs.Wants.{MayWant}
use Rattle.gc_script.specs.Given.{is_byte, holds_bytes}
use Rattle.gc_script.specs.Steps.{heap_tests}
use Rattle.gc_script.specs.Shapes.{new_bytes}
use Rattle.gc_script.specs.Run.{RunsOne}
use Rattle.gc_script.proofs.MakeTests.{runs_rest, bytes_heap}
use Rattle.gc_script.proofs.GoesLemmas.{wants_nothing}
use Rattle.gc_script.proofs.ResultLemmas.{on_any_err, second_is}
use Rattle.gc_script.proofs.WantLemmas.{room_may}
use Rattle.gc_script.proofs.runner.Runner.make_bytes.Given as given
use Rattle.gc_script.proofs.runner.Runner.make_bytes.Goals as goal
use Rattle.gc_script.proofs.runner.Runner.make_bytes.Goals.{In-Some}

-- the type of its elements, in each table that the store holds
known : (g : given.Over) (c : In-Some g) (types : List Declaration) → c.args.store.now.types ≡ types → elem_at types c.new-ty.result ≡ Some c.in-Some.element.now
known g c types same =
    second_is c.array_shape.result c.in-Some.shape c.in-Some.element (elem_at types c.new-ty.result)
    (c.array_shape.ensures.element
    ∙ ap (λ (x : Types). elem_at x.declarations c.new-ty.result) c.types.ensures
    ∙ ap (λ (ts : List Declaration). elem_at ts c.new-ty.result) same)
    c.in-Some.is

pub returns-clause-runs : goal.returns-clause-runs
returns-clause-runs g c s holds =
    let at = (goal.at.returns-clause-runs g c).In-Some in
    let declared = known g at s.table.types holds.table.holds.types in
    let are : holds_bytes (Some c.in-Some.element.now) ≡ true = ap is_byte (c.is_i8.ensures.0 c.if-not-is_i8.false) in
    subst (λ (ty : ℕ). RunsOne g.H.GcHeap.KIND c.args.store.now.alloc_counter (g.L.ResourceLimiter.limits c.args.limiter.now) (g.L.ResourceLimiter.limits c.place.new.limiter) s (NewBytes c.args.d ty c.args.bytes.now) (answer_of c.place.result) c.place.new.store (with_registers c.place.new.registers (record { owned = c.self.inside.owned; marks = c.self.inside.marks.items }))) c.new-ty.ensures
    (runs_rest g.H.GcHeap.KIND c.args.store.now.alloc_counter (g.L.ResourceLimiter.limits c.args.limiter.now) (g.L.ResourceLimiter.limits c.place.new.limiter) s (NewBytes c.args.d c.new-ty.result c.args.bytes.now)
    (heap_tests g.H.GcHeap.KIND s (new_bytes c.new-ty.result c.args.bytes.now)) (answer_of c.place.result) c.place.new.store (with_registers c.place.new.registers (record { owned = c.self.inside.owned; marks = c.self.inside.marks.items }))
    (bytes_heap g.H.GcHeap.KIND s c.args.d c.new-ty.result c.args.bytes.now c.in-Some.element.now declared are)
    (c.place.ensures.runs s (record { owned = c.self.inside.owned; marks = c.self.inside.marks.items }) (λ (x : State). new_bytes c.new-ty.result c.args.bytes.now) (subst (λ (r : RunnerView). HoldsState g.H.GcHeap.KIND c.args.store.now r s) (sym c.self.view_is) holds) refl))

pub returns-clause-cause : goal.returns-clause-cause
returns-clause-cause g c =
    on_any_err (answer_of c.place.result)
    (λ s holds.
    let at = (goal.at.returns-clause-cause g c).In-Some in
    let declared = known g at s.table.types holds.table.holds.types in
    let are : holds_bytes (Some c.in-Some.element.now) ≡ true = ap is_byte (c.is_i8.ensures.0 c.if-not-is_i8.false) in
    subst (λ (ty : ℕ). MayWant g.H.GcHeap.KIND s (NewBytes c.args.d ty c.args.bytes.now)) c.new-ty.ensures
    (room_may g.H.GcHeap.KIND s (NewBytes c.args.d c.new-ty.result c.args.bytes.now) (new_bytes c.new-ty.result c.args.bytes.now) refl
    (bytes_heap g.H.GcHeap.KIND s c.args.d c.new-ty.result c.args.bytes.now c.in-Some.element.now declared are)))

pub returns-in_default-clone-clause-runs : goal.returns-in_default-clone-clause-runs
returns-in_default-clone-clause-runs g c s holds = record { wants = wants_nothing g.H.GcHeap.KIND c.args.store.now.alloc_counter (g.L.ResourceLimiter.limits c.args.limiter.now) s _ _ c.args.store.now c.args.self.now holds }

pub place-requires-clause-listed : goal.place-requires-clause-listed
place-requires-clause-listed g c =
    ap (λ (x : Types). shape_at x.declarations c.new-ty.result) (sym c.types.ensures) ∙ c.in-Some.ensures.listed ∙ ap Some (sym (c.deref.ensures ∙ c.in-Ok-clone.ensures.cases))
