use Rattle.std.proofs.Common.{◌≡◌, ℕ, List, Some, false, sym, ap, ◌∙◌, subst, refl, arith}
use Rattle.gc_types.specs.Declarations.{Declaration, elem_at, shape_at}
use Rattle.gc_types.specs.declared.types.Types.{Types}
use Rattle.gc_commands.specs.declared.command.Command.TheVariants.{NewArr}
use Rattle.gc_commands.specs.declared.reply.Refusal.TheVariants as refusal
use Rattle.gc_commands.specs.declared.reply.Reply.TheVariants as reply
use Rattle.std.specs.Prelude.{Ok}
use Rattle.gc_script.specs.Endings.{answer_of}
use Rattle.gc_script.specs.Slots.{RunnerView, with_registers, register_at}
use Rattle.gc_script.specs.Wants.{MayWant}
use Rattle.gc_script.specs.State.{State, HoldsState, RegisterStands}
use Rattle.gc_script.specs.Given.{held_operand, given, given_value, is_unset}
use Rattle.gc_script.specs.Steps.{heap_tests}
use Rattle.gc_script.specs.Shapes.{filled_array}
use Rattle.gc_script.specs.Run.{RunsOne}
use Rattle.gc_script.specs.Values.{AreRegisters}
use Rattle.gc_script.proofs.FoundLemmas.{unset_held}
use Rattle.gc_script.proofs.StandLemmas.{holds_table, register_held}
use Rattle.gc_script.proofs.WriteLemmas.{is_set}
use Rattle.gc_script.proofs.GoesLemmas.{refused_runs, wants_nothing}
use Rattle.gc_script.proofs.MakeTests.{runs_rest, array_unset, array_refused, array_heap, empty_heap}
use Rattle.gc_script.proofs.ResultLemmas.{on_any_err, second_is}
use Rattle.gc_script.proofs.WantLemmas.{room_may}
use Rattle.gc_script.proofs.runner.Runner.make_filled.Given as given
use Rattle.gc_script.proofs.runner.Runner.make_filled.Goals as goal
use Rattle.gc_script.proofs.runner.Runner.make_filled.Goals.{After-operand_value, In-Some-operand_value, then-len-gt0+in_default-check_value, else-len-gt0, After-clone}

-- the type of its elements, in each table that the store holds
known : (g : given.Over) (c : After-operand_value g) (types : List Declaration) → c.args.store.now.types ≡ types → elem_at types c.new-ty.result ≡ Some c.in-Some.element.now
known g c types same =
    second_is c.array_shape.result c.in-Some.shape c.in-Some.element (elem_at types c.new-ty.result)
    (c.array_shape.ensures.element
    ∙ ap (λ (x : Types). elem_at x.declarations c.new-ty.result) c.types.ensures
    ∙ ap (λ (ts : List Declaration). elem_at ts c.new-ty.result) same)
    c.in-Some.is

are_registers : (g : given.Over) (c : After-operand_value g) (s : State) → HoldsState g.H.GcHeap.KIND c.args.store.now c.args.self.now s → AreRegisters c.args.store.now c.self.inside.registers s
are_registers g c s holds d = register_held g.H.GcHeap.KIND c.args.store.now c.args.self.now _ s d (register_at c.self.inside.registers d) c.self.view_is refl holds

-- what the operand holds
stands : (g : given.Over) (c : In-Some-operand_value g) (s : State) → HoldsState g.H.GcHeap.KIND c.args.store.now c.args.self.now s → RegisterStands c.args.store.now s.table (Some c.in-Some-operand_value.value) (held_operand s c.args.operand.now)
stands g c s holds = c.in-Some-operand_value.ensures.holds c.args.store.now s (are_registers g (goal.at.In-Some-operand_value g c).After-operand_value s holds)

set : (g : given.Over) (c : In-Some-operand_value g) (s : State) → HoldsState g.H.GcHeap.KIND c.args.store.now c.args.self.now s → is_unset (given s c.args.operand.now) ≡ false
set g c s holds = is_set c.args.store.now s.table c.in-Some-operand_value.value (held_operand s c.args.operand.now) (stands g c s holds)

pub returns-in_default-operand_value-clause-runs : goal.returns-in_default-operand_value-clause-runs
returns-in_default-operand_value-clause-runs g c s holds =
    let at = (goal.at.returns-in_default-operand_value-clause-runs g c).After-operand_value in
    subst (λ (ty : ℕ). RunsOne g.H.GcHeap.KIND c.args.store.now.alloc_counter (g.L.ResourceLimiter.limits c.args.limiter.now) (g.L.ResourceLimiter.limits c.args.limiter.now) s (NewArr c.args.d ty c.args.len c.args.operand.now) (Ok (reply.Refused refusal.NoSuchName)) c.args.store.now c.args.self.now) c.new-ty.ensures
    (refused_runs g.H.GcHeap.KIND c.args.store.now.alloc_counter (g.L.ResourceLimiter.limits c.args.limiter.now) s (NewArr c.args.d c.new-ty.result c.args.len c.args.operand.now) refusal.NoSuchName c.args.store.now c.args.self.now holds
    (array_unset g.H.GcHeap.KIND s c.args.d c.new-ty.result c.args.len c.args.operand.now c.in-Some.element.now (known g at s.table.types holds.table.holds.types)
    (ap is_unset (unset_held c.args.store.now s.table (held_operand s c.args.operand.now) (c.in_default-operand_value.ensures.holds c.args.store.now s (are_registers g at s holds))))))

pub returns-in-Err-clause-runs : goal.returns-in-Err-clause-runs
returns-in-Err-clause-runs g c s holds =
    let at = (goal.at.returns-in-Err-clause-runs g c).After-operand_value in
    let at_value = (goal.at.returns-in-Err-clause-runs g c).In-Some-operand_value in
    subst (λ (ty : ℕ). RunsOne g.H.GcHeap.KIND c.args.store.now.alloc_counter (g.L.ResourceLimiter.limits c.args.limiter.now) (g.L.ResourceLimiter.limits c.args.limiter.now) s (NewArr c.args.d ty c.args.len c.args.operand.now) (Ok (reply.Refused c.in-Err.refusal)) c.args.store.now c.args.self.now) c.new-ty.ensures
    (refused_runs g.H.GcHeap.KIND c.args.store.now.alloc_counter (g.L.ResourceLimiter.limits c.args.limiter.now) s (NewArr c.args.d c.new-ty.result c.args.len c.args.operand.now) c.in-Err.refusal c.args.store.now c.args.self.now holds
    (array_refused g.H.GcHeap.KIND s c.args.d c.new-ty.result c.args.len c.args.operand.now c.in-Some.element.now (known g at s.table.types holds.table.holds.types) (set g at_value s holds) c.if-len-gt0.true c.in-Err.refusal
    (c.in-Err.ensures.checks s c.args.operand.now (holds_table holds.table) (stands g at_value s holds))))

pub returns-clause-runs : goal.returns-clause-runs
returns-clause-runs g c s holds =
    let at = (goal.at.returns-clause-runs g c).After-operand_value in
    let at_value = (goal.at.returns-clause-runs g c).In-Some-operand_value in
    let declared = known g at s.table.types holds.table.holds.types in
    elim c.if-len-gt0.branch [
      | then-len-gt0+in_default-check_value w ↦
          subst (λ (ty : ℕ). RunsOne g.H.GcHeap.KIND c.args.store.now.alloc_counter (g.L.ResourceLimiter.limits c.args.limiter.now) (g.L.ResourceLimiter.limits c.place.new.limiter) s (NewArr c.args.d ty c.args.len c.args.operand.now) (answer_of c.place.result) c.place.new.store (with_registers c.place.new.registers (record { owned = c.self.inside.owned; marks = c.self.inside.marks.items }))) c.new-ty.ensures
          (runs_rest g.H.GcHeap.KIND c.args.store.now.alloc_counter (g.L.ResourceLimiter.limits c.args.limiter.now) (g.L.ResourceLimiter.limits c.place.new.limiter) s (NewArr c.args.d c.new-ty.result c.args.len c.args.operand.now)
          (heap_tests g.H.GcHeap.KIND s (filled_array s c.new-ty.result c.args.len c.args.operand.now)) (answer_of c.place.result) c.place.new.store (with_registers c.place.new.registers (record { owned = c.self.inside.owned; marks = c.self.inside.marks.items }))
          (array_heap g.H.GcHeap.KIND s c.args.d c.new-ty.result c.args.len c.args.operand.now c.in-Some.element.now declared (set g at_value s holds) w.if-len-gt0.true (w.in_default-check_value.ensures.checks s c.args.operand.now (holds_table holds.table) (stands g at_value s holds)).0)
          (c.place.ensures.runs s (record { owned = c.self.inside.owned; marks = c.self.inside.marks.items }) (λ (x : State). filled_array x c.new-ty.result c.args.len c.args.operand.now) (subst (λ (r : RunnerView). HoldsState g.H.GcHeap.KIND c.args.store.now r s) (sym c.self.view_is) holds) (given_value (given s c.args.operand.now), ((λ some. (w.in_default-check_value.ensures.checks s c.args.operand.now (holds_table holds.table) (stands g at_value s holds)).1), refl))))
      | else-len-gt0 w ↦
          subst (λ (ty : ℕ). RunsOne g.H.GcHeap.KIND c.args.store.now.alloc_counter (g.L.ResourceLimiter.limits c.args.limiter.now) (g.L.ResourceLimiter.limits c.place.new.limiter) s (NewArr c.args.d ty c.args.len c.args.operand.now) (answer_of c.place.result) c.place.new.store (with_registers c.place.new.registers (record { owned = c.self.inside.owned; marks = c.self.inside.marks.items }))) c.new-ty.ensures
          (runs_rest g.H.GcHeap.KIND c.args.store.now.alloc_counter (g.L.ResourceLimiter.limits c.args.limiter.now) (g.L.ResourceLimiter.limits c.place.new.limiter) s (NewArr c.args.d c.new-ty.result c.args.len c.args.operand.now)
          (heap_tests g.H.GcHeap.KIND s (filled_array s c.new-ty.result c.args.len c.args.operand.now)) (answer_of c.place.result) c.place.new.store (with_registers c.place.new.registers (record { owned = c.self.inside.owned; marks = c.self.inside.marks.items }))
          (empty_heap g.H.GcHeap.KIND s c.args.d c.new-ty.result c.args.len c.args.operand.now c.in-Some.element.now declared (set g at_value s holds) (omega (arith, w.if-len-gt0.false)))
          (c.place.ensures.runs s (record { owned = c.self.inside.owned; marks = c.self.inside.marks.items }) (λ (x : State). filled_array x c.new-ty.result c.args.len c.args.operand.now) (subst (λ (r : RunnerView). HoldsState g.H.GcHeap.KIND c.args.store.now r s) (sym c.self.view_is) holds) (given_value (given s c.args.operand.now), ((λ some. absurd (omega (arith, some, w.if-len-gt0.false))), refl))))
    ]

-- memory may be wanted where no test refuses
may : (g : given.Over) (c : After-clone g) (s : State) → HoldsState g.H.GcHeap.KIND c.args.store.now c.args.self.now s → MayWant g.H.GcHeap.KIND s (NewArr c.args.d c.args.t c.args.len c.args.operand.now)
may g c s holds =
    let at = (goal.at.After-clone g c).After-operand_value in
    let at_value = (goal.at.After-clone g c).In-Some-operand_value in
    let declared = known g at s.table.types holds.table.holds.types in
    subst (λ (ty : ℕ). MayWant g.H.GcHeap.KIND s (NewArr c.args.d ty c.args.len c.args.operand.now)) c.new-ty.ensures
    (elim c.if-len-gt0.branch [
      | then-len-gt0+in_default-check_value w ↦
          room_may g.H.GcHeap.KIND s (NewArr c.args.d c.new-ty.result c.args.len c.args.operand.now) (filled_array s c.new-ty.result c.args.len c.args.operand.now) refl
          (array_heap g.H.GcHeap.KIND s c.args.d c.new-ty.result c.args.len c.args.operand.now c.in-Some.element.now declared (set g at_value s holds) w.if-len-gt0.true (w.in_default-check_value.ensures.checks s c.args.operand.now (holds_table holds.table) (stands g at_value s holds)).0)
      | else-len-gt0 w ↦
          room_may g.H.GcHeap.KIND s (NewArr c.args.d c.new-ty.result c.args.len c.args.operand.now) (filled_array s c.new-ty.result c.args.len c.args.operand.now) refl
          (empty_heap g.H.GcHeap.KIND s c.args.d c.new-ty.result c.args.len c.args.operand.now c.in-Some.element.now declared (set g at_value s holds) (omega (arith, w.if-len-gt0.false)))
    ])

pub returns-clause-cause : goal.returns-clause-cause
returns-clause-cause g c = on_any_err (answer_of c.place.result) (may g (goal.at.returns-clause-cause g c).After-clone)

pub returns-in_default-clone-clause-cause : goal.returns-in_default-clone-clause-cause
returns-in_default-clone-clause-cause g c = may g (goal.at.returns-in_default-clone-clause-cause g c).After-clone

pub place-requires-clause-plain : goal.place-requires-clause-plain
place-requires-clause-plain g c some =
    elim c.if-len-gt0.branch [
      | then-len-gt0+in_default-check_value w ↦ w.in_default-check_value.ensures.plain
      | else-len-gt0 w ↦ absurd (omega (arith, some, w.if-len-gt0.false))
    ]

pub place-requires-clause-can : goal.place-requires-clause-can
place-requires-clause-can g c = record {
  element = c.in-Some.element.now;
  declared = known g (goal.at.place-requires-clause-can g c).After-operand_value c.args.store.now.types refl;
  fits = λ some.
      elim c.if-len-gt0.branch [
        | then-len-gt0+in_default-check_value w ↦ w.in_default-check_value.ensures.stores
        | else-len-gt0 w ↦ absurd (omega (arith, some, w.if-len-gt0.false))
      ];
}

pub returns-in_default-clone-clause-runs : goal.returns-in_default-clone-clause-runs
returns-in_default-clone-clause-runs g c s holds = record { wants = wants_nothing g.H.GcHeap.KIND c.args.store.now.alloc_counter (g.L.ResourceLimiter.limits c.args.limiter.now) s _ _ c.args.store.now c.args.self.now holds }

pub place-requires-clause-listed : goal.place-requires-clause-listed
place-requires-clause-listed g c =
    ap (λ (x : Types). shape_at x.declarations c.new-ty.result) (sym c.types.ensures) ∙ c.in-Some.ensures.listed ∙ ap Some (sym (c.deref.ensures ∙ c.in-Ok.ensures.cases))
