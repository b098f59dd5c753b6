use Rattle.std.proofs.Common.{◌≡◌, Some, false, ◌∙◌}
use Rattle.gc_script.specs.Slots.{register_at}
use Rattle.gc_script.specs.State.{State, HoldsState, RegisterStands}
use Rattle.gc_script.specs.Given.{held_operand, given_register, is_unset}
use Rattle.gc_script.specs.Values.{AreRegisters}
use Rattle.gc_script.proofs.FoundLemmas.{unset_held}
use Rattle.gc_script.proofs.StandLemmas.{holds_table, register_held}
use Rattle.gc_script.proofs.WriteLemmas.{is_set, no_operand, to_object}
use Rattle.std.proofs.Common.{refl}
use Rattle.gc_script.proofs.runner.Runner.find_written.Given as given
use Rattle.gc_script.proofs.runner.Runner.find_written.Goals as goal
use Rattle.gc_script.proofs.runner.Runner.find_written.Goals.{After-operand_value, After-find_object}

-- the registers are those of the state
are_registers : (g : given.Over) (c : After-operand_value g) (s : State) → HoldsState g.H.GcHeap.KIND c.args.store.now c.args.self.now s → AreRegisters c.args.store.now c.self.inside.registers s
are_registers g c s holds d = register_held g.H.GcHeap.KIND c.args.store.now c.args.self.now _ s d (register_at c.self.inside.registers d) c.self.view_is refl holds

-- what the register holds
target_stands : (g : given.Over) (c : After-operand_value g) (s : State) → HoldsState g.H.GcHeap.KIND c.args.store.now c.args.self.now s → RegisterStands c.args.store.now s.table (Some c.in-Some.value) (s.registers c.args.r)
target_stands g c s holds = register_held g.H.GcHeap.KIND c.args.store.now c.args.self.now _ s c.args.r (Some c.in-Some.value) c.self.view_is c.in-Some.ensures holds

target_set : (g : given.Over) (c : After-operand_value g) (s : State) → HoldsState g.H.GcHeap.KIND c.args.store.now c.args.self.now s → is_unset (given_register s c.args.r) ≡ false
target_set g c s holds = is_set c.args.store.now s.table c.in-Some.value (s.registers c.args.r) (target_stands g c s holds)

-- what the operand holds
value_stands : (g : given.Over) (c : After-find_object g) (s : State) → HoldsState g.H.GcHeap.KIND c.args.store.now c.args.self.now s → RegisterStands c.args.store.now s.table (Some c.in-Some-operand_value.value) (held_operand s c.args.operand.now)
value_stands g c s holds = c.in-Some-operand_value.ensures.holds c.args.store.now s (are_registers g (goal.at.After-find_object g c).After-operand_value s holds)

pub returns-in-None-operand_value-clause-finds : goal.returns-in-None-operand_value-clause-finds
returns-in-None-operand_value-clause-finds g c s holds =
    let at = (goal.at.returns-in-None-operand_value-clause-finds g c).After-operand_value in
    no_operand s c.args.wanted c.args.r c.args.operand.now (target_set g at s holds)
    (unset_held c.args.store.now s.table (held_operand s c.args.operand.now) (c.in-None-operand_value.ensures.holds c.args.store.now s (are_registers g at s holds)))

pub returns-in-Ok-clause-finds : goal.returns-in-Ok-clause-finds
returns-in-Ok-clause-finds g c s holds =
    let at = (goal.at.returns-in-Ok-clause-finds g c).After-operand_value in
    let found_at = (goal.at.returns-in-Ok-clause-finds g c).After-find_object in
    let found = c.in-Ok.ensures.finds s c.args.r (holds_table holds.table) (target_stands g at s holds) in
    record {
      passes = to_object s c.args.wanted c.args.r c.args.operand.now (target_set g at s holds)
          (is_set c.args.store.now s.table c.in-Some-operand_value.value (held_operand s c.args.operand.now) (value_stands g found_at s holds)) ∙ found.passes;
      found = found;
      stands = value_stands g found_at s holds;
    }

pub returns-in-Err-clause-finds : goal.returns-in-Err-clause-finds
returns-in-Err-clause-finds g c s holds =
    let at = (goal.at.returns-in-Err-clause-finds g c).After-operand_value in
    let found_at = (goal.at.returns-in-Err-clause-finds g c).After-find_object in
    to_object s c.args.wanted c.args.r c.args.operand.now (target_set g at s holds)
    (is_set c.args.store.now s.table c.in-Some-operand_value.value (held_operand s c.args.operand.now) (value_stands g found_at s holds))
    ∙ c.in-Err.ensures.finds s c.args.r (holds_table holds.table) (target_stands g at s holds)
