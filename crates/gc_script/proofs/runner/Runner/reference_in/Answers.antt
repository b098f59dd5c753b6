use Rattle.std.proofs.Common.{Some, true, sym}
use Rattle.gc_script.specs.State.{State, HoldsState}
use Rattle.gc_script.specs.Given.{given_register}
use Rattle.gc_script.specs.Values.{IsFoundLive}
use Rattle.gc_script.proofs.StandLemmas.{holds_table, register_held}
use Rattle.gc_script.proofs.SlotGoes.{gives_reference, gives_number}
use Rattle.gc_script.proofs.runner.Runner.reference_in.Given as given
use Rattle.gc_script.proofs.runner.Runner.reference_in.Goals as goal
use Rattle.gc_script.proofs.runner.Runner.reference_in.Goals.{After-slot_of}

-- what the register holds is found
value_found : (g : given.Over) (c : After-slot_of g) (s : State) → HoldsState g.H.GcHeap.KIND c.args.store.now c.args.self.now s → IsFoundLive c.args.store.now s.table c.in-Some.value (given_register s c.args.r) true
value_found g c s holds =
    c.if-not-is_live.ensures s.table (s.registers c.args.r) (holds_table holds.table)
    (register_held g.H.GcHeap.KIND c.args.store.now c.args.self.now _ s c.args.r (Some c.in-Some.value) c.self.view_is c.in-Some.ensures holds)

pub returns-in-Some-slot_of : goal.returns-in-Some-slot_of
returns-in-Some-slot_of g c s holds =
    let at = (goal.at.returns-in-Some-slot_of g c).After-slot_of in
    gives_reference c.args.store.now s c.args.r c.in-Some.value (value_found g at s holds) c.in-Some-slot_of.slot.0 c.in-Some-slot_of.slot.1 (sym c.in-Some-slot_of.ensures)

pub returns-in-None-slot_of : goal.returns-in-None-slot_of
returns-in-None-slot_of g c s holds =
    let at = (goal.at.returns-in-None-slot_of g c).After-slot_of in
    gives_number c.args.store.now s c.args.r c.in-Some.value (value_found g at s holds) (sym c.in-None-slot_of.ensures)
