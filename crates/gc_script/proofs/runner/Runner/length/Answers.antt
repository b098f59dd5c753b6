use Rattle.std.proofs.Common.{◌≡◌, Some, false}
use Rattle.gc_script.specs.State.{State, HoldsState, RegisterStands}
use Rattle.gc_script.specs.Given.{given_register, is_unset}
use Rattle.gc_script.proofs.StandLemmas.{holds_table, register_held}
use Rattle.gc_script.proofs.WriteLemmas.{is_set}
use Rattle.gc_script.proofs.LengthLemmas.{no_array_length, length_told}
use Rattle.gc_script.proofs.runner.Runner.length.Given as given
use Rattle.gc_script.proofs.runner.Runner.length.Goals as goal
use Rattle.gc_script.proofs.runner.Runner.length.Goals.{After-find_object}

-- what the register holds
target_stands : (g : given.Over) (c : After-find_object g) (s : State) → HoldsState g.H.GcHeap.KIND c.args.store.now c.args.self.now s → RegisterStands c.args.store.now s.table (Some c.in-Some.value) (s.registers c.args.r)
target_stands g c s holds = register_held g.H.GcHeap.KIND c.args.store.now c.args.self.now _ s c.args.r (Some c.in-Some.value) c.self.view_is c.in-Some.ensures holds

target_set : (g : given.Over) (c : After-find_object g) (s : State) → HoldsState g.H.GcHeap.KIND c.args.store.now c.args.self.now s → is_unset (given_register s c.args.r) ≡ false
target_set g c s holds = is_set c.args.store.now s.table c.in-Some.value (s.registers c.args.r) (target_stands g c s holds)

pub returns-in-Ok : goal.returns-in-Ok
returns-in-Ok g c s holds =
    let at = (goal.at.returns-in-Ok g c).After-find_object in
    length_told g.H.GcHeap.KIND c.args.store.now c.args.self.now s c.args.r holds (target_set g at s holds) c.in-Ok.object
    (c.in-Ok.ensures.finds s c.args.r (holds_table holds.table) (target_stands g at s holds))

pub returns-in-Err : goal.returns-in-Err
returns-in-Err g c s holds =
    let at = (goal.at.returns-in-Err g c).After-find_object in
    no_array_length g.H.GcHeap.KIND c.args.store.now c.args.self.now s c.args.r holds (target_set g at s holds) c.in-Err.why
    (c.in-Err.ensures.finds s c.args.r (holds_table holds.table) (target_stands g at s holds))
