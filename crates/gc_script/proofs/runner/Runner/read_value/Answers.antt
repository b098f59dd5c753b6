use Rattle.std.proofs.Common.{◌≡◌, Some, false, ap, ◌∙◌, subst, inl, inr, sym}
use Rattle.std.specs.Prelude.{Err}
use Rattle.gc_values.specs.declared.root.RootFault.{RootFault}
use Rattle.gc_store.specs.Values.{ReadsValue}
use Rattle.gc_script.specs.Slots.{RunnerView, register_at}
use Rattle.gc_script.specs.State.{State, HoldsState, RegisterStands}
use Rattle.gc_script.specs.Given.{given_register, is_unset}
use Rattle.gc_script.specs.Values.{registered}
use Rattle.gc_script.proofs.ResultLemmas.{failed}
use Rattle.gc_script.proofs.WantLemmas.{new_register, fault_makes}
use Rattle.gc_script.proofs.StandLemmas.{holds_table, register_held}
use Rattle.gc_script.proofs.ReadLemmas.{register_with-same}
use Rattle.gc_script.proofs.ValueReads.{can_read, no_object_read, past_read, value_there, full_read, was_read, read_may}
use Rattle.gc_script.proofs.WriteLemmas.{is_set}
use Rattle.gc_script.proofs.runner.Runner.read_value.Given as given
use Rattle.gc_script.proofs.runner.Runner.read_value.Goals as goal
use Rattle.gc_script.proofs.runner.Runner.read_value.Goals.{After-find_object}

-- what the register holds
target_stands : (g : given.Over) (c : After-find_object g) (s : State) → HoldsState g.H.GcHeap.KIND c.args.store.now c.args.self.now s → RegisterStands c.args.store.now s.table (Some c.in-Some.value) (s.registers c.args.r)
target_stands g c s holds = register_held g.H.GcHeap.KIND c.args.store.now c.args.self.now _ s c.args.r (Some c.in-Some.value) c.self.view_is c.in-Some.ensures holds

target_set : (g : given.Over) (c : After-find_object g) (s : State) → HoldsState g.H.GcHeap.KIND c.args.store.now c.args.self.now s → is_unset (given_register s c.args.r) ≡ false
target_set g c s holds = is_set c.args.store.now s.table c.in-Some.value (s.registers c.args.r) (target_stands g c s holds)

pub returns-in-Err-clause-goes : goal.returns-in-Err-clause-goes
returns-in-Err-clause-goes g c s holds =
    let at = (goal.at.returns-in-Err-clause-goes g c).After-find_object in
    no_object_read g.H.GcHeap.KIND c.args.store.now c.args.self.now s c.args.wanted c.args.r c.args.i c.args.into holds (target_set g at s holds) c.in-Err.why
    (c.in-Err.ensures.finds s c.args.r (holds_table holds.table) (target_stands g at s holds))

pub returns-then-i-object-clause-goes : goal.returns-then-i-object-clause-goes
returns-then-i-object-clause-goes g c s holds =
    let at = (goal.at.returns-then-i-object-clause-goes g c).After-find_object in
    past_read g.H.GcHeap.KIND c.args.store.now c.args.self.now s c.args.wanted c.args.r c.args.i c.args.into holds (target_set g at s holds) c.in-Ok.object
    (c.in-Ok.ensures.finds s c.args.r (holds_table holds.table) (target_stands g at s holds)) c.if-i-object.true

pub read_value-requires : goal.read_value-requires
read_value-requires g c = can_read g.H.GcHeap.KIND c.args.store.now c.args.wanted c.in-Ok.object c.args.i c.in-Ok.ensures.named c.if-i-object.false

pub returns-in-Ok-read_value-clause-goes : goal.returns-in-Ok-read_value-clause-goes
returns-in-Ok-read_value-clause-goes g c s holds =
    let at = (goal.at.returns-in-Ok-read_value-clause-goes g c).After-find_object in
    let found = c.in-Ok.ensures.finds s c.args.r (holds_table holds.table) (target_stands g at s holds) in
    let there = value_there g.H.GcHeap.KIND c.args.store.now c.args.self.now s c.args.wanted c.args.r c.args.i c.args.into holds (target_set g at s holds) c.in-Ok.object found c.if-i-object.false in
    let told = c.in-Ok-read_value.ensures.reads s.table s.account there.0 holds.table there.1 in
    was_read g.H.GcHeap.KIND c.args.store.now c.args.self.now s c.args.wanted c.args.r c.args.i c.args.into holds (target_set g at s holds) c.in-Ok.object found c.if-i-object.false
    c.read_value.new.self _ c.read_value.ensures.same (ap (λ (x : RunnerView). x.rest) c.self.view_is) c.in-Ok-read_value.value c.put_read.result
    (λ k. c.put_read.ensures.put k ∙ register_with-same c.args.into (registered c.in-Ok-read_value.value) c.make_room.new.registers c.args.self.now.registers (λ j. c.make_room.ensures.same j ∙ ap (λ (x : RunnerView). register_at x.registers j) c.self.view_is) k)
    told.0 told.1.0 told.1.1 c.put_read.ensures.shows

pub returns-in-Err-RootsFull-clause-goes : goal.returns-in-Err-RootsFull-clause-goes
returns-in-Err-RootsFull-clause-goes g c s holds =
    let at = (goal.at.returns-in-Err-RootsFull-clause-goes g c).After-find_object in
    let found = c.in-Ok.ensures.finds s c.args.r (holds_table holds.table) (target_stands g at s holds) in
    let there = value_there g.H.GcHeap.KIND c.args.store.now c.args.self.now s c.args.wanted c.args.r c.args.i c.args.into holds (target_set g at s holds) c.in-Ok.object found c.if-i-object.false in
    let told = subst (λ (e : RootFault). ReadsValue g.H.GcHeap.KIND s.table s.account there.0 (Err e) c.read_value.new.self) c.in-Err-RootsFull.field-0-is (c.in-Err-RootsFull.ensures.reads s.table s.account there.0 holds.table there.1) in
    full_read g.H.GcHeap.KIND c.args.store.now c.args.self.now s c.args.wanted c.args.r c.args.i c.args.into holds (target_set g at s holds) c.in-Ok.object found c.if-i-object.false
    c.read_value.new.self _ c.read_value.ensures.same (ap (λ (x : RunnerView). x.rest) c.self.view_is)
    (λ k. c.make_room.ensures.same k ∙ ap (λ (x : RunnerView). register_at x.registers k) c.self.view_is)
    told.0 told.1.0 told.1.1

pub returns-then-is_err-clause-cause : goal.returns-then-is_err-clause-cause
returns-then-is_err-clause-cause g c s holds =
    let at = (goal.at.returns-then-is_err-clause-cause g c).After-find_object in
    let found = c.in-Ok.ensures.finds s c.args.r (holds_table holds.table) (target_stands g at s holds) in
    read_may g.H.GcHeap.KIND c.args.store.now c.args.self.now s c.args.wanted c.args.r c.args.i c.args.into holds (target_set g at s holds) c.in-Ok.object found c.if-i-object.false
    (inr (new_register g.H.GcHeap.KIND c.args.store.now c.args.self.now _ s c.self.view_is holds c.args.into (failed c.make_room.result (sym c.is_err.ensures.value ∙ c.if-is_err.true) c.make_room.ensures.had_none)))

pub returns-in-Err-read_value-clause-cause : goal.returns-in-Err-read_value-clause-cause
returns-in-Err-read_value-clause-cause g c s holds =
    let at = (goal.at.returns-in-Err-read_value-clause-cause g c).After-find_object in
    let found = c.in-Ok.ensures.finds s c.args.r (holds_table holds.table) (target_stands g at s holds) in
    let there = value_there g.H.GcHeap.KIND c.args.store.now c.args.self.now s c.args.wanted c.args.r c.args.i c.args.into holds (target_set g at s holds) c.in-Ok.object found c.if-i-object.false in
    read_may g.H.GcHeap.KIND c.args.store.now c.args.self.now s c.args.wanted c.args.r c.args.i c.args.into holds (target_set g at s holds) c.in-Ok.object found c.if-i-object.false
    (inl (fault_makes g.H.GcHeap.KIND s.table s.account there.0 c.in-Err-read_value.field-0 c.read_value.new.self (c.in-Err-read_value.ensures.reads s.table s.account there.0 holds.table there.1)))
