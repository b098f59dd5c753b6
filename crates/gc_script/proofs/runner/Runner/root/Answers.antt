use Rattle.std.proofs.Common.{◌≡◌, Some, sym, ap, ◌∙◌, subst}
use Rattle.std.specs.Prelude.{Err}
use Rattle.gc_model.specs.Accounts.{HoldsAccount}
use Rattle.gc_values.specs.declared.root.RootFault.{RootFault}
use Rattle.gc_script.specs.Slots.{RunnerView, register_at}
use Rattle.gc_script.specs.Values.{raw_slot}
use Rattle.gc_script.proofs.StandLemmas.{holds_table, holds_same}
use Rattle.gc_script.proofs.OwnGoes.{root_lost, root_may, root_made, root_gone, root_full}
use Rattle.gc_script.proofs.runner.Runner.root.Given as given
use Rattle.gc_script.proofs.runner.Runner.root.Goals as goal
use Rattle.gc_script.proofs.runner.Runner.root.Goals.{After-object}

-- what the owned register holds
is_held : (g : given.Over) (c : After-object g) → register_at c.args.self.now.rest.owned c.args.o ≡ Some c.in-Some.held
is_held g c = sym (ap (λ (r : RunnerView). register_at r.rest.owned c.args.o) c.self.view_is) ∙ sym c.get.ensures ∙ c.in-Some.is

slot_is : (g : given.Over) (c : After-object g) → raw_slot c.in-Some.held ≡ Some (c.in-Some-slot_of.slot.0, Some c.in-Some-named.handle)
slot_is g c = sym c.slot_of.ensures ∙ c.in-Some-slot_of.is ∙ ap (λ h. Some (c.in-Some-slot_of.slot.0, h)) c.in-Some-named.is

pub returns-in-Ok-clause-goes : goal.returns-in-Ok-clause-goes
returns-in-Ok-clause-goes g c s holds =
    let at = (goal.at.returns-in-Ok-clause-goes g c).After-object in
    root_made g.H.GcHeap.KIND c.args.store.now c.args.self.now s c.args.o holds c.in-Some.held (is_held g at) c.in-Some-slot_of.slot.0 c.in-Some-named.handle (slot_is g at) c.args.d c.push_copy.new.self _ c.push_copy.ensures.same
    (ap (λ (r : RunnerView). r.rest) c.self.view_is) c.push_copy.result
    (λ q named. c.push_copy.ensures.live s.table s.account q holds.table named) (λ own none. c.push_copy.ensures.gone own s.table (holds_table holds.table) none)
    c.in-Ok.pushed c.in-Ok.is c.set.ensures.set
    (λ k differ. c.set.ensures.others k differ ∙ c.make_room.ensures.same k ∙ ap (λ (r : RunnerView). register_at r.registers k) c.self.view_is)

pub returns-in-Err-Unrooted-clause-goes : goal.returns-in-Err-Unrooted-clause-goes
returns-in-Err-Unrooted-clause-goes g c s holds =
    let at = (goal.at.returns-in-Err-Unrooted-clause-goes g c).After-object in
    root_gone g.H.GcHeap.KIND c.args.store.now c.args.self.now s c.args.o holds c.in-Some.held (is_held g at) c.in-Some-slot_of.slot.0 c.in-Some-named.handle (slot_is g at) c.args.d c.push_copy.new.self _ c.push_copy.ensures.same
    (ap (λ (r : RunnerView). r.rest) c.self.view_is) c.push_copy.result
    (λ q named. c.push_copy.ensures.live s.table s.account q holds.table named) (λ own none. c.push_copy.ensures.gone own s.table (holds_table holds.table) none)
    (c.in-Err-Unrooted.is ∙ ap (λ (f : RootFault). Err f) c.in-Err-Unrooted.field-0-is)
    (holds_same g.H.GcHeap.KIND c.args.store.now c.push_copy.new.self c.args.self.now _ s c.push_copy.ensures.same
    (λ k. c.make_room.ensures.same k ∙ ap (λ (r : RunnerView). register_at r.registers k) c.self.view_is) (ap (λ (r : RunnerView). r.rest) c.self.view_is) holds
    (subst (λ x. HoldsAccount g.H.GcHeap.KIND x s.table s.account) (sym c.in-Err-Unrooted.ensures.err) holds.table))

pub returns-in-Err-RootsFull-clause-goes : goal.returns-in-Err-RootsFull-clause-goes
returns-in-Err-RootsFull-clause-goes g c s holds =
    let at = (goal.at.returns-in-Err-RootsFull-clause-goes g c).After-object in
    root_full g.H.GcHeap.KIND c.args.store.now c.args.self.now s c.args.o holds c.in-Some.held (is_held g at) c.in-Some-slot_of.slot.0 c.in-Some-named.handle (slot_is g at) c.args.d c.push_copy.new.self _ c.push_copy.ensures.same
    (ap (λ (r : RunnerView). r.rest) c.self.view_is) c.push_copy.result
    (λ q named. c.push_copy.ensures.live s.table s.account q holds.table named) (λ own none. c.push_copy.ensures.gone own s.table (holds_table holds.table) none)
    (c.in-Err-RootsFull.is ∙ ap (λ (f : RootFault). Err f) c.in-Err-RootsFull.field-0-is)
    (holds_same g.H.GcHeap.KIND c.args.store.now c.push_copy.new.self c.args.self.now _ s c.push_copy.ensures.same
    (λ k. c.make_room.ensures.same k ∙ ap (λ (r : RunnerView). register_at r.registers k) c.self.view_is) (ap (λ (r : RunnerView). r.rest) c.self.view_is) holds
    (subst (λ x. HoldsAccount g.H.GcHeap.KIND x s.table s.account) (sym c.in-Err-RootsFull.ensures.err) holds.table))

pub returns-then-is_err-clause-goes : goal.returns-then-is_err-clause-goes
returns-then-is_err-clause-goes g c s holds =
    let at = (goal.at.returns-then-is_err-clause-goes g c).After-object in
    root_lost g.H.GcHeap.KIND c.args.store.now c.args.self.now s c.args.o holds c.in-Some.held (is_held g at) c.in-Some-slot_of.slot.0 c.in-Some-named.handle (slot_is g at) c.args.d c.object.result
    (λ q named. c.object.ensures.live s.table q (holds_table holds.table) named) (λ own none. c.object.ensures.gone own s.table (holds_table holds.table) none)
    (sym c.is_err.ensures.value ∙ c.if-is_err.true)

pub returns-then-is_err-2-clause-cause : goal.returns-then-is_err-2-clause-cause
returns-then-is_err-2-clause-cause g c s holds =
    let at = (goal.at.returns-then-is_err-2-clause-cause g c).After-object in
    root_may g.H.GcHeap.KIND c.args.store.now c.args.self.now s c.args.o holds c.in-Some.held (is_held g at) c.in-Some-slot_of.slot.0 c.in-Some-named.handle (slot_is g at) c.args.d c.object.result
    (λ q named. c.object.ensures.live s.table q (holds_table holds.table) named) (λ own none. c.object.ensures.gone own s.table (holds_table holds.table) none)
    (sym c.is_err.ensures.value ∙ c.if-is_err.false)

pub returns-in-Err-clause-cause : goal.returns-in-Err-clause-cause
returns-in-Err-clause-cause g c s holds =
    let at = (goal.at.returns-in-Err-clause-cause g c).After-object in
    root_may g.H.GcHeap.KIND c.args.store.now c.args.self.now s c.args.o holds c.in-Some.held (is_held g at) c.in-Some-slot_of.slot.0 c.in-Some-named.handle (slot_is g at) c.args.d c.object.result
    (λ q named. c.object.ensures.live s.table q (holds_table holds.table) named) (λ own none. c.object.ensures.gone own s.table (holds_table holds.table) none)
    (sym c.is_err.ensures.value ∙ c.if-is_err.false)
