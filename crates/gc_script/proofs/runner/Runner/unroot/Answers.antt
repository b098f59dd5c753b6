use Rattle.std.proofs.Common.{◌≡◌, Bool, Some, sym, ap, ◌∙◌, subst}
use Rattle.gc_store.specs.OwnedRoots.{DropsHandle}
use Rattle.gc_script.specs.Slots.{RunnerView, register_at}
use Rattle.gc_script.specs.Values.{raw_slot}
use Rattle.gc_script.proofs.OwnGoes.{owned_root, set_room, never_unreleased, stands, unroot_gone, unroot_done}
use Rattle.gc_script.proofs.runner.Runner.unroot.Given as given
use Rattle.gc_script.proofs.runner.Runner.unroot.Goals as goal
use Rattle.gc_script.proofs.runner.Runner.unroot.Goals.{After-release}

-- what the owned register holds
is_held : (g : given.Over) (c : After-release g) → register_at c.args.self.now.rest.owned c.args.o ≡ Some c.in-Some.held
is_held g c = sym (ap (λ (r : RunnerView). register_at r.rest.owned c.args.o) c.self.view_is) ∙ sym c.get.ensures ∙ c.in-Some.is

slot_is : (g : given.Over) (c : After-release g) → raw_slot c.in-Some.held ≡ Some (c.in-Some-slot_of.slot.0, Some c.in-Some-named.handle)
slot_is g c = sym c.slot_of.ensures ∙ c.in-Some-slot_of.is ∙ ap (λ h. Some (c.in-Some-slot_of.slot.0, h)) c.in-Some-named.is

pub returns-then-not-was_held-clause-goes : goal.returns-then-not-was_held-clause-goes
returns-then-not-was_held-clause-goes g c s holds =
    let at = (goal.at.returns-then-not-was_held-clause-goes g c).After-release in
    unroot_gone g.H.GcHeap.KIND c.args.store.now c.args.self.now s c.args.o holds c.in-Some.held (is_held g at) c.in-Some-slot_of.slot.0 c.in-Some-named.handle (slot_is g at) c.release.new.self c.release.ensures.same
    (subst (λ (b : Bool). DropsHandle g.H.GcHeap.KIND c.args.store.now s.table s.account c.in-Some-named.handle b c.release.new.self) c.if-not-was_held.true (c.in-Ok.ensures.releases s.table s.account holds.table).1)

pub set-requires : goal.set-requires
set-requires g c = set_room c.self.inside.owned c.args.o c.in-Some.held (sym c.get.ensures ∙ c.in-Some.is)

pub returns-else-not-was_held-clause-goes : goal.returns-else-not-was_held-clause-goes
returns-else-not-was_held-clause-goes g c s holds =
    let at = (goal.at.returns-else-not-was_held-clause-goes g c).After-release in
    unroot_done g.H.GcHeap.KIND c.args.store.now c.args.self.now s c.args.o holds c.in-Some.held (is_held g at) c.in-Some-slot_of.slot.0 c.in-Some-named.handle (slot_is g at) c.release.new.self c.release.ensures.same _
    (subst (λ (b : Bool). DropsHandle g.H.GcHeap.KIND c.args.store.now s.table s.account c.in-Some-named.handle b c.release.new.self) c.if-not-was_held.false (c.in-Ok.ensures.releases s.table s.account holds.table).1)
    c.set.ensures.set
    (λ k differ. c.set.ensures.others k differ ∙ ap (λ (r : RunnerView). register_at r.rest.owned k) c.self.view_is)
    (λ d. ap (λ (r : RunnerView). register_at r.registers d) c.self.view_is)
    (ap (λ (r : RunnerView). r.rest.marks) c.self.view_is)

pub returns-in-Err-clause-goes : goal.returns-in-Err-clause-goes
returns-in-Err-clause-goes g c s holds =
    let at = (goal.at.returns-in-Err-clause-goes g c).After-release in
    let root = owned_root c.args.store.now c.in-Some.held (s.owned_registers c.args.o) c.in-Some-slot_of.slot.0 c.in-Some-named.handle (stands g.H.GcHeap.KIND c.args.store.now c.args.self.now s c.args.o holds c.in-Some.held (is_held g at)) (slot_is g at) in
    absurd (never_unreleased g.H.GcHeap.KIND c.args.store.now c.release.new.self s.table s.account holds.table c.in-Some-named.handle root.0 c.in-Some-slot_of.slot.0 root.1.0 c.in-Err.field-0 (c.in-Err.ensures.releases s.table s.account holds.table))
