use Rattle.std.proofs.Common.{◌≡◌, false, Some, ap, sym, ◌∙◌, subst}
use Rattle.gc_script.specs.declared.objects.Wanted.TheVariants as wanted
use Rattle.gc_script.specs.Slots.{RunnerView, register_at}
use Rattle.gc_script.specs.State.{State, HoldsState, RegisterStands}
use Rattle.gc_script.specs.Given.{given_register, is_unset}
use Rattle.gc_script.specs.Named.{FoundObject}
use Rattle.gc_script.proofs.StandLemmas.{holds_table}
use Rattle.gc_script.proofs.ThrowLemmas.{may_throw, throw_refused, was_thrown, never_unthrown}
use Rattle.gc_script.proofs.WriteLemmas.{is_set}
use Rattle.gc_script.proofs.runner.Runner.throw.Given as given
use Rattle.gc_script.proofs.runner.Runner.throw.Goals as goal
use Rattle.gc_script.proofs.runner.Runner.throw.Goals.{In-Some, In-Ok}

-- what the register holds
stands : (g : given.Over) (c : In-Some g) (s : State) → HoldsState g.H.GcHeap.KIND c.args.store.now c.args.self.now s → RegisterStands c.args.store.now s.table (Some c.in-Some.value) (s.registers c.args.r)
stands g c s holds =
    subst (λ (x : _). RegisterStands c.args.store.now s.table x (s.registers c.args.r)) (ap (λ (x : RunnerView). register_at x.registers c.args.r) (sym c.self.view_is) ∙ sym c.in-Some.ensures) (holds.registers c.args.r)

set : (g : given.Over) (c : In-Some g) (s : State) → HoldsState g.H.GcHeap.KIND c.args.store.now c.args.self.now s → is_unset (given_register s c.args.r) ≡ false
set g c s holds = is_set c.args.store.now s.table c.in-Some.value (s.registers c.args.r) (stands g c s holds)

-- the exception that is found
found : (g : given.Over) (c : In-Ok g) (s : State) → HoldsState g.H.GcHeap.KIND c.args.store.now c.args.self.now s → FoundObject c.args.store.now s wanted.Exception c.args.r c.in-Ok.object
found g c s holds = c.in-Ok.ensures.finds s c.args.r (holds_table holds.table) (stands g (goal.at.In-Ok g c).In-Some s holds)

pub returns-in-Err-clause-goes : goal.returns-in-Err-clause-goes
returns-in-Err-clause-goes g c s holds =
    let at = (goal.at.returns-in-Err-clause-goes g c).In-Some in
    throw_refused g.H.GcHeap.KIND c.args.store.now c.args.store.now c.args.self.now s c.args.r holds (set g at s holds) c.in-Err.why (c.in-Err.ensures.finds s c.args.r (holds_table holds.table) (stands g at s holds))

pub set_pending-requires : goal.set_pending-requires
set_pending-requires g c = may_throw g.H.GcHeap.KIND c.args.store.now c.in-Ok.object c.in-Ok.ensures.everywhere

pub returns-in-Ok-set_pending-clause-goes : goal.returns-in-Ok-set_pending-clause-goes
returns-in-Ok-set_pending-clause-goes g c s holds =
    let at = (goal.at.returns-in-Ok-set_pending-clause-goes g c).In-Ok in
    let before = (goal.at.In-Ok g at).In-Some in
    was_thrown g.H.GcHeap.KIND c.args.store.now c.set_pending.new.self c.args.self.now s c.args.r holds (set g before s holds) c.in-Ok.object (found g at s holds) c.set_pending.ensures.same
    (c.in-Ok-set_pending.ensures.sets s.table s.account holds.table)

pub returns-in-Err-set_pending-clause-goes : goal.returns-in-Err-set_pending-clause-goes
returns-in-Err-set_pending-clause-goes g c s holds =
    let at = (goal.at.returns-in-Err-set_pending-clause-goes g c).In-Ok in
    let before = (goal.at.In-Ok g at).In-Some in
    absurd (never_unthrown g.H.GcHeap.KIND c.args.store.now c.set_pending.new.self c.args.self.now s c.args.r holds (set g before s holds) c.in-Ok.object (found g at s holds) _ (c.in-Err-set_pending.ensures.sets s.table s.account holds.table))
