use Rattle.std.proofs.Common.{sym, subst}
use Rattle.gc_owner.specs.Owners.{Kind, heap_kind}
use Rattle.gc_store.specs.Suspensions.{SuspendedView}
use Rattle.gc_store.specs.Collectings.{IsRunning}
use Rattle.gc_store.proofs.Suspending.{with_owner}
use Rattle.gc_store.proofs.Stepping.{step_suspended, steps_store}
use Rattle.gc_store.proofs.suspended.Suspended.step.Given.{Over}
use Rattle.gc_store.specs.Stores.{tables_of}
use Rattle.gc_store.proofs.suspended.Suspended.step.Goals as goal

abbrev kind : (g : Over) → Kind g.row.H.Denot g.row.H-State.Denot
kind g = heap_kind g.H.GcHeap.KIND g.H.GcHeap.seen g.H.GcHeap.sound g.H.GcHeap.under_way

pub invariant_of-self : goal.invariant_of-self
invariant_of-self g c =
    step_suspended (kind g) c.self.inside.id c.self.inside.config (tables_of c.self.inside.interned c.self.inside.asked) c.self.inside.tries c.self.inside.slot_counts.items c.self.inside.owner c.increment.new.self c.self.inside.begun c.increment.result
    c.self.invariant (λ idle. (c.increment.ensures.none idle).1) c.increment.ensures.goes

pub returns-clause-goes : goal.returns-clause-goes
returns-clause-goes g c = λ old done counted running.
    let is : IsRunning (kind g) old done counted (with_owner (kind g) c.self.inside.id c.self.inside.config (tables_of c.self.inside.interned c.self.inside.asked) c.self.inside.tries c.self.inside.owner c.self.inside.begun) =
    subst (λ (x : SuspendedView g.row.H.Denot g.row.H-State.Denot g.row.D.Denot). IsRunning (kind g) old done counted x) (sym c.self.view_is) running in
    steps_store (kind g) c.self.inside.id c.self.inside.config (tables_of c.self.inside.interned c.self.inside.asked) c.self.inside.tries old done counted c.self.inside.owner c.increment.new.self c.self.inside.begun c.increment.result
    is (c.increment.ensures.goes is.at done counted is.from is.way) c.increment.ensures.complete
