use Rattle.std.proofs.Common.{true, sym, subst}
use Rattle.gc_owner.specs.Owners.{Kind, heap_kind}
use Rattle.gc_store.specs.Suspensions.{SuspendedView}
use Rattle.gc_store.specs.Collectings.{IsRunning, CountsCollection}
use Rattle.gc_store.proofs.Suspending.{with_owner, ends_suspended, closes}
use Rattle.gc_owner.specs.Counting.{ticks_of}
use Rattle.gc_store.proofs.Stepping.{counts_run}
use Rattle.gc_store.proofs.suspended.Suspended.finish_counted.Given.{Over}
use Rattle.gc_store.specs.Stores.{tables_of}
use Rattle.gc_store.proofs.suspended.Suspended.finish_counted.Goals as goal

abbrev kind : (g : Over) → Kind g.row.H.Denot g.row.H-State.Denot
kind g = heap_kind g.H.GcHeap.KIND g.H.GcHeap.seen g.H.GcHeap.sound g.H.GcHeap.under_way

abbrev Suspension : Over → Type 0
Suspension g = SuspendedView g.row.H.Denot g.row.H-State.Denot g.row.D.Denot

pub invariant_of-self : goal.invariant_of-self
invariant_of-self g c =
    ends_suspended (kind g) c.self.inside.id c.self.inside.config (tables_of c.self.inside.interned c.self.inside.asked) c.self.inside.tries c.self.inside.slot_counts.items c.self.inside.owner c.finish_counted.new.self c.self.inside.begun
    c.self.invariant (λ idle. (c.finish_counted.ensures.same idle).0) c.finish_counted.ensures.ended

pub returns-clause-ends : goal.returns-clause-ends
returns-clause-ends g c = λ old done counted running.
    let is : IsRunning (kind g) old done counted (with_owner (kind g) c.self.inside.id c.self.inside.config (tables_of c.self.inside.interned c.self.inside.asked) c.self.inside.tries c.self.inside.owner c.self.inside.begun) =
    subst (λ (x : SuspendedView g.row.H.Denot g.row.H-State.Denot g.row.D.Denot). IsRunning (kind g) old done counted x) (sym c.self.view_is) running in
    closes (kind g) c.self.inside.id c.self.inside.config (tables_of c.self.inside.interned c.self.inside.asked) c.self.inside.tries old done counted c.self.inside.owner c.finish_counted.new.self c.self.inside.begun
    is (c.finish_counted.ensures.ended is.at done counted is.from is.way) c.finish_counted.ensures.idle

pub returns-clause-counted : goal.returns-clause-counted
returns-clause-counted g c = λ old done running.
    let is : IsRunning (kind g) old done true (with_owner (kind g) c.self.inside.id c.self.inside.config (tables_of c.self.inside.interned c.self.inside.asked) c.self.inside.tries c.self.inside.owner c.self.inside.begun) =
    subst (λ (x : Suspension g). IsRunning (kind g) old done true x) (sym c.self.view_is) running in
    subst (λ (x : Suspension g). CountsCollection g.H.GcHeap.KIND old (ticks_of g.H.GcHeap.ticks x.owner.state) c.args.steps.now c.finish_counted.new.steps) c.self.view_is (
    counts_run (kind g) old done true (with_owner (kind g) c.self.inside.id c.self.inside.config (tables_of c.self.inside.interned c.self.inside.asked) c.self.inside.tries c.self.inside.owner c.self.inside.begun)
    (ticks_of g.H.GcHeap.ticks c.self.inside.owner.state) c.args.steps.now c.finish_counted.new.steps is (c.finish_counted.ensures.counted is.at done is.from is.way)
    )
