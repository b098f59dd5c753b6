use Rattle.std.proofs.Common.{sym, subst}
use Rattle.gc_owner.specs.Owners.{Kind, heap_kind}
use Rattle.gc_store.specs.Suspensions.{SuspendedView}
use Rattle.gc_store.specs.Collectings.{IsRunning}
use Rattle.gc_store.proofs.Suspending.{with_owner, ends_suspended, closes}
use Rattle.gc_store.proofs.suspended.Suspended.finish.Given.{Over}
use Rattle.gc_store.specs.Stores.{tables_of}
use Rattle.gc_store.proofs.suspended.Suspended.finish.Goals as goal

abbrev kind : (g : Over) → Kind g.row.H.Denot g.row.H-State.Denot
kind g = heap_kind g.H.GcHeap.KIND g.H.GcHeap.seen g.H.GcHeap.sound g.H.GcHeap.under_way

pub invariant_of-self : goal.invariant_of-self
invariant_of-self g c =
    ends_suspended (kind g) c.self.inside.id c.self.inside.config (tables_of c.self.inside.interned c.self.inside.asked) c.self.inside.tries c.self.inside.slot_counts.items c.self.inside.owner c.finish.new.self c.self.inside.begun
    c.self.invariant c.finish.ensures.same c.finish.ensures.ended

pub returns-clause-ends : goal.returns-clause-ends
returns-clause-ends g c = λ old done counted running.
    let is : IsRunning (kind g) old done counted (with_owner (kind g) c.self.inside.id c.self.inside.config (tables_of c.self.inside.interned c.self.inside.asked) c.self.inside.tries c.self.inside.owner c.self.inside.begun) =
    subst (λ (x : SuspendedView g.row.H.Denot g.row.H-State.Denot g.row.D.Denot). IsRunning (kind g) old done counted x) (sym c.self.view_is) running in
    closes (kind g) c.self.inside.id c.self.inside.config (tables_of c.self.inside.interned c.self.inside.asked) c.self.inside.tries old done counted c.self.inside.owner c.finish.new.self c.self.inside.begun
    is (c.finish.ensures.ended is.at done counted is.from is.way) c.finish.ensures.idle
