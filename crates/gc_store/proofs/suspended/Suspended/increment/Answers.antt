use Rattle.std.proofs.Common.{◌<◌, ap, ◌∙◌, subst}
use Rattle.gc_owner.specs.Owners.{Kind, heap_kind}
use Rattle.gc_owner.specs.Going.{left_of}
use Rattle.gc_store.specs.Suspensions.{SuspendedView}
use Rattle.gc_store.proofs.Stepping.{increments_open}
use Rattle.gc_store.proofs.suspended.Suspended.increment.Given.{Over}
use Rattle.gc_store.proofs.suspended.Suspended.increment.Goals as goal

abbrev kind : (g : Over) → Kind g.row.H.Denot g.row.H-State.Denot
kind g = heap_kind g.H.GcHeap.KIND g.H.GcHeap.seen g.H.GcHeap.sound g.H.GcHeap.under_way

abbrev Suspension : Over → Type 0
Suspension g = SuspendedView g.row.H.Denot g.row.H-State.Denot g.row.D.Denot

pub returns-clause-goes : goal.returns-clause-goes
returns-clause-goes g c = λ old done counted.
    increments_open (kind g) c.args.self.now c.begin.new.self c.step.new.self
    (record { idle = c.begin.ensures.idle; begins = c.begin.ensures.begins; unmade = c.begin.ensures.unmade; same = c.begin.ensures.same })
    old done counted c.step.result (λ n b. c.step.ensures.goes old n b) c.step.ensures.none

pub returns-clause-over : goal.returns-clause-over
returns-clause-over g c = λ old closed.
    let same = c.begin.ensures.same closed.begun in
    let stays = c.step.ensures.none (ap (λ (x : Suspension g). x.owner.seen.idle) same ∙ closed.idle) in
    (stays.0, stays.1 ∙ same)

pub returns-clause-begun : goal.returns-clause-begun
returns-clause-begun g c = c.step.ensures.begun ∙ c.begin.ensures.begun

pub returns-clause-less : goal.returns-clause-less
returns-clause-less g c = λ on begun.
    subst (λ (x : Suspension g). left_of g.H.GcHeap.left c.step.new.self.owner.heap c.step.new.self.owner.state < left_of g.H.GcHeap.left x.owner.heap x.owner.state) (c.begin.ensures.same begun) (c.step.ensures.less on)
