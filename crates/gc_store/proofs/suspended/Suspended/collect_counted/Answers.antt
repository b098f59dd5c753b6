use Rattle.std.proofs.Common.{ap, ◌∙◌}
use Rattle.gc_owner.specs.Counting.{ticks_of}
use Rattle.gc_owner.specs.Owners.{Kind, heap_kind}
use Rattle.gc_store.specs.Suspensions.{SuspendedView}
use Rattle.gc_store.proofs.Stepping.{collects_open, counts_open}
use Rattle.gc_store.proofs.suspended.Suspended.collect_counted.Given.{Over}
use Rattle.gc_store.proofs.suspended.Suspended.collect_counted.Goals as goal

abbrev kind : (g : Over) → Kind g.row.H.Denot g.row.H-State.Denot
kind g = heap_kind g.H.GcHeap.KIND g.H.GcHeap.seen g.H.GcHeap.sound g.H.GcHeap.under_way

abbrev Suspension : Over → Type 0
Suspension g = SuspendedView g.row.H.Denot g.row.H-State.Denot g.row.D.Denot

pub returns-clause-closes : goal.returns-clause-closes
returns-clause-closes g c = λ old done counted.
    collects_open (kind g) c.args.self.now c.begin.new.self c.finish_counted.new.self
    (record { idle = c.begin.ensures.idle; begins = c.begin.ensures.begins; unmade = c.begin.ensures.unmade; same = c.begin.ensures.same })
    old done counted (λ n b. c.finish_counted.ensures.ends old n b) (λ idle. (c.finish_counted.ensures.none idle).0)

pub returns-clause-over : goal.returns-clause-over
returns-clause-over g c = λ old closed.
    let same = c.begin.ensures.same closed.begun in
    let stays = c.finish_counted.ensures.none (ap (λ (x : Suspension g). x.owner.seen.idle) same ∙ closed.idle) in
    (stays.0 ∙ same, stays.1)

pub returns-clause-counted : goal.returns-clause-counted
returns-clause-counted g c = λ old.
    counts_open (kind g) c.args.self.now c.begin.new.self c.finish_counted.new.self
    (record { idle = c.begin.ensures.idle; begins = c.begin.ensures.begins; unmade = c.begin.ensures.unmade; same = c.begin.ensures.same })
    old (ticks_of g.H.GcHeap.ticks c.begin.new.self.owner.state) c.args.steps.now c.finish_counted.new.steps (c.begin.ensures.ticks old) (c.finish_counted.ensures.counted old 0)
