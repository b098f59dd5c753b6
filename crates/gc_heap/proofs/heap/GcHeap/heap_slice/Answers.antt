use Rattle.std.proofs.Common.{ℕ, List, sym, subst}
use Rattle.gc_heap.specs.Barriers.{ShowsCount}
use Rattle.gc_heap.proofs.MemoryLemmas.{nothing_counted, nothing_held}
use Rattle.gc_heap.proofs.heap.GcHeap.heap_slice.Goals as goal

pub returns-in-Some-clause-counts : goal.returns-in-Some-clause-counts
returns-in-Some-clause-counts g c = λ place n counted.
    subst (λ (bytes : List ℕ). ShowsCount (g.Self.GcHeap.seen c.args.self.now) bytes place n) (sym c.bytes.ensures.value) ((c.in-Some.ensures.lent c.requires).counts place n counted)

pub returns-in-None-clause-objects : goal.returns-in-None-clause-objects
returns-in-None-clause-objects g c = λ place object held.
    absurd (nothing_held (g.Self.GcHeap.seen c.args.self.now) place object (c.in-None.ensures.lent c.requires) held)

pub returns-in-None-clause-counts : goal.returns-in-None-clause-counts
returns-in-None-clause-counts g c = λ place n counted.
    absurd (nothing_counted (g.Self.GcHeap.seen c.args.self.now) place n (c.in-None.ensures.lent c.requires) counted)
