use Rattle.std.proofs.Common.{arith, ℕ, ◌<◌, ◌^◌, Result, sym, ◌∙◌, subst}
use Rattle.gc_owner.specs.declared.pages.PagesFault.{PagesFault}
use Rattle.gc_owner.specs.Growing.{OwnerState, state_of, MakesHeap}
use Rattle.gc_values.specs.Making.{BeginsMaking}
use Rattle.gc_store.proofs.HostPlacing.{few_begun, begun_answers}
use Rattle.gc_values.proofs.Keeping.{Keeps, keeps-making, same_count, making_attached}
use Rattle.gc_store.proofs.hosts.make_host.Given.{Over}
use Rattle.gc_store.proofs.hosts.make_host.Goals.{After-collect_if_due}
use Rattle.gc_store.proofs.hosts.make_host.Goals as goal

abbrev before : (g : Over) (c : After-collect_if_due g) → OwnerState g.row.D.Denot
before g c = state_of c.args.owner.now.seen (g.L.ResourceLimiter.limits c.args.limiter.now)

abbrev made : (g : Over) (c : After-collect_if_due g) → OwnerState g.row.D.Denot
made g c = state_of c.make_heap.new.self.seen (g.L.ResourceLimiter.limits c.make_heap.new.limiter)

abbrev due : (g : Over) (c : After-collect_if_due g) → OwnerState g.row.D.Denot
due g c = state_of c.collect_if_due.new.owner.seen (g.L.ResourceLimiter.limits c.make_heap.new.limiter)

-- the heap was made, and collected where that is due
begun : (g : Over) (c : After-collect_if_due g) → BeginsMaking g.H.GcHeap.KIND c.args.first_pages c.args.is_due (before g c) (due g c)
begun g c = record {
  made = made g c;
  begins = record {
    makes = subst (λ (r : Result _ PagesFault). MakesHeap g.H.GcHeap.KIND c.args.first_pages c.args.owner.now.seen.heap c.make_heap.new.self.seen.heap (g.L.ResourceLimiter.limits c.args.limiter.now) (g.L.ResourceLimiter.limits c.make_heap.new.limiter) r) c.in-Ok.is c.make_heap.ensures.made;
    rest = c.make_heap.ensures.rest;
  };
  dues = c.collect_if_due.ensures (g.L.ResourceLimiter.limits c.make_heap.new.limiter);
}

keeps : (g : Over) (c : After-collect_if_due g) → Keeps c.args.owner.now.seen c.collect_if_due.new.owner.seen
keeps g c = keeps-making g.H.GcHeap.KIND c.args.first_pages c.args.is_due (before g c) (due g c) (begun g c)

pub allocate_host-requires-clause-idle : goal.allocate_host-requires-clause-idle
allocate_host-requires-clause-idle g c =
    let at = (goal.at.allocate_host-requires-clause-idle g c).After-collect_if_due in
    (keeps g at).idle ∙ c.requires.idle

pub allocate_host-requires-clause-attached : goal.allocate_host-requires-clause-attached
allocate_host-requires-clause-attached g c =
    let at = (goal.at.allocate_host-requires-clause-attached g c).After-collect_if_due in
    making_attached g.H.GcHeap.KIND c.args.first_pages c.args.is_due (before g at) (due g at) (begun g at)

pub allocate_host-requires-clause-room : goal.allocate_host-requires-clause-room
allocate_host-requires-clause-room g c =
    let at = (goal.at.allocate_host-requires-clause-room g c).After-collect_if_due in
    let more = (keeps g at).spare in let some = c.requires.room in omega (arith, more, some)

pub allocate_host-requires-clause-few : goal.allocate_host-requires-clause-few
allocate_host-requires-clause-few g c =
    let at = (goal.at.allocate_host-requires-clause-few g c).After-collect_if_due in
    subst (λ (n : ℕ). n < 2 ^ 32) (sym (same_count c.args.owner.now.seen c.collect_if_due.new.owner.seen (keeps g at))) c.requires.few

pub allocate_host-requires-clause-hosts : goal.allocate_host-requires-clause-hosts
allocate_host-requires-clause-hosts g c =
    let at = (goal.at.allocate_host-requires-clause-hosts g c).After-collect_if_due in
    few_begun g.H.GcHeap.KIND c.args.first_pages c.args.is_due (before g at) (due g at) (begun g at) c.requires.hosts

pub returns-in-Ok : goal.returns-in-Ok
returns-in-Ok g c =
    let at = (goal.at.returns-in-Ok g c).After-collect_if_due in
    begun_answers g.H.GcHeap.KIND c.args.value c.args.first_pages c.args.is_due (before g at) (due g at)
    (state_of c.allocate_host.new.owner.seen (g.L.ResourceLimiter.limits c.allocate_host.new.limiter)) c.allocate_host.result (begun g at) c.allocate_host.ensures
