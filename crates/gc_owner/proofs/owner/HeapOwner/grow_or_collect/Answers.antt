use Rattle.std.proofs.Common.{◌≡◌, Result, Ok, Err, ap, ◌∙◌, subst}
use Rattle.gc_owner.specs.declared.pages.PagesFault.{PagesFault}
use Rattle.gc_owner.specs.declared.pages.PagesFault.TheVariants as pages_fault
use Rattle.gc_owner.specs.Growing.{state_of, GrowsBy}
use Rattle.gc_owner.proofs.RetryLemmas.{make_after, make_refused, growth_ends, refusal_ends, wanting_growth}
use Rattle.gc_owner.proofs.owner.HeapOwner.grow_or_collect.Given.{Over}
use Rattle.gc_owner.proofs.owner.HeapOwner.grow_or_collect.Goals.{After-grow_by}
use Rattle.gc_owner.proofs.owner.HeapOwner.grow_or_collect.Goals as goal

grew : (g : Over) (c : After-grow_by g) (answer : Result (Unit {0}) PagesFault) → c.grow_by.result ≡ answer → GrowsBy g.H.GcHeap.KIND c.args.need (state_of c.args.self.now.seen (g.L.ResourceLimiter.limits c.args.limiter.now)) (state_of c.grow_by.new.self.seen (g.L.ResourceLimiter.limits c.grow_by.new.limiter)) answer
grew g c answer is = subst (λ (r : Result (Unit {0}) PagesFault). GrowsBy g.H.GcHeap.KIND c.args.need (state_of c.args.self.now.seen (g.L.ResourceLimiter.limits c.args.limiter.now)) (state_of c.grow_by.new.self.seen (g.L.ResourceLimiter.limits c.grow_by.new.limiter)) r) is c.grow_by.ensures

pub try_once-requires : goal.try_once-requires
try_once-requires g c = record { can = make_after g.H.GcHeap.KIND c.args.description.now c.args.self.now.seen (g.L.ResourceLimiter.limits c.args.limiter.now) c.is_ready.ensures.heap c.is_ready.ensures.can c.requires.can c.args.need c.requires.lacks (state_of c.grow_by.new.self.seen (g.L.ResourceLimiter.limits c.grow_by.new.limiter)) c.grow_by.result c.grow_by.ensures }

pub collect-requires-clause-idle : goal.collect-requires-clause-idle
collect-requires-clause-idle g c = (make_after g.H.GcHeap.KIND c.args.description.now c.args.self.now.seen (g.L.ResourceLimiter.limits c.args.limiter.now) c.is_ready.ensures.heap c.is_ready.ensures.can c.requires.can c.args.need c.requires.lacks (state_of c.grow_by.new.self.seen (g.L.ResourceLimiter.limits c.grow_by.new.limiter)) c.grow_by.result c.grow_by.ensures).idle

pub collect-requires-clause-attached : goal.collect-requires-clause-attached
collect-requires-clause-attached g c = (make_after g.H.GcHeap.KIND c.args.description.now c.args.self.now.seen (g.L.ResourceLimiter.limits c.args.limiter.now) c.is_ready.ensures.heap c.is_ready.ensures.can c.requires.can c.args.need c.requires.lacks (state_of c.grow_by.new.self.seen (g.L.ResourceLimiter.limits c.grow_by.new.limiter)) c.grow_by.result c.grow_by.ensures).attached

pub try_once-requires-in-Err-Refused : goal.try_once-requires-in-Err-Refused
try_once-requires-in-Err-Refused g c = record { can = make_refused g.H.GcHeap.KIND c.args.description.now c.args.self.now.seen (g.L.ResourceLimiter.limits c.args.limiter.now) c.is_ready.ensures.heap c.is_ready.ensures.can c.requires.can c.args.need c.requires.lacks (state_of c.grow_by.new.self.seen (g.L.ResourceLimiter.limits c.grow_by.new.limiter)) (grew g (goal.at.try_once-requires-in-Err-Refused g c).After-grow_by (Err pages_fault.Refused) (c.in-Err-Refused.is ∙ ap (λ f. Err f) c.in-Err-Refused.field-0-is)) c.collect.new.self.seen c.collect.ensures }

pub returns-in-Ok : goal.returns-in-Ok
returns-in-Ok g c = record { allocated = growth_ends g.H.GcHeap.KIND c.args.description.now c.args.self.now.seen (g.L.ResourceLimiter.limits c.args.limiter.now) c.is_ready.ensures.heap c.is_ready.ensures.can c.requires.can c.args.need c.requires.lacks (state_of c.grow_by.new.self.seen (g.L.ResourceLimiter.limits c.grow_by.new.limiter)) (grew g (goal.at.returns-in-Ok g c).After-grow_by (Ok tt) (c.in-Ok.is)) c.try_once.new.self.seen c.try_once.result c.try_once.ensures.tried }

pub returns-in-Err-Refused : goal.returns-in-Err-Refused
returns-in-Err-Refused g c = record {
  allocated = refusal_ends g.H.GcHeap.KIND c.args.description.now c.args.self.now.seen (g.L.ResourceLimiter.limits c.args.limiter.now) c.is_ready.ensures.heap c.is_ready.ensures.can c.requires.can c.args.need c.requires.lacks (state_of c.grow_by.new.self.seen (g.L.ResourceLimiter.limits c.grow_by.new.limiter)) (grew g (goal.at.returns-in-Err-Refused g c).After-grow_by (Err pages_fault.Refused) (c.in-Err-Refused.is ∙ ap (λ f. Err f) c.in-Err-Refused.field-0-is)) c.collect.new.self.seen c.collect.ensures
      c.try_once-in-Err-Refused.new.self.seen c.try_once-in-Err-Refused.result c.try_once-in-Err-Refused.ensures.tried;
}

pub returns-in-Err-Memory : goal.returns-in-Err-Memory
returns-in-Err-Memory g c = record { allocated = wanting_growth g.H.GcHeap.KIND c.args.description.now c.args.self.now.seen (g.L.ResourceLimiter.limits c.args.limiter.now) c.is_ready.ensures.heap c.is_ready.ensures.can c.requires.can c.args.need c.requires.lacks (state_of c.grow_by.new.self.seen (g.L.ResourceLimiter.limits c.grow_by.new.limiter)) (grew g (goal.at.returns-in-Err-Memory g c).After-grow_by (Err pages_fault.Memory) (c.in-Err-Memory.is ∙ ap (λ f. Err f) c.in-Err-Memory.field-0-is)) }
