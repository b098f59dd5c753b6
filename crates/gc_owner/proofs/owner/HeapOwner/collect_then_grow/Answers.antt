use Rattle.std.proofs.Common.{◌≡◌, ℕ, true, false, Result, Ok, Err, ap, ◌∙◌, subst}
use Rattle.gc_view.specs.Heaps.{HeapObject}
use Rattle.gc_owner.specs.declared.allocate.AllocateFault.{AllocateFault}
use Rattle.gc_owner.specs.declared.allocate.AllocateFault.TheVariants as fault
use Rattle.gc_owner.specs.declared.pages.PagesFault.{PagesFault}
use Rattle.gc_owner.specs.declared.pages.PagesFault.TheVariants as pages_fault
use Rattle.gc_owner.specs.Growing.{state_of, GrowsBy}
use Rattle.gc_owner.specs.Makes.{Describes}
use Rattle.gc_owner.specs.Tries.{Tries}
use Rattle.gc_owner.proofs.RetryLemmas.{make_collected, make_still, make_grown, collected_ends, both_end, wanting_both}
use Rattle.gc_owner.proofs.owner.HeapOwner.collect_then_grow.Given.{Over}
use Rattle.gc_owner.proofs.owner.HeapOwner.collect_then_grow.Goals.{After-try_once, After-grow_by}
use Rattle.gc_owner.proofs.owner.HeapOwner.collect_then_grow.Goals as goal

tried : (g : Over) (c : After-try_once g) (answer : Result ℕ AllocateFault) → c.try_once.result ≡ answer → (o : HeapObject) (size : ℕ) → Describes g.H.GcHeap.KIND c.collect.new.self.seen c.args.description.now o size
    → Tries g.H.GcHeap.KIND o size c.collect.new.self.seen c.try_once.new.self.seen answer
tried g c answer is o size described = subst (λ (r : Result ℕ AllocateFault). Tries g.H.GcHeap.KIND o size c.collect.new.self.seen c.try_once.new.self.seen r) is (c.try_once.ensures.tried o size described)

grew : (g : Over) (c : After-grow_by g) (answer : Result (Unit {0}) PagesFault) → c.grow_by.result ≡ answer → GrowsBy g.H.GcHeap.KIND c.in-Err-HeapOutOfMemory.need (state_of c.try_once.new.self.seen (g.L.ResourceLimiter.limits c.args.limiter.now)) (state_of c.grow_by.new.self.seen (g.L.ResourceLimiter.limits c.grow_by.new.limiter)) answer
grew g c answer is = subst (λ (r : Result (Unit {0}) PagesFault). GrowsBy g.H.GcHeap.KIND c.in-Err-HeapOutOfMemory.need (state_of c.try_once.new.self.seen (g.L.ResourceLimiter.limits c.args.limiter.now)) (state_of c.grow_by.new.self.seen (g.L.ResourceLimiter.limits c.grow_by.new.limiter)) r) is c.grow_by.ensures

pub try_once-requires : goal.try_once-requires
try_once-requires g c = record { can = make_collected g.H.GcHeap.KIND c.args.description.now c.args.self.now.seen c.collect.new.self.seen (g.L.ResourceLimiter.limits c.args.limiter.now) c.is_ready.ensures.heap c.is_ready.ensures.can c.requires.can c.requires.lacks c.collect.ensures }

pub grow_by-requires-clause-idle : goal.grow_by-requires-clause-idle
grow_by-requires-clause-idle g c = (make_still g.H.GcHeap.KIND c.args.description.now c.args.self.now.seen c.collect.new.self.seen (g.L.ResourceLimiter.limits c.args.limiter.now) c.is_ready.ensures.heap c.is_ready.ensures.can c.requires.can c.requires.lacks c.collect.ensures c.try_once.new.self.seen c.in-Err-HeapOutOfMemory.need (tried g (goal.at.grow_by-requires-clause-idle g c).After-try_once (Err (fault.HeapOutOfMemory c.in-Err-HeapOutOfMemory.need)) (c.in-Err-HeapOutOfMemory.is ∙ ap (λ f. Err f) c.in-Err-HeapOutOfMemory.field-0-is))).idle

pub grow_by-requires-clause-attached : goal.grow_by-requires-clause-attached
grow_by-requires-clause-attached g c = (make_still g.H.GcHeap.KIND c.args.description.now c.args.self.now.seen c.collect.new.self.seen (g.L.ResourceLimiter.limits c.args.limiter.now) c.is_ready.ensures.heap c.is_ready.ensures.can c.requires.can c.requires.lacks c.collect.ensures c.try_once.new.self.seen c.in-Err-HeapOutOfMemory.need (tried g (goal.at.grow_by-requires-clause-attached g c).After-try_once (Err (fault.HeapOutOfMemory c.in-Err-HeapOutOfMemory.need)) (c.in-Err-HeapOutOfMemory.is ∙ ap (λ f. Err f) c.in-Err-HeapOutOfMemory.field-0-is))).attached

pub try_once-requires-in-Ok-grow_by : goal.try_once-requires-in-Ok-grow_by
try_once-requires-in-Ok-grow_by g c = record { can = make_grown g.H.GcHeap.KIND c.args.description.now c.args.self.now.seen c.collect.new.self.seen (g.L.ResourceLimiter.limits c.args.limiter.now) c.is_ready.ensures.heap c.is_ready.ensures.can c.requires.can c.requires.lacks c.collect.ensures c.try_once.new.self.seen c.in-Err-HeapOutOfMemory.need (tried g (goal.at.try_once-requires-in-Ok-grow_by g c).After-try_once (Err (fault.HeapOutOfMemory c.in-Err-HeapOutOfMemory.need)) (c.in-Err-HeapOutOfMemory.is ∙ ap (λ f. Err f) c.in-Err-HeapOutOfMemory.field-0-is)) (state_of c.grow_by.new.self.seen (g.L.ResourceLimiter.limits c.grow_by.new.limiter)) c.grow_by.result c.grow_by.ensures }

pub try_once-requires-in-Err-Refused : goal.try_once-requires-in-Err-Refused
try_once-requires-in-Err-Refused g c = record { can = make_grown g.H.GcHeap.KIND c.args.description.now c.args.self.now.seen c.collect.new.self.seen (g.L.ResourceLimiter.limits c.args.limiter.now) c.is_ready.ensures.heap c.is_ready.ensures.can c.requires.can c.requires.lacks c.collect.ensures c.try_once.new.self.seen c.in-Err-HeapOutOfMemory.need (tried g (goal.at.try_once-requires-in-Err-Refused g c).After-try_once (Err (fault.HeapOutOfMemory c.in-Err-HeapOutOfMemory.need)) (c.in-Err-HeapOutOfMemory.is ∙ ap (λ f. Err f) c.in-Err-HeapOutOfMemory.field-0-is)) (state_of c.grow_by.new.self.seen (g.L.ResourceLimiter.limits c.grow_by.new.limiter)) c.grow_by.result c.grow_by.ensures }

pub returns-in-Ok : goal.returns-in-Ok
returns-in-Ok g c = record { allocated = collected_ends g.H.GcHeap.KIND c.args.description.now c.args.self.now.seen c.collect.new.self.seen (g.L.ResourceLimiter.limits c.args.limiter.now) c.is_ready.ensures.heap c.is_ready.ensures.can c.requires.can c.requires.lacks c.collect.ensures c.try_once.new.self.seen (Ok c.in-Ok.index) tt (tried g (goal.at.returns-in-Ok g c).After-try_once (Ok c.in-Ok.index) (c.in-Ok.is)) }

pub returns-in-Err-TooLarge : goal.returns-in-Err-TooLarge
returns-in-Err-TooLarge g c = record { allocated = collected_ends g.H.GcHeap.KIND c.args.description.now c.args.self.now.seen c.collect.new.self.seen (g.L.ResourceLimiter.limits c.args.limiter.now) c.is_ready.ensures.heap c.is_ready.ensures.can c.requires.can c.requires.lacks c.collect.ensures c.try_once.new.self.seen (Err fault.TooLarge) tt (tried g (goal.at.returns-in-Err-TooLarge g c).After-try_once (Err fault.TooLarge) (c.in-Err-TooLarge.is ∙ ap (λ f. Err f) c.in-Err-TooLarge.field-0-is)) }

pub returns-in-Err-Memory : goal.returns-in-Err-Memory
returns-in-Err-Memory g c = record { allocated = collected_ends g.H.GcHeap.KIND c.args.description.now c.args.self.now.seen c.collect.new.self.seen (g.L.ResourceLimiter.limits c.args.limiter.now) c.is_ready.ensures.heap c.is_ready.ensures.can c.requires.can c.requires.lacks c.collect.ensures c.try_once.new.self.seen (Err fault.Memory) tt (tried g (goal.at.returns-in-Err-Memory g c).After-try_once (Err fault.Memory) (c.in-Err-Memory.is ∙ ap (λ f. Err f) c.in-Err-Memory.field-0-is)) }

pub returns-in-Ok-grow_by : goal.returns-in-Ok-grow_by
returns-in-Ok-grow_by g c = record {
  allocated = both_end g.H.GcHeap.KIND c.args.description.now c.args.self.now.seen c.collect.new.self.seen (g.L.ResourceLimiter.limits c.args.limiter.now) c.is_ready.ensures.heap c.is_ready.ensures.can c.requires.can c.requires.lacks c.collect.ensures c.try_once.new.self.seen c.in-Err-HeapOutOfMemory.need (tried g (goal.at.returns-in-Ok-grow_by g c).After-try_once (Err (fault.HeapOutOfMemory c.in-Err-HeapOutOfMemory.need)) (c.in-Err-HeapOutOfMemory.is ∙ ap (λ f. Err f) c.in-Err-HeapOutOfMemory.field-0-is)) true (state_of c.grow_by.new.self.seen (g.L.ResourceLimiter.limits c.grow_by.new.limiter)) (grew g (goal.at.returns-in-Ok-grow_by g c).After-grow_by (Ok tt) (c.in-Ok-grow_by.is))
      c.try_once-in-Ok-grow_by.new.self.seen c.try_once-in-Ok-grow_by.result c.try_once-in-Ok-grow_by.ensures.tried;
}

pub returns-in-Err-Refused : goal.returns-in-Err-Refused
returns-in-Err-Refused g c = record {
  allocated = both_end g.H.GcHeap.KIND c.args.description.now c.args.self.now.seen c.collect.new.self.seen (g.L.ResourceLimiter.limits c.args.limiter.now) c.is_ready.ensures.heap c.is_ready.ensures.can c.requires.can c.requires.lacks c.collect.ensures c.try_once.new.self.seen c.in-Err-HeapOutOfMemory.need (tried g (goal.at.returns-in-Err-Refused g c).After-try_once (Err (fault.HeapOutOfMemory c.in-Err-HeapOutOfMemory.need)) (c.in-Err-HeapOutOfMemory.is ∙ ap (λ f. Err f) c.in-Err-HeapOutOfMemory.field-0-is)) false (state_of c.grow_by.new.self.seen (g.L.ResourceLimiter.limits c.grow_by.new.limiter)) (grew g (goal.at.returns-in-Err-Refused g c).After-grow_by (Err pages_fault.Refused) (c.in-Err-Refused.is ∙ ap (λ f. Err f) c.in-Err-Refused.field-0-is))
      c.try_once-in-Err-Refused.new.self.seen c.try_once-in-Err-Refused.result c.try_once-in-Err-Refused.ensures.tried;
}

pub returns-in-Err-Memory-grow_by : goal.returns-in-Err-Memory-grow_by
returns-in-Err-Memory-grow_by g c = record {
  allocated = wanting_both g.H.GcHeap.KIND c.args.description.now c.args.self.now.seen c.collect.new.self.seen (g.L.ResourceLimiter.limits c.args.limiter.now) c.is_ready.ensures.heap c.is_ready.ensures.can c.requires.can c.requires.lacks c.collect.ensures c.try_once.new.self.seen c.in-Err-HeapOutOfMemory.need (tried g (goal.at.returns-in-Err-Memory-grow_by g c).After-try_once (Err (fault.HeapOutOfMemory c.in-Err-HeapOutOfMemory.need)) (c.in-Err-HeapOutOfMemory.is ∙ ap (λ f. Err f) c.in-Err-HeapOutOfMemory.field-0-is)) (state_of c.grow_by.new.self.seen (g.L.ResourceLimiter.limits c.grow_by.new.limiter)) (grew g (goal.at.returns-in-Err-Memory-grow_by g c).After-grow_by (Err pages_fault.Memory) (c.in-Err-Memory-grow_by.is ∙ ap (λ f. Err f) c.in-Err-Memory-grow_by.field-0-is));
}
