use Rattle.std.proofs.Common.{◌≡◌, ℕ, Bool, true, false, Result, Ok, Err, sym, ap, ap₂, ◌∙◌, subst}
use Rattle.gc_view.specs.Heaps.{HeapObject, HeapView}
use Rattle.gc_owner.specs.declared.allocate.AllocateFault.{AllocateFault}
use Rattle.gc_owner.specs.declared.allocate.AllocateFault.TheVariants as fault
use Rattle.gc_owner.specs.Growing.{state_of, collects_first}
use Rattle.gc_owner.specs.Makes.{Describes}
use Rattle.gc_owner.specs.Tries.{Tries}
use Rattle.gc_owner.proofs.RetryLemmas.{at_once, can_still, lacks_still, goes_on}
use Rattle.gc_owner.proofs.owner.HeapOwner.allocate.Given.{Over}
use Rattle.gc_owner.proofs.owner.HeapOwner.allocate.Goals.{After-try_once, After-should_collect_first}
use Rattle.gc_owner.proofs.owner.HeapOwner.allocate.Goals as goal

tried : (g : Over) (c : After-try_once g) (answer : Result ℕ AllocateFault) → c.try_once.result ≡ answer → (o : HeapObject) (size : ℕ) → Describes g.H.GcHeap.KIND c.args.self.now.seen c.args.description.now o size
    → Tries g.H.GcHeap.KIND o size c.args.self.now.seen c.try_once.new.self.seen answer
tried g c answer is o size described = subst (λ (r : Result ℕ AllocateFault). Tries g.H.GcHeap.KIND o size c.args.self.now.seen c.try_once.new.self.seen r) is (c.try_once.ensures.tried o size described)

rule : (g : Over) (c : After-should_collect_first g) (first : Bool) → c.should_collect_first.result ≡ first → collects_first c.in-Err-HeapOutOfMemory.need c.try_once.new.self.seen.heap.capacity c.try_once.new.self.seen.last ≡ first
rule g c first is = ap₂ (λ capacity last. collects_first c.in-Err-HeapOutOfMemory.need capacity last) (sym (c.heap_slice.ensures.size ∙ ap (λ (h : HeapView). h.capacity) c.heap.ensures.seen)) (sym c.last.ensures) ∙ sym c.should_collect_first.ensures ∙ is

pub heap-requires : goal.heap-requires
heap-requires g c = record { idle = (can_still g.H.GcHeap.KIND c.args.description.now c.args.self.now.seen c.try_once.new.self.seen c.in-Err-HeapOutOfMemory.need c.requires.can (tried g (goal.at.heap-requires g c).After-try_once (Err (fault.HeapOutOfMemory c.in-Err-HeapOutOfMemory.need)) (c.in-Err-HeapOutOfMemory.is ∙ ap (λ f. Err f) c.in-Err-HeapOutOfMemory.field-0-is))).idle }

pub collect_then_grow-requires-clause-can : goal.collect_then_grow-requires-clause-can
collect_then_grow-requires-clause-can g c = can_still g.H.GcHeap.KIND c.args.description.now c.args.self.now.seen c.try_once.new.self.seen c.in-Err-HeapOutOfMemory.need c.requires.can (tried g (goal.at.collect_then_grow-requires-clause-can g c).After-try_once (Err (fault.HeapOutOfMemory c.in-Err-HeapOutOfMemory.need)) (c.in-Err-HeapOutOfMemory.is ∙ ap (λ f. Err f) c.in-Err-HeapOutOfMemory.field-0-is))

pub collect_then_grow-requires-clause-lacks : goal.collect_then_grow-requires-clause-lacks
collect_then_grow-requires-clause-lacks g c = (
  c.in-Err-HeapOutOfMemory.need,
  lacks_still g.H.GcHeap.KIND c.args.description.now c.args.self.now.seen c.try_once.new.self.seen c.in-Err-HeapOutOfMemory.need c.requires.can (tried g (goal.at.collect_then_grow-requires-clause-lacks g c).After-try_once (Err (fault.HeapOutOfMemory c.in-Err-HeapOutOfMemory.need)) (c.in-Err-HeapOutOfMemory.is ∙ ap (λ f. Err f) c.in-Err-HeapOutOfMemory.field-0-is)) true (rule g (goal.at.collect_then_grow-requires-clause-lacks g c).After-should_collect_first true c.if-should_collect_first.true),
)

pub grow_or_collect-requires-clause-can : goal.grow_or_collect-requires-clause-can
grow_or_collect-requires-clause-can g c = can_still g.H.GcHeap.KIND c.args.description.now c.args.self.now.seen c.try_once.new.self.seen c.in-Err-HeapOutOfMemory.need c.requires.can (tried g (goal.at.grow_or_collect-requires-clause-can g c).After-try_once (Err (fault.HeapOutOfMemory c.in-Err-HeapOutOfMemory.need)) (c.in-Err-HeapOutOfMemory.is ∙ ap (λ f. Err f) c.in-Err-HeapOutOfMemory.field-0-is))

pub grow_or_collect-requires-clause-lacks : goal.grow_or_collect-requires-clause-lacks
grow_or_collect-requires-clause-lacks g c = lacks_still g.H.GcHeap.KIND c.args.description.now c.args.self.now.seen c.try_once.new.self.seen c.in-Err-HeapOutOfMemory.need c.requires.can (tried g (goal.at.grow_or_collect-requires-clause-lacks g c).After-try_once (Err (fault.HeapOutOfMemory c.in-Err-HeapOutOfMemory.need)) (c.in-Err-HeapOutOfMemory.is ∙ ap (λ f. Err f) c.in-Err-HeapOutOfMemory.field-0-is)) false (rule g (goal.at.grow_or_collect-requires-clause-lacks g c).After-should_collect_first false c.if-should_collect_first.false)

pub returns-in-Ok : goal.returns-in-Ok
returns-in-Ok g c = record { allocated = λ o size described. at_once g.H.GcHeap.KIND o size (state_of c.args.self.now.seen (g.L.ResourceLimiter.limits c.args.limiter.now)) c.try_once.new.self.seen (Ok c.in-Ok.index) tt ((tried g (goal.at.returns-in-Ok g c).After-try_once (Ok c.in-Ok.index) (c.in-Ok.is)) o size described) }

pub returns-in-Err-TooLarge : goal.returns-in-Err-TooLarge
returns-in-Err-TooLarge g c = record { allocated = λ o size described. at_once g.H.GcHeap.KIND o size (state_of c.args.self.now.seen (g.L.ResourceLimiter.limits c.args.limiter.now)) c.try_once.new.self.seen (Err fault.TooLarge) tt ((tried g (goal.at.returns-in-Err-TooLarge g c).After-try_once (Err fault.TooLarge) (c.in-Err-TooLarge.is ∙ ap (λ f. Err f) c.in-Err-TooLarge.field-0-is)) o size described) }

pub returns-in-Err-Memory : goal.returns-in-Err-Memory
returns-in-Err-Memory g c = record { allocated = λ o size described. at_once g.H.GcHeap.KIND o size (state_of c.args.self.now.seen (g.L.ResourceLimiter.limits c.args.limiter.now)) c.try_once.new.self.seen (Err fault.Memory) tt ((tried g (goal.at.returns-in-Err-Memory g c).After-try_once (Err fault.Memory) (c.in-Err-Memory.is ∙ ap (λ f. Err f) c.in-Err-Memory.field-0-is)) o size described) }

pub returns-then-should_collect_first : goal.returns-then-should_collect_first
returns-then-should_collect_first g c = record {
  allocated = λ o size described. goes_on g.H.GcHeap.KIND c.args.description.now c.args.self.now.seen c.try_once.new.self.seen c.in-Err-HeapOutOfMemory.need c.requires.can (tried g (goal.at.returns-then-should_collect_first g c).After-try_once (Err (fault.HeapOutOfMemory c.in-Err-HeapOutOfMemory.need)) (c.in-Err-HeapOutOfMemory.is ∙ ap (λ f. Err f) c.in-Err-HeapOutOfMemory.field-0-is)) o size (g.L.ResourceLimiter.limits c.args.limiter.now)
      (state_of c.collect_then_grow.new.self.seen (g.L.ResourceLimiter.limits c.collect_then_grow.new.limiter)) c.collect_then_grow.result described (c.collect_then_grow.ensures.allocated o size);
}

pub returns-else-should_collect_first : goal.returns-else-should_collect_first
returns-else-should_collect_first g c = record {
  allocated = λ o size described. goes_on g.H.GcHeap.KIND c.args.description.now c.args.self.now.seen c.try_once.new.self.seen c.in-Err-HeapOutOfMemory.need c.requires.can (tried g (goal.at.returns-else-should_collect_first g c).After-try_once (Err (fault.HeapOutOfMemory c.in-Err-HeapOutOfMemory.need)) (c.in-Err-HeapOutOfMemory.is ∙ ap (λ f. Err f) c.in-Err-HeapOutOfMemory.field-0-is)) o size (g.L.ResourceLimiter.limits c.args.limiter.now)
      (state_of c.grow_or_collect.new.self.seen (g.L.ResourceLimiter.limits c.grow_or_collect.new.limiter)) c.grow_or_collect.result described (c.grow_or_collect.ensures.allocated o size);
}
