use Rattle.std.proofs.Common.{◌≡◌, ℕ, Result, Ok, Err, sym, ap, ◌∙◌, subst}
use Rattle.gc_view.specs.Heaps.{HeapObject}
use Rattle.gc_owner.specs.declared.allocate.AllocateFault.{AllocateFault}
use Rattle.gc_owner.specs.declared.allocate.AllocateFault.TheVariants as fault
use Rattle.gc_owner.specs.Growing.{state_of}
use Rattle.gc_owner.specs.Makes.{AllocateAnswers, Describes}
use Rattle.gc_values.specs.declared.faults.PlaceFault.{PlaceFault}
use Rattle.gc_values.specs.Making.{AllocatesObject}
use Rattle.gc_values.proofs.make.allocate_object.Given.{Over}
use Rattle.gc_values.proofs.make.allocate_object.Goals.{After-allocate}
use Rattle.gc_values.proofs.make.allocate_object.Goals as goal

-- what the owner answered
answered : (g : Over) (c : After-allocate g) (o : HeapObject) (size : ℕ) → Describes g.H.GcHeap.KIND c.args.owner.now.seen c.args.description.now o size → (r : Result ℕ AllocateFault) → c.allocate.result ≡ r
    → AllocateAnswers g.H.GcHeap.KIND o size (state_of c.args.owner.now.seen (g.L.ResourceLimiter.limits c.args.limiter.now)) (state_of c.allocate.new.self.seen (g.L.ResourceLimiter.limits c.allocate.new.limiter)) r
answered g c o size is r result_is =
    subst (λ (x : Result ℕ AllocateFault). AllocateAnswers g.H.GcHeap.KIND o size (state_of c.args.owner.now.seen (g.L.ResourceLimiter.limits c.args.limiter.now)) (state_of c.allocate.new.self.seen (g.L.ResourceLimiter.limits c.allocate.new.limiter)) x) result_is
    (c.allocate.ensures.allocated o size is)

pub returns-in-Ok : goal.returns-in-Ok
returns-in-Ok g c o size is = answered g (goal.at.returns-in-Ok g c).After-allocate o size is (Ok c.in-Ok.index) c.in-Ok.is

pub returns-in-Err-TooLarge : goal.returns-in-Err-TooLarge
returns-in-Err-TooLarge g c o size is = (answered g (goal.at.returns-in-Err-TooLarge g c).After-allocate o size is (Err fault.TooLarge) (c.in-Err-TooLarge.is ∙ ap (λ f. Err f) c.in-Err-TooLarge.field-0-is)).0

pub returns-in-Err-HeapOutOfMemory : goal.returns-in-Err-HeapOutOfMemory
returns-in-Err-HeapOutOfMemory g c o size is =
    let at = (goal.at.returns-in-Err-HeapOutOfMemory g c).After-allocate in
    subst (λ (f : PlaceFault). AllocatesObject g.H.GcHeap.KIND o size (state_of c.args.owner.now.seen (g.L.ResourceLimiter.limits c.args.limiter.now)) (state_of c.allocate.new.self.seen (g.L.ResourceLimiter.limits c.allocate.new.limiter)) (Err f)) (sym c.out_of_memory.ensures)
    (answered g at o size is (Err (fault.HeapOutOfMemory c.in-Err-HeapOutOfMemory.bytes_needed)) (c.in-Err-HeapOutOfMemory.is ∙ ap (λ f. Err f) c.in-Err-HeapOutOfMemory.field-0-is))

pub returns-in-Err-Memory : goal.returns-in-Err-Memory
returns-in-Err-Memory g c o size is = answered g (goal.at.returns-in-Err-Memory g c).After-allocate o size is (Err fault.Memory) (c.in-Err-Memory.is ∙ ap (λ f. Err f) c.in-Err-Memory.field-0-is)
