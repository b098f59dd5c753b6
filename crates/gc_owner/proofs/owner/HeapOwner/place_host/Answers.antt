use Rattle.std.proofs.Common.{◌≡◌, ℕ, inr, Result, Err, refl, ap, ◌∙◌, subst}
use Rattle.gc_view.specs.Sizes.{external_size}
use Rattle.gc_heap.specs.Objects.{external}
use Rattle.gc_owner.specs.declared.allocate.AllocateFault.{AllocateFault}
use Rattle.gc_owner.specs.declared.allocate.AllocateFault.TheVariants as fault
use Rattle.gc_owner.specs.Growing.{state_of}
use Rattle.gc_owner.specs.Makes.{AllocateAnswers}
use Rattle.gc_owner.proofs.HostLemmas.{taken_lacking, taken_wanting, free_lacking, free_wanting}
use Rattle.gc_owner.proofs.owner.HeapOwner.place_host.Given.{Over}
use Rattle.gc_owner.proofs.owner.HeapOwner.place_host.Goals.{After-allocate}
use Rattle.gc_owner.proofs.owner.HeapOwner.place_host.Goals as goal

allocated : (g : Over) (c : After-allocate g) (answer : Result ℕ AllocateFault) → c.allocate.result ≡ answer
    → AllocateAnswers {D = g.row.D.Denot} g.H.GcHeap.KIND (external c.in-Ok.id) (external_size g.H.GcHeap.KIND) (state_of c.put_value.new.self.seen (g.L.ResourceLimiter.limits c.args.limiter.now)) (state_of c.allocate.new.self.seen (g.L.ResourceLimiter.limits c.allocate.new.limiter)) answer
allocated g c answer is =
    subst (λ (r : Result ℕ AllocateFault). AllocateAnswers {D = g.row.D.Denot} g.H.GcHeap.KIND (external c.in-Ok.id) (external_size g.H.GcHeap.KIND) (state_of c.put_value.new.self.seen (g.L.ResourceLimiter.limits c.args.limiter.now)) (state_of c.allocate.new.self.seen (g.L.ResourceLimiter.limits c.allocate.new.limiter)) r) is
    (c.allocate.ensures.allocated (external c.in-Ok.id) (external_size g.H.GcHeap.KIND) (c.in-Ok.ensures.free, (refl, refl)))

pub take_value-requires-clause-idle : goal.take_value-requires-clause-idle
take_value-requires-clause-idle g c = (free_lacking {D = g.row.D.Denot} g.H.GcHeap.KIND c.in-Ok.id c.args.value (state_of c.args.self.now.seen (g.L.ResourceLimiter.limits c.args.limiter.now)) c.put_value.new.self.seen c.in-Ok.ensures.fresh c.in-Ok.ensures.put c.in-Ok.ensures.free c.is_ready.ensures.heap c.is_ready.ensures.can c.requires.idle c.requires.attached c.requires.room c.requires.few (state_of c.allocate.new.self.seen (g.L.ResourceLimiter.limits c.allocate.new.limiter)) c.in-Err-HeapOutOfMemory.need (allocated g (goal.at.take_value-requires-clause-idle g c).After-allocate (Err (fault.HeapOutOfMemory c.in-Err-HeapOutOfMemory.need)) (c.in-Err-HeapOutOfMemory.is ∙ ap (λ f. Err f) c.in-Err-HeapOutOfMemory.field-0-is))).idle

pub take_value-requires-clause-free : goal.take_value-requires-clause-free
take_value-requires-clause-free g c = (free_lacking {D = g.row.D.Denot} g.H.GcHeap.KIND c.in-Ok.id c.args.value (state_of c.args.self.now.seen (g.L.ResourceLimiter.limits c.args.limiter.now)) c.put_value.new.self.seen c.in-Ok.ensures.fresh c.in-Ok.ensures.put c.in-Ok.ensures.free c.is_ready.ensures.heap c.is_ready.ensures.can c.requires.idle c.requires.attached c.requires.room c.requires.few (state_of c.allocate.new.self.seen (g.L.ResourceLimiter.limits c.allocate.new.limiter)) c.in-Err-HeapOutOfMemory.need (allocated g (goal.at.take_value-requires-clause-free g c).After-allocate (Err (fault.HeapOutOfMemory c.in-Err-HeapOutOfMemory.need)) (c.in-Err-HeapOutOfMemory.is ∙ ap (λ f. Err f) c.in-Err-HeapOutOfMemory.field-0-is))).described.0

pub take_value-requires-in-Err-Memory-allocate-clause-idle : goal.take_value-requires-in-Err-Memory-allocate-clause-idle
take_value-requires-in-Err-Memory-allocate-clause-idle g c = (free_wanting {D = g.row.D.Denot} g.H.GcHeap.KIND c.in-Ok.id c.args.value (state_of c.args.self.now.seen (g.L.ResourceLimiter.limits c.args.limiter.now)) c.put_value.new.self.seen c.in-Ok.ensures.fresh c.in-Ok.ensures.put c.in-Ok.ensures.free c.is_ready.ensures.heap c.is_ready.ensures.can c.requires.idle c.requires.attached c.requires.room c.requires.few (state_of c.allocate.new.self.seen (g.L.ResourceLimiter.limits c.allocate.new.limiter)) (allocated g (goal.at.take_value-requires-in-Err-Memory-allocate-clause-idle g c).After-allocate (Err fault.Memory) (c.in-Err-Memory-allocate.is ∙ ap (λ f. Err f) c.in-Err-Memory-allocate.field-0-is))).idle

pub take_value-requires-in-Err-Memory-allocate-clause-free : goal.take_value-requires-in-Err-Memory-allocate-clause-free
take_value-requires-in-Err-Memory-allocate-clause-free g c = (free_wanting {D = g.row.D.Denot} g.H.GcHeap.KIND c.in-Ok.id c.args.value (state_of c.args.self.now.seen (g.L.ResourceLimiter.limits c.args.limiter.now)) c.put_value.new.self.seen c.in-Ok.ensures.fresh c.in-Ok.ensures.put c.in-Ok.ensures.free c.is_ready.ensures.heap c.is_ready.ensures.can c.requires.idle c.requires.attached c.requires.room c.requires.few (state_of c.allocate.new.self.seen (g.L.ResourceLimiter.limits c.allocate.new.limiter)) (allocated g (goal.at.take_value-requires-in-Err-Memory-allocate-clause-free g c).After-allocate (Err fault.Memory) (c.in-Err-Memory-allocate.is ∙ ap (λ f. Err f) c.in-Err-Memory-allocate.field-0-is))).described.0

pub returns-in-Err-HeapOutOfMemory : goal.returns-in-Err-HeapOutOfMemory
returns-in-Err-HeapOutOfMemory g c = taken_lacking {D = g.row.D.Denot} g.H.GcHeap.KIND c.in-Ok.id c.args.value (state_of c.args.self.now.seen (g.L.ResourceLimiter.limits c.args.limiter.now)) c.put_value.new.self.seen c.in-Ok.ensures.fresh c.in-Ok.ensures.put c.in-Ok.ensures.free c.is_ready.ensures.heap c.is_ready.ensures.can c.requires.idle c.requires.attached c.requires.room c.requires.few (state_of c.allocate.new.self.seen (g.L.ResourceLimiter.limits c.allocate.new.limiter)) c.take_value.result c.take_value.new.self.seen c.take_value.ensures.value c.take_value.ensures.rest c.in-Err-HeapOutOfMemory.need (allocated g (goal.at.returns-in-Err-HeapOutOfMemory g c).After-allocate (Err (fault.HeapOutOfMemory c.in-Err-HeapOutOfMemory.need)) (c.in-Err-HeapOutOfMemory.is ∙ ap (λ f. Err f) c.in-Err-HeapOutOfMemory.field-0-is))

pub returns-in-Err-Memory-allocate : goal.returns-in-Err-Memory-allocate
returns-in-Err-Memory-allocate g c =
    let back = taken_wanting {D = g.row.D.Denot} g.H.GcHeap.KIND c.in-Ok.id c.args.value (state_of c.args.self.now.seen (g.L.ResourceLimiter.limits c.args.limiter.now)) c.put_value.new.self.seen c.in-Ok.ensures.fresh c.in-Ok.ensures.put c.in-Ok.ensures.free c.is_ready.ensures.heap c.is_ready.ensures.can c.requires.idle c.requires.attached c.requires.room c.requires.few (state_of c.allocate.new.self.seen (g.L.ResourceLimiter.limits c.allocate.new.limiter)) c.take_value-in-Err-Memory-allocate.result c.take_value-in-Err-Memory-allocate.new.self.seen c.take_value-in-Err-Memory-allocate.ensures.value c.take_value-in-Err-Memory-allocate.ensures.rest (allocated g (goal.at.returns-in-Err-Memory-allocate g c).After-allocate (Err fault.Memory) (c.in-Err-Memory-allocate.is ∙ ap (λ f. Err f) c.in-Err-Memory-allocate.field-0-is)) in
    (back.0, inr back.1)
