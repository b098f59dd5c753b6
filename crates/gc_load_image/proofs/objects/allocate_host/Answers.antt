use Rattle.std.proofs.Common.{ℕ, inl, sym, ap, subst}
use Rattle.gc_model.specs.Values.{host}
use Rattle.gc_store.specs.declared.hosts.PlaceHostFault.TheVariants as fault
use Rattle.gc_model.specs.Policy.{policy_state}
use Rattle.gc_store.specs.Places.{LacksPlace}
use Rattle.gc_load_image.proofs.PlaceLemmas.{told_host}
use Rattle.gc_load_image.proofs.objects.allocate_host.Goals as goal

pub returns-in-Err-RootsFull-clause-places : goal.returns-in-Err-RootsFull-clause-places
returns-in-Err-RootsFull-clause-places g c t a holds = told_host g.H.GcHeap.KIND c.args.store.now.alloc_counter c.args.number (policy_state t a (g.L.ResourceLimiter.limits c.args.limiter.now)) (g.L.ResourceLimiter.limits c.place_host.new.limiter) c.place_host.new.self c.in-Err-RootsFull.field-0 fault.RootsFull c.in-Err-RootsFull.field-0-is (c.in-Err-RootsFull.ensures.places t a holds)

pub returns-in-Err-HeapOutOfMemory-clause-places : goal.returns-in-Err-HeapOutOfMemory-clause-places
returns-in-Err-HeapOutOfMemory-clause-places g c t a holds =
    let told = told_host g.H.GcHeap.KIND c.args.store.now.alloc_counter c.args.number (policy_state t a (g.L.ResourceLimiter.limits c.args.limiter.now)) (g.L.ResourceLimiter.limits c.place_host.new.limiter) c.place_host.new.self c.in-Err-HeapOutOfMemory.field-0 (fault.HeapOutOfMemory c.in-Err-HeapOutOfMemory.fault) c.in-Err-HeapOutOfMemory.field-0-is (c.in-Err-HeapOutOfMemory.ensures.places t a holds) in
    subst (λ (need : ℕ). LacksPlace g.H.GcHeap.KIND c.args.store.now.alloc_counter (host c.args.number) (policy_state t a (g.L.ResourceLimiter.limits c.args.limiter.now)) (g.L.ResourceLimiter.limits c.place_host.new.limiter) need c.place_host.new.self) (sym (ap (λ f. f.bytes_needed) c.take_inner.ensures.fault)) told.1

pub returns-in-Err-Memory-clause-places : goal.returns-in-Err-Memory-clause-places
returns-in-Err-Memory-clause-places g c t a holds = inl (told_host g.H.GcHeap.KIND c.args.store.now.alloc_counter c.args.number (policy_state t a (g.L.ResourceLimiter.limits c.args.limiter.now)) (g.L.ResourceLimiter.limits c.place_host.new.limiter) c.place_host.new.self c.in-Err-Memory.field-0 fault.Memory c.in-Err-Memory.field-0-is (c.in-Err-Memory.ensures.places t a holds))
