use Rattle.std.proofs.Common.{inl, inr}
use Rattle.gc_values.specs.declared.faults.PlaceFault.TheVariants as fault
use Rattle.gc_model.specs.Policy.{policy_state}
use Rattle.gc_load_image.proofs.PlaceLemmas.{told_place}
use Rattle.gc_load_image.proofs.objects.allocate.Goals as goal

pub returns-in-Err-FuncTableFull-clause-places : goal.returns-in-Err-FuncTableFull-clause-places
returns-in-Err-FuncTableFull-clause-places g c t a o holds is = inr (told_place g.H.GcHeap.KIND c.args.store.now.alloc_counter o (policy_state t a (g.L.ResourceLimiter.limits c.args.limiter.now)) (g.L.ResourceLimiter.limits c.place.new.limiter) c.place.new.self c.in-Err-FuncTableFull.field-0 fault.FuncTableFull c.in-Err-FuncTableFull.field-0-is (c.in-Err-FuncTableFull.ensures.places t a o holds is)).1

pub returns-in-Err-ContTableFull-clause-places : goal.returns-in-Err-ContTableFull-clause-places
returns-in-Err-ContTableFull-clause-places g c t a o holds is = inr (told_place g.H.GcHeap.KIND c.args.store.now.alloc_counter o (policy_state t a (g.L.ResourceLimiter.limits c.args.limiter.now)) (g.L.ResourceLimiter.limits c.place.new.limiter) c.place.new.self c.in-Err-ContTableFull.field-0 fault.ContTableFull c.in-Err-ContTableFull.field-0-is (c.in-Err-ContTableFull.ensures.places t a o holds is)).1

pub returns-in-Err-TooLarge-clause-places : goal.returns-in-Err-TooLarge-clause-places
returns-in-Err-TooLarge-clause-places g c t a o holds is = let told = told_place g.H.GcHeap.KIND c.args.store.now.alloc_counter o (policy_state t a (g.L.ResourceLimiter.limits c.args.limiter.now)) (g.L.ResourceLimiter.limits c.place.new.limiter) c.place.new.self c.in-Err-TooLarge.field-0 fault.TooLarge c.in-Err-TooLarge.field-0-is (c.in-Err-TooLarge.ensures.places t a o holds is) in (told.0, told.1)

pub returns-in-Err-RootsFull-clause-places : goal.returns-in-Err-RootsFull-clause-places
returns-in-Err-RootsFull-clause-places g c t a o holds is = let told = told_place g.H.GcHeap.KIND c.args.store.now.alloc_counter o (policy_state t a (g.L.ResourceLimiter.limits c.args.limiter.now)) (g.L.ResourceLimiter.limits c.place.new.limiter) c.place.new.self c.in-Err-RootsFull.field-0 fault.RootsFull c.in-Err-RootsFull.field-0-is (c.in-Err-RootsFull.ensures.places t a o holds is) in (told.1, told.2)

pub returns-in-Err-HeapOutOfMemory-clause-places : goal.returns-in-Err-HeapOutOfMemory-clause-places
returns-in-Err-HeapOutOfMemory-clause-places g c t a o holds is =
    told_place g.H.GcHeap.KIND c.args.store.now.alloc_counter o (policy_state t a (g.L.ResourceLimiter.limits c.args.limiter.now)) (g.L.ResourceLimiter.limits c.place.new.limiter) c.place.new.self c.in-Err-HeapOutOfMemory.field-0 (fault.HeapOutOfMemory c.in-Err-HeapOutOfMemory.fault) c.in-Err-HeapOutOfMemory.field-0-is (c.in-Err-HeapOutOfMemory.ensures.places t a o holds is)

pub returns-in-Err-Memory-clause-places : goal.returns-in-Err-Memory-clause-places
returns-in-Err-Memory-clause-places g c t a o holds is = inl (told_place g.H.GcHeap.KIND c.args.store.now.alloc_counter o (policy_state t a (g.L.ResourceLimiter.limits c.args.limiter.now)) (g.L.ResourceLimiter.limits c.place.new.limiter) c.place.new.self c.in-Err-Memory.field-0 fault.Memory c.in-Err-Memory.field-0-is (c.in-Err-Memory.ensures.places t a o holds is))
