use Rattle.gc_objects.proofs.ExternLemmas.{host_handed, host_kind}
use Rattle.gc_objects.proofs.marks.ExternRef.new.Goals as goal

pub handed-requires : goal.handed-requires
handed-requires g c =
    let t = c.stores_hold_tables.ensures.0 in
    let a = c.stores_hold_tables.ensures.1.0 in
    let holds = c.stores_hold_tables.ensures.1.1 in
    host_kind g.H.GcHeap.KIND c.args.store.now.alloc_counter c.args.value c.args.store.now c.place_host-placed.new.self t a (g.L.ResourceLimiter.limits c.args.limiter.now) (g.L.ResourceLimiter.limits c.place_host-placed.new.limiter) holds c.place_host-placed.result
    (c.place_host-placed.ensures.places t a holds)

pub returns-clause-makes : goal.returns-clause-makes
returns-clause-makes g c t a holds =
    host_handed g.H.GcHeap.KIND c.args.store.now.alloc_counter c.args.value c.args.store.now c.place_host-placed.new.self t a (g.L.ResourceLimiter.limits c.args.limiter.now) (g.L.ResourceLimiter.limits c.place_host-placed.new.limiter) holds c.handed.result c.place_host-placed.result c.handed.ensures.answer
    (c.place_host-placed.ensures.places t a holds)
