use Rattle.std.proofs.Common.{◌≡◌, ℕ, Result, Ok, Err, sym, ap, ◌∙◌, subst}
use Rattle.gc_owner.specs.declared.host.HostFault.{HostFault}
use Rattle.gc_owner.specs.declared.host.HostFault.TheVariants as owner_fault
use Rattle.gc_owner.specs.Growing.{OwnerState, state_of}
use Rattle.gc_owner.specs.HostValues.{PlacesExternal}
use Rattle.gc_model.proofs.HostRetry.{host_made}
use Rattle.gc_store.specs.declared.hosts.PlaceHostFault.{PlaceHostFault}
use Rattle.gc_store.specs.HostSteps.{AllocatesRootedHost}
use Rattle.gc_store.proofs.HostPlacing.{allocates_lacking, allocates_wanting}
use Rattle.gc_store.proofs.hosts.allocate_host.Given.{Over}
use Rattle.gc_store.proofs.hosts.allocate_host.Goals.{After-place_host}
use Rattle.gc_store.proofs.hosts.allocate_host.Goals as goal

abbrev before : (g : Over) (c : After-place_host g) → OwnerState g.row.D.Denot
before g c = state_of c.args.owner.now.seen (g.L.ResourceLimiter.limits c.args.limiter.now)

abbrev after : (g : Over) (c : After-place_host g) → OwnerState g.row.D.Denot
after g c = state_of c.place_host.new.self.seen (g.L.ResourceLimiter.limits c.place_host.new.limiter)

-- what the owner answered
answered : (g : Over) (c : After-place_host g) (r : Result ℕ (HostFault g.row.D.Denot)) → c.place_host.result ≡ r → PlacesExternal g.H.GcHeap.KIND c.args.value (before g c) (after g c) r
answered g c r is = subst (λ (x : Result ℕ (HostFault g.row.D.Denot)). PlacesExternal g.H.GcHeap.KIND c.args.value (before g c) (after g c) x) is c.place_host.ensures

pub returns-in-Ok : goal.returns-in-Ok
returns-in-Ok g c =
    let at = (goal.at.returns-in-Ok g c).After-place_host in
    host_made g.H.GcHeap.KIND c.args.value (before g at) c.is_ready.ensures.heap c.is_ready.ensures.can (after g at) c.in-Ok.index (answered g at (Ok c.in-Ok.index) c.in-Ok.is)

pub returns-in-Err-HeapOutOfMemory : goal.returns-in-Err-HeapOutOfMemory
returns-in-Err-HeapOutOfMemory g c =
    let at = (goal.at.returns-in-Err-HeapOutOfMemory g c).After-place_host in
    subst (λ (f : PlaceHostFault g.row.D.Denot). AllocatesRootedHost g.H.GcHeap.KIND c.args.value (before g at) (after g at) (Err f)) (sym c.without_room.ensures)
    (allocates_lacking g.H.GcHeap.KIND c.args.value (before g at) (after g at) c.is_ready.ensures.heap c.is_ready.ensures.can c.in-Err-HeapOutOfMemory.back c.in-Err-HeapOutOfMemory.bytes_needed
    (answered g at (Err (owner_fault.HeapOutOfMemory c.in-Err-HeapOutOfMemory.back c.in-Err-HeapOutOfMemory.bytes_needed)) (c.in-Err-HeapOutOfMemory.is ∙ ap (λ f. Err f) c.in-Err-HeapOutOfMemory.field-0-is)))

pub returns : goal.returns
returns g c =
    let at = (goal.at.returns g c).After-place_host in
    allocates_wanting g.H.GcHeap.KIND c.args.value (before g at) (after g at) c.is_ready.ensures.heap c.is_ready.ensures.can _
    (answered g at (Err (owner_fault.Memory _)) (c.in-Err-Memory.is ∙ ap (λ f. Err f) c.in-Err-Memory.field-0-is))
