use Rattle.std.proofs.Common.{◌≡◌, ◌<◌, ℕ, true, false, Result, Ok, Err, sym, ap, ◌∙◌, subst, arith}
use Rattle.std.specs.declared.alloc.AllocError.{AllocError}
use Rattle.gc_model.specs.Allocation.{Limits}
use Rattle.gc_model.specs.Table.{Table}
use Rattle.gc_store.specs.declared.grow.GrowFault.{GrowFault}
use Rattle.gc_store.specs.declared.grow.GrowFault.TheVariants as fault
use Rattle.gc_model.specs.Accounts.{Account, HoldsAccount}
use Rattle.gc_store.specs.Expansion.{GrowsStore, unused_bytes}
use Rattle.gc_model.specs.Policy.{PolicyState, policy_state}
use Rattle.gc_store.proofs.MakingRoom.{FollowsGc, gc_follows, has_room, grew_room, wants_room}
use Rattle.gc_store.proofs.store.Store.gc_for.Given.{Over}
use Rattle.gc_store.proofs.store.Store.gc_for.Goals as goal
use Rattle.gc_store.proofs.store.Store.gc_for.Goals.{After-gc, After-gc_heap_grow}

-- each table that the store held, and what it came to by the collection
abbrev before : (g : Over) → After-gc g → Table g.row.D.Denot → Account → PolicyState g.row.D.Denot
before g c t a = policy_state t a (g.L.ResourceLimiter.limits c.args.limiter.now)

collected : (g : Over) (c : After-gc g) (t : Table g.row.D.Denot) (a : Account) → HoldsAccount g.H.GcHeap.KIND c.args.self.now t a → FollowsGc g.H.GcHeap.KIND (before g c t a) c.gc.new.self
collected g c t a holds =
    gc_follows g.H.GcHeap.KIND c.args.self.now c.gc.new.self (before g c t a) holds (λ made. c.gc.ensures.collects t a (g.L.ResourceLimiter.limits c.args.limiter.now) made holds) c.gc.ensures.unmade

-- what was wanting after it
wants : (g : Over) (c : After-gc_heap_grow g) (p : PolicyState g.row.D.Denot) → HoldsAccount g.H.GcHeap.KIND c.gc.new.self p.table p.account → unused_bytes g.H.GcHeap.KIND p < c.args.why.now.bytes_needed
wants g c p holds =
    let unused = c.unused_bytes.ensures p.table p.account p.limits holds in
    let least = c.if-unused_bytes-bytes_needed.false in
    let need = c.bytes_needed.ensures in
    omega arith

pub returns-then-unused_bytes-bytes_needed-clause-collects : goal.returns-then-unused_bytes-bytes_needed-clause-collects
returns-then-unused_bytes-bytes_needed-clause-collects g c t a holds =
    let gc = collected g (goal.at.returns-then-unused_bytes-bytes_needed-clause-collects g c).After-gc t a holds in
    let unused = c.unused_bytes.ensures gc.after.table gc.after.account gc.after.limits gc.holds in
    let least = c.if-unused_bytes-bytes_needed.true in
    let need = c.bytes_needed.ensures in
    has_room AllocError g.H.GcHeap.KIND c.args.why.now.bytes_needed (policy_state t a (g.L.ResourceLimiter.limits c.args.limiter.now)) c.gc.new.self gc (omega arith)

-- the growth, for what the table came to
grown : (g : Over) (c : After-gc_heap_grow g) (p : PolicyState g.row.D.Denot) → p.limits ≡ g.L.ResourceLimiter.limits c.args.limiter.now → HoldsAccount g.H.GcHeap.KIND c.gc.new.self p.table p.account → (r : Result (Unit {0}) GrowFault) → c.gc_heap_grow.result ≡ r
    → GrowsStore g.H.GcHeap.KIND c.args.why.now.bytes_needed p (g.L.ResourceLimiter.limits c.gc_heap_grow.new.limiter) r c.gc_heap_grow.new.self
grown g c p limits holds r is =
    subst (λ (x : Result (Unit {0}) GrowFault). GrowsStore g.H.GcHeap.KIND c.args.why.now.bytes_needed p (g.L.ResourceLimiter.limits c.gc_heap_grow.new.limiter) x c.gc_heap_grow.new.self) is
    (subst (λ (l : Limits). GrowsStore g.H.GcHeap.KIND c.args.why.now.bytes_needed (policy_state p.table p.account l) (g.L.ResourceLimiter.limits c.gc_heap_grow.new.limiter) c.gc_heap_grow.result c.gc_heap_grow.new.self) (sym limits)
    (subst (λ (n : ℕ). GrowsStore g.H.GcHeap.KIND n (policy_state p.table p.account (g.L.ResourceLimiter.limits c.args.limiter.now)) (g.L.ResourceLimiter.limits c.gc_heap_grow.new.limiter) c.gc_heap_grow.result c.gc_heap_grow.new.self) c.bytes_needed-2.ensures
    (c.gc_heap_grow.ensures.grows p.table p.account holds)))

pub returns-in-Ok-clause-collects : goal.returns-in-Ok-clause-collects
returns-in-Ok-clause-collects g c t a holds =
    let after = (goal.at.returns-in-Ok-clause-collects g c).After-gc_heap_grow in
    let gc = collected g (goal.at.After-gc_heap_grow g after).After-gc t a holds in
    grew_room AllocError g.H.GcHeap.KIND c.args.why.now.bytes_needed (policy_state t a (g.L.ResourceLimiter.limits c.args.limiter.now)) c.gc.new.self gc (g.L.ResourceLimiter.limits c.gc_heap_grow.new.limiter) c.gc_heap_grow.new.self
    (wants g after gc.after gc.holds) true (grown g after gc.after gc.limits gc.holds (Ok tt) c.in-Ok.is)

pub returns-in-Err-GcHeapGrowthFailed-clause-collects : goal.returns-in-Err-GcHeapGrowthFailed-clause-collects
returns-in-Err-GcHeapGrowthFailed-clause-collects g c t a holds =
    let after = (goal.at.returns-in-Err-GcHeapGrowthFailed-clause-collects g c).After-gc_heap_grow in
    let gc = collected g (goal.at.After-gc_heap_grow g after).After-gc t a holds in
    grew_room AllocError g.H.GcHeap.KIND c.args.why.now.bytes_needed (policy_state t a (g.L.ResourceLimiter.limits c.args.limiter.now)) c.gc.new.self gc (g.L.ResourceLimiter.limits c.gc_heap_grow.new.limiter) c.gc_heap_grow.new.self
    (wants g after gc.after gc.holds) false (grown g after gc.after gc.limits gc.holds (Err fault.GcHeapGrowthFailed) (c.in-Err-GcHeapGrowthFailed.is ∙ ap (λ (f : GrowFault). Err f) c.in-Err-GcHeapGrowthFailed.field-0-is))

pub returns-in-Err-Memory-clause-collects : goal.returns-in-Err-Memory-clause-collects
returns-in-Err-Memory-clause-collects g c t a holds =
    let after = (goal.at.returns-in-Err-Memory-clause-collects g c).After-gc_heap_grow in
    let gc = collected g (goal.at.After-gc_heap_grow g after).After-gc t a holds in
    wants_room AllocError g.H.GcHeap.KIND c.args.why.now.bytes_needed (policy_state t a (g.L.ResourceLimiter.limits c.args.limiter.now)) c.gc.new.self gc (g.L.ResourceLimiter.limits c.gc_heap_grow.new.limiter) c.gc_heap_grow.new.self
    (wants g after gc.after gc.holds) (record {}) (grown g after gc.after gc.limits gc.holds (Err fault.Memory) (c.in-Err-Memory.is ∙ ap (λ (f : GrowFault). Err f) c.in-Err-Memory.field-0-is))
