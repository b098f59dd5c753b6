use Rattle.std.proofs.Common.{subst}
use Rattle.std.specs.Prelude.{Err}
use Rattle.gc_store.specs.declared.grow.GrowFault.{GrowFault}
use Rattle.gc_store.specs.Expansion.{GrowsStore}
use Rattle.gc_script.specs.declared.runner.RunError.TheVariants as error
use Rattle.gc_script.specs.Policy.{policy_of}
use Rattle.gc_script.proofs.GrowthLemmas.{heap_grew, growth_refused, growth_wanting}
use Rattle.gc_script.proofs.runner.Runner.grow.Goals as goal

pub returns-in-Ok-clause-runs : goal.returns-in-Ok-clause-runs
returns-in-Ok-clause-runs g c s holds =
    heap_grew _ _ _ _ c.args.store.now _ c.args.self.now s c.args.bytes c.gc_heap_grow.ensures.same holds tt (c.in-Ok.ensures.grows s.table s.account holds.table)

pub returns-in-Err-GcHeapGrowthFailed-clause-runs : goal.returns-in-Err-GcHeapGrowthFailed-clause-runs
returns-in-Err-GcHeapGrowthFailed-clause-runs g c s holds =
    growth_refused _ _ _ _ c.args.store.now _ c.args.self.now s c.args.bytes c.gc_heap_grow.ensures.same holds
    (subst (λ (e : GrowFault). GrowsStore g.H.GcHeap.KIND c.args.bytes (policy_of s (g.L.ResourceLimiter.limits c.args.limiter.now)) (g.L.ResourceLimiter.limits c.gc_heap_grow.new.limiter) (Err e) c.gc_heap_grow.new.self) c.in-Err-GcHeapGrowthFailed.field-0-is
    (c.in-Err-GcHeapGrowthFailed.ensures.grows s.table s.account holds.table))

pub returns-in-Err-Memory-clause-runs : goal.returns-in-Err-Memory-clause-runs
returns-in-Err-Memory-clause-runs g c s holds =
    growth_wanting _ _ _ _ c.args.store.now _ c.args.self.now s c.args.bytes c.gc_heap_grow.ensures.same holds error.OutOfMemory
    (subst (λ (e : GrowFault). GrowsStore g.H.GcHeap.KIND c.args.bytes (policy_of s (g.L.ResourceLimiter.limits c.args.limiter.now)) (g.L.ResourceLimiter.limits c.gc_heap_grow.new.limiter) (Err e) c.gc_heap_grow.new.self) c.in-Err-Memory.field-0-is
    (c.in-Err-Memory.ensures.grows s.table s.account holds.table))
