use Rattle.std.proofs.Common.{◌≡◌, ◌≤◌}
use Rattle.gc_store.specs.Stores.{IsSameStore}
use Rattle.gcsh_reports.specs.Seeds.{seed_of}
use Rattle.gcsh_reports.specs.Filling.{FillsUpTo}
use Rattle.gcsh_reports.proofs.fill.fill.Given as goal

-- so many inserts were made
pub record Invariant (Same Limit Few Seeds Fills : Type 0) : Type 0 where
  pub same : Same
  pub limit : Limit
  pub few : Few
  pub seeds : Seeds
  pub fills : Fills

abbrev pub invariant-loop-number : goal.invariant-loop-number
invariant-loop-number g l = Invariant (IsSameStore l.fn.store l.store) ((g.L.ResourceLimiter.limits l.limiter).limit ≡ (g.L.ResourceLimiter.limits l.fn.limiter).limit) (l.filled.refused ≤ l.number) (l.seed ≡ seed_of l.inserts l.number)
    (FillsUpTo g.H.GcHeap.KIND (g.L.ResourceLimiter.limits l.fn.limiter) l.kit l.inserts l.fn.store l.number l.store (g.L.ResourceLimiter.limits l.limiter) l.filled)
