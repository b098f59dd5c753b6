use Rattle.std.proofs.Common.{◌≡◌, ℤ, ◌<◌, List}
use Rattle.gc_model.specs.Table.{Table}
use Rattle.gc_model.specs.Accounts.{Account, HoldsAccount}
use Rattle.gc_store.specs.Stores.{IsSameStore}
use Rattle.gc_lists.specs.Refusals.{CountsOn}
use Rattle.gc_maps.specs.Paths.{Rises}
use Rattle.gc_maps.proofs.Climbing.{Climbs}
use Rattle.gc_maps.specs.Trees.{Tree, IsBalanced, height}
use Rattle.gc_maps.proofs.ways.rebuild.Given as goal

abbrev pub invariant-loop-turn : goal.invariant-loop-turn
invariant-loop-turn g l = record {
  climbs : (t : Table g.row.D.Denot) (a : Account) (whole : Tree) (entries : List (ℤ × ℤ)) → HoldsAccount g.H.GcHeap.KIND l.fn.store t a → IsBalanced whole → height whole < 92
      → Rises l.fn.store t l.fn.kit.node whole l.fn.path.items l.fn.part entries
      → Climbs g.H.GcHeap.KIND (g.L.ResourceLimiter.limits l.fn.limiter).limit l.fn.kit t whole l._turn l.path.items l.store l.part entries;
  limit : (g.L.ResourceLimiter.limits l.limiter).limit ≡ (g.L.ResourceLimiter.limits l.fn.limiter).limit;
  counts : CountsOn (g.L.ResourceLimiter.limits l.fn.limiter) (g.L.ResourceLimiter.limits l.limiter);
  same : IsSameStore l.fn.store l.store;
}
