use Rattle.std.proofs.Common.{sym, ◌∙◌}
use Rattle.gc_heap.specs.Collection.{has_host}
use Rattle.gc_owner.proofs.NullCollected.{keeps_all}
use Rattle.gc_owner.proofs.collect.collect_in.Goals as goal

pub returns-then-keeps_all-clause-collected : goal.returns-then-keeps_all-clause-collected
returns-then-keeps_all-clause-collected g c =
    keeps_all g.H.GcHeap.KIND (sym c.KIND.ensures ∙ c.keeps_all.ensures c.if-keeps_all.true) c.args.types.now.declarations (g.H.GcHeap.seen c.args.heap.now) c.args.roots.now (has_host c.args.hosts.now.entries)
    c.requires.attached c.requires.collectable
