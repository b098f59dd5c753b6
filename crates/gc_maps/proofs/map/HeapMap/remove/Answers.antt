use Rattle.std.proofs.Common.{sym, ◌∙◌, arith}
use Rattle.std.specs.FinMap as finite
use Rattle.gc_maps.specs.Trees.{pairs}
use Rattle.gc_maps.proofs.Naming.{held_table}
use Rattle.gc_maps.proofs.Leaving.{map_root, map_search}
use Rattle.gc_maps.proofs.Inserting.{map_of_in, as_cut}
use Rattle.gc_maps.proofs.map.HeapMap.remove.Goals as goal

pub take_out-built-requires : goal.take_out-built-requires
take_out-built-requires g c =
    map_of_in g.H.GcHeap.KIND c.args.store.now c.args.kit.now.node c.args.self.now.root (c.requires.kit (sym c.is_kit_of.ensures ∙ c.if-not-is_kit_of.false)).nodes
    (c.requires.stands (sym c.is_kit_of.ensures ∙ c.if-not-is_kit_of.false))
    (sym c.is_version_of.ensures ∙ c.if-not-is_version_of.false)

pub returns-clause-removes : goal.returns-clause-removes
returns-clause-removes g c kit_own own t a m holds stands =
    c.keep_built.ensures.keeps c.args.store.now.alloc_counter c.args.kit.now 276 1012 t (g.L.ResourceLimiter.limits c.args.limiter.now) (g.L.ResourceLimiter.limits c.take_out-built.new.limiter) (finite.remove m c.args.key) (omega arith) (omega arith)
    (c.enter_gc_lifo_scope-scope.ensures.table t (held_table g.H.GcHeap.KIND c.args.store.now t a holds))
    (as_cut g.H.GcHeap.KIND c.args.store.now.alloc_counter c.args.kit.now t (g.L.ResourceLimiter.limits c.args.limiter.now) (g.L.ResourceLimiter.limits c.take_out-built.new.limiter) m c.args.key (pairs stands.is.tree) stands.is.entries c.ranges.key
    c.take_out-built.result c.take_out-built.new.store
    (c.take_out-built.ensures.takes_out t a stands.is.tree holds (map_root c.args.store.now t c.args.self.now.root c.args.kit.now.node m stands) (map_search c.args.store.now t c.args.self.now.root c.args.kit.now.node m stands)))
