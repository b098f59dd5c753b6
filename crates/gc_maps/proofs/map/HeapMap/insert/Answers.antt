use Rattle.std.proofs.Common.{sym, ◌∙◌, arith}
use Rattle.std.specs.FinMap as finite
use Rattle.gc_maps.specs.Trees.{pairs}
use Rattle.gc_maps.proofs.Naming.{held_table}
use Rattle.gc_maps.proofs.Leaving.{map_root, map_search}
use Rattle.gc_maps.proofs.Inserting.{map_of_in, as_put}
use Rattle.gc_maps.proofs.map.HeapMap.insert.Goals as goal

pub put-built-requires : goal.put-built-requires
put-built-requires g c =
    map_of_in g.H.GcHeap.KIND c.args.store.now c.args.kit.now.node c.args.self.now.root (c.requires.kit (sym c.is_kit_of.ensures ∙ c.if-not-is_kit_of.false)).nodes
    (c.requires.stands (sym c.is_kit_of.ensures ∙ c.if-not-is_kit_of.false))
    (sym c.is_version_of.ensures ∙ c.if-not-is_version_of.false)

pub returns-clause-inserts : goal.returns-clause-inserts
returns-clause-inserts g c kit_own own t a m holds stands =
    c.keep_built.ensures.keeps c.args.store.now.alloc_counter c.args.kit.now 277 829 t (g.L.ResourceLimiter.limits c.args.limiter.now) (g.L.ResourceLimiter.limits c.put-built.new.limiter) (finite.insert m c.args.key c.args.value) (omega arith) (omega arith)
    (c.enter_gc_lifo_scope-scope.ensures.table t (held_table g.H.GcHeap.KIND c.args.store.now t a holds))
    (as_put g.H.GcHeap.KIND c.args.store.now.alloc_counter c.args.kit.now t (g.L.ResourceLimiter.limits c.args.limiter.now) (g.L.ResourceLimiter.limits c.put-built.new.limiter) m c.args.key c.args.value (pairs stands.is.tree) stands.is.entries c.ranges.key c.ranges.value
    c.put-built.result c.put-built.new.store
    (c.put-built.ensures.puts t a stands.is.tree holds (map_root c.args.store.now t c.args.self.now.root c.args.kit.now.node m stands) (map_search c.args.store.now t c.args.self.now.root c.args.kit.now.node m stands)))
