use Rattle.std.proofs.Common.{Option, subst}
use Rattle.gc_maps.specs.declared.part.Node.{Node}
use Rattle.gc_maps.specs.Paths.{HasChildren}
use Rattle.gc_maps.proofs.Putting.{as_they_were, no_root}
use Rattle.gc_maps.proofs.ways.make_entry.Goals as goal

pub returns-in-Some-clause-makes : goal.returns-in-Some-clause-makes
returns-in-Some-clause-makes g c t a x y holds children low_x low_y =
    let both = subst (λ (o : Option Node). HasChildren c.args.store.now t c.args.kit.now.node o x y) c.in-Some.is children in
    as_they_were g.H.GcHeap.KIND c.args.store.now.alloc_counter c.args.kit.now t (g.L.ResourceLimiter.limits c.args.limiter.now) (g.L.ResourceLimiter.limits c.make_between.new.limiter) x y c.args.key c.args.value c.ranges.key c.ranges.value
    c.make_between.new.store c.make_between.result (c.make_between.ensures.makes t a x y holds both.0 both.1 low_x low_y)

pub returns-in-None-clause-makes : goal.returns-in-None-clause-makes
returns-in-None-clause-makes g c t a x y holds children low_x low_y =
    let both = subst (λ (o : Option Node). HasChildren c.args.store.now t c.args.kit.now.node o x y) c.in-None.is children in
    as_they_were g.H.GcHeap.KIND c.args.store.now.alloc_counter c.args.kit.now t (g.L.ResourceLimiter.limits c.args.limiter.now) (g.L.ResourceLimiter.limits c.make_between-in-None.new.limiter) x y c.args.key c.args.value c.ranges.key c.ranges.value
    c.make_between-in-None.new.store c.make_between-in-None.result
    (c.make_between-in-None.ensures.makes t a x y holds (no_root c.args.store.now t c.args.kit.now.node x both.0) (no_root c.args.store.now t c.args.kit.now.node y both.1) low_x low_y)
