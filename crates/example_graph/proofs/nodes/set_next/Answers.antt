use Rattle.std.proofs.Common.{Some, arith}
use Rattle.gc_objects.specs.declared.val.Val.TheVariants as val
use Rattle.example_graph.proofs.Entries.{set_kept}
use Rattle.example_graph.proofs.nodes.set_next.Goals as goal

pub returns-in-Ok : goal.returns-in-Ok
returns-in-Ok g c = record {
  keeps = set_kept g.H.GcHeap.KIND c.args.store.now c.set_field.new.store c.set_field.ensures.same c.in_ok-node.node.index 1 (val.AnyRef (Some c.args.to))
      (λ e. absurd (omega (arith, e))) c.in-Ok.ensures.sets;
}
