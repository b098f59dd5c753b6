use Rattle.example_graph.proofs.Keys.{read_kept}
use Rattle.example_graph.proofs.nodes.edge_of.Goals as goal

pub returns-in-Ok : goal.returns-in-Ok
returns-in-Ok g c = record {
  keeps = read_kept g.H.GcHeap.KIND c.args.store.now c.field.new.store c.field.ensures.same c.in_ok-node.node.index c.args.index c.in-Ok.value c.in-Ok.ensures.reads;
}
