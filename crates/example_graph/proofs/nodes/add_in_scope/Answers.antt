use Rattle.example_graph.proofs.EntriesKept.{keeps_then}
use Rattle.example_graph.proofs.nodes.add_in_scope.Goals as goal

pub returns-clause-keeps : goal.returns-clause-keeps
returns-clause-keeps g c =
    keeps_then g.H.GcHeap.KIND c.args.store.now c.make_node.new.store c.own_node.new.store c.make_node.ensures.keeps c.own_node.ensures.keeps
