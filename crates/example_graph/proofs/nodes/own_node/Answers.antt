use Rattle.std.proofs.Common.{Ok, Err}
use Rattle.example_graph.proofs.Entries.{node_owned, owned_kept}
use Rattle.example_graph.proofs.nodes.own_node.Goals as goal

pub returns-in-Ok-clause-added : goal.returns-in-Ok-clause-added
returns-in-Ok-clause-added g c = λ key node.
    node_owned g.H.GcHeap.KIND c.args.store.now c.to_owned_rooted.new.store c.args.node.index c.in-Ok.entry.index key node c.in-Ok.ensures.owns

pub returns-in-Ok-clause-keeps : goal.returns-in-Ok-clause-keeps
returns-in-Ok-clause-keeps g c =
    owned_kept g.H.GcHeap.KIND c.args.store.now c.to_owned_rooted.new.store c.to_owned_rooted.ensures.same c.args.node.index (Ok c.in-Ok.entry.index) c.in-Ok.ensures.owns

pub returns-in-Err-clause-keeps : goal.returns-in-Err-clause-keeps
returns-in-Err-clause-keeps g c =
    owned_kept g.H.GcHeap.KIND c.args.store.now c.to_owned_rooted.new.store c.to_owned_rooted.ensures.same c.args.node.index (Err c.in-Err.fault) c.in-Err.ensures.owns
