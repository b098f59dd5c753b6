use Rattle.example_graph.proofs.Entries.{left_kept}
use Rattle.example_graph.proofs.nodes.leave_scope.Goals as goal

pub returns-then-scope-enter_gc_lifo_scope : goal.returns-then-scope-enter_gc_lifo_scope
returns-then-scope-enter_gc_lifo_scope g c =
    let left = c.exit_gc_lifo_scope in
    record { keeps = left_kept g.H.GcHeap.KIND c.args.store.now left.new.self left.ensures.same c.args.scope left.ensures.leaves }
