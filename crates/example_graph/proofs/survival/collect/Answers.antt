use Rattle.example_graph.proofs.Entries.{collected_kept}
use Rattle.example_graph.proofs.survival.collect.Goals as goal

pub returns-then-turn-eq0 : goal.returns-then-turn-eq0
returns-then-turn-eq0 g c = record { keeps = collected_kept g.H.GcHeap.KIND c.args.store.now c.gc.new.self c.gc.ensures.same c.gc.ensures.kept }

pub returns-else-turn-eq0 : goal.returns-else-turn-eq0
returns-else-turn-eq0 g c =
    let done = c.gc_by_increments in
    record { keeps = collected_kept g.H.GcHeap.KIND c.args.store.now done.new.self done.ensures.collected.same done.ensures.collected.kept }
