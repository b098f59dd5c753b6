use Rattle.example_graph.proofs.survival.collect_times.Goals as goal

pub loop-turn-init : goal.loop-turn-init
loop-turn-init g c = λ handle key entry. entry

pub loop-turn-preserved : goal.loop-turn-preserved
loop-turn-preserved g c = λ handle key entry. c.collect.ensures.keeps handle key (c.loop-turn.invariant handle key entry)
