use Rattle.std.proofs.Common.{Bool, sym, subst}
use Rattle.gc_heap.specs.Collection.{Start, stage}
use Rattle.test_client.proofs.StepLemmas.{goes, ended}
use Rattle.test_client.proofs.collections.finish_after_one.Goals as goal
use Rattle.test_client.proofs.collections.finish_after_one.Goals.{In-Continue}

-- after the first increment
on : (g : _) (c : In-Continue g) (s : Start) (counted : Bool)
    → g.H.GcHeap.under_way s 0 counted (stage c.args.heap.now c.args.state.now c.args.roots.now.roots c.args.trace.now.types.now.declarations c.args.trace.now.host_data_table.now.entries)
    → g.H.GcHeap.under_way s 1 counted (stage c.step_counted.new.self c.step_counted.new.state c.step_counted.new.roots.roots c.step_counted.new.trace.types.now.declarations c.step_counted.new.trace.host_data_table.now.entries)
on g c s counted under_way =
    subst (λ types. g.H.GcHeap.under_way s 1 counted (stage c.step_counted.new.self c.step_counted.new.state c.step_counted.new.roots.roots types.now.declarations c.step_counted.new.trace.host_data_table.now.entries))
    (sym c.step_counted.ensures.types) (goes g.H.GcHeap.KIND s 1 c.step_counted.result _ _ c.in-Continue.is (c.step_counted.ensures.step s 0 counted under_way))

pub step_counted-requires : goal.step_counted-requires
step_counted-requires g c =
    let b = c.requires.begun in
    (b.0, (0, (b.1.0, b.1.1)))

pub collect-requires : goal.collect-requires
collect-requires g c =
    let b = c.requires.begun in
    (b.0, (1, (b.1.0, on g (goal.at.collect-requires g c).In-Continue b.0 b.1.0 b.1.1)))

pub returns-in-Continue-clause-collected : goal.returns-in-Continue-clause-collected
returns-in-Continue-clause-collected g c s counted under_way = c.collect.ensures.collected s 1 counted (on g (goal.at.returns-in-Continue-clause-collected g c).In-Continue s counted under_way)

pub returns-clause-sound : goal.returns-clause-sound
returns-clause-sound g c =
    let b = c.requires.begun in
    (ended g.H.GcHeap.KIND b.0 1 c.step_counted.result _ _ c.in-Complete.is (c.step_counted.ensures.step b.0 0 b.1.0 b.1.1)).0

pub returns-clause-collected : goal.returns-clause-collected
returns-clause-collected g c s counted under_way = (ended g.H.GcHeap.KIND s 1 c.step_counted.result _ _ c.in-Complete.is (c.step_counted.ensures.step s 0 counted under_way)).2
