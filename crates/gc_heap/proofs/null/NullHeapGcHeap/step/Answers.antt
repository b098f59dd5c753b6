use Rattle.gc_heap.specs.Collection.{has_host}
use Rattle.gc_heap.proofs.NullStepLemmas.{done}
use Rattle.gc_heap.proofs.null.NullHeapGcHeap.step.Goals as goal

pub returns-clause-step : goal.returns-clause-step
returns-clause-step g c = λ s n counted under_way.
    let d = done s n c.args.self.now c.args._roots.now.roots c.args._trace.now.types.now.declarations (has_host c.args._trace.now.host_data_table.now.entries) under_way in
    (d.one, (d.sound, d.collected))
