use Rattle.std.proofs.Common.{◌∙◌}
use Rattle.gc_heap.specs.Collection.{has_host}
use Rattle.gc_heap.specs.Client.{MakesNumber}
use Rattle.gc_heap.proofs.ClientLemmas.{can_collect}
use Rattle.gc_heap.proofs.NumberLemmas.{number_kept, HoldsNumber}
use Rattle.gc_heap.proofs.client.keep_number.Goals as goal
use Rattle.gc_heap.proofs.client.keep_number.Goals.{In-Ok-Ok, After-word_at-moved}

-- the object that was made
made_object : (g : _) (c : In-Ok-Ok g) → MakesNumber g.H.GcHeap.KIND c.args.trace.now.types.now.declarations c.args.layout.now c.args.offset c.args.number (g.H.GcHeap.seen c.args.heap.now) (g.H.GcHeap.seen c.make_number.new.heap) c.in-Ok-Ok.object
made_object g c = rw c.in-Ok-Ok.field-0-is at c.in-Ok-Ok.ensures.made c.args.trace.now.types.now.declarations c.requires.layout

-- src/client.rt:62:5
pub run-requires-clause-can : goal.run-requires-clause-can
run-requires-clause-can g c =
    let types = c.args.trace.now.types.now.declarations in
    let entries = c.args.trace.now.host_data_table.now.entries in
    let made = made_object g (goal.at.run-requires-clause-can g c).In-Ok-Ok in
    rw c.add_vmgcref_root.ensures.roots
    (can_collect g.H.GcHeap.KIND types c.args.layout.now (g.H.GcHeap.seen c.args.heap.now) (g.H.GcHeap.seen c.make_number.new.heap) c.in-Ok-Ok.object made.object made.adds c.args.roots.now.roots 0 (has_host entries) c.requires.can)

-- where the number is after the collection
found : (g : _) (c : After-word_at-moved g) → MakesNumber g.H.GcHeap.KIND c.args.trace.now.types.now.declarations c.args.layout.now c.args.offset c.args.number (g.H.GcHeap.seen c.args.heap.now) (g.H.GcHeap.seen c.make_number.new.heap) c.in-Ok-Ok.object
    → HoldsNumber g.H.GcHeap.KIND (g.H.GcHeap.seen c.run.new.heap) c.word_at-moved.result c.args.offset c.args.number
found g c made =
    let types = c.args.trace.now.types.now.declarations in
    let entries = c.args.trace.now.host_data_table.now.entries in
    let done = rw c.add_vmgcref_root.ensures.roots at c.run.ensures.collected in
    number_kept g.H.GcHeap.KIND types c.args.layout.now c.args.offset c.args.number (g.H.GcHeap.seen c.args.heap.now) (g.H.GcHeap.seen c.make_number.new.heap) (g.H.GcHeap.seen c.run.new.heap) c.in-Ok-Ok.object
    made c.requires.layout.from c.requires.layout.to
    c.args.roots.now.roots c.run.new.roots.roots (has_host entries) (has_host c.run.new.trace.host_data_table.now.entries) done
    c.word_at-moved.result c.len-index.result c.len-index.ensures c.word_at-moved.ensures

-- src/client.rt:63:10
pub read_u32-requires-clause-inside : goal.read_u32-requires-clause-inside
read_u32-requires-clause-inside g c =
    let at = goal.at.read_u32-requires-clause-inside g c in
    (found g at.After-word_at-moved (made_object g at.In-Ok-Ok)).readable

-- src/client.rt:43:1
pub returns-clause-kept : goal.returns-clause-kept
returns-clause-kept g c =
    let at = goal.at.returns-clause-kept g c in
    let number = found g at.After-word_at-moved (made_object g at.In-Ok-Ok) in
    c.read_u32.ensures number.readable.object number.readable.held ∙ number.number_is
