use Rattle.std.proofs.Common.{◌∙◌}
use Rattle.gc_owner.proofs.WordBarriers.{copy_named, copy_raised, none_raised}
use Rattle.gc_owner.proofs.barriers.copy_word.Goals as goal

pub clone_gc_ref-requires-clause-named : goal.clone_gc_ref-requires-clause-named
clone_gc_ref-requires-clause-named g c = copy_named (g.H.GcHeap.seen c.args.heap.now) c.from_raw_u32.result c.args.word c.in-Some.gc_ref c.from_raw_u32.ensures c.in-Some.is c.requires.can

pub returns-in-Some-clause-seen : goal.returns-in-Some-clause-seen
returns-in-Some-clause-seen g c = c.clone_gc_ref.ensures.seen ∙ copy_raised (g.H.GcHeap.seen c.args.heap.now) c.from_raw_u32.result c.args.word c.in-Some.gc_ref c.from_raw_u32.ensures c.in-Some.is

pub returns-in-None-clause-seen : goal.returns-in-None-clause-seen
returns-in-None-clause-seen g c = none_raised (g.H.GcHeap.seen c.args.heap.now) c.from_raw_u32.result c.args.word c.from_raw_u32.ensures c.in-None.is
