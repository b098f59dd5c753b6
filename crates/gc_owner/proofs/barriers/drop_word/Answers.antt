use Rattle.std.proofs.Common.{◌∙◌}
use Rattle.gc_owner.proofs.ScopeLemmas.{drop_named, drop_lowered, none_lowered}
use Rattle.gc_owner.proofs.barriers.drop_word.Goals as goal

pub drop_gc_ref-requires-clause-named : goal.drop_gc_ref-requires-clause-named
drop_gc_ref-requires-clause-named g c = drop_named (g.H.GcHeap.seen c.args.heap.now) c.from_raw_u32.result c.args.word c.in-Some.gc_ref c.from_raw_u32.ensures c.in-Some.is c.requires.can

pub returns-in-Some-clause-seen : goal.returns-in-Some-clause-seen
returns-in-Some-clause-seen g c = c.drop_gc_ref.ensures.seen ∙ drop_lowered (g.H.GcHeap.seen c.args.heap.now) c.from_raw_u32.result c.args.word c.in-Some.gc_ref c.from_raw_u32.ensures c.in-Some.is

pub returns-in-None-clause-seen : goal.returns-in-None-clause-seen
returns-in-None-clause-seen g c = none_lowered (g.H.GcHeap.seen c.args.heap.now) c.from_raw_u32.result c.args.word c.from_raw_u32.ensures c.in-None.is
