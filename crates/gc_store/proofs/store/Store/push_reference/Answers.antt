use Rattle.std.proofs.Common.{arith}
use Rattle.gc_store.proofs.ReadValues.{reads_null, reads_pushed, reads_refused, null_there, pushed_there}
use Rattle.gc_store.proofs.store.Store.push_reference.Goals as goal

pub returns-then-word-eq0-clause-reads : goal.returns-then-word-eq0-clause-reads
returns-then-word-eq0-clause-reads g c = reads_null g.H.GcHeap.KIND c.args.self.now c.args.word c.if-word-eq0.true

pub returns-in-Ok-clause-reads : goal.returns-in-Ok-clause-reads
returns-in-Ok-clause-reads g c t place a class r holds account is =
    reads_pushed g.H.GcHeap.KIND t a place class r c.args.word c.in-Ok.found _ is (omega (arith, c.if-word-eq0.false)) (c.in-Ok.ensures.pushes t place a r holds account is)

pub returns-in-Err-clause-reads : goal.returns-in-Err-clause-reads
returns-in-Err-clause-reads g c t place a class r holds account is =
    reads_refused g.H.GcHeap.KIND t a place class r c.args.word c.in-Err.fault _ is (omega (arith, c.if-word-eq0.false)) (c.in-Err.ensures.pushes t place a r holds account is)

pub returns-then-word-eq0-clause-there : goal.returns-then-word-eq0-clause-there
returns-then-word-eq0-clause-there g c = null_there g.H.GcHeap.KIND c.args.self.now c.args.word c.if-word-eq0.true

pub returns-in-Ok-clause-there : goal.returns-in-Ok-clause-there
returns-in-Ok-clause-there g c t place a class r there is =
    pushed_there g.H.GcHeap.KIND _ t place a class r c.args.word is (omega (arith, c.if-word-eq0.false)) (c.in-Ok.ensures.there t place a r there is)
