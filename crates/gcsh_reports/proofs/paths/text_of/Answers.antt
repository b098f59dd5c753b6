use Rattle.gcsh_reports.proofs.PathLemmas.{next_line, last_line}
use Rattle.gcsh_reports.proofs.paths.text_of.Goals as goal

pub loop-number-preserved : goal.loop-number-preserved
loop-number-preserved g c b all =
    next_line g.H.GcHeap.KIND b c.args.store.now c.args.found.now all c.loop-number.number _ c.in-Some.handle.now c.deref-entry-items.result.now c.deref.result.now _ _ c.value_of.result
    c.deref-entry-items.ensures.value c.deref.ensures.value c.loop-number-test.true c.in-Some.ensures.lookup.3.0 c.in-Some.ensures.lookup.1 c.value_of.ensures (c.loop-number.invariant b all) c.in_ok-push_line.ensures

pub returns : goal.returns
returns g c b all =
    last_line g.H.GcHeap.KIND b c.args.store.now c.args.found.now all c.loop-number.number c.deref-entry-items.result.now _ c.deref-entry-items.ensures.value c.loop-number-test.false (c.loop-number.invariant b all)
