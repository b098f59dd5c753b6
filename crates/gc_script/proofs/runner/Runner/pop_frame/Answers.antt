use Rattle.std.proofs.Common.{Bool, subst}
use Rattle.gc_store.specs.Slots.{PopsFrame}
use Rattle.gc_script.proofs.FrameGoes.{was_popped, none_popped}
use Rattle.gc_script.proofs.runner.Runner.pop_frame.Goals as goal

pub returns-then-pop_frame-clause-goes : goal.returns-then-pop_frame-clause-goes
returns-then-pop_frame-clause-goes g c s holds =
    was_popped g.H.GcHeap.KIND c.args.store.now c.pop_frame.new.self c.args.self.now s c.pop_frame.ensures.same holds
    (subst (λ (b : Bool). PopsFrame g.H.GcHeap.KIND s.table s.account b c.pop_frame.new.self) c.if-pop_frame.true (c.pop_frame.ensures.pops s.table s.account holds.table))

pub returns-else-pop_frame-clause-goes : goal.returns-else-pop_frame-clause-goes
returns-else-pop_frame-clause-goes g c s holds =
    none_popped g.H.GcHeap.KIND c.args.store.now c.pop_frame.new.self c.args.self.now s c.pop_frame.ensures.same holds
    (subst (λ (b : Bool). PopsFrame g.H.GcHeap.KIND s.table s.account b c.pop_frame.new.self) c.if-pop_frame.false (c.pop_frame.ensures.pops s.table s.account holds.table))
