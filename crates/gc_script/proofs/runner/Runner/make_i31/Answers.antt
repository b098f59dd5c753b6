use Rattle.std.proofs.Common.{ap, ◌∙◌, subst}
use Rattle.std.specs.Prelude.{Err}
use Rattle.gc_model.specs.Values.{small}
use Rattle.gc_values.specs.declared.root.RootFault.{RootFault}
use Rattle.gc_store.specs.Handles.{PushesRoot}
use Rattle.gc_script.specs.Slots.{RunnerView, register_at}
use Rattle.gc_script.proofs.MakeLemmas.{small_made, small_refused}
use Rattle.gc_script.proofs.runner.Runner.make_i31.Goals as goal

pub returns-in-Ok-clause-goes : goal.returns-in-Ok-clause-goes
returns-in-Ok-clause-goes g c s holds =
    small_made g.H.GcHeap.KIND c.args.store.now c.push_i31.new.self c.args.self.now _ s c.args.d c.args.n c.wrapping_u32.result c.in-Ok.handle c.push_i31.ensures.same holds
    c.wrapping_u32.ensures (c.in-Ok.ensures.pushes s.table s.account holds.table)
    c.set.ensures.set
    (λ k other. c.set.ensures.others k other ∙ c.make_room.ensures.same k ∙ ap (λ (r : RunnerView). register_at r.registers k) c.self.view_is)
    (ap (λ (r : RunnerView). r.rest) c.self.view_is)

pub returns-in-Err-RootsFull-clause-goes : goal.returns-in-Err-RootsFull-clause-goes
returns-in-Err-RootsFull-clause-goes g c s holds =
    small_refused g.H.GcHeap.KIND c.args.store.now c.push_i31.new.self c.args.self.now _ s c.args.d c.args.n c.wrapping_u32.result c.push_i31.ensures.same holds
    (subst (λ (e : RootFault). PushesRoot g.H.GcHeap.KIND s.table s.account (small c.wrapping_u32.result) (Err e) c.push_i31.new.self) c.in-Err-RootsFull.field-0-is (c.in-Err-RootsFull.ensures.pushes s.table s.account holds.table))
    (λ k. c.make_room.ensures.same k ∙ ap (λ (r : RunnerView). register_at r.registers k) c.self.view_is)
    (ap (λ (r : RunnerView). r.rest) c.self.view_is)
