use Rattle.std.proofs.Common.{Some, ap, ◌∙◌, inl, inr, sym}
use Rattle.gc_owner.specs.declared.entry.GcClass.TheVariants as class
use Rattle.gc_values.specs.declared.root.RawValue.TheVariants as raw
use Rattle.gc_script.specs.Slots.{RunnerView, register_at}
use Rattle.gc_script.proofs.ResultLemmas.{failed}
use Rattle.gc_script.proofs.WantLemmas.{new_register, pending_fault, take_may}
use Rattle.gc_script.proofs.ReadLemmas.{register_with-same}
use Rattle.gc_script.proofs.ThrowLemmas.{taken, take_refused}
use Rattle.gc_script.proofs.runner.Runner.take.Goals as goal

pub returns-in-Ok-clause-goes : goal.returns-in-Ok-clause-goes
returns-in-Ok-clause-goes g c s holds =
    taken g.H.GcHeap.KIND c.args.store.now c.args.self.now s c.args.d holds c.take_pending.new.self (record { registers = c.put_read.new.registers; rest = record { owned = c.self.inside.owned; marks = c.self.inside.marks.items } }) c.take_pending.ensures.same
    (ap (λ (x : RunnerView). x.rest) c.self.view_is) c.in-Ok.handle c.put_read.result (c.in-Ok.ensures.takes s.table s.account holds.table)
    (λ k. c.put_read.ensures.put k
    ∙ register_with-same (Some c.args.d) (Some (raw.Ref class.Exn c.in-Ok.handle)) c.make_room.new.registers c.args.self.now.registers (λ j. c.make_room.ensures.same j ∙ ap (λ (x : RunnerView). register_at x.registers j) c.self.view_is) k)
    c.put_read.ensures.shows

pub returns-in-Err-RootsFull-clause-goes : goal.returns-in-Err-RootsFull-clause-goes
returns-in-Err-RootsFull-clause-goes g c s holds =
    take_refused g.H.GcHeap.KIND c.args.store.now c.args.self.now s c.args.d holds c.take_pending.new.self (record { registers = c.make_room.new.registers; rest = record { owned = c.self.inside.owned; marks = c.self.inside.marks.items } }) c.take_pending.ensures.same
    (ap (λ (x : RunnerView). x.rest) c.self.view_is) (λ k. c.make_room.ensures.same k ∙ ap (λ (x : RunnerView). register_at x.registers k) c.self.view_is)
    ((rw c.in-Err-RootsFull.field-0-is at c.in-Err-RootsFull.ensures).takes s.table s.account holds.table)

pub returns-then-is_err-clause-cause : goal.returns-then-is_err-clause-cause
returns-then-is_err-clause-cause g c s holds =
    take_may g.H.GcHeap.KIND s c.args.d (inr (new_register g.H.GcHeap.KIND c.args.store.now c.args.self.now _ s c.self.view_is holds (Some c.args.d) (failed c.make_room.result (sym c.is_err.ensures.value ∙ c.if-is_err.true) c.make_room.ensures.had_none)))

pub returns-in-Err-clause-cause : goal.returns-in-Err-clause-cause
returns-in-Err-clause-cause g c s holds =
    take_may g.H.GcHeap.KIND s c.args.d (inl (pending_fault g.H.GcHeap.KIND s.table s.account c.in-Err.field-0 c.take_pending.new.self (c.in-Err.ensures.takes s.table s.account holds.table)))
