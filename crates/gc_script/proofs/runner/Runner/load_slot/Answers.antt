use Rattle.std.proofs.Common.{ℕ, Some, ap, ◌∙◌, subst, inl, inr, sym}
use Rattle.std.specs.Prelude.{Ok, Err}
use Rattle.gc_commands.specs.declared.command.Command.TheVariants as command
use Rattle.gc_commands.specs.declared.reply.Reply.TheVariants as reply
use Rattle.gc_commands.specs.declared.reply.Refusal.TheVariants as refusal
use Rattle.gc_store.specs.declared.globals.SlotFault.{SlotFault}
use Rattle.gc_values.specs.declared.root.RawValue.TheVariants as raw
use Rattle.gc_store.specs.Slots.{ReadsSlot}
use Rattle.gc_store.proofs.FrameLemmas.{slot_found, slot_missing}
use Rattle.gc_model.specs.Frames.{slot_at}
use Rattle.gc_script.specs.Wants.{MayWant}
use Rattle.gc_script.proofs.ResultLemmas.{failed}
use Rattle.gc_script.proofs.WantLemmas.{new_register, slot_makes, load_may}
use Rattle.gc_script.proofs.FrameGoes.{load_goes, no_slot_read}
use Rattle.gc_script.specs.Slots.{RunnerView, register_at}
use Rattle.gc_script.specs.State.{State}
use Rattle.gc_script.specs.Run.{GoesOn}
use Rattle.gc_script.proofs.StandLemmas.{holds_table}
use Rattle.gc_script.proofs.ReadLemmas.{register_with-same}
use Rattle.gc_script.proofs.SlotGoes.{slot_read, full_refused}
use Rattle.gc_script.proofs.runner.Runner.load_slot.Goals as goal

pub returns-then-not-has_slot-clause-goes : goal.returns-then-not-has_slot-clause-goes
returns-then-not-has_slot-clause-goes g c s holds =
    let table = holds_table holds.table in
    subst (λ (n : ℕ). GoesOn g.H.GcHeap.KIND s (command.Load n c.args.d) (Ok (reply.Refused refusal.NoSuchName)) c.args.store.now c.args.self.now) c.from-slot.ensures
    (no_slot_read g.H.GcHeap.KIND s c.from-slot.result c.args.store.now c.args.self.now c.args.d holds
    (slot_missing g.H.GcHeap.KIND c.args.store.now s.table table.0 table.1 c.from-slot.result c.has_slot.result c.has_slot.ensures c.if-not-has_slot.true))

pub returns-in-Ok-clause-goes : goal.returns-in-Ok-clause-goes
returns-in-Ok-clause-goes g c s holds =
    let table = holds_table holds.table in
    let there = slot_found g.H.GcHeap.KIND c.args.store.now s.table table.0 table.1 c.from-slot.result c.has_slot.result c.has_slot.ensures c.if-not-has_slot.false in
    let told = c.in-Ok.ensures.reads s.table s.account there.0 holds.table there.1 in
    subst (λ (n : ℕ). GoesOn g.H.GcHeap.KIND s (command.Load n c.args.d) (Ok c.put_read.result) c.slot_get.new.self (record { registers = c.put_read.new.registers; rest = record { owned = c.self.inside.owned; marks = c.self.inside.marks.items } })) c.from-slot.ensures
    (load_goes g.H.GcHeap.KIND s c.from-slot.result c.args.d there.0 (Ok c.put_read.result) c.slot_get.new.self _ there.1
    (slot_read g.H.GcHeap.KIND c.args.store.now c.args.self.now s holds there.0 c.args.d (λ (x : State). slot_at x.table c.from-slot.result) there.1 c.slot_get.new.self _ c.slot_get.ensures.same
    (ap (λ (x : RunnerView). x.rest) c.self.view_is) (raw.Ref c.in-Ok.class c.in-Ok.handle) c.put_read.result
    (λ k. c.put_read.ensures.put k ∙ register_with-same (Some c.args.d) (Some (raw.Ref c.in-Ok.class c.in-Ok.handle)) c.make_room.new.registers c.args.self.now.registers (λ j. c.make_room.ensures.same j ∙ ap (λ (x : RunnerView). register_at x.registers j) c.self.view_is) k)
    told.0 told.1.0 told.1.1 c.put_read.ensures.shows))

pub returns-in-Err-RootsFull-clause-goes : goal.returns-in-Err-RootsFull-clause-goes
returns-in-Err-RootsFull-clause-goes g c s holds =
    let table = holds_table holds.table in
    let there = slot_found g.H.GcHeap.KIND c.args.store.now s.table table.0 table.1 c.from-slot.result c.has_slot.result c.has_slot.ensures c.if-not-has_slot.false in
    let told = subst (λ (e : SlotFault). ReadsSlot g.H.GcHeap.KIND s.table s.account there.0 (Err e) c.slot_get.new.self) c.in-Err-RootsFull.field-0-is (c.in-Err-RootsFull.ensures.reads s.table s.account there.0 holds.table there.1) in
    subst (λ (n : ℕ). GoesOn g.H.GcHeap.KIND s (command.Load n c.args.d) (Ok (reply.Refused refusal.RootsFull)) c.slot_get.new.self (record { registers = c.make_room.new.registers; rest = record { owned = c.self.inside.owned; marks = c.self.inside.marks.items } })) c.from-slot.ensures
    (load_goes g.H.GcHeap.KIND s c.from-slot.result c.args.d there.0 (Ok (reply.Refused refusal.RootsFull)) c.slot_get.new.self _ there.1
    (full_refused g.H.GcHeap.KIND c.args.store.now c.args.self.now s holds there.0 c.args.d (λ (x : State). slot_at x.table c.from-slot.result) there.1 c.slot_get.new.self _ c.slot_get.ensures.same
    (ap (λ (x : RunnerView). x.rest) c.self.view_is)
    (λ k. c.make_room.ensures.same k ∙ ap (λ (x : RunnerView). register_at x.registers k) c.self.view_is)
    told.0 told.1.0 told.1.1))

pub returns-then-is_err-clause-cause : goal.returns-then-is_err-clause-cause
returns-then-is_err-clause-cause g c s holds =
    let table = holds_table holds.table in
    let there = slot_found g.H.GcHeap.KIND c.args.store.now s.table table.0 table.1 c.from-slot.result c.has_slot.result c.has_slot.ensures c.if-not-has_slot.false in
    subst (λ (n : ℕ). MayWant g.H.GcHeap.KIND s (command.Load n c.args.d)) c.from-slot.ensures
    (load_may g.H.GcHeap.KIND s c.from-slot.result c.args.d there.0 (inr (new_register g.H.GcHeap.KIND c.args.store.now c.args.self.now _ s c.self.view_is holds (Some c.args.d) (failed c.make_room.result (sym c.is_err.ensures.value ∙ c.if-is_err.true) c.make_room.ensures.had_none))) there.1)

pub returns-in-Err-clause-cause : goal.returns-in-Err-clause-cause
returns-in-Err-clause-cause g c s holds =
    let table = holds_table holds.table in
    let there = slot_found g.H.GcHeap.KIND c.args.store.now s.table table.0 table.1 c.from-slot.result c.has_slot.result c.has_slot.ensures c.if-not-has_slot.false in
    subst (λ (n : ℕ). MayWant g.H.GcHeap.KIND s (command.Load n c.args.d)) c.from-slot.ensures
    (load_may g.H.GcHeap.KIND s c.from-slot.result c.args.d there.0 (inl (slot_makes g.H.GcHeap.KIND s.table s.account there.0 c.in-Err.field-0 c.slot_get.new.self (c.in-Err.ensures.reads s.table s.account there.0 holds.table there.1))) there.1)
