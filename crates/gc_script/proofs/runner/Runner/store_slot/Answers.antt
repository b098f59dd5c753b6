use Rattle.std.proofs.Common.{ℕ, subst}
use Rattle.std.specs.Prelude.{Ok}
use Rattle.gc_model.specs.Values.{Reference}
use Rattle.gc_model.specs.Frames.{set_slot}
use Rattle.gc_commands.specs.declared.command.Command.TheVariants as command
use Rattle.gc_commands.specs.declared.reply.Reply.TheVariants as reply
use Rattle.gc_commands.specs.declared.reply.Refusal.TheVariants as refusal
use Rattle.gc_store.proofs.FrameLemmas.{slot_found, slot_missing}
use Rattle.gc_script.specs.Shapes.{slot_to}
use Rattle.gc_script.specs.Run.{GoesOn}
use Rattle.gc_script.proofs.StandLemmas.{holds_table}
use Rattle.gc_script.proofs.SlotGoes.{not_set, was_set, never_refused}
use Rattle.gc_script.proofs.FrameGoes.{slot_only, store_goes, no_slot_set}
use Rattle.gc_script.proofs.runner.Runner.store_slot.Goals as goal

pub returns-then-not-has_slot-clause-goes : goal.returns-then-not-has_slot-clause-goes
returns-then-not-has_slot-clause-goes g c s holds =
    let table = holds_table holds.table in
    subst (λ (n : ℕ). GoesOn g.H.GcHeap.KIND s (command.Store n c.args.r) (Ok (reply.Refused refusal.NoSuchName)) c.args.store.now c.args.self.now) c.from-slot.ensures
    (no_slot_set g.H.GcHeap.KIND s c.from-slot.result c.args.store.now c.args.self.now c.args.r holds
    (slot_missing g.H.GcHeap.KIND c.args.store.now s.table table.0 table.1 c.from-slot.result c.has_slot.result c.has_slot.ensures c.if-not-has_slot.true))

pub returns-in-Err-clause-goes : goal.returns-in-Err-clause-goes
returns-in-Err-clause-goes g c s holds =
    let table = holds_table holds.table in
    let there = slot_found g.H.GcHeap.KIND c.args.store.now s.table table.0 table.1 c.from-slot.result c.has_slot.result c.has_slot.ensures c.if-not-has_slot.false in
    subst (λ (n : ℕ). GoesOn g.H.GcHeap.KIND s (command.Store n c.args.r) (Ok (reply.Refused c.in-Err.why)) c.args.store.now c.args.self.now) c.from-slot.ensures
    (store_goes g.H.GcHeap.KIND s c.from-slot.result c.args.r there.0 (Ok (reply.Refused c.in-Err.why)) c.args.store.now c.args.self.now there.1
    (not_set g.H.GcHeap.KIND c.args.store.now c.args.self.now s holds there.0 c.args.r (slot_to c.from-slot.result) (slot_only c.from-slot.result) c.in-Err.why (c.in-Err.ensures s holds)))

pub returns-in-Ok-slot_set-clause-goes : goal.returns-in-Ok-slot_set-clause-goes
returns-in-Ok-slot_set-clause-goes g c s holds =
    let table = holds_table holds.table in
    let there = slot_found g.H.GcHeap.KIND c.args.store.now s.table table.0 table.1 c.from-slot.result c.has_slot.result c.has_slot.ensures c.if-not-has_slot.false in
    subst (λ (n : ℕ). GoesOn g.H.GcHeap.KIND s (command.Store n c.args.r) (Ok reply.Done) c.slot_set.new.self c.args.self.now) c.from-slot.ensures
    (store_goes g.H.GcHeap.KIND s c.from-slot.result c.args.r there.0 (Ok reply.Done) c.slot_set.new.self c.args.self.now there.1
    (was_set g.H.GcHeap.KIND c.args.store.now c.args.self.now s holds there.0 c.args.r (slot_to c.from-slot.result) (slot_only c.from-slot.result) c.slot_set.new.self c.in-Ok.slot.0 c.in-Ok.slot.1
    (c.in-Ok.ensures s holds) c.slot_set.ensures.same (c.in-Ok-slot_set.ensures.sets s.table s.account there.0 holds.table there.1)))

pub returns-in-Err-slot_set-clause-goes : goal.returns-in-Err-slot_set-clause-goes
returns-in-Err-slot_set-clause-goes g c s holds =
    let table = holds_table holds.table in
    let there = slot_found g.H.GcHeap.KIND c.args.store.now s.table table.0 table.1 c.from-slot.result c.has_slot.result c.has_slot.ensures c.if-not-has_slot.false in
    let found = c.in-Ok.ensures s holds in
    absurd (never_refused g.H.GcHeap.KIND c.args.store.now c.slot_set.new.self s.table s.account c.in-Ok.slot.1 (λ (x : Reference). set_slot c.from-slot.result c.in-Ok.slot.0 x s.table)
    found.root c.in-Err-slot_set.field-0 found.stands (c.in-Err-slot_set.ensures.sets s.table s.account there.0 holds.table there.1))
