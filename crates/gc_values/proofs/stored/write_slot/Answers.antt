use Rattle.std.proofs.Common.{◌≡◌, subst}
use Rattle.gc_values.specs.declared.stored.Stored.{Stored}
use Rattle.gc_values.specs.declared.stored.Stored.TheVariants as kept
use Rattle.gc_values.specs.HeldSlots.{CanWriteSlot, storage_slot}
use Rattle.gc_values.proofs.SlotWrites.{word_goes}
use Rattle.gc_values.proofs.stored.write_slot.Given.{Over}
use Rattle.gc_values.proofs.stored.write_slot.Goals.{After-is_ready}
use Rattle.gc_values.proofs.stored.write_slot.Goals as goal

can : (g : Over) (c : After-is_ready g) (x : Stored) → c.args.stored ≡ x → CanWriteSlot g.H.GcHeap.KIND c.args.owner.now.seen c.args.gc_ref.now (storage_slot c.args.slot.now) x
can g c x is = subst (λ (y : Stored). CanWriteSlot g.H.GcHeap.KIND c.args.owner.now.seen c.args.gc_ref.now (storage_slot c.args.slot.now) y) is c.requires.can

pub write_reference-requires-clause-lies : goal.write_reference-requires-clause-lies
write_reference-requires-clause-lies g c =
    let at = (goal.at.write_reference-requires-clause-lies g c).After-is_ready in
    word_goes g.H.GcHeap.KIND c.args.owner.now.seen c.args.gc_ref.now (storage_slot c.args.slot.now) c.is_ready.ensures.can c.in-Ref.word (can g at (kept.Ref c.in-Ref.word) c.in-Ref.is)
