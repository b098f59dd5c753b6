use Rattle.std.proofs.Common.{◌≡◌, ℕ, length, take, sym, ap, ◌∙◌}
use Rattle.std.specs.Int.{bytes_low_first}
use Rattle.gc_types.specs.Layouts.{storage_width}
use Rattle.gc_values.specs.HeldSlots.{storage_slot}
use Rattle.gc_values.proofs.SlotWrites.{take-low, length-low, number_goes, bytes_written}
use Rattle.gc_values.proofs.stored.write_low_bytes.Given.{Over}
use Rattle.gc_values.proofs.stored.write_low_bytes.Goals.{After-to_le_bytes-bytes}
use Rattle.gc_values.proofs.stored.write_low_bytes.Goals as goal

pub write_number-requires-clause-inside : goal.write_number-requires-clause-inside
write_number-requires-clause-inside g c =
    number_goes g.H.GcHeap.KIND c.args.owner.now.seen c.args.gc_ref.now (storage_slot c.args.slot.now) c.is_ready.ensures.can c.args.number c.requires.can _
    (ap length c.to_le_bytes.ensures ∙ sym c.in-1.is ∙ c.width-width.ensures.value)

pub write_number-requires-in-4-clause-inside : goal.write_number-requires-in-4-clause-inside
write_number-requires-in-4-clause-inside g c =
    number_goes g.H.GcHeap.KIND c.args.owner.now.seen c.args.gc_ref.now (storage_slot c.args.slot.now) c.is_ready.ensures.can c.args.number c.requires.can _
    (ap length c.to_le_bytes-in-4.ensures ∙ sym c.in-4.is ∙ c.width-width.ensures.value)

pub write_number-requires-in-8-clause-inside : goal.write_number-requires-in-8-clause-inside
write_number-requires-in-8-clause-inside g c =
    number_goes g.H.GcHeap.KIND c.args.owner.now.seen c.args.gc_ref.now (storage_slot c.args.slot.now) c.is_ready.ensures.can c.args.number c.requires.can _
    (ap length c.to_le_bytes-in-8.ensures ∙ sym c.in-8.is ∙ c.width-width.ensures.value)

-- the bytes that are written of any other width
bytes_are : (g : Over) (c : After-to_le_bytes-bytes g) → take c.width-width.result c.to_le_bytes-bytes.result ≡ bytes_low_first 0 (storage_width c.args.slot.now.storage) c.args.number
bytes_are g c =
    ap (take c.width-width.result) c.to_le_bytes-bytes.ensures ∙ take-low 0 c.width-width.result 16 c.args.number c.width-width.ensures.small
    ∙ ap (λ (w : ℕ). bytes_low_first 0 w c.args.number) c.width-width.ensures.value

pub write_number-requires-in_default-clause-inside : goal.write_number-requires-in_default-clause-inside
write_number-requires-in_default-clause-inside g c =
    let bytes = (goal.at.write_number-requires-in_default-clause-inside g c).After-to_le_bytes-bytes in
    number_goes g.H.GcHeap.KIND c.args.owner.now.seen c.args.gc_ref.now (storage_slot c.args.slot.now) c.is_ready.ensures.can c.args.number c.requires.can _
    (ap length (bytes_are g bytes) ∙ length-low 0 (storage_width c.args.slot.now.storage) c.args.number)

pub returns-in_default : goal.returns-in_default
returns-in_default g c =
    let bytes = (goal.at.returns-in_default g c).After-to_le_bytes-bytes in
    bytes_written g.H.GcHeap.KIND c.args.owner.now.seen c.write_number-in_default.new.self.seen c.args.gc_ref.now c.args.slot.now.offset _ _ (bytes_are g bytes) c.write_number-in_default.ensures
