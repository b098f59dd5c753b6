use Rattle.std.proofs.Common.{◌<◌, sym, ◌∙◌, subst}
use Rattle.std.specs.Option.{SomeIff}
use Rattle.gc_heap.specs.Barriers.{CanNameSlot}
use Rattle.gc_owner.proofs.WordBarriers.{slot_copied, slot_dropped, slots_overwritten}
use Rattle.gc_owner.proofs.barriers.overwrite_word.Goals as goal

pub write_gc_ref-requires-clause-source : goal.write_gc_ref-requires-clause-source
write_gc_ref-requires-clause-source g c =
    subst (CanNameSlot (g.H.GcHeap.seen c.args.heap.now)) (sym c.as_ref.ensures.value) (slot_copied (g.H.GcHeap.seen c.args.heap.now) c.from_raw_u32-source.result c.args.new_word c.from_raw_u32-source.ensures c.requires.copies)

pub write_gc_ref-requires-clause-destination : goal.write_gc_ref-requires-clause-destination
write_gc_ref-requires-clause-destination g c = slot_dropped (g.H.GcHeap.seen c.args.heap.now) c.from_raw_u32-slot.result c.args.old_word c.from_raw_u32-slot.ensures c.requires.drops

pub returns-clause-seen : goal.returns-clause-seen
returns-clause-seen g c =
    c.write_gc_ref.ensures.seen
    ∙ slots_overwritten (g.H.GcHeap.seen c.args.heap.now) c.from_raw_u32-slot.result _ c.args.old_word c.args.new_word c.from_raw_u32-slot.ensures
    (subst (λ slot. SomeIff slot (0 < c.args.new_word) c.args.new_word) (sym c.as_ref.ensures.value) c.from_raw_u32-source.ensures)
