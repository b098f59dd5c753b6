use Rattle.std.proofs.Common.{◌∙◌, sym, ap, subst}
use Rattle.gc_drc.specs.States.{drc_seen}
use Rattle.gc_drc.proofs.BackingLemmas.{slot_after}
use Rattle.gc_drc.proofs.heap.DrcHeapGcHeap.write_gc_ref.Goals as goal
use Rattle.gc_heap.specs.Barriers.{CanUnnameSlot, emptied}

pub unname_slot-requires-clause-named : goal.unname_slot-requires-clause-named
unname_slot-requires-clause-named c =
    subst (λ h. CanUnnameSlot h c.args.destination.now) (sym c.name_slot.ensures.seen) (slot_after (drc_seen c.args.self.now) _ c.args.destination.now c.requires.destination)

pub returns-clause-seen : goal.returns-clause-seen
returns-clause-seen c = c.unname_slot.ensures.seen ∙ ap (λ h. emptied h c.args.destination.now) c.name_slot.ensures.seen
