use Rattle.std.proofs.Common.{◌≡◌, true}
use Rattle.gc_values.specs.declared.stored.Stored.TheVariants as kept
use Rattle.gc_values.specs.HeldSlots.{storage_slot}
use Rattle.gc_values.specs.Filling.{AreElements}
use Rattle.gc_values.proofs.SameValue.{FilledTo}
use Rattle.gc_values.proofs.fill.write_references.Given as goal

abbrev pub invariant-loop-index : goal.invariant-loop-index
invariant-loop-index g l = record {
  idle : l.owner.seen.idle ≡ true;
  filled : (e : AreElements g.H.GcHeap.KIND l.initial.owner.seen l.gc_ref (storage_slot l.first) l.count (kept.Ref l.word))
      → FilledTo g.H.GcHeap.KIND l.initial.owner.seen l.owner.seen l.gc_ref (storage_slot l.first) l.count (kept.Ref l.word) e l.index;
}
