use Rattle.std.proofs.Common.{◌≡◌, ◌-◌, ◌≤◌, true}
use Rattle.gc_values.specs.declared.stored.Stored.TheVariants as kept
use Rattle.gc_values.specs.HeldSlots.{storage_slot}
use Rattle.gc_values.specs.Filling.{AreElements}
use Rattle.gc_values.proofs.SameValue.{FilledTo}
use Rattle.gc_values.proofs.fill.write_numbers.Given as goal

abbrev pub invariant-loop-done : goal.invariant-loop-done
invariant-loop-done g l = record {
  idle : l.owner.seen.idle ≡ true;
  within : l.done ≤ l.count;
  filled : (e : AreElements g.H.GcHeap.KIND l.initial.owner.seen l.gc_ref (storage_slot l.first) l.count (kept.Number l.fn.number))
      → FilledTo g.H.GcHeap.KIND l.initial.owner.seen l.owner.seen l.gc_ref (storage_slot l.first) l.count (kept.Number l.fn.number) e l.done;
}

abbrev pub decreases-loop-done : goal.decreases-loop-done
decreases-loop-done g l = l.count - l.done
