use Rattle.gc_script.proofs.SlotLemmas.{ExtendedTo}
use Rattle.gc_script.proofs.registers.extend_to.Given as goal

abbrev pub invariant-loop-count : goal.invariant-loop-count
invariant-loop-count l = ExtendedTo l.fn.slots.items l.slots.items l.present l._count
