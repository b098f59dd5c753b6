use Rattle.std.proofs.Common.{take}
use Rattle.gc_model.specs.SideValues.{same_cont}
use Rattle.gc_model.proofs.Interned.{conts_exact}
use Rattle.gc_values.specs.RawValues.{raw_conts}
use Rattle.gc_values.proofs.InterningLemmas.{AreNew}
use Rattle.gc_values.proofs.interned.count_new_conts.Given as goal

abbrev pub invariant-loop-value : goal.invariant-loop-value
invariant-loop-value l = AreNew same_cont conts_exact l.conts.entries l.new.entries (raw_conts (take l.value-index l.values))
