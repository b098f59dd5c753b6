use Rattle.std.proofs.Common.{take}
use Rattle.gc_model.specs.SideValues.{same_function}
use Rattle.gc_model.proofs.Interned.{functions_exact}
use Rattle.gc_values.specs.RawValues.{raw_functions}
use Rattle.gc_values.proofs.InterningLemmas.{AreNew}
use Rattle.gc_values.proofs.interned.count_new_functions.Given as goal

abbrev pub invariant-loop-value : goal.invariant-loop-value
invariant-loop-value l = AreNew same_function functions_exact l.functions.entries l.new.entries (raw_functions (take l.value-index l.values))
