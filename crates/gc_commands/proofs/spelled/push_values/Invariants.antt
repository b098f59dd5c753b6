use Rattle.std.proofs.Common.{◌≡◌, ◌++◌, map, string_bytes, take}
use Rattle.gc_commands.specs.Words.{value_type_text, spaced}
use Rattle.gc_commands.proofs.spelled.push_values.Given as goal

abbrev pub invariant-loop-value : goal.invariant-loop-value
invariant-loop-value l = string_bytes l.text ≡ string_bytes l.fn.text ++ spaced (map value_type_text (take l.value-index l.values))
