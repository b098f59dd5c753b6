use Rattle.std.proofs.Common.{◌≡◌, ◌++◌, map, string_bytes, take}
use Rattle.gc_commands.specs.Words.{field_text, spaced}
use Rattle.gc_commands.proofs.spelled.push_fields.Given as goal

abbrev pub invariant-loop-field : goal.invariant-loop-field
invariant-loop-field l = string_bytes l.text ≡ string_bytes l.fn.text ++ spaced (map field_text (take l.field-index l.fields))
