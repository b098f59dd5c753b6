use Rattle.std.proofs.Common.{◌≡◌, ◌++◌, string_bytes, take}
use Rattle.gc_commands.specs.Spelling.{spelling}
use Rattle.gc_image_write.specs.Writing.{lines_of}
use Rattle.gc_image_write.proofs.text.push_types.Given as goal

abbrev pub invariant-loop-declared : goal.invariant-loop-declared
invariant-loop-declared l = string_bytes l.text ≡ string_bytes l.fn.text ++ lines_of spelling (take l.declared-index l.types)
