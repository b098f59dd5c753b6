use Rattle.std.proofs.Common.{◌≡◌, ◌++◌, string_bytes, take}
use Rattle.gc_image.specs.Text.{global_text}
use Rattle.gc_image_write.specs.Writing.{lines_of}
use Rattle.gc_image_write.proofs.text.push_globals.Given as goal

abbrev pub invariant-loop-global : goal.invariant-loop-global
invariant-loop-global l = string_bytes l.text ≡ string_bytes l.fn.text ++ lines_of global_text (take l.global-index l.globals)
