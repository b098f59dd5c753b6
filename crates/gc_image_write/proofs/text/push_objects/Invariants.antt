use Rattle.std.proofs.Common.{◌≡◌, ◌++◌, string_bytes, take}
use Rattle.gc_image.specs.Text.{object_text}
use Rattle.gc_image_write.specs.Writing.{lines_of}
use Rattle.gc_image_write.proofs.text.push_objects.Given as goal

abbrev pub invariant-loop-object : goal.invariant-loop-object
invariant-loop-object l = string_bytes l.text ≡ string_bytes l.fn.text ++ lines_of object_text (take l.object-index l.objects)
