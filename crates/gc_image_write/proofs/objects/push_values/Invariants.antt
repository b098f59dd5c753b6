use Rattle.std.proofs.Common.{◌≡◌, ◌++◌, string_bytes, take}
use Rattle.gc_image.specs.Text.{value_text}
use Rattle.gc_image_write.specs.Writing.{spaced_texts}
use Rattle.gc_image_write.proofs.objects.push_values.Given as goal

abbrev pub invariant-loop-value : goal.invariant-loop-value
invariant-loop-value l = string_bytes l.text ≡ string_bytes l.fn.text ++ spaced_texts value_text (take l.value-index l.values)
