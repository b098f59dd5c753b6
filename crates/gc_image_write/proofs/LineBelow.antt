-- The values of an object's line name objects below a number.
use Rattle.std.specs.Prelude.{ℕ}
use Rattle.gc_image.specs.declared.image.ObjectLine.{ObjectLine}
use Rattle.gc_image.specs.Well.{line_values}
use Rattle.gc_image_write.specs.Order.{AreBelow}

abbrev pub IsLineBelow : ℕ → ObjectLine → Type 0
IsLineBelow count line = AreBelow count (line_values line)
