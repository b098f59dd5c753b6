-- Objects and globals under new numbers.
use Rattle.std.specs.Prelude.{◌≡◌, ◌<◌, ◌^◌, ℕ, List, Some, map, length, slice_get, unwrap_or}
use Rattle.gc_types.specs.Declarations.{Declaration}
use Rattle.gc_commands.specs.declared.command.Command.{Command}
use Rattle.gc_image.specs.declared.image.GlobalLine.{GlobalLine}
use Rattle.gc_image.specs.declared.image.ImageReference.{ImageReference}
use Rattle.gc_image.specs.declared.image.ImageReference.TheVariants as reference
use Rattle.gc_image.specs.declared.image.ImageValue.{ImageValue}
use Rattle.gc_image.specs.declared.image.ImageValue.TheVariants as value
use Rattle.gc_image.specs.declared.image.ObjectLine.{ObjectLine}
use Rattle.gc_image.specs.declared.image.ObjectLine.TheVariants as object
use Rattle.gc_image.specs.Parts.{ImageParts}
use Rattle.gc_image.specs.Text.{image_text}
use Rattle.gc_image_write.specs.Graphs.{graph_of}
use Rattle.gc_image_write.specs.Order.{IsOrder, early_named}
use Rattle.gc_image_write.specs.Visiting.{IsNumbering}
use Rattle.gc_save_image.specs.Keeping.{AreKept}

-- what lines say where each number is another
abbrev pub renumbered_reference : (ℕ → ℕ) → ImageReference → ImageReference
renumbered_reference number reference.Null = reference.Null
renumbered_reference number (reference.Small n) = reference.Small n
renumbered_reference number (reference.Object old) = reference.Object (number old)

abbrev pub renumbered_value : (ℕ → ℕ) → ImageValue → ImageValue
renumbered_value number (value.I32 n) = value.I32 n
renumbered_value number (value.I64 n) = value.I64 n
renumbered_value number (value.F32 n) = value.F32 n
renumbered_value number (value.F64 n) = value.F64 n
renumbered_value number (value.V128 n) = value.V128 n
renumbered_value number (value.Ref class r) = value.Ref class (renumbered_reference number r)

abbrev pub renumbered_line : (ℕ → ℕ) → ObjectLine → ObjectLine
renumbered_line number (object.Struct ty values) = object.Struct ty (map (renumbered_value number) values)
renumbered_line number (object.Array ty values) = object.Array ty (map (renumbered_value number) values)
renumbered_line number (object.Bytes ty bytes) = object.Bytes ty bytes
renumbered_line number (object.Host n) = object.Host n
renumbered_line number (object.Exn ty tag values) = object.Exn ty tag (map (renumbered_value number) values)

abbrev pub renumbered_global : (ℕ → ℕ) → GlobalLine → GlobalLine
renumbered_global number global = record { index = global.index; value = renumbered_value number global.value }

-- the new number of an old one by a list of them; 0 where it has none
abbrev pub new_number_in : List ℕ → ℕ → ℕ
new_number_in numbers old = unwrap_or (slice_get numbers old) 0

-- the line of an old number; that of a host object where there is none
abbrev pub line_at : List ObjectLine → ℕ → ObjectLine
line_at objects old = unwrap_or (slice_get objects old) (object.Host 0)

-- the old number that stands at a place of an order has that place as its new number
abbrev pub AreNumbersOf : List ℕ → List ℕ → Type 0
AreNumbersOf order numbers = (n old : ℕ) → slice_get order n ≡ Some old → slice_get numbers old ≡ Some n

-- the objects in an order, under other numbers
abbrev pub reordered : (ℕ → ℕ) → List ObjectLine → List ℕ → List ObjectLine
reordered number objects order = map (λ old. renumbered_line number (line_at objects old)) order

-- the image of these types, objects and globals, where objects are in an order
abbrev pub image_by : List Command → List ObjectLine → List GlobalLine → List ℕ → List ℕ → ImageParts
image_by commands objects globals order numbers = record {
  types = commands;
  objects = reordered (new_number_in numbers) objects order;
  globals = map (renumbered_global (new_number_in numbers)) globals;
}

-- The text was written of the objects in the order that the rule gives, in which they can be made, each number being the place in it.
pub record IsWritten (types : List Declaration) (commands : List Command) (objects : List ObjectLine) (globals : List GlobalLine) (bytes : List ℕ) : Type 0 where
  pub order : List ℕ
  pub numbers : List ℕ
  pub ordered : IsOrder (early_named types objects) (length objects) order
  pub numbering : IsNumbering (graph_of types objects globals) (length objects) order
  pub are : AreNumbersOf order numbers
  pub few : length order < 2 ^ 64
  pub spelled : bytes ≡ image_text (image_by commands objects globals order numbers)
  pub kept : AreKept types objects
