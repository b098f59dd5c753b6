-- When an image is one of a table: of its types, its globals, and the objects that these reach.
use Rattle.std.specs.Prelude.{◌≡◌, ℕ, List, Some, length, map, slice_get}
use Rattle.gc_model.specs.Reach.{Reached, AreAll, slot_references}
use Rattle.gc_model.specs.Table.{Table, Slot, null_slot}
use Rattle.gc_model.specs.Values.{Reference, null, small, at, Value, numeric, function, continuation, reference, Object, struct, array, host, exception}
use Rattle.gc_image.specs.declared.image.GlobalLine.{GlobalLine}
use Rattle.gc_image.specs.declared.image.ImageValue.{ImageValue}
use Rattle.gc_image.specs.declared.image.ImageValue.TheVariants as value
use Rattle.gc_image.specs.declared.image.ObjectLine.{ObjectLine}
use Rattle.gc_image.specs.Parts.{ImageParts}
use Rattle.gc_image.specs.Text.{FitsImage, image_text}
use Rattle.gc_image.specs.Well.{IsWellImage, as_object, as_reference}

-- a reference, a value and an object where the position of each number is known
abbrev pub placed_reference : (ℕ → ℕ) → Reference → Reference
placed_reference position null = null
placed_reference position (small n) = small n
placed_reference position (at number) = at (position number)

abbrev pub placed_value : (ℕ → ℕ) → Value → Value
placed_value position (numeric kind n) = numeric kind n
placed_value position (function f) = function f
placed_value position (continuation c) = continuation c
placed_value position (reference class r) = reference class (placed_reference position r)

abbrev pub placed_object : {D : Type 0} → (ℕ → ℕ) → Object D → Object D
placed_object position (struct ty values) = struct ty (map (placed_value position) values)
placed_object position (array ty values) = array ty (map (placed_value position) values)
placed_object position (host value) = host value
placed_object position (exception ty tag values) = exception ty tag (map (placed_value position) values)

-- what a line says that a global holds
abbrev pub SaysSlot : (ℕ → ℕ) → ImageValue → Slot → Type 0
SaysSlot position (value.Ref class r) slot = slot ≡ record { class = class; reference = placed_reference position (as_reference r) }
SaysSlot position v slot = ⊥

-- Globals are those of the lines: each line says what its global holds, and a global of which none speaks is null of class Any.
pub record AreGlobals (position : ℕ → ℕ) (lines : List GlobalLine) (globals : List Slot) : Type 0 where
  pub said : (i : ℕ) (line : GlobalLine) → slice_get lines i ≡ Some line
      → (slot : Slot) × ((slice_get globals line.index ≡ Some slot) × SaysSlot position line.value slot)
  pub unsaid : (k : ℕ) (slot : Slot) → slice_get globals k ≡ Some slot
      → ((i : ℕ) (line : GlobalLine) → slice_get lines i ≡ Some line → ¬ (line.index ≡ k)) → slot ≡ null_slot

-- the globals of a table reach a position
abbrev pub IsGlobal : {D : Type 0} → Table D → ℕ → Type 0
IsGlobal t p = Reached t.objects (slot_references t.globals) p

-- An image is one of a table: it is well, its types are the table's, and its numbers stand for the positions that the globals
-- reach, each for one. Under that numbering its objects and its globals are the table's.
pub record Images (t : Table ℕ) (image : ImageParts) : Type 0 where
  pub well : IsWellImage image
  pub types : t.types ≡ well.types
  -- the positions by their numbers
  pub positions : List ℕ
  pub numbered : length positions ≡ length image.objects
  pub all : AreAll (IsGlobal t) positions
  pub position : ℕ → ℕ
  pub position_is : (number p : ℕ) → slice_get positions number ≡ Some p → position number ≡ p
  pub objects : (number p : ℕ) (line : ObjectLine) → slice_get positions number ≡ Some p → slice_get image.objects number ≡ Some line
      → slice_get t.objects p ≡ Some (placed_object position (as_object line))
  pub globals : AreGlobals position image.globals t.globals

-- bytes are the text of an image of a table
pub record ImagesText (t : Table ℕ) (bytes : List ℕ) : Type 0 where
  pub image : ImageParts
  pub fits : FitsImage image
  pub spelled : bytes ≡ image_text image
  pub images : Images t image
