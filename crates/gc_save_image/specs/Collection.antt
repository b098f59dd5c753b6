-- What the globals of a table reach, as the lines of an image.
use Rattle.std.specs.Prelude.{◌≡◌, ◌<◌, ℕ, Bool, true, false, List, Some, length, slice_get}
use Rattle.std.specs.List.{AllByRecursion}
use Rattle.gc_model.specs.Reach.{AreAll, object_values}
use Rattle.gc_model.specs.Table.{Table}
use Rattle.gc_model.specs.Values.{Object, Value, numeric, function, continuation, reference}
use Rattle.gc_image.specs.declared.image.ImageValue.{ImageValue}
use Rattle.gc_image.specs.declared.image.ObjectLine.{ObjectLine}
use Rattle.gc_image.specs.Images.{AreGlobals, IsGlobal, placed_object}
use Rattle.gc_image.specs.Text.{FitsGlobal, FitsObject}
use Rattle.gc_image.specs.Well.{AreRising, AreWellGlobals, HasShape, as_object, line_values, number_named}
use Rattle.gc_save_image.specs.declared.collect.Collected.{Collected}

-- whether an image has a word for a value: a function and a continuation, and the values that are none, have none
abbrev pub is_plain : Value → Bool
is_plain (numeric kind n) = true
is_plain (function f) = false
is_plain (continuation c) = false
is_plain (reference class r) = true

-- it has one for each value of an object
abbrev pub HasPlainValues : {D : Type 0} → Table D → Type 0
HasPlainValues {D} t =
    (p index : ℕ) (object : Object D) (v : Value) → slice_get t.objects p ≡ Some object → slice_get (object_values object) index ≡ Some v → is_plain v ≡ true

-- The line is the object at a position, where the position of each number is known. Each number that it names is one of so many.
pub record IsLineOf (t : Table ℕ) (position : ℕ → ℕ) (count p : ℕ) (line : ObjectLine) : Type 0 where
  pub is : slice_get t.objects p ≡ Some (placed_object position (as_object line))
  pub shape : HasShape t.types line
  pub named : (index number : ℕ) (v : ImageValue) → slice_get (line_values line) index ≡ Some v → number_named v ≡ Some number → number < count
  pub fits : FitsObject line

-- The globals reach so many objects as there are lines, and each of these is that of one. The lines of globals say what they hold.
pub record IsCollection (t : Table ℕ) (collected : Collected) : Type 0 where
  -- the positions of the objects by their numbers
  pub positions : List ℕ
  pub numbered : length positions ≡ length collected.objects.items
  pub all : AreAll (IsGlobal t) positions
  pub position : ℕ → ℕ
  pub position_is : (number p : ℕ) → slice_get positions number ≡ Some p → position number ≡ p
  pub objects : (number p : ℕ) (line : ObjectLine) → slice_get positions number ≡ Some p → slice_get collected.objects.items number ≡ Some line
      → IsLineOf t position (length positions) p line
  pub globals : AreGlobals position collected.globals.items t.globals
  pub rising : AreRising collected.globals.items
  pub well : AreWellGlobals (length positions) collected.globals.items
  pub fit : AllByRecursion FitsGlobal collected.globals.items
