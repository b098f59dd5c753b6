-- What the report of an image that is saved says.
use Rattle.std.specs.Prelude.{◌≡◌, ℕ, List, [], ◌∷◌, ◌++◌, Option, Some, None, codes}
use Rattle.gc_model.specs.Table.{Table}
use Rattle.gc_save_image.specs.Saves.{RefusesSave, Saved}
use Rattle.gc_save_image.specs.declared.fault.SaveFault.{SaveFault}
use Rattle.gc_save_image.specs.declared.fault.SaveFault.TheVariants as fault

-- the line of a refusal; want of memory has none
abbrev pub refused_line : SaveFault → Option (List ℕ)
refused_line fault.NotPlain = Some (codes "NotPlain" ++ 10 ∷ [])
refused_line fault.RootsFull = Some (codes "RootsFull" ++ 10 ∷ [])
refused_line fault.Tangled = Some (codes "Tangled" ++ 10 ∷ [])
refused_line fault.Memory = None

-- the text is an image of the table, or says why there is none
pub data TellsSave (t : Table ℕ) (text : List ℕ) : Type 0 where
  saved : Saved t text → TellsSave t text
  refused : (why : SaveFault) → RefusesSave t why → refused_line why ≡ Some text → TellsSave t text
