-- The text of a report: a line an object.
use Rattle.std.specs.Prelude.{ℕ, ◌+◌, List, [], ◌∷◌, ◌++◌, codes, slice_get}
use Rattle.std.specs.Fmt.{decimal}
use Rattle.gc_commands.specs.declared.reply.ReplyValue.{ReplyValue}
use Rattle.gc_commands.specs.Text.{reply_value_text}
use Rattle.gc_model.specs.Values.{Object}
use Rattle.gc_script.specs.Shapes.{shown_object}
use Rattle.gc_store.specs.declared.root_words.RootName.{RootName}
use Rattle.gc_store.specs.declared.root_words.RootName.TheVariants as name
use Rattle.gc_paths.specs.declared.entry.PathParent.{PathParent}
use Rattle.gc_paths.specs.declared.entry.PathParent.TheVariants as parent
use Rattle.gc_paths.specs.Reports.{Told}

abbrev pub root_text : RootName → List ℕ
root_text (name.Global index) = codes "global " ++ decimal index
root_text name.Pending = codes "pending"
root_text (name.Slot frame slot) = codes "slot " ++ (decimal frame ++ 32 ∷ decimal slot)
root_text (name.Owned id) = codes "owned " ++ decimal id
root_text (name.Scoped index) = codes "scoped " ++ decimal index

-- a root, or the number of an earlier line and the index of a value
abbrev pub parent_text : PathParent → List ℕ
parent_text (parent.FromRoot root) = root_text root
parent_text (parent.FromEntry number index) = decimal number ++ (codes " ." ++ decimal index)

-- the line of an object: its number, where its path comes from, and what it is
abbrev pub line_text : ℕ → PathParent → ReplyValue → List ℕ
line_text number from value = decimal number ++ 32 ∷ (parent_text from ++ (codes " = " ++ (reply_value_text value ++ 10 ∷ [])))

-- the lines of what is told, of which the first has that number
abbrev pub lines_from : List (Object ℕ) → ℕ → List Told → List ℕ
lines_from objects number [] = []
lines_from objects number (x ∷ told) = line_text number x.entry.parent (shown_object (slice_get objects x.position)) ++ lines_from objects (number + 1) told
