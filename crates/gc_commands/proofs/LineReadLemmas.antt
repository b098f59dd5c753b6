-- What a reader answers, as the command that the line is.
use Rattle.std.proofs.Common.{◌≡◌, ◌==◌, ℕ, ◌≤◌, List, ◌∷◌, length}
use Rattle.std.specs.Prelude.{Result, Ok, Err, IfOk}
use Rattle.std.specs.List.{slice_split}
use Rattle.gc_commands.specs.declared.command.Command.{Command}
use Rattle.gc_commands.specs.declared.command.Command.TheVariants as command
use Rattle.gc_commands.specs.declared.form.Form.{Form}
use Rattle.gc_commands.specs.Forms.{name_of, unless_bad}
use Rattle.gc_commands.specs.Reading.{Reads}
use Rattle.gc_commands.specs.Spelling.{IsCommandOf, IsOfForm, max_line, operands_of}
use Rattle.gc_commands.proofs.LineLemmas.{command_of_words, words_of_spelled}
use Rattle.gc_commands.proofs.ObjectLemmas.{command_read}

-- what follows from an answer
pub if_ok : {A E : Type 0} {P Q : A → Type 0} (r : Result A E) → ((x : A) → P x → Q x) → IfOk r P → IfOk r Q
if_ok (Ok x) f p = f x p
if_ok (Err e) f p = tt

module _ (line : List ℕ) (form : Form) (words : List (List ℕ)) (short : length line ≤ max_line) (cut : slice_split (λ b. b == 32) line ≡ name_of form ∷ words) where
  -- a reader of the form behind its name tells the command of the whole line
  pub line_read : (c : Command) → Reads (IsOfForm form) operands_of words (unless_bad c) → IsCommandOf line c
  line_read command.Bad reads = λ c spells. command_read form (slice_split (λ b. b == 32) line) words (unless_bad command.Bad) cut reads c spells.fits (words_of_spelled line c spells)
  line_read c reads = let read = command_read form (slice_split (λ b. b == 32) line) words (unless_bad c) cut reads in command_of_words line c read.0 short read.1
