-- A line that begins with `new` and a space: what its words behind that spell is the command of the line.
use Rattle.std.proofs.Common.{◌≡◌, ◌==◌, ℕ, ◌≤◌, List, ◌∷◌, ◌++◌, length, codes, Option, None, Some, refl, sym, ap, ◌∙◌}
use Rattle.std.specs.Prelude.{IfNone, IfSome}
use Rattle.std.specs.List.{slice_split}
use Rattle.std.specs.Option.{option_map}
use Rattle.std.proofs.lemmas.List.Splits.{slice_split_at}
use Rattle.gc_commands.specs.declared.command.Command.TheVariants as command
use Rattle.gc_commands.specs.declared.command.Operand.{Operand}
use Rattle.gc_commands.specs.declared.form.Form.TheVariants as form
use Rattle.gc_commands.specs.Forms.{name_of}
use Rattle.gc_commands.specs.Reading.{Reads}
use Rattle.gc_commands.specs.Spelling.{IsCommandOf, IsOfForm, max_line, operands_of}
use Rattle.gc_commands.proofs.GraphicLemmas.{word_text}
use Rattle.gc_commands.proofs.LineLemmas.{no_space}
use Rattle.gc_commands.proofs.LineReadLemmas.{line_read}

-- the line is cut behind its name
new_cut : (line rest : List ℕ) (words : List (List ℕ)) → line ≡ codes "new " ++ rest → words ≡ slice_split (λ b. b == 32) rest → slice_split (λ b. b == 32) line ≡ name_of form.New ∷ words
new_cut line rest words front cut =
    ap (slice_split (λ b. b == 32)) front ∙ slice_split_at (λ b. b == 32) (codes "new") 32 rest (no_space (codes "new") (word_text (codes "new") refl)) refl ∙ ap (λ ws. codes "new" ∷ ws) (sym cut)

module _ (line rest : List ℕ) (words : List (List ℕ)) (list : List Operand) (short : length line ≤ max_line) (front : line ≡ codes "new " ++ rest) (cut : words ≡ slice_split (λ b. b == 32) rest) where
  pub new_is : (to : Option (ℕ × ℕ)) → Reads (IsOfForm form.New) operands_of words (option_map (λ at. command.New at.0 at.1 list) to) → IfSome to (λ at. IsCommandOf line (command.New at.0 at.1 list))
  new_is None reads = tt
  new_is (Some at) reads = line_read line form.New words short (new_cut line rest words front cut) (command.New at.0 at.1 list) reads

  pub new_none : (to : Option (ℕ × ℕ)) → Reads (IsOfForm form.New) operands_of words (option_map (λ at. command.New at.0 at.1 list) to)
      → IfNone to ((d t : ℕ) (values : List Operand) → IsCommandOf line (command.New d t values) → ⊥)
  new_none None reads = λ d t values spells. line_read line form.New words short (new_cut line rest words front cut) command.Bad reads (command.New d t values) spells
  new_none (Some at) reads = tt
