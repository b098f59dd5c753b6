-- A line and its words: what spells a command is cut into the command's words, and joins them again.
use Rattle.std.proofs.Common.{◌≡◌, ◌==◌, ℕ, ◌<◌, ◌≤◌, List, [], ◌∷◌, length, codes, refl, sym, ap, subst, ◌∙◌, arith, false, Some}
use Rattle.std.specs.List.{All, join_with_byte, slice_split}
use Rattle.std.proofs.lemmas.Bool.{ne_eqb}
use Rattle.std.proofs.lemmas.List.Elements.{All-nil, All-cons}
use Rattle.std.proofs.lemmas.List.Splits.{join_with_byte-slice_split, slice_split_at, slice_split_none}
use Rattle.gc_commands.specs.declared.command.Command.{Command}
use Rattle.gc_commands.specs.declared.command.Command.TheVariants as command
use Rattle.gc_commands.specs.declared.form.Form.{Form}
use Rattle.gc_commands.specs.declared.form.Form.TheVariants as form
use Rattle.gc_commands.specs.Forms.{command_form, name_of}
use Rattle.gc_commands.specs.Spelling.{FitsCommand, IsCommandOf, Spells, max_line, spelling, words_of}
use Rattle.gc_commands.proofs.FormLemmas.{has_form, words_by_form}
use Rattle.gc_commands.proofs.GraphicLemmas.{AreWords, IsWord, word_text}
use Rattle.gc_commands.proofs.ShapeLemmas.{operands_fit}

word_name : (f : Form) → IsWord (name_of f)
word_name form.Struct = word_text (codes "struct") refl
word_name f = word_text (name_of f) refl

words_fit_by : (c : Command) → FitsCommand c → (f : Form) → command_form c ≡ Some f → AreWords (words_of c)
words_fit_by c fits f e = subst AreWords (sym (words_by_form f c e)) (word_name f, operands_fit f c (fits, e))

-- the words of a command are words
words_fit : (c : Command) → FitsCommand c → AreWords (words_of c)
words_fit c fits = let of = has_form c fits in words_fit_by c fits of.0 of.1

some_words : (c : Command) → FitsCommand c → 0 < length (words_of c)
some_words c fits = let of = has_form c fits in let counted = ap length (words_by_form of.0 c of.1) in omega arith

pub no_space : (word : List ℕ) → IsWord word → All (λ b. (b == 32) ≡ false) word
no_space [] all = All-nil (λ b. (b == 32) ≡ false)
no_space (b ∷ word) all = All-cons (λ c. (c == 32) ≡ false) b word (ne_eqb b 32 (λ space. let above = all.0.0 in omega arith)) (no_space word all.1)

-- words that are joined are cut again
pub cut_joined : (words : List (List ℕ)) → AreWords words → 0 < length words → slice_split (λ b. b == 32) (join_with_byte 32 words) ≡ words
cut_joined [] all some = absurd (omega arith)
cut_joined (word ∷ []) all some = slice_split_none (λ b. b == 32) word (no_space word all.0)
cut_joined (word ∷ next ∷ words) all some =
    slice_split_at (λ b. b == 32) word 32 (join_with_byte 32 (next ∷ words)) (no_space word all.0) refl ∙ ap (λ ws. word ∷ ws) (cut_joined (next ∷ words) all.1 (omega arith))

-- the words of a command's spelling are those of the command
pub words_of_spelling : (c : Command) → FitsCommand c → slice_split (λ b. b == 32) (spelling c) ≡ words_of c
words_of_spelling c fits = cut_joined (words_of c) (words_fit c fits) (some_words c fits)

-- and its words are those of the command
pub words_of_spelled : (line : List ℕ) (c : Command) → Spells line c → slice_split (λ b. b == 32) line ≡ words_of c
words_of_spelled line c s = ap (slice_split (λ b. b == 32)) s.spelled ∙ words_of_spelling c s.fits

spells_of_words : (line : List ℕ) (c : Command) → FitsCommand c → length line ≤ max_line → slice_split (λ b. b == 32) line ≡ words_of c → Spells line c
spells_of_words line c fits short words = record { fits = fits; short = short; spelled = sym (join_with_byte-slice_split 32 line) ∙ ap (join_with_byte 32) words }

-- a line whose words are those of a command is that command
pub command_of_words : (line : List ℕ) (c : Command) → FitsCommand c → length line ≤ max_line → slice_split (λ b. b == 32) line ≡ words_of c → IsCommandOf line c
command_of_words line command.Bad fits short words = absurd fits
command_of_words line c fits short words = spells_of_words line c fits short words
