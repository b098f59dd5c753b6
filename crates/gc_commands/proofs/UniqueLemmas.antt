-- No two commands have one spelling.
use Rattle.std.proofs.Common.{◌≡◌, ◌==◌, ℕ, List, [], ◌∷◌, drop, get_or, Some, sym, ap, ◌∙◌}
use Rattle.std.specs.List.{slice_split}
use Rattle.gc_commands.specs.declared.command.Command.{Command}
use Rattle.gc_commands.specs.declared.form.Form.{Form}
use Rattle.gc_commands.specs.Forms.{command_form, name_of}
use Rattle.gc_commands.specs.Spelling.{FitsCommand, Spells, operands_of, words_of, spelling}
use Rattle.gc_commands.proofs.FormLemmas.{has_form, one_name, words_by_form}
use Rattle.gc_commands.proofs.LineLemmas.{words_of_spelling}
use Rattle.gc_commands.proofs.ShapeLemmas.{one_of_form}

one_by_form : (f g : Form) (c d : Command) → FitsCommand c → FitsCommand d → command_form c ≡ Some f → command_form d ≡ Some g → words_of c ≡ words_of d → c ≡ d
one_by_form f g c d c_fits d_fits c_form d_form e =
    let words : name_of f ∷ operands_of c ≡ name_of g ∷ operands_of d = sym (words_by_form f c c_form) ∙ e ∙ words_by_form g d d_form in
    let names = one_name f g (ap (λ (ws : List (List ℕ)). get_or ws 0 []) words) in
    one_of_form f c d (c_fits, c_form) (d_fits, d_form ∙ sym names) (ap (drop 1) words)

one_command : (c d : Command) → FitsCommand c → FitsCommand d → words_of c ≡ words_of d → c ≡ d
one_command c d c_fits d_fits e =
    let f = has_form c c_fits in
    let g = has_form d d_fits in
    one_by_form f.0 g.0 c d c_fits d_fits f.1 g.1 e

pub one_spelling_of_one : (one other : Command) → FitsCommand one → FitsCommand other → spelling one ≡ spelling other → one ≡ other
one_spelling_of_one one other one_fits other_fits e =
    one_command one other one_fits other_fits (sym (words_of_spelling one one_fits) ∙ ap (slice_split (λ b. b == 32)) e ∙ words_of_spelling other other_fits)

pub one_spelling : (line : List ℕ) (one other : Command) → Spells line one → Spells line other → one ≡ other
one_spelling line one other this that = one_spelling_of_one one other this.fits that.fits (sym this.spelled ∙ that.spelled)
