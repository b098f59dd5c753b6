-- What the readers of the commands with several parts need: where a part is none, the command is none.
use Rattle.std.proofs.Common.{◌≡◌, ℕ, ◌<◌, ◌^◌, Bool, List, [], ◌∷◌, map, length, drop, get_or, Option, None, Some, refl, sym, ap, subst, ◌∙◌, ◌⊎◌, inl, inr, arith}
use Rattle.std.specs.Fmt.{decimal}
use Rattle.std.specs.List.{AllByRecursion}
use Rattle.gc_commands.specs.declared.command.Command.{Command}
use Rattle.gc_commands.specs.declared.command.Command.TheVariants as command
use Rattle.gc_commands.specs.declared.command.FieldWord.{FieldWord}
use Rattle.gc_commands.specs.declared.form.Form.{Form}
use Rattle.gc_commands.specs.declared.form.Form.TheVariants as form
use Rattle.gc_commands.specs.Forms.{command_form, name_of}
use Rattle.gc_commands.specs.Parts.{FitRegisterAndNumber, FitTarget, HasFront, ReadsFront, pair_words}
use Rattle.gc_commands.specs.Reading.{Reads}
use Rattle.gc_commands.specs.Spelling.{FitsCommand, FitsField, IsOfForm, operands_of, words_of}
use Rattle.gc_commands.specs.Words.{bytes_text, field_text, operand_text}
use Rattle.gc_commands.proofs.FormLemmas.{FitArray, FitBytes, FitNew, FitNewArr, FitNewExn, FitStruct, array_words, bytes_words, has_form, make_bytes, new_arr_words, new_exn_words, new_words, none_of, one_name, only_array, only_bytes, only_fixed, only_new, only_new_arr, only_new_exn, only_struct, struct_words, words_by_form}
use Rattle.gc_commands.proofs.FrontLemmas.{field_behind, fields_behind}

-- no words begin with a register and a type
abbrev NoTarget : List (List ℕ) → Type 0
NoTarget words = (p : ℕ × ℕ) (others : List (List ℕ)) → FitTarget p → words ≡ decimal p.0 ∷ decimal p.1 ∷ others → ⊥

abbrev NoneOf : Form → List (List ℕ) → Type 0
NoneOf f words = (c : Command) → IsOfForm f c → words ≡ operands_of c → ⊥

pub no_new : (words : List (List ℕ)) → NoTarget words → NoneOf form.New words
no_new words none = none_of form.New FitNew new_words (λ p. command.New p.0 p.1 p.2) only_new words (λ x fits e. none (x.0, x.1) (map operand_text x.2) (fits.0, fits.1) e)

pub no_fixed : (words : List (List ℕ)) → NoTarget words → NoneOf form.Fixed words
no_fixed words none = none_of form.Fixed FitNew new_words (λ p. command.Fixed p.0 p.1 p.2) only_fixed words (λ x fits e. none (x.0, x.1) (map operand_text x.2) (fits.0, fits.1) e)

pub no_new_exn : (words : List (List ℕ)) → NoTarget words → NoneOf form.NewExn words
no_new_exn words none =
    none_of form.NewExn FitNewExn new_exn_words (λ p. command.NewExn p.0 p.1 p.2 p.3) only_new_exn words (λ x fits e. none (x.0, x.1) (decimal x.2 ∷ map operand_text x.3) (fits.0, fits.1) e)

pub no_new_arr : (words : List (List ℕ)) → NoTarget words → NoneOf form.NewArr words
no_new_arr words none =
    none_of form.NewArr FitNewArr new_arr_words (λ p. command.NewArr p.0 p.1 p.2 p.3) only_new_arr words (λ x fits e. none (x.0, x.1) (decimal x.2 ∷ operand_text x.3 ∷ []) (fits.0, fits.1) e)

-- an array whose length is none
pub no_length : (words : List (List ℕ)) (a b : List ℕ) (rest : List (List ℕ)) → words ≡ a ∷ b ∷ rest → ((n : ℕ) (others : List (List ℕ)) → n < 2 ^ 32 → rest ≡ decimal n ∷ others → ⊥) → NoneOf form.NewArr words
no_length words a b rest at none =
    none_of form.NewArr FitNewArr new_arr_words (λ p. command.NewArr p.0 p.1 p.2 p.3) only_new_arr words (λ x fits e. none x.2 (operand_text x.3 ∷ []) fits.2 (ap (drop 2) (sym at ∙ e)))

-- neither of the commands under the name `bytes`
bytes_none : (words : List (List ℕ)) → ((p : ℕ × ℕ) → FitRegisterAndNumber p → words ≡ pair_words p → ⊥)
    → ((p : ℕ × ℕ × List ℕ) → FitBytes (inl p) → words ≡ bytes_words (inl p) → ⊥) → (x : (ℕ × ℕ × List ℕ) ⊎ (ℕ × ℕ)) → FitBytes x → words ≡ bytes_words x → ⊥
bytes_none words read make (inl p) fits e = make p fits e
bytes_none words read make (inr p) fits e = read p fits e

pub no_bytes_target : (words seen : List (List ℕ)) → seen ≡ words → ((p : ℕ × ℕ) → FitRegisterAndNumber p → seen ≡ pair_words p → ⊥) → NoTarget words → NoneOf form.Bytes words
no_bytes_target words seen same read none =
    none_of form.Bytes FitBytes bytes_words make_bytes only_bytes words (bytes_none words (λ p fits e. read p fits (same ∙ e)) (λ p fits e. none (p.0, p.1) (bytes_text p.2 ∷ []) (fits.0, fits.1) e))

pub no_bytes_word : (words seen : List (List ℕ)) (a b : List ℕ) (rest : List (List ℕ)) → seen ≡ words → ((p : ℕ × ℕ) → FitRegisterAndNumber p → seen ≡ pair_words p → ⊥) → words ≡ a ∷ b ∷ rest → rest ≡ []
    → NoneOf form.Bytes words
no_bytes_word words seen a b rest same read at none =
    none_of form.Bytes FitBytes bytes_words make_bytes only_bytes words
    (bytes_none words (λ p fits e. read p fits (same ∙ e)) (λ p fits e. let l = ap length (sym none ∙ ap (drop 2) (sym at ∙ e)) in omega arith))

-- a declaration without a front
pub no_struct : (words : List (List ℕ)) (rest : List (List ℕ)) → ReadsFront words None rest → NoneOf form.Struct words
no_struct words rest none =
    none_of form.Struct FitStruct struct_words (λ p. command.Struct p.0 p.1 p.2) only_struct words (λ x fits e. none x.0 x.1 (map field_text x.2) fits.0 (fields_behind x.2) e)

pub no_array : (words : List (List ℕ)) (rest : List (List ℕ)) → ReadsFront words None rest → NoneOf form.Array words
no_array words rest none =
    none_of form.Array FitArray array_words (λ p. command.Array p.0 p.1 p.2) only_array words (λ x fits e. none x.0 x.1 (field_text x.2 ∷ []) fits.0 (field_behind x.2 []) e)

-- or without what is declared behind it
pub no_fields : (words rest : List (List ℕ)) (front : Bool × Option ℕ) → HasFront words front rest → ((fs : List FieldWord) → AllByRecursion FitsField fs → rest ≡ map field_text fs → ⊥) → NoneOf form.Struct words
no_fields words rest front is none =
    none_of form.Struct FitStruct struct_words (λ p. command.Struct p.0 p.1 p.2) only_struct words
    (λ x fits e. none x.2 fits.1 (is.only x.0 x.1 (map field_text x.2) fits.0 (fields_behind x.2) e).2)

pub no_elem : (words rest : List (List ℕ)) (front : Bool × Option ℕ) → HasFront words front rest → ((f : FieldWord) → FitsField f → rest ≡ field_text f ∷ [] → ⊥) → NoneOf form.Array words
no_elem words rest front is none =
    none_of form.Array FitArray array_words (λ p. command.Array p.0 p.1 p.2) only_array words
    (λ x fits e. none x.2 fits.1 (is.only x.0 x.1 (field_text x.2 ∷ []) fits.0 (field_behind x.2 []) e).2)

-- a first word that is no name
pub no_name : (words : List (List ℕ)) → ((f : Form) (rest : List (List ℕ)) → words ≡ name_of f ∷ rest → ⊥) → (c : Command) → FitsCommand c → words ≡ words_of c → ⊥
no_name words none c fits e = let of = has_form c fits in none of.0 _ (e ∙ words_by_form of.0 c of.1)

none_named : (f g : Form) (words rest : List (List ℕ)) → words ≡ name_of f ∷ rest → ((c : Command) → IsOfForm f c → rest ≡ operands_of c → ⊥) → (c : Command) → FitsCommand c → command_form c ≡ Some g → words ≡ words_of c → ⊥
none_named f g words rest at none c fits form e =
    let same : name_of f ∷ rest ≡ name_of g ∷ operands_of c = sym at ∙ e ∙ words_by_form g c form in
    let names = one_name f g (ap (λ (ws : List (List ℕ)). get_or ws 0 []) same) in
    none c (fits, form ∙ sym names) (ap (drop 1) same)

none_by_name : (f : Form) (words rest : List (List ℕ)) → words ≡ name_of f ∷ rest → ((c : Command) → IsOfForm f c → rest ≡ operands_of c → ⊥) → (c : Command) → FitsCommand c → words ≡ words_of c → ⊥
none_by_name f words rest at none c fits e = let of = has_form c fits in none_named f of.0 words rest at none c fits of.1 e

-- the command of a form is that of the words
pub command_read : (f : Form) (words rest : List (List ℕ)) (r : Option Command) → words ≡ name_of f ∷ rest → Reads (IsOfForm f) operands_of rest r → Reads FitsCommand words_of words r
command_read f words rest None at none = none_by_name f words rest at none
command_read f words rest (Some c) at read = (read.0.0, at ∙ ap (λ ws. name_of f ∷ ws) read.1 ∙ sym (words_by_form f c read.0.1))

-- a command without words behind its name
pub alone_read : (f : Form) (known : Command) (words : List (List ℕ)) (r : Option Command) → IsOfForm f known → operands_of known ≡ [] → ((c : Command) → IsOfForm f c → c ≡ known)
    → Reads (λ c. c ≡ known) (λ c. []) words r → Reads (IsOfForm f) operands_of words r
alone_read f known words None of empty only none = λ c c_of e. none known refl (e ∙ ap operands_of (only c c_of) ∙ empty)
alone_read f known words (Some c) of empty only read = (subst (IsOfForm f) (sym read.0) of, read.1 ∙ sym empty ∙ ap operands_of (sym read.0))
