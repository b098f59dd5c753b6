-- Forms: which commands have them, and that their names tell them apart.
use Rattle.std.proofs.Common.{◌≡◌, ◌==◌, ℕ, ◌+◌, ◌*◌, ◌<◌, ◌^◌, Bool, false, if◌then◌else◌, List, [], ◌∷◌, map, Option, None, Some, is_none, IfSome, refl, sym, ap, ◌∙◌, ◌⊎◌, inl, inr}
use Rattle.std.specs.Fmt.{decimal}
use Rattle.std.specs.List.{AllByRecursion}
use Rattle.std.proofs.lemmas.Bool.{false≢true}
use Rattle.gc_commands.specs.declared.command.Command.{Command}
use Rattle.gc_commands.specs.declared.command.Command.TheVariants as command
use Rattle.gc_commands.specs.declared.command.FieldWord.{FieldWord}
use Rattle.gc_commands.specs.declared.command.Operand.{Operand}
use Rattle.gc_commands.specs.declared.command.ValueWord.{ValueWord}
use Rattle.gc_commands.specs.declared.form.Form.{Form}
use Rattle.gc_commands.specs.declared.form.Form.TheVariants as form
use Rattle.gc_commands.specs.Forms.{command_form, name_of}
use Rattle.gc_commands.specs.Parts.{FitPlace, FitRegisterAndNumber, FitRegisterAndWide, FitRegisters, FitWrite, number_words, pair_words, place_words, write_words}
use Rattle.gc_commands.specs.Spelling.{FitsCommand, FitsField, FitsOperand, FitsValue, IsOfForm, declared_words, operands_of, type_count, words_of, words_with}
use Rattle.gc_commands.specs.Words.{bytes_text, field_text, operand_text, value_type_text}

-- a number of each word
abbrev word_number : List ℕ → ℕ
word_number [] = 0
word_number (b ∷ word) = b + 256 * word_number word

abbrev pub all_forms : List Form
all_forms =
    form.Struct ∷ form.Array ∷ form.Exn ∷ form.New ∷ form.NewExn ∷ form.NewArr ∷ form.Fixed ∷ form.Bytes ∷ form.Host ∷ form.I31 ∷ form.Field ∷ form.Elem ∷ form.Len ∷ form.HostNumber ∷ form.SetField ∷ form.SetElem ∷ form.Eq ∷ form.Enter ∷ form.Leave ∷ form.Push ∷ form.Pop ∷ form.Store ∷ form.Load ∷ form.SetGlobal ∷ form.GetGlobal ∷ form.Own ∷ form.Root ∷ form.Unroot ∷ form.Throw ∷ form.Take ∷ form.Gc ∷ form.GcDrop ∷ form.GcInc ∷ form.Grow ∷ form.Cap ∷ []

abbrev found_in : ℕ → List Form → Option Form
found_in n [] = None
found_in n (f ∷ forms) = if word_number (name_of f) == n then Some f else found_in n forms

found : (f : Form) → found_in (word_number (name_of f)) all_forms ≡ Some f
found form.Struct = refl
found f = refl

-- no two forms have one name
pub one_name : (f g : Form) → name_of f ≡ name_of g → Some f ≡ Some g
one_name f g e = sym (found f) ∙ ap (λ word. found_in (word_number word) all_forms) e ∙ found g

-- whether the form is this one
abbrev pub is : Form → Option Form → Bool
is f None = false
is f (Some g) = word_number (name_of g) == word_number (name_of f)

no_form : (c : Command) → FitsCommand c → command_form c ≡ None → ⊥
no_form command.Bad fits e = fits
no_form c fits e = false≢true (ap is_none e)

has_form_by : (o : Option Form) → (o ≡ None → ⊥) → (f : Form) × (o ≡ Some f)
has_form_by None never = absurd (never refl)
has_form_by (Some f) never = (f, refl)

-- each command that has a spelling has a form
pub has_form : (c : Command) → FitsCommand c → (f : Form) × (command_form c ≡ Some f)
has_form c fits = has_form_by (command_form c) (no_form c fits)

-- the words of a command of a form
pub words_by_form : (f : Form) (c : Command) → command_form c ≡ Some f → words_of c ≡ name_of f ∷ operands_of c
words_by_form f c e = ap (λ o. words_with o (operands_of c)) e

-- the command is made of parts, which its words spell
pub record IsMade {X : Type 0} (Fits : X → Type 0) (text : X → List (List ℕ)) (make : X → Command) (c : Command) : Type 0 where
  pub parts : X
  pub fits : Fits parts
  pub spelled : operands_of c ≡ text parts
  pub made : c ≡ make parts

-- where no parts are spelled, no command of the form is
pub none_of : {X : Type 0} (f : Form) (Fits : X → Type 0) (text : X → List (List ℕ)) (make : X → Command) → ((c : Command) → IsOfForm f c → IsMade Fits text make c)
    → (words : List (List ℕ)) → ((x : X) → Fits x → words ≡ text x → ⊥) → (c : Command) → IsOfForm f c → words ≡ operands_of c → ⊥
none_of f Fits text make only words none c of e = let m = only c of in none m.parts m.fits (e ∙ m.spelled)

-- the declaration of a struct, an array
abbrev pub FitStruct : Bool × Option ℕ × List FieldWord → Type 0
FitStruct p = IfSome p.1 (λ t. t < type_count) × AllByRecursion FitsField p.2

abbrev pub struct_words : Bool × Option ℕ × List FieldWord → List (List ℕ)
struct_words p = declared_words p.0 p.1 (map field_text p.2)

abbrev pub FitArray : Bool × Option ℕ × FieldWord → Type 0
FitArray p = IfSome p.1 (λ t. t < type_count) × FitsField p.2

abbrev pub array_words : Bool × Option ℕ × FieldWord → List (List ℕ)
array_words p = declared_words p.0 p.1 (field_text p.2 ∷ [])

abbrev pub FitValues : List ValueWord → Type 0
FitValues params = AllByRecursion FitsValue params

abbrev pub values_words : List ValueWord → List (List ℕ)
values_words params = map value_type_text params

-- a register, a type and operands
abbrev pub FitNew : ℕ × ℕ × List Operand → Type 0
FitNew p = (p.0 < 2 ^ 16) × (p.1 < type_count) × AllByRecursion FitsOperand p.2

abbrev pub new_words : ℕ × ℕ × List Operand → List (List ℕ)
new_words p = decimal p.0 ∷ decimal p.1 ∷ map operand_text p.2

abbrev pub FitNewExn : ℕ × ℕ × ℕ × List Operand → Type 0
FitNewExn p = (p.0 < 2 ^ 16) × (p.1 < type_count) × (p.2 < 2 ^ 32) × AllByRecursion FitsOperand p.3

abbrev pub new_exn_words : ℕ × ℕ × ℕ × List Operand → List (List ℕ)
new_exn_words p = decimal p.0 ∷ decimal p.1 ∷ decimal p.2 ∷ map operand_text p.3

abbrev pub FitNewArr : ℕ × ℕ × ℕ × Operand → Type 0
FitNewArr p = (p.0 < 2 ^ 16) × (p.1 < type_count) × (p.2 < 2 ^ 32) × FitsOperand p.3

abbrev pub new_arr_words : ℕ × ℕ × ℕ × Operand → List (List ℕ)
new_arr_words p = decimal p.0 ∷ decimal p.1 ∷ decimal p.2 ∷ operand_text p.3 ∷ []

-- the two commands under the name `bytes`
abbrev pub FitBytes : (ℕ × ℕ × List ℕ) ⊎ (ℕ × ℕ) → Type 0
FitBytes (inl p) = (p.0 < 2 ^ 16) × (p.1 < type_count) × AllByRecursion (λ b. b < 2 ^ 8) p.2
FitBytes (inr p) = FitRegisterAndNumber p

abbrev pub bytes_words : (ℕ × ℕ × List ℕ) ⊎ (ℕ × ℕ) → List (List ℕ)
bytes_words (inl p) = decimal p.0 ∷ decimal p.1 ∷ bytes_text p.2 ∷ []
bytes_words (inr p) = pair_words p

abbrev pub make_bytes : (ℕ × ℕ × List ℕ) ⊎ (ℕ × ℕ) → Command
make_bytes (inl p) = command.NewBytes p.0 p.1 p.2
make_bytes (inr p) = command.ReadBytes p.0 p.1

abbrev pub FitWide : ℕ → Type 0
FitWide n = n < 2 ^ 64

abbrev pub FitRegister : ℕ → Type 0
FitRegister r = r < 2 ^ 16

-- no words behind the name
abbrev pub FitNothing : Unit {0} → Type 0
FitNothing u = Unit {0}

abbrev pub no_words : Unit {0} → List (List ℕ)
no_words u = []

-- the commands of each form

pub only_struct : (c : Command) → IsOfForm form.Struct c → IsMade FitStruct struct_words (λ p. command.Struct p.0 p.1 p.2) c
only_struct (command.Struct is_final supertype fields) of = record { parts = (is_final, supertype, fields); fits = of.0; spelled = refl; made = refl }
only_struct c of = absurd (false≢true (ap (is form.Struct) of.1))

pub only_array : (c : Command) → IsOfForm form.Array c → IsMade FitArray array_words (λ p. command.Array p.0 p.1 p.2) c
only_array (command.Array is_final supertype elem) of = record { parts = (is_final, supertype, elem); fits = of.0; spelled = refl; made = refl }
only_array c of = absurd (false≢true (ap (is form.Array) of.1))

pub only_exn : (c : Command) → IsOfForm form.Exn c → IsMade FitValues values_words command.Exn c
only_exn (command.Exn params) of = record { parts = params; fits = of.0; spelled = refl; made = refl }
only_exn c of = absurd (false≢true (ap (is form.Exn) of.1))

pub only_new : (c : Command) → IsOfForm form.New c → IsMade FitNew new_words (λ p. command.New p.0 p.1 p.2) c
only_new (command.New d t vs) of = record { parts = (d, t, vs); fits = of.0; spelled = refl; made = refl }
only_new c of = absurd (false≢true (ap (is form.New) of.1))

pub only_new_exn : (c : Command) → IsOfForm form.NewExn c → IsMade FitNewExn new_exn_words (λ p. command.NewExn p.0 p.1 p.2 p.3) c
only_new_exn (command.NewExn d t tag vs) of = record { parts = (d, t, tag, vs); fits = of.0; spelled = refl; made = refl }
only_new_exn c of = absurd (false≢true (ap (is form.NewExn) of.1))

pub only_new_arr : (c : Command) → IsOfForm form.NewArr c → IsMade FitNewArr new_arr_words (λ p. command.NewArr p.0 p.1 p.2 p.3) c
only_new_arr (command.NewArr d t len v) of = record { parts = (d, t, len, v); fits = of.0; spelled = refl; made = refl }
only_new_arr c of = absurd (false≢true (ap (is form.NewArr) of.1))

pub only_fixed : (c : Command) → IsOfForm form.Fixed c → IsMade FitNew new_words (λ p. command.Fixed p.0 p.1 p.2) c
only_fixed (command.Fixed d t vs) of = record { parts = (d, t, vs); fits = of.0; spelled = refl; made = refl }
only_fixed c of = absurd (false≢true (ap (is form.Fixed) of.1))

pub only_bytes : (c : Command) → IsOfForm form.Bytes c → IsMade FitBytes bytes_words make_bytes c
only_bytes (command.NewBytes d t bytes) of = record { parts = inl (d, t, bytes); fits = of.0; spelled = refl; made = refl }
only_bytes (command.ReadBytes r len) of = record { parts = inr (r, len); fits = of.0; spelled = refl; made = refl }
only_bytes c of = absurd (false≢true (ap (is form.Bytes) of.1))

pub only_host : (c : Command) → IsOfForm form.Host c → IsMade FitRegisterAndWide pair_words (λ p. command.Host p.0 p.1) c
only_host (command.Host d n) of = record { parts = (d, n); fits = of.0; spelled = refl; made = refl }
only_host c of = absurd (false≢true (ap (is form.Host) of.1))

pub only_i31 : (c : Command) → IsOfForm form.I31 c → IsMade FitRegisterAndNumber pair_words (λ p. command.I31 p.0 p.1) c
only_i31 (command.I31 d n) of = record { parts = (d, n); fits = of.0; spelled = refl; made = refl }
only_i31 c of = absurd (false≢true (ap (is form.I31) of.1))

pub only_field : (c : Command) → IsOfForm form.Field c → IsMade FitPlace place_words (λ p. command.Field p.0 p.1 p.2) c
only_field (command.Field r i into) of = record { parts = (r, i, into); fits = of.0; spelled = refl; made = refl }
only_field c of = absurd (false≢true (ap (is form.Field) of.1))

pub only_elem : (c : Command) → IsOfForm form.Elem c → IsMade FitPlace place_words (λ p. command.Elem p.0 p.1 p.2) c
only_elem (command.Elem r i into) of = record { parts = (r, i, into); fits = of.0; spelled = refl; made = refl }
only_elem c of = absurd (false≢true (ap (is form.Elem) of.1))

pub only_len : (c : Command) → IsOfForm form.Len c → IsMade FitRegister number_words command.Len c
only_len (command.Len r) of = record { parts = r; fits = of.0; spelled = refl; made = refl }
only_len c of = absurd (false≢true (ap (is form.Len) of.1))

pub only_host_number : (c : Command) → IsOfForm form.HostNumber c → IsMade FitRegister number_words command.HostNumber c
only_host_number (command.HostNumber r) of = record { parts = r; fits = of.0; spelled = refl; made = refl }
only_host_number c of = absurd (false≢true (ap (is form.HostNumber) of.1))

pub only_set_field : (c : Command) → IsOfForm form.SetField c → IsMade FitWrite write_words (λ p. command.SetField p.0 p.1 p.2) c
only_set_field (command.SetField r i v) of = record { parts = (r, i, v); fits = of.0; spelled = refl; made = refl }
only_set_field c of = absurd (false≢true (ap (is form.SetField) of.1))

pub only_set_elem : (c : Command) → IsOfForm form.SetElem c → IsMade FitWrite write_words (λ p. command.SetElem p.0 p.1 p.2) c
only_set_elem (command.SetElem r i v) of = record { parts = (r, i, v); fits = of.0; spelled = refl; made = refl }
only_set_elem c of = absurd (false≢true (ap (is form.SetElem) of.1))

pub only_eq : (c : Command) → IsOfForm form.Eq c → IsMade FitRegisters pair_words (λ p. command.Eq p.0 p.1) c
only_eq (command.Eq a b) of = record { parts = (a, b); fits = of.0; spelled = refl; made = refl }
only_eq c of = absurd (false≢true (ap (is form.Eq) of.1))

pub only_enter : (c : Command) → IsOfForm form.Enter c → IsMade FitNothing no_words (λ u. command.Enter) c
only_enter command.Enter of = record { parts = tt; fits = of.0; spelled = refl; made = refl }
only_enter c of = absurd (false≢true (ap (is form.Enter) of.1))

pub only_leave : (c : Command) → IsOfForm form.Leave c → IsMade FitNothing no_words (λ u. command.Leave) c
only_leave command.Leave of = record { parts = tt; fits = of.0; spelled = refl; made = refl }
only_leave c of = absurd (false≢true (ap (is form.Leave) of.1))

pub only_push : (c : Command) → IsOfForm form.Push c → IsMade FitRegister number_words command.Push c
only_push (command.Push r) of = record { parts = r; fits = of.0; spelled = refl; made = refl }
only_push c of = absurd (false≢true (ap (is form.Push) of.1))

pub only_pop : (c : Command) → IsOfForm form.Pop c → IsMade FitNothing no_words (λ u. command.Pop) c
only_pop command.Pop of = record { parts = tt; fits = of.0; spelled = refl; made = refl }
only_pop c of = absurd (false≢true (ap (is form.Pop) of.1))

pub only_store : (c : Command) → IsOfForm form.Store c → IsMade FitRegisters pair_words (λ p. command.Store p.0 p.1) c
only_store (command.Store a b) of = record { parts = (a, b); fits = of.0; spelled = refl; made = refl }
only_store c of = absurd (false≢true (ap (is form.Store) of.1))

pub only_load : (c : Command) → IsOfForm form.Load c → IsMade FitRegisters pair_words (λ p. command.Load p.0 p.1) c
only_load (command.Load a b) of = record { parts = (a, b); fits = of.0; spelled = refl; made = refl }
only_load c of = absurd (false≢true (ap (is form.Load) of.1))

pub only_set_global : (c : Command) → IsOfForm form.SetGlobal c → IsMade FitRegisters pair_words (λ p. command.SetGlobal p.0 p.1) c
only_set_global (command.SetGlobal a b) of = record { parts = (a, b); fits = of.0; spelled = refl; made = refl }
only_set_global c of = absurd (false≢true (ap (is form.SetGlobal) of.1))

pub only_get_global : (c : Command) → IsOfForm form.GetGlobal c → IsMade FitRegisters pair_words (λ p. command.GetGlobal p.0 p.1) c
only_get_global (command.GetGlobal a b) of = record { parts = (a, b); fits = of.0; spelled = refl; made = refl }
only_get_global c of = absurd (false≢true (ap (is form.GetGlobal) of.1))

pub only_own : (c : Command) → IsOfForm form.Own c → IsMade FitRegisters pair_words (λ p. command.Own p.0 p.1) c
only_own (command.Own a b) of = record { parts = (a, b); fits = of.0; spelled = refl; made = refl }
only_own c of = absurd (false≢true (ap (is form.Own) of.1))

pub only_root : (c : Command) → IsOfForm form.Root c → IsMade FitRegisters pair_words (λ p. command.Root p.0 p.1) c
only_root (command.Root a b) of = record { parts = (a, b); fits = of.0; spelled = refl; made = refl }
only_root c of = absurd (false≢true (ap (is form.Root) of.1))

pub only_unroot : (c : Command) → IsOfForm form.Unroot c → IsMade FitRegister number_words command.Unroot c
only_unroot (command.Unroot r) of = record { parts = r; fits = of.0; spelled = refl; made = refl }
only_unroot c of = absurd (false≢true (ap (is form.Unroot) of.1))

pub only_throw : (c : Command) → IsOfForm form.Throw c → IsMade FitRegister number_words command.Throw c
only_throw (command.Throw r) of = record { parts = r; fits = of.0; spelled = refl; made = refl }
only_throw c of = absurd (false≢true (ap (is form.Throw) of.1))

pub only_take : (c : Command) → IsOfForm form.Take c → IsMade FitRegister number_words command.Take c
only_take (command.Take r) of = record { parts = r; fits = of.0; spelled = refl; made = refl }
only_take c of = absurd (false≢true (ap (is form.Take) of.1))

pub only_gc : (c : Command) → IsOfForm form.Gc c → IsMade FitNothing no_words (λ u. command.Gc) c
only_gc command.Gc of = record { parts = tt; fits = of.0; spelled = refl; made = refl }
only_gc c of = absurd (false≢true (ap (is form.Gc) of.1))

pub only_gc_drop : (c : Command) → IsOfForm form.GcDrop c → IsMade FitNothing no_words (λ u. command.GcDrop) c
only_gc_drop command.GcDrop of = record { parts = tt; fits = of.0; spelled = refl; made = refl }
only_gc_drop c of = absurd (false≢true (ap (is form.GcDrop) of.1))

pub only_gc_inc : (c : Command) → IsOfForm form.GcInc c → IsMade FitNothing no_words (λ u. command.GcInc) c
only_gc_inc command.GcInc of = record { parts = tt; fits = of.0; spelled = refl; made = refl }
only_gc_inc c of = absurd (false≢true (ap (is form.GcInc) of.1))

pub only_grow : (c : Command) → IsOfForm form.Grow c → IsMade FitWide number_words command.Grow c
only_grow (command.Grow n) of = record { parts = n; fits = of.0; spelled = refl; made = refl }
only_grow c of = absurd (false≢true (ap (is form.Grow) of.1))

pub only_cap : (c : Command) → IsOfForm form.Cap c → IsMade FitNothing no_words (λ u. command.Cap) c
only_cap command.Cap of = record { parts = tt; fits = of.0; spelled = refl; made = refl }
only_cap c of = absurd (false≢true (ap (is form.Cap) of.1))
