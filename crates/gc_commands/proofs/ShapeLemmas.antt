-- The shapes of the words behind a command's name: one text for each parts, made of words.
use Rattle.std.proofs.Common.{◌≡◌, ℕ, ◌<◌, ◌^◌, Bool, List, [], ◌∷◌, map, length, drop, get_or, Option, None, Some, IfSome, refl, sym, ap, subst, ◌∙◌, ◌⊎◌, inl, inr, arith}
use Rattle.std.specs.Fmt.{decimal}
use Rattle.std.specs.List.{AllByRecursion}
use Rattle.std.proofs.lemmas.Fmt.{decimal_injective}
use Rattle.gc_commands.specs.declared.command.Command.{Command}
use Rattle.gc_commands.specs.declared.command.Command.TheVariants as command
use Rattle.gc_commands.specs.declared.command.FieldWord.{FieldWord}
use Rattle.gc_commands.specs.declared.command.Operand.{Operand}
use Rattle.gc_commands.specs.declared.command.ValueWord.{ValueWord}
use Rattle.gc_commands.specs.declared.form.Form.{Form}
use Rattle.gc_commands.specs.declared.form.Form.TheVariants as form
use Rattle.gc_commands.specs.Parts.{FitPlace, FitRegisterAndNumber, FitRegisterAndWide, FitRegisters, FitWrite, number_words, pair_words, place_words, write_words}
use Rattle.gc_commands.specs.Spelling.{FitsField, FitsOperand, FitsValue, IsOfForm, into_words, operands_of, type_count}
use Rattle.gc_commands.specs.Words.{field_text, operand_text, value_type_text}
use Rattle.gc_commands.proofs.FormLemmas.{FitArray, FitBytes, FitNew, FitNewArr, FitNewExn, FitNothing, FitRegister, FitStruct, FitValues, FitWide, IsMade, array_words, bytes_words, make_bytes, new_arr_words, new_exn_words, new_words, no_words, struct_words, values_words}
use Rattle.gc_commands.proofs.FormLemmas.{only_struct, only_array, only_exn, only_new, only_new_exn, only_new_arr, only_fixed, only_bytes, only_host, only_i31, only_field, only_elem, only_len, only_host_number, only_set_field, only_set_elem, only_eq, only_enter, only_leave, only_push, only_pop, only_store, only_load, only_set_global, only_get_global, only_own, only_root, only_unroot, only_throw, only_take, only_gc, only_gc_drop, only_gc_inc, only_grow, only_cap}
use Rattle.gc_commands.proofs.FrontLemmas.{field_behind, fields_behind, one_front}
use Rattle.gc_commands.proofs.GraphicLemmas.{AreWords, IsWord, word_bytes, word_decimal, word_field, word_into, word_operand, word_value, words_declared, words_map}
use Rattle.gc_commands.proofs.HexReadLemmas.{one_bytes}
use Rattle.gc_commands.proofs.OperandLemmas.{one_operand}
use Rattle.gc_commands.proofs.TypeLemmas.{one_field, one_value}

one_list : {A : Type 0} (Fits : A → Type 0) (text : A → List ℕ) → ((x y : A) → Fits x → Fits y → text x ≡ text y → x ≡ y)
    → (xs ys : List A) → AllByRecursion Fits xs → AllByRecursion Fits ys → map text xs ≡ map text ys → xs ≡ ys
one_list Fits text one [] [] xs_fit ys_fit e = refl
one_list Fits text one [] (y ∷ ys) xs_fit ys_fit e = cc
one_list Fits text one (x ∷ xs) [] xs_fit ys_fit e = cc
one_list Fits text one (x ∷ xs) (y ∷ ys) xs_fit ys_fit e =
    let head = one x y xs_fit.0 ys_fit.0 cc in
    let tail = one_list Fits text one xs ys xs_fit.1 ys_fit.1 cc in
    cc

one_into : (a b : Option ℕ) → IfSome a (λ d. d < 2 ^ 16) → IfSome b (λ d. d < 2 ^ 16) → into_words a ≡ into_words b → a ≡ b
one_into None None a_small b_small e = refl
one_into (Some d) (Some f) d_small f_small e =
    let same : decimal d ≡ decimal f = cc in
    ap Some (decimal_injective d f (omega arith) (omega arith) same)
one_into None (Some f) a_small b_small e = cc
one_into (Some d) None a_small b_small e = cc

-- the word at a place of equal words
at : (i : ℕ) (words others : List (List ℕ)) → words ≡ others → get_or words i [] ≡ get_or others i []
at i words others e = ap (λ (ws : List (List ℕ)). get_or ws i []) e

register : (r s : ℕ) → r < 2 ^ 16 → s < 2 ^ 16 → decimal r ≡ decimal s → r ≡ s
register r s r_small s_small e = decimal_injective r s (omega arith) (omega arith) e

small : (m n : ℕ) → m < 2 ^ 32 → n < 2 ^ 32 → decimal m ≡ decimal n → m ≡ n
small m n m_small n_small e = decimal_injective m n (omega arith) (omega arith) e

type_index : (m n : ℕ) → m < type_count → n < type_count → decimal m ≡ decimal n → m ≡ n
type_index m n m_small n_small e = decimal_injective m n (omega arith) (omega arith) e

two : {A B : Type 0} (p q : A × B) → p.0 ≡ q.0 → p.1 ≡ q.1 → p ≡ q
two p q first second = λ i. (first i, second i)

three : {A B C : Type 0} (p q : A × B × C) → p.0 ≡ q.0 → p.1 ≡ q.1 → p.2 ≡ q.2 → p ≡ q
three p q first second third = λ i. (first i, second i, third i)

four : {A B C D : Type 0} (p q : A × B × C × D) → p.0 ≡ q.0 → p.1 ≡ q.1 → p.2 ≡ q.2 → p.3 ≡ q.3 → p ≡ q
four p q first second third fourth = λ i. (first i, second i, third i, fourth i)

word_16 : (r : ℕ) → r < 2 ^ 16 → IsWord (decimal r)
word_16 r fits = word_decimal r (omega arith)

word_32 : (n : ℕ) → n < 2 ^ 32 → IsWord (decimal n)
word_32 n fits = word_decimal n (omega arith)

word_type : (t : ℕ) → t < type_count → IsWord (decimal t)
word_type t fits = word_decimal t (omega arith)

one_register : (p q : ℕ) → FitRegister p → FitRegister q → number_words p ≡ number_words q → p ≡ q
one_register p q p_fits q_fits e = register p q p_fits q_fits (at 0 (number_words p) (number_words q) e)

words_register : (p : ℕ) → FitRegister p → AreWords (number_words p)
words_register p fits = (word_16 p fits, tt)

one_wide_number : (p q : ℕ) → FitWide p → FitWide q → number_words p ≡ number_words q → p ≡ q
one_wide_number p q p_fits q_fits e = decimal_injective p q p_fits q_fits (at 0 (number_words p) (number_words q) e)

words_wide_number : (p : ℕ) → FitWide p → AreWords (number_words p)
words_wide_number p fits = (word_decimal p fits, tt)

one_nothing : (p q : Unit {0}) → FitNothing p → FitNothing q → no_words p ≡ no_words q → p ≡ q
one_nothing p q p_fits q_fits e = refl

words_nothing : (p : Unit {0}) → FitNothing p → AreWords (no_words p)
words_nothing p fits = tt

one_registers : (p q : ℕ × ℕ) → FitRegisters p → FitRegisters q → pair_words p ≡ pair_words q → p ≡ q
one_registers p q p_fits q_fits e = two p q (register p.0 q.0 p_fits.0 q_fits.0 (at 0 (pair_words p) (pair_words q) e)) (register p.1 q.1 p_fits.1 q_fits.1 (at 1 (pair_words p) (pair_words q) e))

words_registers : (p : ℕ × ℕ) → FitRegisters p → AreWords (pair_words p)
words_registers p fits = (word_16 p.0 fits.0, (word_16 p.1 fits.1, tt))

one_register_and_number : (p q : ℕ × ℕ) → FitRegisterAndNumber p → FitRegisterAndNumber q → pair_words p ≡ pair_words q → p ≡ q
one_register_and_number p q p_fits q_fits e = two p q (register p.0 q.0 p_fits.0 q_fits.0 (at 0 (pair_words p) (pair_words q) e)) (small p.1 q.1 p_fits.1 q_fits.1 (at 1 (pair_words p) (pair_words q) e))

words_register_and_number : (p : ℕ × ℕ) → FitRegisterAndNumber p → AreWords (pair_words p)
words_register_and_number p fits = (word_16 p.0 fits.0, (word_32 p.1 fits.1, tt))

one_register_and_wide : (p q : ℕ × ℕ) → FitRegisterAndWide p → FitRegisterAndWide q → pair_words p ≡ pair_words q → p ≡ q
one_register_and_wide p q p_fits q_fits e = two p q (register p.0 q.0 p_fits.0 q_fits.0 (at 0 (pair_words p) (pair_words q) e)) (decimal_injective p.1 q.1 p_fits.1 q_fits.1 (at 1 (pair_words p) (pair_words q) e))

words_register_and_wide : (p : ℕ × ℕ) → FitRegisterAndWide p → AreWords (pair_words p)
words_register_and_wide p fits = (word_16 p.0 fits.0, (word_decimal p.1 fits.1, tt))

one_place : (p q : ℕ × ℕ × Option ℕ) → FitPlace p → FitPlace q → place_words p ≡ place_words q → p ≡ q
one_place p q p_fits q_fits e = three p q (register p.0 q.0 p_fits.0 q_fits.0 (at 0 (place_words p) (place_words q) e)) (small p.1 q.1 p_fits.1 q_fits.1 (at 1 (place_words p) (place_words q) e)) (one_into p.2 q.2 p_fits.2 q_fits.2 (ap (drop 2) e))

words_place : (p : ℕ × ℕ × Option ℕ) → FitPlace p → AreWords (place_words p)
words_place p fits = (word_16 p.0 fits.0, (word_32 p.1 fits.1, word_into p.2 fits.2))

one_write : (p q : ℕ × ℕ × Operand) → FitWrite p → FitWrite q → write_words p ≡ write_words q → p ≡ q
one_write p q p_fits q_fits e = three p q (register p.0 q.0 p_fits.0 q_fits.0 (at 0 (write_words p) (write_words q) e)) (small p.1 q.1 p_fits.1 q_fits.1 (at 1 (write_words p) (write_words q) e)) (one_operand p.2 q.2 p_fits.2 q_fits.2 (at 2 (write_words p) (write_words q) e))

words_write : (p : ℕ × ℕ × Operand) → FitWrite p → AreWords (write_words p)
words_write p fits = (word_16 p.0 fits.0, (word_32 p.1 fits.1, (word_operand p.2 fits.2, tt)))

one_values : (p q : List ValueWord) → FitValues p → FitValues q → values_words p ≡ values_words q → p ≡ q
one_values p q p_fits q_fits e = one_list FitsValue value_type_text one_value p q p_fits q_fits e

words_values : (p : List ValueWord) → FitValues p → AreWords (values_words p)
words_values p fits = words_map FitsValue value_type_text word_value p fits

one_new : (p q : ℕ × ℕ × List Operand) → FitNew p → FitNew q → new_words p ≡ new_words q → p ≡ q
one_new p q p_fits q_fits e = three p q (register p.0 q.0 p_fits.0 q_fits.0 (at 0 (new_words p) (new_words q) e)) (type_index p.1 q.1 p_fits.1 q_fits.1 (at 1 (new_words p) (new_words q) e)) (one_list FitsOperand operand_text one_operand p.2 q.2 p_fits.2 q_fits.2 (ap (drop 2) e))

words_new : (p : ℕ × ℕ × List Operand) → FitNew p → AreWords (new_words p)
words_new p fits = (word_16 p.0 fits.0, (word_type p.1 fits.1, words_map FitsOperand operand_text word_operand p.2 fits.2))

one_new_exn : (p q : ℕ × ℕ × ℕ × List Operand) → FitNewExn p → FitNewExn q → new_exn_words p ≡ new_exn_words q → p ≡ q
one_new_exn p q p_fits q_fits e = four p q (register p.0 q.0 p_fits.0 q_fits.0 (at 0 (new_exn_words p) (new_exn_words q) e)) (type_index p.1 q.1 p_fits.1 q_fits.1 (at 1 (new_exn_words p) (new_exn_words q) e)) (small p.2 q.2 p_fits.2 q_fits.2 (at 2 (new_exn_words p) (new_exn_words q) e)) (one_list FitsOperand operand_text one_operand p.3 q.3 p_fits.3 q_fits.3 (ap (drop 3) e))

words_new_exn : (p : ℕ × ℕ × ℕ × List Operand) → FitNewExn p → AreWords (new_exn_words p)
words_new_exn p fits = (word_16 p.0 fits.0, (word_type p.1 fits.1, (word_32 p.2 fits.2, words_map FitsOperand operand_text word_operand p.3 fits.3)))

one_new_arr : (p q : ℕ × ℕ × ℕ × Operand) → FitNewArr p → FitNewArr q → new_arr_words p ≡ new_arr_words q → p ≡ q
one_new_arr p q p_fits q_fits e = four p q (register p.0 q.0 p_fits.0 q_fits.0 (at 0 (new_arr_words p) (new_arr_words q) e)) (type_index p.1 q.1 p_fits.1 q_fits.1 (at 1 (new_arr_words p) (new_arr_words q) e)) (small p.2 q.2 p_fits.2 q_fits.2 (at 2 (new_arr_words p) (new_arr_words q) e)) (one_operand p.3 q.3 p_fits.3 q_fits.3 (at 3 (new_arr_words p) (new_arr_words q) e))

words_new_arr : (p : ℕ × ℕ × ℕ × Operand) → FitNewArr p → AreWords (new_arr_words p)
words_new_arr p fits = (word_16 p.0 fits.0, (word_type p.1 fits.1, (word_32 p.2 fits.2, (word_operand p.3 fits.3, tt))))

one_struct : (p q : Bool × Option ℕ × List FieldWord) → FitStruct p → FitStruct q → struct_words p ≡ struct_words q → p ≡ q
one_struct p q p_fits q_fits e =
    let same = one_front p.0 q.0 p.1 q.1 (map field_text p.2) (map field_text q.2) p_fits.0 q_fits.0 (fields_behind p.2) (fields_behind q.2) e in
    three p q same.0 same.1 (one_list FitsField field_text one_field p.2 q.2 p_fits.1 q_fits.1 same.2)

words_struct : (p : Bool × Option ℕ × List FieldWord) → FitStruct p → AreWords (struct_words p)
words_struct p fits = words_declared p.0 p.1 (map field_text p.2) fits.0 (words_map FitsField field_text word_field p.2 fits.1)

one_array : (p q : Bool × Option ℕ × FieldWord) → FitArray p → FitArray q → array_words p ≡ array_words q → p ≡ q
one_array p q p_fits q_fits e =
    let same = one_front p.0 q.0 p.1 q.1 (field_text p.2 ∷ []) (field_text q.2 ∷ []) p_fits.0 q_fits.0 (field_behind p.2 []) (field_behind q.2 []) e in
    three p q same.0 same.1 (one_field p.2 q.2 p_fits.1 q_fits.1 (at 0 (field_text p.2 ∷ []) (field_text q.2 ∷ []) same.2))

words_array : (p : Bool × Option ℕ × FieldWord) → FitArray p → AreWords (array_words p)
words_array p fits = words_declared p.0 p.1 (field_text p.2 ∷ []) fits.0 (word_field p.2 fits.1, tt)

one_bytes_parts : (p q : (ℕ × ℕ × List ℕ) ⊎ (ℕ × ℕ)) → FitBytes p → FitBytes q → bytes_words p ≡ bytes_words q → p ≡ q
one_bytes_parts (inl p) (inl q) p_fits q_fits e =
    ap inl (three p q (register p.0 q.0 p_fits.0 q_fits.0 (at 0 (bytes_words (inl p)) (bytes_words (inl q)) e)) (type_index p.1 q.1 p_fits.1 q_fits.1 (at 1 (bytes_words (inl p)) (bytes_words (inl q)) e))
    (one_bytes p.2 q.2 p_fits.2 q_fits.2 (at 2 (bytes_words (inl p)) (bytes_words (inl q)) e)))
one_bytes_parts (inr p) (inr q) p_fits q_fits e = ap inr (one_register_and_number p q p_fits q_fits e)
one_bytes_parts (inl p) (inr q) p_fits q_fits e = absurd (let l = ap length e in omega arith)
one_bytes_parts (inr p) (inl q) p_fits q_fits e = absurd (let l = ap length e in omega arith)

words_bytes_parts : (p : (ℕ × ℕ × List ℕ) ⊎ (ℕ × ℕ)) → FitBytes p → AreWords (bytes_words p)
words_bytes_parts (inl p) fits = (word_16 p.0 fits.0, (word_type p.1 fits.1, (word_bytes p.2 fits.2, tt)))
words_bytes_parts (inr p) fits = words_register_and_number p fits

-- the parts of a form's commands
record Shape (f : Form) : Type 1 where
  Parts : Type 0
  Fits : Parts → Type 0
  text : Parts → List (List ℕ)
  make : Parts → Command
  only : (c : Command) → IsOfForm f c → IsMade Fits text make c
  one : (p q : Parts) → Fits p → Fits q → text p ≡ text q → p ≡ q
  words : (p : Parts) → Fits p → AreWords (text p)

shape : (f : Form) → Shape f
shape form.Struct = record { Parts = Bool × Option ℕ × List FieldWord; Fits = FitStruct; text = struct_words; make = λ p. command.Struct p.0 p.1 p.2; only = only_struct; one = one_struct; words = words_struct }
shape form.Array = record { Parts = Bool × Option ℕ × FieldWord; Fits = FitArray; text = array_words; make = λ p. command.Array p.0 p.1 p.2; only = only_array; one = one_array; words = words_array }
shape form.Exn = record { Parts = List ValueWord; Fits = FitValues; text = values_words; make = command.Exn; only = only_exn; one = one_values; words = words_values }
shape form.New = record { Parts = ℕ × ℕ × List Operand; Fits = FitNew; text = new_words; make = λ p. command.New p.0 p.1 p.2; only = only_new; one = one_new; words = words_new }
shape form.NewExn = record { Parts = ℕ × ℕ × ℕ × List Operand; Fits = FitNewExn; text = new_exn_words; make = λ p. command.NewExn p.0 p.1 p.2 p.3; only = only_new_exn; one = one_new_exn; words = words_new_exn }
shape form.NewArr = record { Parts = ℕ × ℕ × ℕ × Operand; Fits = FitNewArr; text = new_arr_words; make = λ p. command.NewArr p.0 p.1 p.2 p.3; only = only_new_arr; one = one_new_arr; words = words_new_arr }
shape form.Fixed = record { Parts = ℕ × ℕ × List Operand; Fits = FitNew; text = new_words; make = λ p. command.Fixed p.0 p.1 p.2; only = only_fixed; one = one_new; words = words_new }
shape form.Bytes = record { Parts = (ℕ × ℕ × List ℕ) ⊎ (ℕ × ℕ); Fits = FitBytes; text = bytes_words; make = make_bytes; only = only_bytes; one = one_bytes_parts; words = words_bytes_parts }
shape form.Host = record { Parts = ℕ × ℕ; Fits = FitRegisterAndWide; text = pair_words; make = λ p. command.Host p.0 p.1; only = only_host; one = one_register_and_wide; words = words_register_and_wide }
shape form.I31 = record { Parts = ℕ × ℕ; Fits = FitRegisterAndNumber; text = pair_words; make = λ p. command.I31 p.0 p.1; only = only_i31; one = one_register_and_number; words = words_register_and_number }
shape form.Field = record { Parts = ℕ × ℕ × Option ℕ; Fits = FitPlace; text = place_words; make = λ p. command.Field p.0 p.1 p.2; only = only_field; one = one_place; words = words_place }
shape form.Elem = record { Parts = ℕ × ℕ × Option ℕ; Fits = FitPlace; text = place_words; make = λ p. command.Elem p.0 p.1 p.2; only = only_elem; one = one_place; words = words_place }
shape form.Len = record { Parts = ℕ; Fits = FitRegister; text = number_words; make = command.Len; only = only_len; one = one_register; words = words_register }
shape form.HostNumber = record { Parts = ℕ; Fits = FitRegister; text = number_words; make = command.HostNumber; only = only_host_number; one = one_register; words = words_register }
shape form.SetField = record { Parts = ℕ × ℕ × Operand; Fits = FitWrite; text = write_words; make = λ p. command.SetField p.0 p.1 p.2; only = only_set_field; one = one_write; words = words_write }
shape form.SetElem = record { Parts = ℕ × ℕ × Operand; Fits = FitWrite; text = write_words; make = λ p. command.SetElem p.0 p.1 p.2; only = only_set_elem; one = one_write; words = words_write }
shape form.Eq = record { Parts = ℕ × ℕ; Fits = FitRegisters; text = pair_words; make = λ p. command.Eq p.0 p.1; only = only_eq; one = one_registers; words = words_registers }
shape form.Enter = record { Parts = Unit {0}; Fits = FitNothing; text = no_words; make = λ u. command.Enter; only = only_enter; one = one_nothing; words = words_nothing }
shape form.Leave = record { Parts = Unit {0}; Fits = FitNothing; text = no_words; make = λ u. command.Leave; only = only_leave; one = one_nothing; words = words_nothing }
shape form.Push = record { Parts = ℕ; Fits = FitRegister; text = number_words; make = command.Push; only = only_push; one = one_register; words = words_register }
shape form.Pop = record { Parts = Unit {0}; Fits = FitNothing; text = no_words; make = λ u. command.Pop; only = only_pop; one = one_nothing; words = words_nothing }
shape form.Store = record { Parts = ℕ × ℕ; Fits = FitRegisters; text = pair_words; make = λ p. command.Store p.0 p.1; only = only_store; one = one_registers; words = words_registers }
shape form.Load = record { Parts = ℕ × ℕ; Fits = FitRegisters; text = pair_words; make = λ p. command.Load p.0 p.1; only = only_load; one = one_registers; words = words_registers }
shape form.SetGlobal = record { Parts = ℕ × ℕ; Fits = FitRegisters; text = pair_words; make = λ p. command.SetGlobal p.0 p.1; only = only_set_global; one = one_registers; words = words_registers }
shape form.GetGlobal = record { Parts = ℕ × ℕ; Fits = FitRegisters; text = pair_words; make = λ p. command.GetGlobal p.0 p.1; only = only_get_global; one = one_registers; words = words_registers }
shape form.Own = record { Parts = ℕ × ℕ; Fits = FitRegisters; text = pair_words; make = λ p. command.Own p.0 p.1; only = only_own; one = one_registers; words = words_registers }
shape form.Root = record { Parts = ℕ × ℕ; Fits = FitRegisters; text = pair_words; make = λ p. command.Root p.0 p.1; only = only_root; one = one_registers; words = words_registers }
shape form.Unroot = record { Parts = ℕ; Fits = FitRegister; text = number_words; make = command.Unroot; only = only_unroot; one = one_register; words = words_register }
shape form.Throw = record { Parts = ℕ; Fits = FitRegister; text = number_words; make = command.Throw; only = only_throw; one = one_register; words = words_register }
shape form.Take = record { Parts = ℕ; Fits = FitRegister; text = number_words; make = command.Take; only = only_take; one = one_register; words = words_register }
shape form.Gc = record { Parts = Unit {0}; Fits = FitNothing; text = no_words; make = λ u. command.Gc; only = only_gc; one = one_nothing; words = words_nothing }
shape form.GcDrop = record { Parts = Unit {0}; Fits = FitNothing; text = no_words; make = λ u. command.GcDrop; only = only_gc_drop; one = one_nothing; words = words_nothing }
shape form.GcInc = record { Parts = Unit {0}; Fits = FitNothing; text = no_words; make = λ u. command.GcInc; only = only_gc_inc; one = one_nothing; words = words_nothing }
shape form.Grow = record { Parts = ℕ; Fits = FitWide; text = number_words; make = command.Grow; only = only_grow; one = one_wide_number; words = words_wide_number }
shape form.Cap = record { Parts = Unit {0}; Fits = FitNothing; text = no_words; make = λ u. command.Cap; only = only_cap; one = one_nothing; words = words_nothing }

-- the words behind the name of a command are words
pub operands_fit : (f : Form) (c : Command) → IsOfForm f c → AreWords (operands_of c)
operands_fit f c of =
    let s = shape f in
    let m = s.only c of in
    subst AreWords (sym m.spelled) (s.words m.parts m.fits)

-- no two commands of a form have the same words
pub one_of_form : (f : Form) (c d : Command) → IsOfForm f c → IsOfForm f d → operands_of c ≡ operands_of d → c ≡ d
one_of_form f c d c_of d_of e =
    let s = shape f in
    let m = s.only c c_of in
    let n = s.only d d_of in
    let same = s.one m.parts n.parts m.fits n.fits (sym m.spelled ∙ e ∙ n.spelled) in
    m.made ∙ ap s.make same ∙ sym n.made
