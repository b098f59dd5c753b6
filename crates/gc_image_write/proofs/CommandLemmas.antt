-- Commands that declare types.
use Rattle.std.proofs.Common.{◌≡◌, ℕ, ◌<◌, ◌≤◌, Bool, false, List, [], ◌∷◌, ◌++◌, length, take, Option, None, Some, IfSome, refl, sym, ap, subst, ◌∙◌, arith, unwrap_or, length-append}
use Rattle.std.specs.List.{slice_get}
use Rattle.std.specs.Option.{option_map, option_and_then}
use Rattle.std.proofs.lemmas.Option.{slice_get_within}
use Rattle.std.proofs.lemmas.Slice.Zip.{AllZip-long}
use Rattle.gc_types.specs.declared.kind.TypeKind.TheVariants as kinds
use Rattle.gc_types.specs.declared.value.FieldType.{FieldType}
use Rattle.gc_types.specs.declared.value.ValType.{ValType}
use Rattle.gc_types.specs.Declarable.{AreDeclared, Declarable, ExtendsOf, IsKnownField, IsKnownVal}
use Rattle.gc_types.specs.Declarations.{Declaration, array_of, array_type, exn_of, exn_type, is_final_at, max_types, struct_of, struct_type, supertype_at}
use Rattle.gc_commands.specs.declared.command.Command.TheVariants as command
use Rattle.gc_commands.specs.declared.command.FieldWord.{FieldWord}
use Rattle.gc_commands.specs.declared.command.ValueWord.{ValueWord}
use Rattle.gc_commands.specs.Spelling.{FitsField, FitsValue, type_count}
use Rattle.gc_commands.specs.TypeWords.{field_of, fields_of, kinds_with, value_type_of, values_of}
use Rattle.gc_image_write.specs.Plain.{IsPlainField, IsPlainVal}
use Rattle.gc_image_write.specs.TypeWords.{AreWordsOf, Commanded, WordsField, WordsValue}
use Rattle.gc_image_write.proofs.KindLemmas.{grown_kinds, words_fit, words_plain, words_spell}
use Rattle.gc_image_write.proofs.ShortLemmas.{array_short, exn_short, struct_short}

few_types : (types : List Declaration) (d : Declaration) → Declarable types d → length (types ++ d ∷ []) ≤ max_types
few_types types d declarable = omega (arith, length-append types (d ∷ []), declarable.few_types)

super_low : (types : List Declaration) (d : Declaration) (supertype : Option ℕ) → length types < max_types → ExtendsOf types d supertype → IfSome supertype (λ t. t < type_count)
super_low types d None few extends = tt
super_low types d (Some t) few extends = omega (arith, slice_get_within types t extends.supertype extends.earlier, few)

-- the commands of a struct type, an array type and an exception type
module _ (types : List Declaration) (supertype : Option ℕ) (is_final : Bool) where
  pub struct_made : (fields : List FieldType) (words : List FieldWord) → Declarable types (struct_type fields supertype is_final) → AreWordsOf WordsField fields words
      → Commanded types (struct_type fields supertype is_final) (Some (command.Struct is_final supertype words))
  struct_made fields words declarable worded =
      let d = struct_type fields supertype is_final in let all = types ++ d ∷ [] in
      let low = super_low types d supertype declarable.few_types declarable.extends in
      let fit = words_fit IsPlainField IsKnownField FitsField field_of all fields words (few_types types d declarable) declarable.known worded in
      let few : length words ≤ 10000 = omega (arith, AllZip-long (λ x w. WordsField x (Some w)) fields words worded, declarable.few_fields) in
      let spelled : fields_of (kinds_with types kinds.Struct) words ≡ Some fields =
      ap (λ kind. fields_of kind words) (grown_kinds types d) ∙ words_spell IsPlainField IsKnownField FitsField field_of all fields words declarable.known worded in (
        words_plain IsPlainField IsKnownField FitsField field_of fields words worded,
        record {
          declares = record { spelled = ap (option_map (λ (fs : List FieldType). struct_type fs supertype is_final)) spelled; declarable = declarable };
          fits = (tt, record { fits = (low, fit); short = struct_short is_final supertype words low fit few; spelled = refl });
        },
      )

  pub array_made : (elem : FieldType) (word : FieldWord) → Declarable types (array_type elem supertype is_final) → WordsField elem (Some word)
      → Commanded types (array_type elem supertype is_final) (Some (command.Array is_final supertype word))
  array_made elem word declarable worded =
      let d = array_type elem supertype is_final in let all = types ++ d ∷ [] in
      let low = super_low types d supertype declarable.few_types declarable.extends in
      let fit = worded.1.fits all (few_types types d declarable) declarable.known in
      let spelled : field_of (kinds_with types kinds.Array) word ≡ Some elem = ap (λ kind. field_of kind word) (grown_kinds types d) ∙ worded.1.spelled all declarable.known in (
        worded.0,
        record {
          declares = record { spelled = ap (option_map (λ (f : FieldType). array_type f supertype is_final)) spelled; declarable = declarable };
          fits = (tt, record { fits = (low, fit); short = array_short is_final supertype word low fit; spelled = refl });
        },
      )

pub exn_made : (types : List Declaration) (params : List ValType) (words : List ValueWord) → Declarable types (exn_type params) → AreWordsOf WordsValue params words
    → Commanded types (exn_type params) (Some (command.Exn words))
exn_made types params words declarable worded =
    let d = exn_type params in let all = types ++ d ∷ [] in
    let fit = words_fit IsPlainVal IsKnownVal FitsValue value_type_of all params words (few_types types d declarable) declarable.known worded in
    let few : length words ≤ 10000 = omega (arith, AllZip-long (λ x w. WordsValue x (Some w)) params words worded, declarable.few_fields) in
    let spelled : values_of (kinds_with types kinds.Exn) words ≡ Some params =
    ap (λ kind. values_of kind words) (grown_kinds types d) ∙ words_spell IsPlainVal IsKnownVal FitsValue value_type_of all params words declarable.known worded in (
      words_plain IsPlainVal IsKnownVal FitsValue value_type_of params words worded,
      record {
        declares = record { spelled = ap (option_map (λ (ps : List ValType). exn_type ps)) spelled; declarable = declarable };
        fits = (tt, record { fits = fit; short = exn_short words fit few; spelled = refl });
      },
    )

no_exn_super : (types : List Declaration) (params : List ValType) (is_final : Bool) (supertype : Option ℕ)
    → ExtendsOf types (record { shape = exn_of params; supertype = supertype; is_final = is_final }) supertype → supertype ≡ None
no_exn_super types params is_final None extends = refl
no_exn_super types params is_final (Some t) extends = absurd extends.matches

-- a declaration by its parts
module _ (types : List Declaration) (n : ℕ) (d : Declaration) (at : slice_get types n ≡ Some d) (declared : AreDeclared types) where
  pub final_told : is_final_at types n ≡ d.is_final
  final_told = ap (λ o. unwrap_or (option_map (λ (e : Declaration). e.is_final) o) false) at

  pub super_told : supertype_at types n ≡ d.supertype
  super_told = ap (λ o. option_and_then (λ (e : Declaration). e.supertype) o) at

  module _ (is_final : Bool) (supertype : Option ℕ) (final : is_final ≡ is_final_at types n) (super : supertype ≡ supertype_at types n) where
    struct_same : (fields : List FieldType) → d.shape ≡ struct_of fields → struct_type fields supertype is_final ≡ d
    struct_same fields shape = λ i. record { shape = sym shape i; supertype = (super ∙ super_told) i; is_final = (final ∙ final_told) i }

    array_same : (elem : FieldType) → d.shape ≡ array_of elem → array_type elem supertype is_final ≡ d
    array_same elem shape = λ i. record { shape = sym shape i; supertype = (super ∙ super_told) i; is_final = (final ∙ final_told) i }

    pub struct_commanded : (fields : List FieldType) (words : List FieldWord) → d.shape ≡ struct_of fields → AreWordsOf WordsField fields words
        → Commanded (take n types) d (Some (command.Struct is_final supertype words))
    struct_commanded fields words shape worded =
        let same = struct_same fields shape in
        subst (λ e. Commanded (take n types) e (Some (command.Struct is_final supertype words))) same
        (struct_made (take n types) supertype is_final fields words (subst (Declarable (take n types)) (sym same) (declared.each n d at)) worded)

    pub array_commanded : (elem : FieldType) (word : FieldWord) → d.shape ≡ array_of elem → WordsField elem (Some word) → Commanded (take n types) d (Some (command.Array is_final supertype word))
    array_commanded elem word shape worded =
        let same = array_same elem shape in
        subst (λ e. Commanded (take n types) e (Some (command.Array is_final supertype word))) same
        (array_made (take n types) supertype is_final elem word (subst (Declarable (take n types)) (sym same) (declared.each n d at)) worded)

  exn_same : (params : List ValType) → d.shape ≡ exn_of params → exn_type params ≡ d
  exn_same params shape =
      let named : record { shape = exn_of params; supertype = d.supertype; is_final = d.is_final } ≡ d = λ i. record { shape = sym shape i; supertype = d.supertype; is_final = d.is_final } in
      let declarable : Declarable (take n types) (record { shape = exn_of params; supertype = d.supertype; is_final = d.is_final }) = subst (Declarable (take n types)) (sym named) (declared.each n d at) in
      let none = no_exn_super (take n types) params d.is_final d.supertype declarable.extends in
      λ i. record { shape = sym shape i; supertype = sym none i; is_final = sym declarable.exn_is_final i }

  pub exn_commanded : (params : List ValType) (words : List ValueWord) → d.shape ≡ exn_of params → AreWordsOf WordsValue params words
      → Commanded (take n types) d (Some (command.Exn words))
  exn_commanded params words shape worded =
      let same = exn_same params shape in
      subst (λ e. Commanded (take n types) e (Some (command.Exn words))) same
      (exn_made (take n types) params words (subst (Declarable (take n types)) (sym same) (declared.each n d at)) worded)
