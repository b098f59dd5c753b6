-- The words of objects and globals: what they are made of, that no two have the same, and which words are none's.
use Rattle.std.proofs.Common.{◌≡◌, ℕ, ◌<◌, ◌≤◌, ◌^◌, List, [], ◌∷◌, ◌++◌, map, length, drop, get_or, codes, refl, sym, ap, ◌∙◌, arith}
use Rattle.std.specs.Fmt.{decimal, signed_decimal}
use Rattle.std.specs.List.{AllByRecursion}
use Rattle.std.proofs.lemmas.Fmt.{decimal_injective, signed_decimal_injective}
use Rattle.std.proofs.lemmas.List.{append_cancel_left}
use Rattle.gc_types.specs.declared.value.Tag.{Tag}
use Rattle.gc_owner.specs.declared.entry.GcClass.{GcClass}
use Rattle.gc_owner.specs.declared.entry.GcClass.TheVariants as class
use Rattle.gc_commands.specs.declared.command.Operand.TheVariants as operand
use Rattle.gc_commands.specs.Words.{hex_digits}
use Rattle.gc_commands.specs.Spelling.{type_count}
use Rattle.gc_commands.proofs.GraphicLemmas.{AreWords, IsWord, word_append, word_bytes, word_decimal, word_operand, word_text, words_map}
use Rattle.gc_commands.proofs.HexReadLemmas.{one_bytes, one_hex}
use Rattle.gc_commands.proofs.TypeLemmas.{differ}
use Rattle.gc_image.specs.declared.image.GlobalLine.{GlobalLine}
use Rattle.gc_image.specs.declared.image.ImageReference.{ImageReference}
use Rattle.gc_image.specs.declared.image.ImageReference.TheVariants as reference
use Rattle.gc_image.specs.declared.image.ImageValue.{ImageValue}
use Rattle.gc_image.specs.declared.image.ImageValue.TheVariants as value
use Rattle.gc_image.specs.declared.image.ObjectLine.{ObjectLine}
use Rattle.gc_image.specs.declared.image.ObjectLine.TheVariants as object
use Rattle.gc_image.specs.Reading.{FitBytes, FitExn, FitRow, FitTagged, bytes_words, exn_words, row_words, tagged_words}
use Rattle.gc_image.specs.Text.{FitsGlobal, FitsObject, FitsImageReference, FitsImageValue, class_text, global_line_words, object_words, reference_text, value_text}

word_reference : (r : ImageReference) → FitsImageReference r → IsWord (reference_text r)
word_reference reference.Null fits = word_text (codes "null") refl
word_reference (reference.Small n) fits = word_append (codes "i31:") (decimal n) (word_text (codes "i31:") refl) (word_decimal n (omega arith))
word_reference (reference.Object number) fits = word_append (codes "#") (decimal number) (word_text (codes "#") refl) (word_decimal number fits)

word_class : (c : GcClass) → IsWord (class_text c)
word_class class.Any = word_text (codes "any") refl
word_class class.Extern = word_text (codes "extern") refl
word_class class.Exn = word_text (codes "exn") refl

word_value : (v : ImageValue) → FitsImageValue v → IsWord (value_text v)
word_value (value.I32 n) fits = word_operand (operand.I32 n) fits
word_value (value.I64 n) fits = word_operand (operand.I64 n) fits
word_value (value.F32 n) fits = word_operand (operand.F32 n) fits
word_value (value.F64 n) fits = word_operand (operand.F64 n) fits
word_value (value.V128 n) fits = word_operand (operand.V128 n) fits
word_value (value.Ref c r) fits = word_append (class_text c) (58 ∷ reference_text r) (word_class c) ((omega arith, omega arith), word_reference r fits)

word_type : (t : ℕ) → t < type_count → IsWord (decimal t)
word_type t fits = word_decimal t (omega arith)

word_small : (n : ℕ) → n < 2 ^ 32 → IsWord (decimal n)
word_small n fits = word_decimal n (omega arith)

-- the words of an object are words
pub object_fit : (x : ObjectLine) → FitsObject x → AreWords (object_words x)
object_fit (object.Struct ty values) fits = (word_text (codes "s") refl, (word_type ty fits.0, words_map FitsImageValue value_text word_value values fits.1))
object_fit (object.Array ty values) fits = (word_text (codes "a") refl, (word_type ty fits.0, words_map FitsImageValue value_text word_value values fits.1))
object_fit (object.Bytes ty bytes) fits = (word_text (codes "b") refl, (word_type ty fits.0, (word_bytes bytes fits.1, tt)))
object_fit (object.Host number) fits = (word_text (codes "h") refl, (word_decimal number fits, tt))
object_fit (object.Exn ty tag values) fits =
    (word_text (codes "e") refl, (word_type ty fits.0, (word_small tag.instance fits.1, (word_small tag.index fits.2, words_map FitsImageValue value_text word_value values fits.3))))

pub object_some : (x : ObjectLine) → 0 < length (object_words x)
object_some (object.Struct ty values) = omega arith
object_some x = omega arith

pub global_fit : (x : GlobalLine) → FitsGlobal x → AreWords (global_line_words x)
global_fit x fits = (word_text (codes "global") refl, (word_decimal x.index (let small = fits.0 in omega arith), (word_value x.value fits.1, tt)))

pub global_some : (x : GlobalLine) → 0 < length (global_line_words x)
global_some x = omega arith

one_reference : (r s : ImageReference) → FitsImageReference r → FitsImageReference s → reference_text r ≡ reference_text s → r ≡ s
one_reference reference.Null reference.Null r_fits s_fits e = refl
one_reference (reference.Small m) (reference.Small n) m_small n_small e =
    ap reference.Small (decimal_injective m n (omega arith) (omega arith) (append_cancel_left (codes "i31:") (decimal m) (decimal n) e))
one_reference (reference.Object m) (reference.Object n) m_small n_small e = ap reference.Object (decimal_injective m n m_small n_small (append_cancel_left (codes "#") (decimal m) (decimal n) e))
one_reference r s r_fits s_fits e = differ _ _ (λ a b c d. omega arith) e

one_ref : (c d : GcClass) (r s : ImageReference) → FitsImageReference r → FitsImageReference s → class_text c ++ 58 ∷ reference_text r ≡ class_text d ++ 58 ∷ reference_text s → value.Ref c r ≡ value.Ref d s
one_ref class.Any class.Any r s r_fits s_fits e = ap (value.Ref class.Any) (one_reference r s r_fits s_fits (append_cancel_left (codes "any:") (reference_text r) (reference_text s) e))
one_ref class.Extern class.Extern r s r_fits s_fits e = ap (value.Ref class.Extern) (one_reference r s r_fits s_fits (append_cancel_left (codes "extern:") (reference_text r) (reference_text s) e))
one_ref class.Exn class.Exn r s r_fits s_fits e = ap (value.Ref class.Exn) (one_reference r s r_fits s_fits (append_cancel_left (codes "exn:") (reference_text r) (reference_text s) e))
one_ref c d r s r_fits s_fits e = differ _ _ (λ a b c d. omega arith) e

-- a class begins with an `a` or an `e`
class_apart : {A : Type 0} (c : GcClass) (r : ImageReference) (text : List ℕ) → (get_or text 0 0 ≡ 97 → ⊥) → (get_or text 0 0 ≡ 101 → ⊥) → class_text c ++ 58 ∷ reference_text r ≡ text → A
class_apart class.Any r text any extern e = absurd (any (sym (ap (λ t. get_or t 0 0) e)))
class_apart class.Extern r text any extern e = absurd (extern (sym (ap (λ t. get_or t 0 0) e)))
class_apart class.Exn r text any extern e = absurd (extern (sym (ap (λ t. get_or t 0 0) e)))

one_value : (x y : ImageValue) → FitsImageValue x → FitsImageValue y → value_text x ≡ value_text y → x ≡ y
one_value (value.I32 m) (value.I32 n) m_fits n_fits e =
    ap value.I32 (signed_decimal_injective m n (let small = m_fits.sfits in omega arith) (let small = n_fits.sfits in omega arith) (append_cancel_left (codes "i32:") (signed_decimal m) (signed_decimal n) e))
one_value (value.I64 m) (value.I64 n) m_fits n_fits e =
    ap value.I64 (signed_decimal_injective m n (let small = m_fits.sfits in omega arith) (let small = n_fits.sfits in omega arith) (append_cancel_left (codes "i64:") (signed_decimal m) (signed_decimal n) e))
one_value (value.F32 m) (value.F32 n) m_fits n_fits e = ap value.F32 (one_hex 8 m n m_fits n_fits (append_cancel_left (codes "f32:") (hex_digits 8 m) (hex_digits 8 n) e))
one_value (value.F64 m) (value.F64 n) m_fits n_fits e = ap value.F64 (one_hex 16 m n m_fits n_fits (append_cancel_left (codes "f64:") (hex_digits 16 m) (hex_digits 16 n) e))
one_value (value.V128 m) (value.V128 n) m_fits n_fits e = ap value.V128 (one_hex 32 m n m_fits n_fits (append_cancel_left (codes "v128:") (hex_digits 32 m) (hex_digits 32 n) e))
one_value (value.Ref c r) (value.Ref d s) r_fits s_fits e = one_ref c d r s r_fits s_fits e
one_value (value.Ref c r) y r_fits y_fits e = class_apart c r (value_text y) (λ a. omega arith) (λ b. omega arith) e
one_value x (value.Ref d s) x_fits s_fits e = class_apart d s (value_text x) (λ a. omega arith) (λ b. omega arith) (sym e)
one_value x y x_fits y_fits e = differ _ _ (λ a b c d. omega arith) e

pub one_list : {A : Type 0} (Fits : A → Type 0) (text : A → List ℕ) → ((x y : A) → Fits x → Fits y → text x ≡ text y → x ≡ y)
    → (xs ys : List A) → AllByRecursion Fits xs → AllByRecursion Fits ys → map text xs ≡ map text ys → xs ≡ ys
one_list Fits text one [] [] xs_fit ys_fit e = refl
one_list Fits text one [] (y ∷ ys) xs_fit ys_fit e = cc
one_list Fits text one (x ∷ xs) [] xs_fit ys_fit e = cc
one_list Fits text one (x ∷ xs) (y ∷ ys) xs_fit ys_fit e =
    let head = one x y xs_fit.0 ys_fit.0 cc in
    let tail = one_list Fits text one xs ys xs_fit.1 ys_fit.1 cc in
    cc

-- the word at a place of equal words
at : (i : ℕ) (words others : List (List ℕ)) → words ≡ others → get_or words i [] ≡ get_or others i []
at i words others e = ap (λ (ws : List (List ℕ)). get_or ws i []) e

-- words whose first ones differ in their first letter
apart : {A : Type 0} (words others : List (List ℕ)) → (get_or (get_or words 0 []) 0 0 ≡ get_or (get_or others 0 []) 0 0 → ⊥) → words ≡ others → A
apart words others differ e = absurd (differ (ap (λ (ws : List (List ℕ)). get_or (get_or ws 0 []) 0 0) e))

type_index : (m n : ℕ) → m < type_count → n < type_count → decimal m ≡ decimal n → m ≡ n
type_index m n m_small n_small e = decimal_injective m n (omega arith) (omega arith) e

small : (m n : ℕ) → m < 2 ^ 32 → n < 2 ^ 32 → decimal m ≡ decimal n → m ≡ n
small m n m_small n_small e = decimal_injective m n (omega arith) (omega arith) e

values_same : (xs ys : List ImageValue) → AllByRecursion FitsImageValue xs → AllByRecursion FitsImageValue ys → map value_text xs ≡ map value_text ys → xs ≡ ys
values_same xs ys xs_fit ys_fit e = one_list FitsImageValue value_text one_value xs ys xs_fit ys_fit e

-- no two objects have the same words
pub one_object : (x y : ObjectLine) → FitsObject x → FitsObject y → object_words x ≡ object_words y → x ≡ y
one_object (object.Struct t xs) (object.Struct u ys) x_fits y_fits e =
    let types = type_index t u x_fits.0 y_fits.0 (at 1 _ _ e) in
    let values = values_same xs ys x_fits.1 y_fits.1 (ap (drop 2) e) in
    λ i. object.Struct (types i) (values i)
one_object (object.Array t xs) (object.Array u ys) x_fits y_fits e =
    let types = type_index t u x_fits.0 y_fits.0 (at 1 _ _ e) in
    let values = values_same xs ys x_fits.1 y_fits.1 (ap (drop 2) e) in
    λ i. object.Array (types i) (values i)
one_object (object.Bytes t xs) (object.Bytes u ys) x_fits y_fits e =
    let types = type_index t u x_fits.0 y_fits.0 (at 1 _ _ e) in
    let bytes = one_bytes xs ys x_fits.1 y_fits.1 (at 2 _ _ e) in
    λ i. object.Bytes (types i) (bytes i)
one_object (object.Host m) (object.Host n) x_fits y_fits e = ap object.Host (decimal_injective m n x_fits y_fits (at 1 _ _ e))
one_object (object.Exn t tag xs) (object.Exn u other ys) x_fits y_fits e =
    let types = type_index t u x_fits.0 y_fits.0 (at 1 _ _ e) in
    let instances = small tag.instance other.instance x_fits.1 y_fits.1 (at 2 _ _ e) in
    let indexes = small tag.index other.index x_fits.2 y_fits.2 (at 3 _ _ e) in
    let values = values_same xs ys x_fits.3 y_fits.3 (ap (drop 4) e) in
    λ i. object.Exn (types i) (record { instance = instances i; index = indexes i }) (values i)
one_object x y x_fits y_fits e = apart _ _ (λ a. omega arith) e

pub one_global : (x y : GlobalLine) → FitsGlobal x → FitsGlobal y → global_line_words x ≡ global_line_words y → x ≡ y
one_global x y x_fits y_fits e =
    let indexes = decimal_injective x.index y.index (let low = x_fits.0 in omega arith) (let low = y_fits.0 in omega arith) (at 1 _ _ e) in
    let values = one_value x.value y.value x_fits.1 y_fits.1 (at 2 _ _ e) in
    λ i. record { index = indexes i; value = values i }

-- Where what is behind an object's letter is none, the words are those of no object.
pub no_struct : (words rest : List (List ℕ)) → words ≡ codes "s" ∷ rest → ((p : ℕ × List ImageValue) → FitRow p → rest ≡ row_words p → ⊥) → (x : ObjectLine) → FitsObject x → words ≡ object_words x → ⊥
no_struct words rest is none (object.Struct ty values) fits e = none (ty, values) fits (ap (drop 1) (sym is ∙ e))
no_struct words rest is none x fits e = apart _ _ (λ a. omega arith) (sym is ∙ e)

pub no_array : (words rest : List (List ℕ)) → words ≡ codes "a" ∷ rest → ((p : ℕ × List ImageValue) → FitRow p → rest ≡ row_words p → ⊥) → (x : ObjectLine) → FitsObject x → words ≡ object_words x → ⊥
no_array words rest is none (object.Array ty values) fits e = none (ty, values) fits (ap (drop 1) (sym is ∙ e))
no_array words rest is none x fits e = apart _ _ (λ a. omega arith) (sym is ∙ e)

pub no_bytes : (words rest : List (List ℕ)) → words ≡ codes "b" ∷ rest → ((p : ℕ × List ℕ) → FitBytes p → rest ≡ bytes_words p → ⊥) → (x : ObjectLine) → FitsObject x → words ≡ object_words x → ⊥
no_bytes words rest is none (object.Bytes ty bytes) fits e = none (ty, bytes) fits (ap (drop 1) (sym is ∙ e))
no_bytes words rest is none x fits e = apart _ _ (λ a. omega arith) (sym is ∙ e)

pub no_exn : (words rest : List (List ℕ)) → words ≡ codes "e" ∷ rest → ((p : ℕ × Tag × List ImageValue) → FitExn p → rest ≡ exn_words p → ⊥) → (x : ObjectLine) → FitsObject x → words ≡ object_words x → ⊥
no_exn words rest is none (object.Exn ty tag values) fits e = none (ty, tag, values) fits (ap (drop 1) (sym is ∙ e))
no_exn words rest is none x fits e = apart _ _ (λ a. omega arith) (sym is ∙ e)

-- a word of one letter
pub one_letter : (word : List ℕ) (b : ℕ) → 1 ≤ length word → length word < 2 → get_or word 0 0 ≡ b → word ≡ b ∷ []
one_letter [] b some short is = absurd (omega arith)
one_letter (x ∷ []) b some short is = ap (λ y. y ∷ []) is
one_letter (x ∷ y ∷ word) b some short is = absurd (omega arith)

-- a type and the instance of a tag, behind which no number stands, are no tag
pub no_index : (words one two : List (List ℕ)) (ty instance : ℕ) → words ≡ decimal ty ∷ one → one ≡ decimal instance ∷ two
    → ((n : ℕ) (others : List (List ℕ)) → n < 2 ^ 32 → two ≡ decimal n ∷ others → ⊥) → (p : ℕ × Tag) (others : List (List ℕ)) → FitTagged p → words ≡ tagged_words p others → ⊥
no_index words one two ty instance at next none p others fits e =
    let both : decimal ty ∷ decimal instance ∷ two ≡ tagged_words p others = ap (λ ws. decimal ty ∷ ws) (sym next) ∙ sym at ∙ e in
    none p.1.index others fits.2 (ap (λ (ws : List (List ℕ)). drop 2 ws) both)

-- no tag, no exception
pub no_tagged : (words : List (List ℕ)) → ((p : ℕ × Tag) (others : List (List ℕ)) → FitTagged p → words ≡ tagged_words p others → ⊥) → (x : ℕ × Tag × List ImageValue) → FitExn x → words ≡ exn_words x → ⊥
no_tagged words none x fits e = none (x.0, x.1) (map value_text x.2) (fits.0, fits.1, fits.2) e
