-- The words of commands have neither spaces nor bytes beyond ASCII.
use Rattle.std.proofs.Common.{◌≡◌, ℕ, ℤ, pos, negsuc, suc, zero, ◌<◌, ◌^◌, ◌/◌, ◌%◌, List, [], ◌∷◌, ◌++◌, map, codes, FitsSigned, refl, arith, Bool, true, false, ◌&&◌, nat_lt, Option, None, Some, IfSome}
use Rattle.std.specs.Fmt.{decimal, signed_decimal}
use Rattle.std.specs.Int.{w32, w64}
use Rattle.std.specs.List.{AllByRecursion, flat_map, list_all}
use Rattle.std.specs.Str.Parse.{AllDigits}
use Rattle.std.proofs.lemmas.Bool.{false≢true, ltb-true}
use Rattle.std.proofs.lemmas.Fmt.{digits_decimal}
use Rattle.std.proofs.lemmas.Str.Parse.{digit_from_value}
use Rattle.gc_commands.specs.declared.command.FieldWord.{FieldWord}
use Rattle.gc_commands.specs.declared.command.HeapWord.{HeapWord}
use Rattle.gc_commands.specs.declared.command.HeapWord.TheVariants as heap
use Rattle.gc_commands.specs.declared.command.Operand.{Operand}
use Rattle.gc_commands.specs.declared.command.Operand.TheVariants as operand
use Rattle.gc_commands.specs.declared.command.ValueWord.{ValueWord}
use Rattle.gc_commands.specs.declared.command.ValueWord.TheVariants as value
use Rattle.gc_commands.specs.declared.command.StorageWord.{StorageWord}
use Rattle.gc_commands.specs.declared.command.StorageWord.TheVariants as storage
use Rattle.gc_commands.specs.Spelling.{FitsField, FitsHeap, FitsOperand, FitsStorage, FitsValue, declared_words, final_words, into_words, supertype_words, type_count}
use Rattle.gc_commands.specs.Words.{byte_text, bytes_text, field_text, heap_text, hex_digit, hex_digits, mutability_text, null_mark, operand_text, storage_text, value_type_text}
use Rattle.gc_commands.proofs.HexReadLemmas.{digit_graphic}
use Rattle.gc_commands.proofs.NumberLemmas.{own}

-- a word has neither spaces nor bytes beyond ASCII
abbrev pub IsGraphic : ℕ → Type 0
IsGraphic b = (32 < b) × (b < 128)

abbrev pub IsWord : List ℕ → Type 0
IsWord word = AllByRecursion IsGraphic word

word_digits : (ds : List ℕ) → AllDigits 10 ds → IsWord ds
word_digits [] digits = tt
word_digits (d ∷ ds) digits = (let range = digit_from_value d digits.0 in (omega arith, omega arith), word_digits ds digits.1)

pub word_decimal : (n : ℕ) → n < 2 ^ 64 → IsWord (decimal n)
word_decimal n small = word_digits (decimal n) (digits_decimal own n small)

word_signed : (z : ℤ) → FitsSigned w64 z → IsWord (signed_decimal z)
word_signed (pos n) fits = word_decimal n (let small = fits.sfits in omega arith)
word_signed (negsuc n) fits = ((omega arith, omega arith), word_decimal (suc n) (let small = fits.sfits in omega arith))

word_small : (z : ℤ) → FitsSigned w32 z → IsWord (signed_decimal z)
word_small (pos n) fits = word_decimal n (let small = fits.sfits in omega arith)
word_small (negsuc n) fits = ((omega arith, omega arith), word_decimal (suc n) (let small = fits.sfits in omega arith))

both : (a b : Bool) → (a && b) ≡ true → (a ≡ true) × (b ≡ true)
both true true e = (refl, refl)
both true false e = absurd (false≢true e)
both false b e = absurd (false≢true e)

pub word_text : (text : List ℕ) → list_all (λ b. nat_lt 32 b && nat_lt b 128) text ≡ true → IsWord text
word_text [] test = tt
word_text (b ∷ text) test =
    let here = both (nat_lt 32 b && nat_lt b 128) _ test in
    let bounds = both (nat_lt 32 b) (nat_lt b 128) here.0 in
    ((ltb-true 32 b bounds.0, ltb-true b 128 bounds.1), word_text text here.1)

pub word_append : (front back : List ℕ) → IsWord front → IsWord back → IsWord (front ++ back)
word_append [] back fs bs = bs
word_append (b ∷ front) back fs bs = (fs.0, word_append front back fs.1 bs)

word_hex : (k n : ℕ) → IsWord (hex_digits k n)
word_hex zero n = tt
word_hex (suc k) n =
    word_append (hex_digits k (n / 16)) (hex_digit (n % 16) ∷ []) (word_hex k (n / 16)) (let digit = digit_graphic (n % 16) (omega arith) in ((omega arith, omega arith), tt))

pub word_operand : (value : Operand) → FitsOperand value → IsWord (operand_text value)
word_operand (operand.I32 n) fits = word_append (codes "i32:") (signed_decimal n) (word_text (codes "i32:") refl) (word_small n fits)
word_operand (operand.I64 n) fits = word_append (codes "i64:") (signed_decimal n) (word_text (codes "i64:") refl) (word_signed n fits)
word_operand (operand.F32 n) fits = word_append (codes "f32:") (hex_digits 8 n) (word_text (codes "f32:") refl) (word_hex 8 n)
word_operand (operand.F64 n) fits = word_append (codes "f64:") (hex_digits 16 n) (word_text (codes "f64:") refl) (word_hex 16 n)
word_operand (operand.V128 n) fits = word_append (codes "v128:") (hex_digits 32 n) (word_text (codes "v128:") refl) (word_hex 32 n)
word_operand operand.AnyNull fits = word_text (codes "any:null") refl
word_operand operand.ExternNull fits = word_text (codes "extern:null") refl
word_operand operand.ExnNull fits = word_text (codes "exn:null") refl
word_operand (operand.Register r) fits = word_append (codes "r") (decimal r) (word_text (codes "r") refl) (word_decimal r (omega arith))

word_heap : (h : HeapWord) → FitsHeap h → IsWord (heap_text h)
word_heap heap.Any fits = word_text (codes "any") refl
word_heap heap.Eq fits = word_text (codes "eq") refl
word_heap heap.I31 fits = word_text (codes "i31") refl
word_heap heap.Struct fits = word_text (codes "struct") refl
word_heap heap.Array fits = word_text (codes "array") refl
word_heap heap.None fits = word_text (codes "none") refl
word_heap heap.Extern fits = word_text (codes "extern") refl
word_heap heap.NoExtern fits = word_text (codes "noextern") refl
word_heap heap.Exn fits = word_text (codes "exn") refl
word_heap heap.NoExn fits = word_text (codes "noexn") refl
word_heap (heap.Named t) fits = word_append (codes "t") (decimal t) (word_text (codes "t") refl) (word_decimal t (omega arith))

word_mark : (nullable : Bool) → IsWord (null_mark nullable)
word_mark true = tt
word_mark false = word_text (codes "!") refl

pub word_value : (value : ValueWord) → FitsValue value → IsWord (value_type_text value)
word_value value.I32 fits = word_text (codes "i32") refl
word_value value.I64 fits = word_text (codes "i64") refl
word_value value.F32 fits = word_text (codes "f32") refl
word_value value.F64 fits = word_text (codes "f64") refl
word_value value.V128 fits = word_text (codes "v128") refl
word_value (value.Ref h nullable) fits = word_append (heap_text h) (null_mark nullable) (word_heap h fits) (word_mark nullable)

word_storage : (storage : StorageWord) → FitsStorage storage → IsWord (storage_text storage)
word_storage storage.I8 fits = word_text (codes "i8") refl
word_storage storage.I16 fits = word_text (codes "i16") refl
word_storage (storage.Value v) fits = word_value v fits

word_mutability : (mutable : Bool) → IsWord (mutability_text mutable)
word_mutability true = word_text (codes "m:") refl
word_mutability false = word_text (codes "c:") refl

pub word_field : (field : FieldWord) → FitsField field → IsWord (field_text field)
word_field field fits = word_append (mutability_text field.mutable) (storage_text field.storage) (word_mutability field.mutable) (word_storage field.storage fits)

word_byte : (b : ℕ) → b < 2 ^ 8 → IsWord (byte_text b)
word_byte b small =
    let high = digit_graphic (b / 16) (omega arith) in
    let low = digit_graphic (b % 16) (omega arith) in
    ((omega arith, omega arith), ((omega arith, omega arith), tt))

word_pairs : (bs : List ℕ) → AllByRecursion (λ b. b < 2 ^ 8) bs → IsWord (flat_map byte_text bs)
word_pairs [] small = tt
word_pairs (b ∷ bs) small = word_append (byte_text b) (flat_map byte_text bs) (word_byte b small.0) (word_pairs bs small.1)

pub word_bytes : (bs : List ℕ) → AllByRecursion (λ b. b < 2 ^ 8) bs → IsWord (bytes_text bs)
word_bytes [] small = word_text (codes "-") refl
word_bytes (b ∷ bs) small = word_pairs (b ∷ bs) small

-- lists of words
abbrev pub AreWords : List (List ℕ) → Type 0
AreWords words = AllByRecursion IsWord words

pub word_into : (into : Option ℕ) → IfSome into (λ d. d < 2 ^ 16) → AreWords (into_words into)
word_into None small = tt
word_into (Some d) small = (word_decimal d (omega arith), tt)

pub words_map : {A : Type 0} (Fits : A → Type 0) (text : A → List ℕ) → ((x : A) → Fits x → IsWord (text x)) → (xs : List A) → AllByRecursion Fits xs → AreWords (map text xs)
words_map Fits text word [] all = tt
words_map Fits text word (x ∷ xs) all = (word x all.0, words_map Fits text word xs all.1)

words_append : (front back : List (List ℕ)) → AreWords front → AreWords back → AreWords (front ++ back)
words_append [] back fs bs = bs
words_append (word ∷ front) back fs bs = (fs.0, words_append front back fs.1 bs)

words_final : (f : Bool) → AreWords (final_words f)
words_final true = (word_text (codes "final") refl, tt)
words_final false = tt

words_supertype : (s : Option ℕ) → IfSome s (λ t. t < type_count) → AreWords (supertype_words s)
words_supertype None fits = tt
words_supertype (Some t) fits = (word_append (codes "sub:") (decimal t) (word_text (codes "sub:") refl) (word_decimal t (omega arith)), tt)

pub words_declared : (f : Bool) (s : Option ℕ) (rest : List (List ℕ)) → IfSome s (λ t. t < type_count) → AreWords rest → AreWords (declared_words f s rest)
words_declared f s rest fits all = words_append (final_words f) (supertype_words s ++ rest) (words_final f) (words_append (supertype_words s) rest (words_supertype s fits) all)
