-- A command that declares a type has a line that isn't long.
use Rattle.std.proofs.Common.{ℕ, ◌*◌, ◌<◌, ◌≤◌, Bool, true, false, List, [], ◌∷◌, ◌++◌, length, map, Option, None, Some, codes, arith, IfSome, length-append}
use Rattle.std.specs.Fmt.{decimal}
use Rattle.std.specs.List.{AllByRecursion, join_with_byte}
use Rattle.std.proofs.lemmas.Fmt.{length-decimal-le}
use Rattle.std.proofs.lemmas.List.{length-map}
use Rattle.gc_types.specs.Declarations.{max_fields}
use Rattle.gc_commands.specs.declared.command.Command.TheVariants as command
use Rattle.gc_commands.specs.declared.command.FieldWord.{FieldWord}
use Rattle.gc_commands.specs.declared.command.HeapWord.{HeapWord}
use Rattle.gc_commands.specs.declared.command.HeapWord.TheVariants as heap
use Rattle.gc_commands.specs.declared.command.StorageWord.{StorageWord}
use Rattle.gc_commands.specs.declared.command.StorageWord.TheVariants as storage
use Rattle.gc_commands.specs.declared.command.ValueWord.{ValueWord}
use Rattle.gc_commands.specs.declared.command.ValueWord.TheVariants as value
use Rattle.gc_commands.specs.Spelling.{FitsField, FitsHeap, FitsStorage, FitsValue, final_words, max_line, spelling, supertype_words, type_count}
use Rattle.gc_commands.specs.Words.{field_text, heap_text, mutability_text, null_mark, storage_text, value_type_text}

decimal_short : (n : ℕ) → n < type_count → length (decimal n) ≤ 10
decimal_short n low = length-decimal-le 10 n (omega arith) (omega arith) (omega arith)

heap_short : (h : HeapWord) → FitsHeap h → length (heap_text h) ≤ 11
heap_short heap.Any fits = omega arith
heap_short heap.Eq fits = omega arith
heap_short heap.I31 fits = omega arith
heap_short heap.Struct fits = omega arith
heap_short heap.Array fits = omega arith
heap_short heap.None fits = omega arith
heap_short heap.Extern fits = omega arith
heap_short heap.NoExtern fits = omega arith
heap_short heap.Exn fits = omega arith
heap_short heap.NoExn fits = omega arith
heap_short (heap.Named n) fits = omega (arith, decimal_short n fits)

mark_short : (nullable : Bool) → length (null_mark nullable) ≤ 1
mark_short true = omega arith
mark_short false = omega arith

value_short : (v : ValueWord) → FitsValue v → length (value_type_text v) ≤ 12
value_short value.I32 fits = omega arith
value_short value.I64 fits = omega arith
value_short value.F32 fits = omega arith
value_short value.F64 fits = omega arith
value_short value.V128 fits = omega arith
value_short (value.Ref h nullable) fits = omega (arith, length-append (heap_text h) (null_mark nullable), heap_short h fits, mark_short nullable)

storage_short : (s : StorageWord) → FitsStorage s → length (storage_text s) ≤ 12
storage_short storage.I8 fits = omega arith
storage_short storage.I16 fits = omega arith
storage_short (storage.Value v) fits = value_short v fits

mutability_short : (mutable : Bool) → length (mutability_text mutable) ≤ 2
mutability_short true = omega arith
mutability_short false = omega arith

field_short : (f : FieldWord) → FitsField f → length (field_text f) ≤ 14
field_short f fits = omega (arith, length-append (mutability_text f.mutable) (storage_text f.storage), storage_short f.storage fits, mutability_short f.mutable)

abbrev AreShort : List (List ℕ) → Type 0
AreShort words = AllByRecursion (λ (w : List ℕ). length w ≤ 14) words

joined_short : (words : List (List ℕ)) → AreShort words → length (join_with_byte 32 words) ≤ 15 * length words
joined_short [] all = omega arith
joined_short (w ∷ []) all = omega (arith, all.0)
joined_short (w ∷ next ∷ words) all = omega (arith, all.0, length-append w (32 ∷ join_with_byte 32 (next ∷ words)), joined_short (next ∷ words) all.1)

short_map : {A : Type 0} (Fits : A → Type 0) (text : A → List ℕ) → ((x : A) → Fits x → length (text x) ≤ 14) → (xs : List A) → AllByRecursion Fits xs → AreShort (map text xs)
short_map Fits text short [] all = tt
short_map Fits text short (x ∷ xs) all = (short x all.0, short_map Fits text short xs all.1)

short_append : (xs ys : List (List ℕ)) → AreShort xs → AreShort ys → AreShort (xs ++ ys)
short_append [] ys front back = back
short_append (x ∷ xs) ys front back = (front.0, short_append xs ys front.1 back)

final_short : (is_final : Bool) → AreShort (final_words is_final)
final_short true = (omega arith, tt)
final_short false = tt

final_few : (is_final : Bool) → length (final_words is_final) ≤ 1
final_few true = omega arith
final_few false = omega arith

super_short : (supertype : Option ℕ) → IfSome supertype (λ t. t < type_count) → AreShort (supertype_words supertype)
super_short None low = tt
super_short (Some t) low = (omega (arith, decimal_short t low), tt)

super_few : (supertype : Option ℕ) → length (supertype_words supertype) ≤ 1
super_few None = omega arith
super_few (Some t) = omega arith

declared_short : (name : List ℕ) (is_final : Bool) (supertype : Option ℕ) (words : List (List ℕ)) → length name ≤ 14 → IfSome supertype (λ t. t < type_count) → AreShort words → length words ≤ max_fields
    → length (join_with_byte 32 (name ∷ (final_words is_final ++ (supertype_words supertype ++ words)))) ≤ max_line
declared_short name is_final supertype words small low short few =
    let front = final_words is_final in let back = supertype_words supertype in
    let all = joined_short (name ∷ (front ++ (back ++ words))) (small, short_append front (back ++ words) (final_short is_final) (short_append back words (super_short supertype low) short)) in
    omega (arith, all, length-append front (back ++ words), length-append back words, final_few is_final, super_few supertype, few)

pub struct_short : (is_final : Bool) (supertype : Option ℕ) (fields : List FieldWord) → IfSome supertype (λ t. t < type_count) → AllByRecursion FitsField fields → length fields ≤ max_fields
    → length (spelling (command.Struct is_final supertype fields)) ≤ max_line
struct_short is_final supertype fields low fit few =
    declared_short (codes "struct") is_final supertype (map field_text fields) (omega arith) low (short_map FitsField field_text field_short fields fit) (omega (arith, length-map fields field_text, few))

pub array_short : (is_final : Bool) (supertype : Option ℕ) (elem : FieldWord) → IfSome supertype (λ t. t < type_count) → FitsField elem → length (spelling (command.Array is_final supertype elem)) ≤ max_line
array_short is_final supertype elem low fit = declared_short (codes "array") is_final supertype (field_text elem ∷ []) (omega arith) low (field_short elem fit, tt) (omega arith)

pub exn_short : (params : List ValueWord) → AllByRecursion FitsValue params → length params ≤ max_fields → length (spelling (command.Exn params)) ≤ max_line
exn_short params fit few =
    let all = joined_short (codes "exn" ∷ map value_type_text params) (omega arith, short_map FitsValue value_type_text (λ v fits. omega (arith, value_short v fits)) params fit) in
    omega (arith, all, length-map params value_type_text, few)
