-- Words that spell types: no two types have one spelling, and which words spell none.
use Rattle.std.proofs.Common.{◌≡◌, ℕ, ◌<◌, ◌≤◌, Bool, true, false, List, [], ◌∷◌, ◌++◌, codes, get_or, nat_lt, ◌&&◌, Option, None, Some, refl, sym, ap, subst, ◌∙◌, ◌⊎◌, inl, inr, ⊎_elim, arith}
use Rattle.std.specs.Fmt.{decimal}
use Rattle.std.specs.List.{AllByRecursion, list_all}
use Rattle.std.specs.Str.Parse.{AllDigits}
use Rattle.std.proofs.lemmas.Bool.{ltb-true, false≢true}
use Rattle.std.proofs.lemmas.Fmt.{decimal_injective, digits_decimal}
use Rattle.std.proofs.lemmas.List.{append-nil, append_cancel_left, append_cancel_right}
use Rattle.std.proofs.lemmas.Str.Parse.{digit_from_value}
use Rattle.gc_commands.specs.declared.command.FieldWord.{FieldWord}
use Rattle.gc_commands.specs.declared.command.HeapWord.{HeapWord}
use Rattle.gc_commands.specs.declared.command.HeapWord.TheVariants as heap
use Rattle.gc_commands.specs.declared.command.ValueWord.{ValueWord}
use Rattle.gc_commands.specs.declared.command.ValueWord.TheVariants as value
use Rattle.gc_commands.specs.declared.command.StorageWord.{StorageWord}
use Rattle.gc_commands.specs.declared.command.StorageWord.TheVariants as storage
use Rattle.gc_commands.specs.Reading.{Reads}
use Rattle.gc_commands.specs.Spelling.{FitsField, FitsHeap, FitsNamed, FitsReference, FitsStorage, FitsValue}
use Rattle.gc_commands.specs.Words.{field_text, heap_text, mutability_text, null_mark, storage_text, value_type_text}
use Rattle.gc_commands.proofs.NumberLemmas.{own}

-- texts that differ in one of these letters
pub differ : {A : Type 0} (s t : List ℕ) → (get_or s 0 0 ≡ get_or t 0 0 → get_or s 1 0 ≡ get_or t 1 0 → get_or s 2 0 ≡ get_or t 2 0 → get_or s 4 0 ≡ get_or t 4 0 → ⊥) → s ≡ t → A
differ s t apart e = absurd (apart (ap (λ w. get_or w 0 0) e) (ap (λ w. get_or w 1 0) e) (ap (λ w. get_or w 2 0) e) (ap (λ w. get_or w 4 0) e))

-- a letter or a digit, and no mark
abbrev IsLetter : ℕ → Type 0
IsLetter b = 33 < b

both : (a b : Bool) → (a && b) ≡ true → (a ≡ true) × (b ≡ true)
both true true e = (refl, refl)
both true false e = absurd (false≢true e)
both false b e = absurd (false≢true e)

letters : (text : List ℕ) → list_all (λ b. nat_lt 33 b) text ≡ true → AllByRecursion IsLetter text
letters [] test = tt
letters (b ∷ text) test = let parts = both (nat_lt 33 b) _ test in (ltb-true 33 b parts.0, letters text parts.1)

digit_letters : (ds : List ℕ) → AllDigits 10 ds → AllByRecursion IsLetter ds
digit_letters [] digits = tt
digit_letters (d ∷ ds) digits = (let range = digit_from_value d digits.0 in omega arith, digit_letters ds digits.1)

last_of : (P : ℕ → Type 0) (front : List ℕ) (b : ℕ) → AllByRecursion P (front ++ b ∷ []) → P b
last_of P [] b all = all.0
last_of P (f ∷ front) b all = last_of P front b all.1

heap_letters : (h : HeapWord) → FitsHeap h → AllByRecursion IsLetter (heap_text h)
heap_letters heap.Any fits = letters (codes "any") refl
heap_letters heap.Eq fits = letters (codes "eq") refl
heap_letters heap.I31 fits = letters (codes "i31") refl
heap_letters heap.Struct fits = letters (codes "struct") refl
heap_letters heap.Array fits = letters (codes "array") refl
heap_letters heap.None fits = letters (codes "none") refl
heap_letters heap.Extern fits = letters (codes "extern") refl
heap_letters heap.NoExtern fits = letters (codes "noextern") refl
heap_letters heap.Exn fits = letters (codes "exn") refl
heap_letters heap.NoExn fits = letters (codes "noexn") refl
heap_letters (heap.Named t) fits = (omega arith, digit_letters (decimal t) (digits_decimal own t (omega arith)))

-- no name of a heap type ends with the mark
no_mark : (h : HeapWord) → FitsHeap h → (front : List ℕ) → heap_text h ≡ front ++ codes "!" → ⊥
no_mark h fits front e =
    let all : AllByRecursion IsLetter (front ++ codes "!") = subst (AllByRecursion IsLetter) e (heap_letters h fits) in
    let above : 33 < 33 = last_of IsLetter front 33 all in
    omega arith

one_heap : (g h : HeapWord) → FitsHeap g → FitsHeap h → heap_text g ≡ heap_text h → g ≡ h
one_heap heap.Any heap.Any g_fits h_fits e = refl
one_heap heap.Eq heap.Eq g_fits h_fits e = refl
one_heap heap.I31 heap.I31 g_fits h_fits e = refl
one_heap heap.Struct heap.Struct g_fits h_fits e = refl
one_heap heap.Array heap.Array g_fits h_fits e = refl
one_heap heap.None heap.None g_fits h_fits e = refl
one_heap heap.Extern heap.Extern g_fits h_fits e = refl
one_heap heap.NoExtern heap.NoExtern g_fits h_fits e = refl
one_heap heap.Exn heap.Exn g_fits h_fits e = refl
one_heap heap.NoExn heap.NoExn g_fits h_fits e = refl
one_heap (heap.Named m) (heap.Named n) g_fits h_fits e =
    ap heap.Named (decimal_injective m n (omega arith) (omega arith) (append_cancel_left (codes "t") (decimal m) (decimal n) e))
one_heap g h g_fits h_fits e = differ _ _ (λ a b c d. omega arith) e

one_reference : (g h : HeapWord) (m n : Bool) → FitsHeap g → FitsHeap h → heap_text g ++ null_mark m ≡ heap_text h ++ null_mark n → (g ≡ h) × (m ≡ n)
one_reference g h true true g_fits h_fits e = (one_heap g h g_fits h_fits (sym (append-nil (heap_text g)) ∙ e ∙ append-nil (heap_text h)), refl)
one_reference g h false false g_fits h_fits e = (one_heap g h g_fits h_fits (append_cancel_right (heap_text g) (heap_text h) (codes "!") e), refl)
one_reference g h true false g_fits h_fits e = absurd (no_mark g g_fits (heap_text h) (sym (append-nil (heap_text g)) ∙ e))
one_reference g h false true g_fits h_fits e = absurd (no_mark h h_fits (heap_text g) (sym (append-nil (heap_text h)) ∙ sym e))

not_i32 : (h : HeapWord) (n : Bool) → heap_text h ++ null_mark n ≡ codes "i32" → ⊥
not_i32 heap.Any n e = differ _ _ (λ a b c d. omega arith) e
not_i32 h n e = differ _ _ (λ a b c d. omega arith) e

not_i64 : (h : HeapWord) (n : Bool) → heap_text h ++ null_mark n ≡ codes "i64" → ⊥
not_i64 heap.Any n e = differ _ _ (λ a b c d. omega arith) e
not_i64 h n e = differ _ _ (λ a b c d. omega arith) e

not_f32 : (h : HeapWord) (n : Bool) → heap_text h ++ null_mark n ≡ codes "f32" → ⊥
not_f32 heap.Any n e = differ _ _ (λ a b c d. omega arith) e
not_f32 h n e = differ _ _ (λ a b c d. omega arith) e

not_f64 : (h : HeapWord) (n : Bool) → heap_text h ++ null_mark n ≡ codes "f64" → ⊥
not_f64 heap.Any n e = differ _ _ (λ a b c d. omega arith) e
not_f64 h n e = differ _ _ (λ a b c d. omega arith) e

not_v128 : (h : HeapWord) (n : Bool) → heap_text h ++ null_mark n ≡ codes "v128" → ⊥
not_v128 heap.Any n e = differ _ _ (λ a b c d. omega arith) e
not_v128 h n e = differ _ _ (λ a b c d. omega arith) e

pub one_value : (x y : ValueWord) → FitsValue x → FitsValue y → value_type_text x ≡ value_type_text y → x ≡ y
one_value value.I32 value.I32 x_fits y_fits e = refl
one_value value.I64 value.I64 x_fits y_fits e = refl
one_value value.F32 value.F32 x_fits y_fits e = refl
one_value value.F64 value.F64 x_fits y_fits e = refl
one_value value.V128 value.V128 x_fits y_fits e = refl
one_value (value.Ref g m) (value.Ref h n) x_fits y_fits e =
    let same = one_reference g h m n x_fits y_fits e in
    ap (λ k. value.Ref k m) same.0 ∙ ap (value.Ref h) same.1
one_value value.I32 (value.Ref h n) x_fits y_fits e = absurd (not_i32 h n (sym e))
one_value (value.Ref h n) value.I32 x_fits y_fits e = absurd (not_i32 h n e)
one_value value.I64 (value.Ref h n) x_fits y_fits e = absurd (not_i64 h n (sym e))
one_value (value.Ref h n) value.I64 x_fits y_fits e = absurd (not_i64 h n e)
one_value value.F32 (value.Ref h n) x_fits y_fits e = absurd (not_f32 h n (sym e))
one_value (value.Ref h n) value.F32 x_fits y_fits e = absurd (not_f32 h n e)
one_value value.F64 (value.Ref h n) x_fits y_fits e = absurd (not_f64 h n (sym e))
one_value (value.Ref h n) value.F64 x_fits y_fits e = absurd (not_f64 h n e)
one_value value.V128 (value.Ref h n) x_fits y_fits e = absurd (not_v128 h n (sym e))
one_value (value.Ref h n) value.V128 x_fits y_fits e = absurd (not_v128 h n e)
one_value x y x_fits y_fits e = differ _ _ (λ a b c d. omega arith) e

wide_reference : (h : HeapWord) (n : Bool) → get_or (heap_text h ++ null_mark n) 0 0 ≡ 105 → (51 ≤ get_or (heap_text h ++ null_mark n) 1 0) × (get_or (heap_text h ++ null_mark n) 1 0 ≤ 54)
wide_reference heap.Any n e = (omega arith, omega arith)
wide_reference h n e = (omega arith, omega arith)

-- a value type that begins with an `i` has 3 to 6 behind it
wide : (v : ValueWord) → get_or (value_type_text v) 0 0 ≡ 105 → (51 ≤ get_or (value_type_text v) 1 0) × (get_or (value_type_text v) 1 0 ≤ 54)
wide (value.Ref h n) e = wide_reference h n e
wide v e = (omega arith, omega arith)

not_packed : (v : ValueWord) (t : List ℕ) → get_or t 0 0 ≡ 105 → (get_or t 1 0 < 51) ⊎ (54 < get_or t 1 0) → value_type_text v ≡ t → ⊥
not_packed v t first second e =
    let at = wide v (ap (λ w. get_or w 0 0) e ∙ first) in
    let same = ap (λ w. get_or w 1 0) e in
    ⊎_elim (λ low. omega arith) (λ high. omega arith) second

one_storage : (x y : StorageWord) → FitsStorage x → FitsStorage y → storage_text x ≡ storage_text y → x ≡ y
one_storage storage.I8 storage.I8 x_fits y_fits e = refl
one_storage storage.I16 storage.I16 x_fits y_fits e = refl
one_storage (storage.Value v) (storage.Value w) x_fits y_fits e = ap storage.Value (one_value v w x_fits y_fits e)
one_storage storage.I8 (storage.Value v) x_fits y_fits e = absurd (not_packed v (codes "i8") refl (inr (omega arith)) (sym e))
one_storage storage.I16 (storage.Value v) x_fits y_fits e = absurd (not_packed v (codes "i16") refl (inl (omega arith)) (sym e))
one_storage (storage.Value v) storage.I8 x_fits y_fits e = absurd (not_packed v (codes "i8") refl (inr (omega arith)) e)
one_storage (storage.Value v) storage.I16 x_fits y_fits e = absurd (not_packed v (codes "i16") refl (inl (omega arith)) e)
one_storage x y x_fits y_fits e = differ _ _ (λ a b c d. omega arith) e

one_field_by : (m n : Bool) (x y : StorageWord) → FitsStorage x → FitsStorage y → mutability_text m ++ storage_text x ≡ mutability_text n ++ storage_text y
    → (m ≡ n) × (x ≡ y)
one_field_by true true x y x_fits y_fits e = (refl, one_storage x y x_fits y_fits (append_cancel_left (codes "m:") (storage_text x) (storage_text y) e))
one_field_by false false x y x_fits y_fits e = (refl, one_storage x y x_fits y_fits (append_cancel_left (codes "c:") (storage_text x) (storage_text y) e))
one_field_by true false x y x_fits y_fits e = differ _ _ (λ a b c d. omega arith) e
one_field_by false true x y x_fits y_fits e = differ _ _ (λ a b c d. omega arith) e

abbrev field_with : Bool → StorageWord → FieldWord
field_with mutable storage = record { mutable = mutable; storage = storage }

pub one_field : (x y : FieldWord) → FitsField x → FitsField y → field_text x ≡ field_text y → x ≡ y
one_field x y x_fits y_fits e =
    let same = one_field_by x.mutable y.mutable x.storage y.storage x_fits y_fits e in
    ap (λ m. field_with m x.storage) same.0 ∙ ap (field_with y.mutable) same.1

-- where the name in front of the mark is none, no reference is spelled
pub no_marked : (word name : List ℕ) → word ≡ name ++ codes "!" → ((h : HeapWord) → FitsHeap h → name ≡ heap_text h → ⊥) → (x : ValueWord) → FitsReference x → word ≡ value_type_text x → ⊥
no_marked word name at none (value.Ref h true) fits e = no_mark h fits name (sym (append-nil (heap_text h)) ∙ sym e ∙ at)
no_marked word name at none (value.Ref h false) fits e = none h fits (append_cancel_right name (heap_text h) (codes "!") (sym at ∙ e))
no_marked word name at none x fits e = absurd fits

-- nor where there is no mark, and the word is no name
pub no_unmarked : (word : List ℕ) → ((front : List ℕ) → word ≡ front ++ codes "!" → ⊥) → ((h : HeapWord) → FitsHeap h → word ≡ heap_text h → ⊥) → (x : ValueWord) → FitsReference x
    → word ≡ value_type_text x → ⊥
no_unmarked word unmarked none (value.Ref h true) fits e = none h fits (e ∙ append-nil (heap_text h))
no_unmarked word unmarked none (value.Ref h false) fits e = unmarked (heap_text h) e
no_unmarked word unmarked none x fits e = absurd fits

none_value : (word : List ℕ) → (word ≡ codes "i32" → ⊥) → (word ≡ codes "i64" → ⊥) → (word ≡ codes "f32" → ⊥) → (word ≡ codes "f64" → ⊥) → (word ≡ codes "v128" → ⊥)
    → ((x : ValueWord) → FitsReference x → word ≡ value_type_text x → ⊥) → (x : ValueWord) → FitsValue x → word ≡ value_type_text x → ⊥
none_value word a b c d f none value.I32 fits e = a e
none_value word a b c d f none value.I64 fits e = b e
none_value word a b c d f none value.F32 fits e = c e
none_value word a b c d f none value.F64 fits e = d e
none_value word a b c d f none value.V128 fits e = f e
none_value word a b c d f none (value.Ref h n) fits e = none (value.Ref h n) fits e

-- a word that spells no number type spells a reference or nothing
pub value_read : (word : List ℕ) (r : Option ValueWord) → (word ≡ codes "i32" → ⊥) → (word ≡ codes "i64" → ⊥) → (word ≡ codes "f32" → ⊥) → (word ≡ codes "f64" → ⊥) → (word ≡ codes "v128" → ⊥)
    → Reads FitsReference value_type_text word r → Reads FitsValue value_type_text word r
value_read word (Some (value.Ref h n)) a b c d e read = read
value_read word (Some x) a b c d e read = absurd read.0
value_read word None a b c d e read = none_value word a b c d e read

none_heap : (word : List ℕ) → (word ≡ codes "any" → ⊥) → (word ≡ codes "eq" → ⊥) → (word ≡ codes "i31" → ⊥) → (word ≡ codes "struct" → ⊥) → (word ≡ codes "array" → ⊥) → (word ≡ codes "none" → ⊥) → (word ≡ codes "extern" → ⊥) → (word ≡ codes "noextern" → ⊥) → (word ≡ codes "exn" → ⊥) → (word ≡ codes "noexn" → ⊥)
    → ((x : HeapWord) → FitsNamed x → word ≡ heap_text x → ⊥) → (x : HeapWord) → FitsHeap x → word ≡ heap_text x → ⊥
none_heap word n0 n1 n2 n3 n4 n5 n6 n7 n8 n9 none heap.Any fits e = n0 e
none_heap word n0 n1 n2 n3 n4 n5 n6 n7 n8 n9 none heap.Eq fits e = n1 e
none_heap word n0 n1 n2 n3 n4 n5 n6 n7 n8 n9 none heap.I31 fits e = n2 e
none_heap word n0 n1 n2 n3 n4 n5 n6 n7 n8 n9 none heap.Struct fits e = n3 e
none_heap word n0 n1 n2 n3 n4 n5 n6 n7 n8 n9 none heap.Array fits e = n4 e
none_heap word n0 n1 n2 n3 n4 n5 n6 n7 n8 n9 none heap.None fits e = n5 e
none_heap word n0 n1 n2 n3 n4 n5 n6 n7 n8 n9 none heap.Extern fits e = n6 e
none_heap word n0 n1 n2 n3 n4 n5 n6 n7 n8 n9 none heap.NoExtern fits e = n7 e
none_heap word n0 n1 n2 n3 n4 n5 n6 n7 n8 n9 none heap.Exn fits e = n8 e
none_heap word n0 n1 n2 n3 n4 n5 n6 n7 n8 n9 none heap.NoExn fits e = n9 e
none_heap word n0 n1 n2 n3 n4 n5 n6 n7 n8 n9 none (heap.Named t) fits e = none (heap.Named t) fits e

-- a word that is no plain name of a heap type spells one with an index or nothing
pub heap_read : (word : List ℕ) (r : Option HeapWord) → (word ≡ codes "any" → ⊥) → (word ≡ codes "eq" → ⊥) → (word ≡ codes "i31" → ⊥) → (word ≡ codes "struct" → ⊥) → (word ≡ codes "array" → ⊥) → (word ≡ codes "none" → ⊥) → (word ≡ codes "extern" → ⊥) → (word ≡ codes "noextern" → ⊥) → (word ≡ codes "exn" → ⊥) → (word ≡ codes "noexn" → ⊥)
    → Reads FitsNamed heap_text word r → Reads FitsHeap heap_text word r
heap_read word (Some (heap.Named t)) n0 n1 n2 n3 n4 n5 n6 n7 n8 n9 read = read
heap_read word (Some x) n0 n1 n2 n3 n4 n5 n6 n7 n8 n9 read = absurd read.0
heap_read word None n0 n1 n2 n3 n4 n5 n6 n7 n8 n9 read = none_heap word n0 n1 n2 n3 n4 n5 n6 n7 n8 n9 read

-- where a word spells no value and is no packed type, it spells no storage
pub no_storage : (word : List ℕ) → (word ≡ codes "i8" → ⊥) → (word ≡ codes "i16" → ⊥) → ((v : ValueWord) → FitsValue v → word ≡ value_type_text v → ⊥) → (x : StorageWord) → FitsStorage x
    → word ≡ storage_text x → ⊥
no_storage word small large none storage.I8 fits e = small e
no_storage word small large none storage.I16 fits e = large e
no_storage word small large none (storage.Value v) fits e = none v fits e

-- a word that begins with no `t` has no index
pub no_named : (word : List ℕ) → ((rest : List ℕ) → word ≡ 116 ∷ rest → ⊥) → (x : HeapWord) → FitsNamed x → word ≡ heap_text x → ⊥
no_named word none (heap.Named t) fits e = none (decimal t) e
no_named word none x fits e = absurd fits
