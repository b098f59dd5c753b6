-- A value as a read answers it.
use Rattle.std.proofs.Common.{◌≡◌, ℕ, ℤ, ◌^◌, ◌<◌, true, Some, None, Ok, Err, sym, ap, ◌∙◌, refl, subst, arith}
use Rattle.std.specs.Prelude.{Option, Result, OnOk}
use Rattle.std.specs.Int.{w32, w64, cast_signed, cast_unsigned}
use Rattle.std.proofs.lemmas.Int.{of_z-to_z}
use Rattle.gc_types.specs.declared.kind.Layouts.{Layouts}
use Rattle.gc_types.specs.declared.value.Func.{Func}
use Rattle.gc_owner.specs.declared.entry.GcClass.{GcClass}
use Rattle.gc_model.specs.Values.{Reference, null, small, at, Value, numeric, i32, i64, f32, f64, v128, function, continuation, reference, number_bits}
use Rattle.gc_model.specs.Table.{Table, push}
use Rattle.gc_model.specs.Reads.{makes_root, after_read}
use Rattle.gc_model.specs.Stores.{StoreView}
use Rattle.gc_model.specs.Forms.{Names, InternedIds, IsContCode, IsIdCode}
use Rattle.gc_model.specs.Holds.{Placing, IsWord, Holds}
use Rattle.gc_model.proofs.Words.{place_even}
use Rattle.gc_model.specs.Accounts.{Account, HoldsAccount, IsAccount}
use Rattle.gc_values.specs.declared.root.GcRootIndex.{GcRootIndex}
use Rattle.gc_values.specs.declared.root.RawValue.{RawValue}
use Rattle.gc_values.specs.declared.root.RawValue.TheVariants as raw
use Rattle.gc_values.specs.declared.root.RootFault.{RootFault}
use Rattle.gc_values.specs.declared.root.RootFault.TheVariants as fault
use Rattle.gc_values.specs.declared.stored.Found.TheVariants as found
use Rattle.gc_values.specs.Kept.{FoundStands}
use Rattle.gc_store.specs.Handles.{PushesRoot}
use Rattle.gc_store.specs.OwnedWords.{HoldsThere}
use Rattle.gc_store.specs.RawWords.{PushesWord}
use Rattle.gc_store.specs.Reading.{ReadsReference, reference_value}
use Rattle.gc_store.specs.Values.{ReadsValue}

module _ {D : Type 0} (layouts : Layouts) (s : StoreView D) (t : Table D) (place : Placing) (holds : Holds layouts s t place) where
  pub null_word : (r : Reference) → IsWord place r 0 → r ≡ null
  null_word null is = refl
  null_word (small n) is = absurd (omega (arith, is))
  null_word (at p) is = absurd (omega (arith, (place_even layouts t place s.heap holds.objects p 0 is).1))

-- the word 0 is read as null
pub reads_null : {D : Type 0} (layouts : Layouts) (s : StoreView D) (word : ℕ) → word ≡ 0 → ReadsReference layouts s word (Ok None) s
reads_null {D} layouts s word zero t place a class r holds account is =
    let none : r ≡ null = null_word layouts s t place holds r (subst (IsWord place r) zero is) in
    subst (λ (x : Reference). ReadsValue layouts t a (reference class x) (Ok (raw.Ref class None)) s) (sym none)
    (λ makes. absurd (cc makes), (refl, record { place = place; holds = holds; account = account }))

-- the word of any class that is not 0 is read as a handle of a new root
pub reads_pushed : {D : Type 0} (layouts : Layouts) (t : Table D) (a : Account) (place : Placing) (class : GcClass) (r : Reference) (word : ℕ) (handle : GcRootIndex) (new : StoreView D) → IsWord place r word → 0 < word → PushesRoot layouts t a r (Ok handle) new → ReadsValue layouts t a (reference class r) (Ok (raw.Ref class (Some handle))) new
reads_pushed layouts t a place class null word handle new is positive pushes = absurd (omega (arith, is, positive))
reads_pushed layouts t a place class (small n) word handle new is positive pushes = (λ makes. pushes.0, (ap (λ h. raw.Ref class (Some h)) pushes.1.0, pushes.1.1))
reads_pushed layouts t a place class (at p) word handle new is positive pushes = (λ makes. pushes.0, (ap (λ h. raw.Ref class (Some h)) pushes.1.0, pushes.1.1))

makes_one : (place : Placing) (class : GcClass) (r : Reference) (word : ℕ) → IsWord place r word → 0 < word → makes_root (reference class r) ≡ true
makes_one place class null word is positive = absurd (omega (arith, is, positive))
makes_one place class (small n) word is positive = refl
makes_one place class (at p) word is positive = refl

-- or it is refused one
pub reads_refused : {D : Type 0} (layouts : Layouts) (t : Table D) (a : Account) (place : Placing) (class : GcClass) (r : Reference) (word : ℕ) (f : RootFault) (new : StoreView D) → IsWord place r word → 0 < word → PushesRoot layouts t a r (Err f) new → ReadsValue layouts t a (reference class r) (Err f) new
reads_refused layouts t a place class r word fault.WrongStore new is positive pushes = absurd pushes
reads_refused layouts t a place class r word fault.Unrooted new is positive pushes = absurd pushes
reads_refused layouts t a place class r word fault.RootsFull new is positive pushes = (makes_one place class r word is positive, (pushes.0, pushes.1))
reads_refused layouts t a place class r word fault.Memory new is positive pushes = (makes_one place class r word is positive, pushes)

-- What reading a reference answers and leaves is what a push of its word does
same_handle : (class : GcClass) (h k : GcRootIndex) → raw.Ref class (Some h) ≡ raw.Ref class (Some k) → h ≡ k
same_handle class h k e = grind (arith, e)

pub pushes_word : {D : Type 0} (layouts : Layouts) (t : Table D) (place : Placing) (a : Account) (class : GcClass) (r : Reference) (answer : Result (Option GcRootIndex) RootFault) (new : StoreView D) → ReadsValue layouts t a (reference class r) (reference_value class answer) new
    → OnOk answer (HoldsThere layouts new (after_read (reference class r) t) place a) → PushesWord layouts t place a r answer new
pushes_word layouts t place a class null (Ok None) new reads there = (refl, there)
pushes_word layouts t place a class (small n) (Ok None) new reads there = absurd (cc (reads.1.0))
pushes_word layouts t place a class (at p) (Ok None) new reads there = absurd (cc (reads.1.0))
pushes_word layouts t place a class null (Ok (Some h)) new reads there = absurd (cc (reads.1.0))
pushes_word layouts t place a class (small n) (Ok (Some h)) new reads there = ((reads.0 refl, (same_handle class h _ reads.1.0, reads.1.1)), there)
pushes_word layouts t place a class (at p) (Ok (Some h)) new reads there = ((reads.0 refl, (same_handle class h _ reads.1.0, reads.1.1)), there)
pushes_word layouts t place a class r (Err fault.WrongStore) new reads there = absurd reads
pushes_word layouts t place a class r (Err fault.Unrooted) new reads there = absurd reads
pushes_word layouts t place a class r (Err fault.RootsFull) new reads there = reads.1
pushes_word layouts t place a class r (Err fault.Memory) new reads there = reads.1

-- What was found is read as it is

signed_32 : (n code : ℕ) (z : ℤ) → code < 2 ^ 32 → code ≡ n → z ≡ cast_signed w32 code → n ≡ number_bits w32 z
signed_32 n code z below is same =
    sym is ∙ sym (ap (λ y. cast_unsigned w32 (cast_signed w32 (cast_unsigned w32 y))) same ∙ ap (λ m. cast_unsigned w32 (cast_signed w32 m)) (of_z-to_z w32 code below) ∙ of_z-to_z w32 code below)

signed_64 : (n code : ℕ) (z : ℤ) → code < 2 ^ 64 → code ≡ n → z ≡ cast_signed w64 code → n ≡ number_bits w64 z
signed_64 n code z below is same =
    sym is ∙ sym (ap (λ y. cast_unsigned w64 (cast_signed w64 (cast_unsigned w64 y))) same ∙ ap (λ m. cast_unsigned w64 (cast_signed w64 m)) (of_z-to_z w64 code below) ∙ of_z-to_z w64 code below)

same_number : (r q : RawValue) → found.Number r ≡ found.Number q → r ≡ q
same_number r q e = grind (arith, e)

module _ {D : Type 0} (layouts : Layouts) (s : StoreView D) (t : Table D) (a : Account) (holds : HoldsAccount layouts s t a) (names : Names) where
  -- a number
  pub reads_number : (v : Value) (r : RawValue) → FoundStands names (found.Number r) v → ReadsValue layouts t a v (Ok r) s
  reads_number (numeric i32 n) r is = (λ makes. absurd (cc makes), ((cast_signed w32 is.code, (same_number r _ is.found, signed_32 n is.code _ is.small is.is_code refl)), holds))
  reads_number (numeric i64 n) r is = (λ makes. absurd (cc makes), ((cast_signed w64 is.code, (same_number r _ is.found, signed_64 n is.code _ is.small is.is_code refl)), holds))
  reads_number (numeric f32 n) r is = (λ makes. absurd (cc makes), (same_number r _ is.found ∙ ap raw.F32 is.is_code, holds))
  reads_number (numeric f64 n) r is = (λ makes. absurd (cc makes), (same_number r _ is.found ∙ ap raw.F64 is.is_code, holds))
  reads_number (numeric v128 n) r is = (λ makes. absurd (cc makes), (same_number r _ is.found ∙ ap raw.V128 is.is_code, holds))
  reads_number (function f) r is = absurd (cc (is.found))
  reads_number (continuation c) r is = absurd (cc (is.found))
  reads_number (reference class p) r is = absurd (cc (is.found))

-- a function value or none, by the number that stands for it
pub record FoundFunction (ids : InternedIds) (code : ℕ) (v : Value) : Type 0 where
  pub func : Option Func
  pub is : v ≡ function func
  pub is_code : IsIdCode ids.funcs func code

pub found_function : (names : Names) (code : ℕ) (v : Value) → FoundStands names (found.Func code) v → FoundFunction names.ids code v
found_function names code (numeric i32 n) is = absurd (cc (is.found))
found_function names code (numeric i64 n) is = absurd (cc (is.found))
found_function names code (numeric f32 n) is = absurd (cc (is.found))
found_function names code (numeric f64 n) is = absurd (cc (is.found))
found_function names code (numeric v128 n) is = absurd (cc (is.found))
found_function names code (function f) is = record { func = f; is = refl; is_code = subst (IsIdCode names.ids.funcs f) (grind (arith, sym is.found)) is.is_code }
found_function names code (continuation c) is = absurd (cc (is.found))
found_function names code (reference class r) is = absurd (cc (is.found))

pub reads_function : {D : Type 0} (layouts : Layouts) (s : StoreView D) (t : Table D) (a : Account) → HoldsAccount layouts s t a → (ids : InternedIds) (code : ℕ) (v : Value) → FoundFunction ids code v → (answer : Option Func)
    → ((f : Option Func) → IsIdCode ids.funcs f code → answer ≡ f) → ReadsValue layouts t a v (Ok (raw.Func answer)) s
reads_function layouts s t a holds ids code v found answer is =
    subst (λ (x : Value). ReadsValue layouts t a x (Ok (raw.Func answer)) s) (sym found.is)
    (λ makes. absurd (cc makes), (ap raw.Func (is found.func found.is_code), holds))

-- a continuation or none
pub record FoundCont (ids : InternedIds) (code : ℕ) (v : Value) : Type 0 where
  pub cont : Option ℕ
  pub is : v ≡ continuation cont
  pub is_code : IsContCode ids.conts cont code

pub found_cont : (names : Names) (code : ℕ) (v : Value) → FoundStands names (found.Cont code) v → FoundCont names.ids code v
found_cont names code (numeric i32 n) is = absurd (cc (is.found))
found_cont names code (numeric i64 n) is = absurd (cc (is.found))
found_cont names code (numeric f32 n) is = absurd (cc (is.found))
found_cont names code (numeric f64 n) is = absurd (cc (is.found))
found_cont names code (numeric v128 n) is = absurd (cc (is.found))
found_cont names code (function f) is = absurd (cc (is.found))
found_cont names code (continuation c) is = record { cont = c; is = refl; is_code = subst (IsContCode names.ids.conts c) (grind (arith, sym is.found)) is.is_code }
found_cont names code (reference class r) is = absurd (cc (is.found))

pub reads_cont : {D : Type 0} (layouts : Layouts) (s : StoreView D) (t : Table D) (a : Account) → HoldsAccount layouts s t a → (ids : InternedIds) (code : ℕ) (v : Value) → FoundCont ids code v → (answer : Option ℕ)
    → ((c : Option ℕ) → IsContCode ids.conts c code → answer ≡ c) → ReadsValue layouts t a v (Ok (raw.Cont answer)) s
reads_cont layouts s t a holds ids code v found answer is =
    subst (λ (x : Value). ReadsValue layouts t a x (Ok (raw.Cont answer)) s) (sym found.is)
    (λ makes. absurd (cc makes), (ap raw.Cont (is found.cont found.is_code), holds))

-- or a reference of some class
pub record FoundReference (place : Placing) (class : GcClass) (word : ℕ) (v : Value) : Type 0 where
  pub root : Reference
  pub is : v ≡ reference class root
  pub is_word : IsWord place root word

pub found_reference : (names : Names) (class : GcClass) (word : ℕ) (v : Value) → FoundStands names (found.Ref class word) v → FoundReference names.place class word v
found_reference names class word (numeric i32 n) is = absurd (cc (is.found))
found_reference names class word (numeric i64 n) is = absurd (cc (is.found))
found_reference names class word (numeric f32 n) is = absurd (cc (is.found))
found_reference names class word (numeric f64 n) is = absurd (cc (is.found))
found_reference names class word (numeric v128 n) is = absurd (cc (is.found))
found_reference names class word (function f) is = absurd (cc (is.found))
found_reference names class word (continuation c) is = absurd (cc (is.found))
found_reference names class word (reference c r) is = record {
  root = r;
  is = ap (λ (x : GcClass). reference x r) (grind (arith, sym is.found));
  is_word = subst (IsWord names.place r) (grind (arith, sym is.found)) is.is_code;
}

pub reads_found : {D : Type 0} (layouts : Layouts) (old new : StoreView D) (t : Table D) (place : Placing) (a : Account) (class : GcClass) (word : ℕ) (v : Value) (answer : Result (Option GcRootIndex) RootFault) → Holds layouts old t place → IsAccount layouts old place a
    → FoundReference place class word v → ReadsReference layouts old word answer new → ReadsValue layouts t a v (reference_value class answer) new
reads_found layouts old new t place a class word v answer holds account is reads =
    subst (λ (x : Value). ReadsValue layouts t a x (reference_value class answer) new) (sym is.is) (reads t place a class is.root holds account is.is_word)

-- What a read leaves, with the objects where they lay

pub null_there : {D : Type 0} (layouts : Layouts) (s : StoreView D) (word : ℕ) → word ≡ 0 → (t : Table D) (place : Placing) (a : Account) (class : GcClass) (r : Reference) → HoldsThere layouts s t place a → IsWord place r word
    → HoldsThere layouts s (after_read (reference class r) t) place a
null_there layouts s word zero t place a class r there is =
    let none : r ≡ null = null_word layouts s t place there.0 r (subst (IsWord place r) zero is) in
    subst (λ (x : Reference). HoldsThere layouts s (after_read (reference class x) t) place a) (sym none) there

pub pushed_there : {D : Type 0} (layouts : Layouts) (new : StoreView D) (t : Table D) (place : Placing) (a : Account) (class : GcClass) (r : Reference) (word : ℕ) → IsWord place r word → 0 < word → HoldsThere layouts new (push r t) place a
    → HoldsThere layouts new (after_read (reference class r) t) place a
pushed_there layouts new t place a class null word is positive there = absurd (omega (arith, is, positive))
pushed_there layouts new t place a class (small n) word is positive there = there
pushed_there layouts new t place a class (at p) word is positive there = there

pub number_there : {D : Type 0} (layouts : Layouts) (s : StoreView D) (t : Table D) (place : Placing) (a : Account) (names : Names) (v : Value) (r : RawValue) → FoundStands names (found.Number r) v → HoldsThere layouts s t place a
    → HoldsThere layouts s (after_read v t) place a
number_there layouts s t place a names (numeric kind n) r is there = there
number_there layouts s t place a names (function f) r is there = there
number_there layouts s t place a names (continuation c) r is there = there
number_there layouts s t place a names (reference class p) r is there = absurd (cc (is.found))

pub found_there : {D : Type 0} (layouts : Layouts) (s : StoreView D) (t : Table D) (place : Placing) (a : Account) (class : GcClass) (word : ℕ) (v : Value) → (is : FoundReference place class word v)
    → HoldsThere layouts s (after_read (reference class is.root) t) place a → HoldsThere layouts s (after_read v t) place a
found_there layouts s t place a class word v is there = subst (λ (x : Value). HoldsThere layouts s (after_read x t) place a) (sym is.is) there

pub function_there : {D : Type 0} (layouts : Layouts) (s : StoreView D) (t : Table D) (place : Placing) (a : Account) (ids : InternedIds) (code : ℕ) (v : Value) → (is : FoundFunction ids code v) → HoldsThere layouts s t place a
    → HoldsThere layouts s (after_read v t) place a
function_there layouts s t place a ids code v is there = subst (λ (x : Value). HoldsThere layouts s (after_read x t) place a) (sym is.is) there

pub cont_there : {D : Type 0} (layouts : Layouts) (s : StoreView D) (t : Table D) (place : Placing) (a : Account) (ids : InternedIds) (code : ℕ) (v : Value) → (is : FoundCont ids code v) → HoldsThere layouts s t place a
    → HoldsThere layouts s (after_read v t) place a
cont_there layouts s t place a ids code v is there = subst (λ (x : Value). HoldsThere layouts s (after_read x t) place a) (sym is.is) there
