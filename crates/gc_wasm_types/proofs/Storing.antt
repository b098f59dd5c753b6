-- What storing the word of a root writes, or why it is refused.
use Rattle.std.proofs.Common.{inl, inr, ◌≡◌, ℕ, true, false, List, Result, Ok, Err, sym, ap, ◌∙◌, ◌+◌, ◌*◌, refl, subst, arith}
use Rattle.std.specs.Prelude.{Bool, ◌<◌, IfOk}
use Rattle.gc_types.specs.declared.kind.Layouts.{Layouts}
use Rattle.gc_types.specs.declared.kind.VMGcKind.{VMGcKind}
use Rattle.gc_model.specs.Accounts.{Account, HoldsAccount}
use Rattle.gc_model.specs.Holds.{Placing, Holds, HoldsTable, IsWord}
use Rattle.gc_model.specs.Stores.{StoreView}
use Rattle.gc_model.specs.Table.{Table}
use Rattle.gc_model.specs.Values.{Reference, null, small}
use Rattle.gc_values.specs.declared.root.GcRootIndex.{GcRootIndex}
use Rattle.gc_values.specs.declared.root.RootFault.{RootFault}
use Rattle.gc_values.specs.declared.root.RootFault.TheVariants as fault
use Rattle.gc_store.specs.Roots.{is_of_store, NamesReference, NamesNothing, TellsWord}
use Rattle.gc_store.specs.Kinds.{NamesKind}
use Rattle.gc_store.specs.RawWords.{IsRawWord}
use Rattle.gc_objects.proofs.WordLemmas.{told_kind}
use Rattle.gc_objects.proofs.Naming.{bool_cases, named_or_not}
use Rattle.gc_wasm_types.specs.Loads.{CanLoad, IsWordOfWasmKind, ValueIsOf}
use Rattle.gc_wasm_types.specs.Values.{WasmKind, numbers, references, WasmValue, absent, number, handle, word_bytes, raw_word, StoresWord}

module _ {D : Type 0} (layouts : Layouts) (s : StoreView D) (t : Table D) (place : Placing) (holds : Holds layouts s t place) (root : GcRootIndex) (result : Result ℕ RootFault)
    (wrong : is_of_store s root ≡ false → result ≡ Err fault.WrongStore)
    (live : (t : Table D) (place : Placing) (r : Reference) → Holds layouts s t place → NamesReference s t root r → TellsWord place r result)
    (gone : is_of_store s root ≡ true → (t : Table D) → HoldsTable layouts s t → NamesNothing s t root → result ≡ Err fault.Unrooted) where
  pub word_stored : (word : ℕ) → result ≡ Ok word → (bytes : List ℕ) → bytes ≡ word_bytes word → raw_word bytes ≡ word → StoresWord s t place (handle root) bytes (Ok tt)
  word_stored word is bytes bytes_are word_is =
      elim (named_or_not s t root) [
        | inl found ↦ (
          bytes_are ∙ ap word_bytes (sym word_is),
          (found.0, (found.1, subst (IsWord place found.0) (sym word_is) (subst (TellsWord place found.0) is (live t place found.0 holds found.1)))),
        )
        | inr nothing ↦ elim (bool_cases (is_of_store s root)) [
          | inl own ↦ absurd (cc (sym is ∙ gone own t (place, holds) nothing))
          | inr other ↦ absurd (cc (sym is ∙ wrong other))
        ]
      ]

  pub not_stored : (why : RootFault) → result ≡ Err why → (bytes : List ℕ) → StoresWord s t place (handle root) bytes (Err why)
  not_stored why is bytes =
      elim (named_or_not s t root) [
        | inl found ↦ absurd (subst (TellsWord place found.0) is (live t place found.0 holds found.1))
        | inr nothing ↦ elim (bool_cases (is_of_store s root)) [
          | inl own ↦
              let both = sym (gone own t (place, holds) nothing) ∙ is in
              let same : fault.Unrooted ≡ why = grind (arith, both) in
              subst (λ (f : RootFault). StoresWord s t place (handle root) bytes (Err f)) same (own, nothing)
          | inr other ↦
              let both = sym (wrong other) ∙ is in
              let same : fault.WrongStore ≡ why = grind (arith, both) in
              subst (λ (f : RootFault). StoresWord s t place (handle root) bytes (Err f)) same other
        ]
      ]

module _ {D : Type 0} (layouts : Layouts) (s : StoreView D) (root : GcRootIndex) (result : Result ℕ RootFault)
    (wrong : is_of_store s root ≡ false → result ≡ Err fault.WrongStore)
    (live : (t : Table D) (place : Placing) (r : Reference) → Holds layouts s t place → NamesReference s t root r → TellsWord place r result)
    (gone : is_of_store s root ≡ true → (t : Table D) → HoldsTable layouts s t → NamesNothing s t root → result ≡ Err fault.Unrooted) where
  -- the word may be loaded, as one of the kind that the root names
  pub word_loads : (new : StoreView D) → new ≡ s → (kind : VMGcKind) (nullable : Bool) → NamesKind D layouts s kind root → (word : ℕ) → result ≡ Ok word → 0 < word → (bytes : List ℕ) → raw_word bytes ≡ word → CanLoad D layouts new (references kind) nullable (raw_word bytes)
  word_loads new rest kind nullable names word is positive bytes word_is =
      let raw : IsRawWord D layouts s kind word = subst (λ (q : Result ℕ RootFault). IfOk q (IsRawWord D layouts s kind)) is (told_kind D layouts s kind root names result wrong live gone) in
      let own = raw positive in
      let word_of : IsWordOfWasmKind D layouts s (references kind) word = record { table = own.table; place = own.place; holds = own.holds; root = own.root; is_word = own.is_word; of_kind = own.of_kind } in
      let can : CanLoad D layouts s (references kind) nullable word = record { present = λ e. positive; word_of = λ p. word_of } in
      subst (λ (v : StoreView D). CanLoad D layouts v (references kind) nullable (raw_word bytes)) (sym rest) (subst (λ (n : ℕ). CanLoad D layouts s (references kind) nullable n) (sym word_is) can)

-- so of a value by what it is
module _ {D : Type 0} (s : StoreView D) (t : Table D) (place : Placing) (v : WasmValue) (bytes : List ℕ) where
  pub stores_handle : (root h : GcRootIndex) → root ≡ h → v ≡ handle h → (result : Result (Unit {0}) RootFault) → StoresWord s t place (handle root) bytes result → StoresWord s t place v bytes result
  stores_handle root h same is result told =
      subst (λ (x : WasmValue). StoresWord s t place x bytes result) (sym is) (subst (λ (x : GcRootIndex). StoresWord s t place (handle x) bytes result) same told)

  module _ (word : ℕ) (bytes_are : bytes ≡ word_bytes word) (word_is : raw_word bytes ≡ word) where
    pub stores_absent : v ≡ absent → word ≡ 0 → StoresWord s t place v bytes (Ok tt)
    stores_absent is zero =
        subst (λ (x : WasmValue). StoresWord s t place x bytes (Ok tt)) (sym is) (bytes_are ∙ ap word_bytes (sym word_is), (null, (refl, word_is ∙ zero)))

    pub stores_number : (n : ℕ) → v ≡ number n → word ≡ 2 * n + 1 → StoresWord s t place v bytes (Ok tt)
    stores_number n is odd =
        subst (λ (x : WasmValue). StoresWord s t place x bytes (Ok tt)) (sym is) (bytes_are ∙ ap word_bytes (sym word_is), (small n, (refl, word_is ∙ odd)))

-- null and numbers may be loaded
pub absent_loads : (D : Type 0) (layouts : Layouts) (s : StoreView D) (kind : WasmKind) (word : ℕ) → word ≡ 0 → CanLoad D layouts s kind true word
absent_loads D layouts s kind word zero = record { present = λ e. absurd (cc e); word_of = λ positive. absurd (omega (arith, positive, zero)) }

pub number_loads : (D : Type 0) (layouts : Layouts) (s : StoreView D) (t : Table D) (a : Account) → HoldsAccount layouts s t a → (nullable : Bool) (word n : ℕ) → word ≡ 2 * n + 1 → CanLoad D layouts s numbers nullable word
number_loads D layouts s t a holds nullable word n odd = record {
  present = λ e. omega (arith, odd);
  word_of = λ positive. record { table = t; place = holds.place; holds = holds.holds; root = small n; is_word = odd; of_kind = (n, refl) };
}

-- what is known of a value is known of the handle that it is
pub names_handle : (D : Type 0) (layouts : Layouts) (s : StoreView D) (kind : VMGcKind) (v : WasmValue) (root h : GcRootIndex) → root ≡ h → v ≡ handle h → ValueIsOf D layouts s (references kind) v → NamesKind D layouts s kind root
names_handle D layouts s kind v root h same is of =
    subst (NamesKind D layouts s kind) (sym same) (subst (λ (x : WasmValue). ValueIsOf D layouts s (references kind) x) is of)
