-- References by their raw words: of which kind they are.
use Rattle.std.proofs.Common.{inl, inr, ◌≡◌, ℕ, true, false, Some, Result, Ok, Err, IfOk, sym, subst, ◌↔◌, zero, suc, None, refl, ◌∙◌, arith, Option, ◌<◌}
use Rattle.std.proofs.lemmas.Option.{none-some}
use Rattle.gc_types.specs.declared.kind.Layouts.{Layouts}
use Rattle.gc_types.specs.declared.kind.VMGcKind.{VMGcKind}
use Rattle.gc_model.specs.Values.{Reference, null, small, at}
use Rattle.gc_model.specs.Table.{Table, push}
use Rattle.gc_model.specs.Stores.{StoreView}
use Rattle.gc_model.specs.Holds.{Placing, Holds, HoldsTable, IsWord}
use Rattle.gc_model.specs.Accounts.{Account}
use Rattle.gc_model.proofs.AccountLemmas.{own_account}
use Rattle.gc_values.specs.declared.root.GcRootIndex.{GcRootIndex}
use Rattle.gc_values.specs.declared.root.RootFault.{RootFault}
use Rattle.gc_values.specs.declared.root.RootFault.TheVariants as fault
use Rattle.gc_store.specs.OwnedWords.{HoldsThere}
use Rattle.gc_store.specs.RawWords.{IsWordOfKind, IsRawWord, PushesWord}
use Rattle.gc_store.specs.Roots.{is_of_store, NamesScoped, NamesReference, NamesNothing, TellsWord}
use Rattle.gc_store.specs.Kinds.{IsReferenceOfKind, NamesKind, IsScopedOfKind}
use Rattle.gc_objects.proofs.Naming.{bool_cases, named_or_not}
use Rattle.gc_objects.proofs.Pushed.{are_before, names_pushed}

-- What a handle of a kind is told as is the word of a reference of that kind.
pub told_kind : (D : Type 0) (layouts : Layouts) (s : StoreView D) (kind : VMGcKind) (handle : GcRootIndex) → NamesKind D layouts s kind handle → (result : Result ℕ RootFault)
    → (is_of_store s handle ≡ false → result ≡ Err fault.WrongStore)
    → ((t : Table D) (place : Placing) (r : Reference) → Holds layouts s t place → NamesReference s t handle r → TellsWord place r result)
    → (is_of_store s handle ≡ true → (t : Table D) → HoldsTable layouts s t → NamesNothing s t handle → result ≡ Err fault.Unrooted)
    → IfOk result (IsRawWord D layouts s kind)
told_kind D layouts s kind handle names (Ok word) wrong live gone = λ positive.
    elim (named_or_not s names.table handle) [
      | inl named ↦ record {
        table = names.table;
        place = names.holds.0;
        holds = names.holds.1;
        root = named.0;
        is_word = live names.table names.holds.0 named.0 names.holds.1 named.1;
        of_kind = names.is named.0 named.1;
      }
      | inr nothing ↦ elim (bool_cases (is_of_store s handle)) [
        | inl own ↦ absurd (cc (gone own names.table names.holds nothing))
        | inr other ↦ absurd (cc (wrong other))
      ]
    ]
told_kind D layouts s kind handle names (Err why) wrong live gone = tt

-- so by the root of the handle that was given
pub told_here : (D : Type 0) (layouts : Layouts) (s new : StoreView D) → new ≡ s → (kind : VMGcKind) (root this : GcRootIndex) → root ≡ this → NamesKind D layouts s kind this → (result : Result ℕ RootFault)
    → (is_of_store s root ≡ false → result ≡ Err fault.WrongStore)
    → ((t : Table D) (place : Placing) (r : Reference) → Holds layouts s t place → NamesReference s t root r → TellsWord place r result)
    → (is_of_store s root ≡ true → (t : Table D) → HoldsTable layouts s t → NamesNothing s t root → result ≡ Err fault.Unrooted)
    → IfOk result (IsRawWord D layouts new kind)
told_here D layouts s new rest kind root this same names result wrong live gone =
    subst (λ (v : StoreView D). IfOk result (IsRawWord D layouts v kind)) (sym rest)
    (told_kind D layouts s kind root (subst (NamesKind D layouts s kind) (sym same) names) result wrong live gone)

kind_pushed : {D : Type 0} (kind : VMGcKind) (t : Table D) (q r : Reference) → IsReferenceOfKind kind t r → IsReferenceOfKind kind (push q t) r
kind_pushed kind t q null is = is
kind_pushed kind t q (small n) is = is
kind_pushed kind t q (at p) is = is

-- The new root for a word of that kind is one of the kind.
pub taken_kind : (D : Type 0) (layouts : Layouts) (old new : StoreView D) (kind : VMGcKind) (word : ℕ) (handle : GcRootIndex) → IsWordOfKind D layouts old kind word
    → ((t : Table D) (place : Placing) (a : Account) (r : Reference) → HoldsThere layouts old t place a → IsWord place r word → PushesWord layouts t place a r (Ok (Some handle)) new)
    → IsScopedOfKind D layouts new kind handle
taken_kind D layouts old new kind word handle is pushes =
    let own = own_account layouts old is.table is.place is.holds in
    let pushed = pushes is.table is.place own.0 is.root (is.holds, own.1) is.is_word in
    record {
      table = push is.root is.table;
      holds = (is.place, pushed.1.0);
      root = is.root;
      named = subst (λ (h : GcRootIndex). NamesScoped new (push is.root is.table) h is.root) (sym pushed.0.1.0) (names_pushed is.table (are_before layouts old is.table (is.place, is.holds)) new is.root);
      of_kind = kind_pushed kind is.table is.root is.root is.of_kind;
    }

-- the word that a handle was made for is not 0
pub word_positive : (word : ℕ) (found : Option GcRootIndex) (index : GcRootIndex) → found ≡ Some index → (found ≡ None) ↔ (word ≡ 0) → 0 < word
word_positive zero found index is both = absurd (none-some index (sym (both.1 refl) ∙ is))
word_positive (suc n) found index is both = omega (arith)
