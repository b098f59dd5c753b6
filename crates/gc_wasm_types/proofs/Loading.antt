-- References that are loaded by their words.
use Rattle.std.proofs.Common.{◌≡◌, ◌↔◌, ℕ, ◌<◌, Bool, Option, Some, None, Result, Ok, Err, sym, refl, subst, arith}
use Rattle.std.specs.Option.{option_map}
use Rattle.std.specs.Prelude.{IfOk, IfSome, MatchResult}
use Rattle.gc_types.specs.declared.kind.Layouts.{Layouts}
use Rattle.gc_types.specs.declared.kind.VMGcKind.{VMGcKind}
use Rattle.gc_model.specs.Holds.{Placing, IsWord}
use Rattle.gc_model.specs.OwnedRoots.{own}
use Rattle.gc_model.specs.Stores.{StoreView}
use Rattle.gc_model.specs.Table.{Table}
use Rattle.gc_model.specs.Values.{Reference}
use Rattle.gc_model.specs.Accounts.{Account}
use Rattle.gc_model.proofs.AccountLemmas.{own_account}
use Rattle.gc_values.specs.declared.root.GcRootIndex.{GcRootIndex}
use Rattle.gc_rooted.specs.declared.owned_rooted.OwnedRooted.{OwnedRooted}
use Rattle.gc_values.specs.declared.root.RootFault.{RootFault}
use Rattle.gc_store.specs.OwnedWords.{HoldsThere}
use Rattle.gc_store.specs.RawWords.{IsWordOfKind, IsRawWord, OwnsReference}
use Rattle.gc_store.specs.Reading.{IsReferenceWord}
use Rattle.gc_store.specs.Roots.{NamesReference}
use Rattle.gc_store.specs.Kinds.{NamesKind}
use Rattle.gc_objects.proofs.Pushed.{named_kind}
use Rattle.gc_objects.proofs.Pushing.{held_table}
use Rattle.gc_objects.proofs.WordLemmas.{word_positive}
use Rattle.gc_wasm_types.specs.Loads.{CanLoad, OwnsWordOf}
use Rattle.gc_wasm_types.specs.Values.{references}
use Rattle.gc_wasm_types.proofs.OwnedNames.{names_owned, kind_owned}

module _ (D : Type 0) (layouts : Layouts) (s : StoreView D) where
  -- a word that may be loaded is one of that kind
  pub can_take : (kind : VMGcKind) (nullable : Bool) (word : ℕ) → CanLoad D layouts s (references kind) nullable word → IsRawWord D layouts s kind word
  can_take kind nullable word can = λ positive.
      let is = can.word_of positive in
      record { table = is.table; place = is.place; holds = is.holds; root = is.root; is_word = is.is_word; of_kind = is.of_kind }

  -- so the store takes it
  pub is_taken : (kind : VMGcKind) (given word : ℕ) → given ≡ word → IsRawWord D layouts s kind word → IsReferenceWord D layouts s given
  is_taken kind given word same can =
      subst (IsReferenceWord D layouts s) (sym same)
      (λ positive. let is = can positive in record { table = is.table; place = is.place; holds = is.holds; root = is.root; is_word = is.is_word; not_null = positive })

  -- the handle of a new owned root for a word of a kind is one of the kind
  pub owned_kind : (new : StoreView D) (kind : VMGcKind) (word : ℕ) (h : GcRootIndex) → IsWordOfKind D layouts s kind word
      → ((t : Table D) (place : Placing) (a : Account) (r : Reference) → HoldsThere layouts s t place a → IsWord place r word → OwnsReference layouts t a r (Ok (Some h)) new)
      → NamesKind D layouts new kind h
  owned_kind new kind word h is owns =
      let account = own_account layouts s is.table is.place is.holds in
      let made = owns is.table is.place account.0 is.root (is.holds, account.1) is.is_word in
      let named : NamesReference new (own is.root is.table) h is.root =
      subst (λ (x : GcRootIndex). NamesReference new (own is.root is.table) x is.root) (sym made.1.0) (names_owned layouts s is.table (is.place, is.holds) new is.root) in
      named_kind layouts new (own is.root is.table) (held_table layouts new (own is.root is.table) account.0 made.1.1) h kind is.root named (kind_owned kind is.table is.root is.root is.of_kind)

-- a word that isn't 0 is loaded as a reference
pub never_none : (word : ℕ) → 0 < word → (found : Option GcRootIndex) → found ≡ None → (found ≡ None) ↔ (word ≡ 0) → ⊥
never_none word positive found is both = let zero : word ≡ 0 = both.0 is in omega (arith, positive, zero)

-- what making an owned root answers, by the answer
abbrev pub OwnsBy : {D T : Type 0} → Layouts → Table D → Account → Reference → Result (Option (OwnedRooted T)) RootFault → StoreView D → Type 0
OwnsBy layouts t a r result new =
    MatchResult result (λ found. OwnsReference layouts t a r (Ok (option_map (λ (h : OwnedRooted _). h.index) found)) new) (λ why. OwnsReference layouts t a r (Err why) new)

pub owned_told : {D T : Type 0} (layouts : Layouts) (t : Table D) (a : Account) (r : Reference) (new : StoreView D) (result : Result (Option (OwnedRooted T)) RootFault) → OwnsBy layouts t a r result new → OwnsWordOf layouts t a r result new
owned_told layouts t a r new (Ok found) is = is
owned_told layouts t a r new (Err why) is = is

-- so its handle is one of the kind
pub owned_kinds : (D : Type 0) {T : Type 0} (layouts : Layouts) (s new : StoreView D) (kind : VMGcKind) (given word : ℕ) → given ≡ word → IsRawWord D layouts s kind word → (result : Result (Option (OwnedRooted T)) RootFault)
    → ((t : Table D) (place : Placing) (a : Account) (r : Reference) → HoldsThere layouts s t place a → IsWord place r given → OwnsBy layouts t a r result new)
    → IfOk result (λ found. (option_map (λ (h : OwnedRooted T). h.index) found ≡ None) ↔ (given ≡ 0))
    → IfOk result (λ found. IfSome found (λ h. NamesKind D layouts new kind h.index))
owned_kinds D layouts s new kind given word same raw (Ok None) owns null = tt
owned_kinds D layouts s new kind given word same raw (Ok (Some h)) owns null =
    owned_kind D layouts s new kind word h.index (raw (subst (λ n. 0 < n) same (word_positive given (Some h.index) h.index refl null)))
    (λ t place a r there is. owns t place a r there (subst (IsWord place r) (sym same) is))
owned_kinds D layouts s new kind given word same raw (Err why) owns null = tt
