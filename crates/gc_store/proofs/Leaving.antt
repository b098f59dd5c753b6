-- What the end of a scope leaves of a store.
use Rattle.std.proofs.Common.{List, ◌≡◌, ℕ, ◌+◌, ◌-◌, ◌^◌, ◌≤◌, true, false, cond, min, nat_le, length, take, refl, sym, ap, ◌∙◌, subst, arith}
use Rattle.std.specs.Prelude.{nat_lt}
use Rattle.std.proofs.lemmas.Bool.{lt-ltb}
use Rattle.std.proofs.lemmas.Bool.Decides.{nat_tests}
use Rattle.gc_types.specs.declared.kind.Layouts.{Layouts}
use Rattle.gc_model.specs.Table.{Table, leave}
use Rattle.gc_model.specs.Stores.{StoreView}
use Rattle.gc_model.specs.Words.{Placing}
use Rattle.gc_model.proofs.HoldsLeave.{without_roots, holds_leave}
use Rattle.gc_owner.specs.RootColumns.{left_scope}
use Rattle.gc_owner.specs.Owners.{OwnerView, ChangesRoots}
use Rattle.gc_model.specs.Accounts.{Account, HoldsAccount}
use Rattle.gc_model.proofs.AccountLemmas.{account_kept}
use Rattle.gc_values.specs.declared.config.HeapConfig.{HeapConfig}
use Rattle.gc_values.specs.declared.engine.StoreId.{StoreId}
use Rattle.gc_store.specs.OwnedWords.{HoldsThere}
use Rattle.gc_store.specs.Stores.{StoreTables, store_view, IsSoundStore}
use Rattle.gc_values.proofs.Keeping.{counts_of}

-- scope ends are counted alike by the owner and by the table
counted_alike : (mark count generation : ℕ) → cond (nat_lt mark count) (min (generation + 1) (2 ^ 64 - 1)) generation ≡ cond (nat_le count mark) generation (min (generation + 1) (2 ^ 64 - 1))
counted_alike mark count generation = elim (nat_le count mark) as (λ b. nat_le count mark ≡ b → cond (nat_lt mark count) (min (generation + 1) (2 ^ 64 - 1)) generation ≡ cond b generation (min (generation + 1) (2 ^ 64 - 1))) [
  | true ↦ λ e. ap (λ b. cond b (min (generation + 1) (2 ^ 64 - 1)) generation) (let le : count ≤ mark = grind (arith, nat_tests, e) in not_less le)
  | false ↦ λ e. ap (λ b. cond b (min (generation + 1) (2 ^ 64 - 1)) generation) (lt-ltb mark count (grind (arith, nat_tests, e)))
] refl
  where
    not_less : count ≤ mark → nat_lt mark count ≡ false
    not_less le = grind (arith, nat_tests, le)

module _ {D : Type 0} (layouts : Layouts) (id : StoreId) (config : HeapConfig) (tables : StoreTables) (tries : ℕ) (old new : OwnerView D) (mark : ℕ) (changes : ChangesRoots old new (left_scope mark old.roots)) where
  abbrev before : StoreView D
  before = store_view id config tables old tries

  left_view : without_roots new.heap mark before ≡ store_view id config tables new tries
  left_view =
      (λ i. record before { heap = new.heap; scoped = take mark old.roots.scoped; generation = counted_alike mark (length old.roots.scoped) old.roots.generation i })
      ∙ sym (ap (λ (v : OwnerView D). store_view id config tables v tries) changes.rest)

  -- the store holds the table without the roots
  pub holds_left : (t : Table D) (a : Account) → HoldsAccount layouts before t a → HoldsAccount layouts (store_view id config tables new tries) (leave mark t) a
  holds_left t a holds =
      subst (λ (s : StoreView D). HoldsAccount layouts s (leave mark t) a) left_view (record {
        place = holds.place;
        holds = holds_leave layouts before t holds.place new.heap mark holds.holds changes.held;
        account = account_kept before (without_roots new.heap mark before) holds.place a refl refl changes.held.needs_gc holds.account;
      })

  -- with the objects where they lay
  pub there_left : (t : Table D) (place : Placing) (a : Account) → HoldsThere layouts before t place a → HoldsThere layouts (store_view id config tables new tries) (leave mark t) place a
  there_left t place a there =
      subst (λ (s : StoreView D). HoldsThere layouts s (leave mark t) place a) left_view (
        holds_leave layouts before t place new.heap mark there.0 changes.held,
        account_kept before (without_roots new.heap mark before) place a refl refl changes.held.needs_gc there.1,
      )

  pub sound_left : (counts : List ℕ) → IsSoundStore D layouts counts old before → IsSoundStore D layouts counts new (store_view id config tables new tries)
  sound_left counts sound = record {
    idle = ap (λ (v : OwnerView D). v.idle) changes.rest ∙ sound.idle;
    engine = ap (λ (v : OwnerView D). v.types.engine) changes.rest ∙ sound.engine;
    number = ap (λ (v : OwnerView D). v.types.number) changes.rest ∙ sound.number;
    frames = sound.frames ∙ ap counts_of (sym changes.rest);
    table = leave mark sound.table;
    account = sound.account;
    holds = holds_left sound.table sound.account sound.holds;
  }
