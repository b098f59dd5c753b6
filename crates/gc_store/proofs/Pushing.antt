-- What a new scoped root leaves of a store.
use Rattle.std.proofs.Common.{List, ◌≡◌, ℕ, zero, suc, ◌-◌, ◌^◌, ◌<◌, inl, inr, [], ◌∷◌, false, Ok, length, nat_le, ◌||◌, ◌==◌, refl, sym, ap, ◌∙◌, subst, arith}
use Rattle.gc_types.specs.declared.kind.Layouts.{Layouts}
use Rattle.gc_model.specs.Values.{Reference, null, small, at}
use Rattle.gc_model.specs.Table.{Table, push}
use Rattle.gc_model.specs.Live.{roots_full}
use Rattle.gc_view.specs.Heaps.{HeapView, SameHeld}
use Rattle.gc_model.specs.Stores.{StoreView}
use Rattle.gc_model.specs.Holds.{Placing, IsWord, Holds}
use Rattle.gc_model.proofs.HoldsPush.{holds_push}
use Rattle.gc_heap.specs.Collection.{IsWordOf}
use Rattle.gc_owner.specs.RootColumns.{RootsView, with_room, with_scoped}
use Rattle.gc_owner.specs.Owners.{OwnerView, raised}
use Rattle.gc_model.specs.Accounts.{Account, IsAccount, HoldsAccount}
use Rattle.gc_model.proofs.AccountLemmas.{account_kept, own_account}
use Rattle.gc_values.specs.declared.config.HeapConfig.{HeapConfig}
use Rattle.gc_values.specs.declared.engine.StoreId.{StoreId}
use Rattle.gc_values.specs.declared.root.GcRootIndex.{GcRootIndex}
use Rattle.gc_values.specs.declared.root.RootSlot.TheVariants as slot
use Rattle.gc_store.specs.Roots.{IsRootWord}
use Rattle.gc_store.specs.Handles.{PushesRoot}
use Rattle.gc_store.specs.OwnedWords.{HoldsThere}
use Rattle.gc_store.specs.Staying.{OnlyAdds}
use Rattle.gc_store.specs.Stores.{StoreTables, store_view, is_full, IsSoundStore}

-- the store may push a root exactly where the table may
pub full_is : {D : Type 0} (layouts : Layouts) (s : StoreView D) (t : Table D) (place : Placing) → Holds layouts s t place → is_full s ≡ roots_full t
full_is layouts s t place holds i = nat_le (holds.settings.max_scoped i) (holds.scoped.same_count i) || (holds.scopes.generation i == 2 ^ 64 - 1)

-- the word of a reference is one of the heap
pub word_in_heap : {D : Type 0} (layouts : Layouts) (s : StoreView D) (t : Table D) (place : Placing) (r : Reference) (word : ℕ) → Holds layouts s t place → IsWord place r word → IsWordOf s.heap word
word_in_heap layouts s t place null word holds is = inl is
word_in_heap layouts s t place (small n) word holds is = inr (inl (omega (arith, is)))
word_in_heap layouts s t place (at p) word holds is = let held = holds.objects.placed p word is in inr (inr (held.object, held.in_heap))

-- a heap holds the same after a word was copied
raised_held : (h : HeapView) (word : ℕ) → SameHeld h (raised h word)
raised_held h zero = record { content = refl; attached = refl; capacity = refl; allocated = refl; needs_gc = refl }
raised_held h (suc n) = record { content = refl; attached = refl; capacity = refl; allocated = refl; needs_gc = refl }

-- an owner made room for a root, and pushed one with that word
pub record PushesWord {D : Type 0} (old room new : OwnerView D) (word : ℕ) : Type 0 where
  pub reserved : room ≡ record old { roots = with_room room.roots old.roots }
  pub pushed : new ≡ record room { heap = raised room.heap word; roots = with_scoped word room.roots }

abbrev pushed_owner : {D : Type 0} → RootsView → ℕ → OwnerView D → OwnerView D
pushed_owner room word v = record v { heap = raised v.heap word; roots = with_scoped word (with_room room v.roots) }

module _ {D : Type 0} (layouts : Layouts) (id : StoreId) (config : HeapConfig) (tables : StoreTables) (tries : ℕ) (old room new : OwnerView D) (word : ℕ) (pushes : PushesWord old room new word) (positive : 0 < word) (free : is_full (store_view id config tables old tries) ≡ false) where
  owner_is : pushed_owner room.roots word old ≡ new
  owner_is = sym (pushes.pushed ∙ ap (λ (v : OwnerView D). record v { heap = raised v.heap word; roots = with_scoped word v.roots }) pushes.reserved)

  abbrev before : StoreView D
  before = store_view id config tables old tries

  abbrev after : StoreView D
  after = store_view id config tables (pushed_owner room.roots word old) tries

  table_room : (t : Table D) (place : Placing) → Holds layouts before t place → roots_full t ≡ false
  table_room t place holds = sym (full_is layouts before t place holds) ∙ free

  -- the store holds the table with the root, with the account that it had
  account_pushed : (t : Table D) (place : Placing) (a : Account) (r : Reference) → Holds layouts before t place → IsAccount layouts before place a → IsWord place r word → HoldsAccount layouts after (push r t) a
  account_pushed t place a r holds account is = record {
    place = place;
    holds = holds_push layouts before t place r (raised old.heap word) word holds (table_room t place holds) (raised_held old.heap word) is positive;
    account = account_kept before after place a refl refl (raised_held old.heap word).needs_gc account;
  }

  -- and the handle is that of its push
  pub pushes_root : (handle : GcRootIndex) → handle ≡ record { store_id = id; generation = room.roots.generation; slot = slot.Scoped (length room.roots.scoped) }
      → (t : Table D) (place : Placing) (a : Account) (r : Reference) → Holds layouts before t place → IsAccount layouts before place a → IsWord place r word → PushesRoot layouts t a r (Ok handle) (store_view id config tables new tries)
  pushes_root handle handle_is t place a r holds account is =
      subst (λ (v : OwnerView D). PushesRoot layouts t a r (Ok handle) (store_view id config tables v tries)) owner_is (
        table_room t place holds,
        (
          handle_is
              ∙ ap (λ (v : OwnerView D). record { store_id = id; generation = v.roots.generation; slot = slot.Scoped (length v.roots.scoped) }) pushes.reserved
              ∙ (λ i. record { store_id = record { engine = id.engine; number = id.number }; generation = holds.scopes.generation i; slot = slot.Scoped (holds.scoped.same_count i) }),
          account_pushed t place a r holds account is,
        ),
      )

  -- it holds it with the objects where they lay
  pub pushes_there : (t : Table D) (place : Placing) (a : Account) (r : Reference) → Holds layouts before t place → IsAccount layouts before place a → IsWord place r word → HoldsThere layouts (store_view id config tables new tries) (push r t) place a
  pushes_there t place a r holds account is =
      subst (λ (v : OwnerView D). HoldsThere layouts (store_view id config tables v tries) (push r t) place a) owner_is (
        holds_push layouts before t place r (raised old.heap word) word holds (table_room t place holds) (raised_held old.heap word) is positive,
        account_kept before after place a refl refl (raised_held old.heap word).needs_gc account,
      )

  -- and nothing else of the store has changed
  pub pushes_only : OnlyAdds before (store_view id config tables new tries)
  pushes_only = subst (λ (v : OwnerView D). OnlyAdds before (store_view id config tables v tries)) owner_is (record {
    entries = (record { generation = old.roots.generation; word = word }) ∷ [];
    held = raised_held old.heap word;
    rest = refl;
  })

  -- the store is sound after it
  pub sound_pushed : (counts : List ℕ) → IsSoundStore D layouts counts old before → IsRootWord D layouts before word → IsSoundStore D layouts counts new (store_view id config tables new tries)
  sound_pushed counts sound is =
      let own = own_account layouts before is.table is.place is.holds in
      subst (λ (v : OwnerView D). IsSoundStore D layouts counts v (store_view id config tables v tries)) owner_is (record {
        idle = sound.idle;
        engine = sound.engine;
        number = sound.number;
        frames = sound.frames;
        table = push is.root is.table;
        account = own.0;
        holds = account_pushed is.table is.place own.0 is.root is.holds own.1 is.is_word;
      })
