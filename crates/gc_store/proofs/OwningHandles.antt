-- An owned root gains or loses a handle.
use Rattle.std.proofs.Common.{◌≡◌, ℕ, ◌+◌, ◌-◌, true, false, List, get_or, Option, Some, None, Err, Contains, refl, sym, ap, ◌∙◌, subst, arith}
use Rattle.gc_types.specs.declared.kind.Layouts.{Layouts}
use Rattle.gc_owner.specs.declared.entry.OwnedEntry.{OwnedEntry}
use Rattle.gc_owner.specs.RootColumns.{empty_entry, with_handle_count}
use Rattle.gc_owner.specs.Owners.{OwnerView}
use Rattle.gc_model.specs.Table.{Table, Owned}
use Rattle.gc_model.specs.OwnedRoots.{add_handle, drop_handle}
use Rattle.gc_model.specs.Stores.{StoreView}
use Rattle.gc_model.specs.Holds.{Placing, Holds}
use Rattle.gc_model.proofs.HoldsOwned.{holds_handle_added, holds_handle_dropped}
use Rattle.gc_model.proofs.OwnedRoots.{owned_one}
use Rattle.gc_model.specs.Accounts.{Account, HoldsAccount}
use Rattle.gc_model.proofs.AccountLemmas.{account_kept}
use Rattle.gc_values.specs.declared.config.HeapConfig.{HeapConfig}
use Rattle.gc_values.specs.declared.engine.StoreId.{StoreId}
use Rattle.gc_values.specs.declared.root.GcRootIndex.{GcRootIndex}
use Rattle.gc_values.specs.declared.root.RootSlot.TheVariants as slot
use Rattle.gc_store.specs.Roots.{is_of_store, owned_handle}
use Rattle.gc_values.specs.declared.root.RootFault.{RootFault}
use Rattle.gc_values.specs.declared.root.RootFault.TheVariants as fault
use Rattle.gc_store.specs.OwnedRoots.{IsHandleOf, IsOfNone, ReleasesHandle}
use Rattle.gc_store.specs.OwnedWords.{FindsHeldNumber, FindsHeld}
use Rattle.gc_values.specs.Words.{owned_id, owned_at, FindsOwned, AreOwnedRising}
use Rattle.gc_store.specs.Stores.{StoreTables, store_view, IsSoundStore}
use Rattle.gc_store.proofs.HandleWords.{same_store}
use Rattle.gc_values.proofs.Keeping.{counts_of}
use Rattle.gc_values.proofs.OwnedWords.{owned_here, owned_place, same_item}

-- one without handles is none that is sought
pub unheld_none : (entries : List OwnedEntry) (number i : ℕ) → AreOwnedRising entries → FindsOwned entries number (Some i) → (get_or entries i empty_entry).handles ≡ 0 → FindsHeldNumber entries number None
unheld_none entries number i rising finds none = λ e c some same.
    let one : Some e ≡ Some (get_or entries i empty_entry) = sym (owned_here entries e rising c) ∙ ap (λ n. owned_at n entries) same ∙ owned_place entries number i rising finds in
    let is : e ≡ get_or entries i empty_entry = grind (arith, one) in
    let zero : e.handles ≡ 0 = ap (λ (x : OwnedEntry). x.handles) is ∙ none in
    absurd (omega (arith, some, zero))

pub none_none : (entries : List OwnedEntry) (number : ℕ) → FindsOwned entries number None → FindsHeldNumber entries number None
none_none entries number finds = λ e c some. finds e c

-- what was found by the number is what the handle names
pub found_by_slot : {D : Type 0} (s : StoreView D) (handle : GcRootIndex) (found : Option ℕ) → handle.slot ≡ slot.Owned (owned_id handle.generation) → FindsHeldNumber s.owned handle.generation found → FindsHeld s handle found
found_by_slot s handle (Some i) is finds = (is, finds)
found_by_slot s handle None is finds = λ _. finds

module _ {D : Type 0} (layouts : Layouts) (s : StoreView D) (t : Table D) (place : Placing) (holds : Holds layouts s t place) (handle : GcRootIndex) (own : is_of_store s handle ≡ true) where
  -- where none is found the handle is of none
  of_no_root : FindsHeld s handle None → (root : Owned) → ¬ IsHandleOf s t handle root
  of_no_root finds root is =
      let entry = holds.owned.in_store root is.among in
      let stands = entry.1.1 in
      let generation : handle.generation ≡ root.number = ap (λ (h : GcRootIndex). h.generation) is.is in
      let slot_is : handle.slot ≡ slot.Owned (owned_id handle.generation) = ap (λ (h : GcRootIndex). h.slot) is.is ∙ ap (λ n. slot.Owned (owned_id n)) (sym generation) in
      finds slot_is entry.0 entry.1.0 (let held = stands.held in let same = stands.handles in omega (arith, held, same)) (stands.number ∙ sym generation)

  pub of_none : FindsHeld s handle None → IsOfNone s t handle
  of_none finds r named =
      let root = owned_one named.number t.owned r named.live in
      of_no_root finds root.0 (record { among = root.1.0; is = named.names ∙ ap (owned_handle s) (sym root.1.1.0) })

  module _ (i : ℕ) (finds : FindsHeld s handle (Some i)) where
    abbrev entry : OwnedEntry
    entry = get_or s.owned i empty_entry

    there : Contains s.owned entry
    there = (i, finds.1.0, same_item s.owned i entry empty_entry finds.1.0)

    pub of_root : (root : Owned) × (IsHandleOf s t handle root × (root.handles ≡ entry.handles))
    of_root =
        let beside = holds.owned.in_table entry there finds.1.1.1 in
        let numbered : beside.0.number ≡ handle.generation = sym beside.1.1.number ∙ finds.1.1.0 in
        let ids = same_store s handle own in (
          beside.0,
          (
            record {
              among = beside.1.0;
              is = λ j. record { store_id = record { engine = ids.0 j; number = ids.1 j }; generation = sym numbered j; slot = (finds.0 ∙ ap (λ n. slot.Owned (owned_id n)) (sym numbered)) j };
            },
            sym beside.1.1.handles,
          ),
        )

    pub root_number : of_root.0.number ≡ entry.number
    unfolding of_root
    root_number = sym (holds.owned.in_table entry there finds.1.1.1).1.1.number

-- the same, of an owner whose root has another number of handles

module _ {D : Type 0} (layouts : Layouts) (id : StoreId) (config : HeapConfig) (tables : StoreTables) (tries : ℕ) (old new : OwnerView D) (handle : GcRootIndex) (own : is_of_store (store_view id config tables old tries) handle ≡ true) (i : ℕ) (finds : FindsHeld (store_view id config tables old tries) handle (Some i)) where
  abbrev before : StoreView D
  before = store_view id config tables old tries

  abbrev held : OwnedEntry
  held = get_or old.roots.owned i empty_entry

  pub handle_added : (handles : ℕ) → handles ≡ held.handles + 1 → new ≡ record old { roots = with_handle_count i handles old.roots } → (t : Table D) (a : Account) (there_is : HoldsAccount layouts before t a)
      → HoldsAccount layouts (store_view id config tables new tries) (add_handle (of_root layouts before t there_is.place there_is.holds handle own i finds).0.number t) a
  handle_added handles is rest t a there_is =
      subst (λ n. HoldsAccount layouts (store_view id config tables new tries) (add_handle n t) a) (sym (root_number layouts before t there_is.place there_is.holds handle own i finds))
      (subst (λ (v : OwnerView D). HoldsAccount layouts (store_view id config tables v tries) (add_handle held.number t) a) (sym (rest ∙ ap (λ n. record old { roots = with_handle_count i n old.roots }) is)) (record {
        place = there_is.place;
        holds = holds_handle_added layouts before t there_is.place there_is.holds held (i, finds.1.0, same_item old.roots.owned i held empty_entry finds.1.0) finds.1.1.1;
        account = account_kept before _ there_is.place a refl refl refl there_is.account;
      }))

  pub handle_dropped : (handles : ℕ) → handles ≡ held.handles - 1 → new ≡ record old { roots = with_handle_count i handles old.roots } → (t : Table D) (a : Account) (there_is : HoldsAccount layouts before t a)
      → HoldsAccount layouts (store_view id config tables new tries) (drop_handle (of_root layouts before t there_is.place there_is.holds handle own i finds).0.number t) a
  handle_dropped handles is rest t a there_is =
      subst (λ n. HoldsAccount layouts (store_view id config tables new tries) (drop_handle n t) a) (sym (root_number layouts before t there_is.place there_is.holds handle own i finds))
      (subst (λ (v : OwnerView D). HoldsAccount layouts (store_view id config tables v tries) (drop_handle held.number t) a) (sym (rest ∙ ap (λ n. record old { roots = with_handle_count i n old.roots }) is)) (record {
        place = there_is.place;
        holds = holds_handle_dropped layouts before t there_is.place there_is.holds held (i, finds.1.0, same_item old.roots.owned i held empty_entry finds.1.0) finds.1.1.1;
        account = account_kept before _ there_is.place a refl refl refl there_is.account;
      }))

  -- the store is sound where it holds some table so
  pub sound_changed : (counts : List ℕ) (handles : ℕ) → new ≡ record old { roots = with_handle_count i handles old.roots } → IsSoundStore D layouts counts old before → (t : Table D) (a : Account) → HoldsAccount layouts (store_view id config tables new tries) t a → IsSoundStore D layouts counts new (store_view id config tables new tries)
  sound_changed counts handles rest sound t a holds = record {
    idle = ap (λ (v : OwnerView D). v.idle) rest ∙ sound.idle;
    engine = ap (λ (v : OwnerView D). v.types.engine) rest ∙ sound.engine;
    number = ap (λ (v : OwnerView D). v.types.number) rest ∙ sound.number;
    frames = sound.frames ∙ ap counts_of (sym rest);
    table = t;
    account = a;
    holds = holds;
  }

-- a handle that is refused is another store's
pub refused_foreign : {D : Type 0} (layouts : Layouts) (s : StoreView D) (t : Table D) (a : Account) (handle : GcRootIndex) (new : StoreView D) (f : RootFault) → ReleasesHandle layouts s t a handle (Err f) new → is_of_store s handle ≡ false
refused_foreign layouts s t a handle new fault.WrongStore told = told
refused_foreign layouts s t a handle new fault.Unrooted told = absurd told
refused_foreign layouts s t a handle new fault.RootsFull told = absurd told
refused_foreign layouts s t a handle new fault.Memory told = absurd told
