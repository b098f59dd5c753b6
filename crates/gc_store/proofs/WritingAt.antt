-- What a write of a value into an object that a handle names leaves of the store.
use Rattle.std.proofs.Common.{◌≡◌, ℕ, ◌-◌, true, List, [], ◌∷◌, Some, None, Ok, refl, sym, ap, ◌∙◌, subst, arith}
use Rattle.std.specs.Int.{w32, w64, cast_unsigned}
use Rattle.std.specs.FinMap.{get, gets}
use Rattle.std.proofs.lemmas.Grind.{common_steps}
use Rattle.std.proofs.lemmas.Int.{of_z-to_z}
use Rattle.std.proofs.lemmas.Option.{same_Some}
use Rattle.gc_types.specs.declared.value.FieldType.{FieldType}
use Rattle.gc_types.specs.declared.value.StorageType.{StorageType}
use Rattle.gc_types.specs.declared.kind.Layouts.{Layouts}
use Rattle.gc_types.specs.Layouts.{struct_base}
use Rattle.gc_view.specs.Heaps.{HeapObject, HeapView}
use Rattle.gc_view.specs.Slots.{StorageSlot}
use Rattle.gc_heap.specs.Heap.{put_object, with_data}
use Rattle.gc_model.specs.Values.{null, Value, numeric, i32, i64, f32, f64, v128, function, continuation, reference, number_bits}
use Rattle.gc_model.specs.Fits.{fits}
use Rattle.gc_model.specs.Stored.{stored}
use Rattle.gc_model.specs.Table.{Table, intern, write}
use Rattle.gc_model.specs.Stores.{StoreView}
use Rattle.gc_model.specs.Forms.{InternedIds, IsIdCode, IsContCode, IsCode, naming, storage_form, value_form}
use Rattle.gc_model.specs.Holds.{Placing, IsWord, Holds}
use Rattle.gc_model.specs.SideValues.{InternedBy, SideValues, side_values, with_side_values}
use Rattle.gc_model.proofs.Fitting.{fits-form, fits-stored}
use Rattle.gc_model.proofs.HoldsInterned.{with_ids, holds_interned}
use Rattle.gc_model.proofs.Interned.{side-stored}
use Rattle.gc_model.proofs.HoldsWrite.{IsWrittenObject, holds_write}
use Rattle.gc_model.proofs.ObjectShapes.{IsSlotOf}
use Rattle.gc_model.specs.Accounts.{Account, HoldsAccount}
use Rattle.gc_model.proofs.AccountLemmas.{account_kept, some_account}
use Rattle.gc_values.specs.declared.root.GcRootIndex.{GcRootIndex}
use Rattle.gc_values.specs.declared.root.RawValue.{RawValue}
use Rattle.gc_values.specs.declared.root.RawValue.TheVariants as raw
use Rattle.gc_values.specs.declared.slot.Slot.{Slot}
use Rattle.gc_values.specs.declared.stored.Stored.{Stored}
use Rattle.gc_values.specs.Filling.{slot_bytes}
use Rattle.gc_values.specs.HeldSlots.{FindsHeldSlot, storage_slot}
use Rattle.gc_values.specs.Kept.{kept_code, FitsForm, CanBeKept, KeptAs, KeptStands, raw_form, StoredStands}
use Rattle.gc_store.specs.Roots.{store_roots, word_of}
use Rattle.gc_store.specs.Values.{CanStore, CanWrite, NamesLive, RawStands, KeepsValue}
use Rattle.gc_values.specs.RawValues.{raw_side_values}
use Rattle.gc_values.specs.Interning.{InternsAll}
use Rattle.gc_values.proofs.EachValue.{kept_encoded}
use Rattle.gc_values.proofs.GivenValues.{held_all, interned_ids, keeps_all}
use Rattle.gc_store.proofs.StandingValues.{raw-stands}
use Rattle.gc_store.proofs.KeptAgain.{IsRooted, rooted_kept}
use Rattle.gc_store.proofs.LyingAt.{LyingAt, lying_at, slot_is_found}
use Rattle.gc_store.proofs.HandleWords.{live_has_word, named_word, named_of_store, own_word, names_word}

-- what a value is that stands for one of the table
pub raw_form_is : {D : Type 0} (s : StoreView D) (t : Table D) (r : RawValue) (v : Value) → RawStands s t r v → raw_form r ≡ value_form v
raw_form_is s t (raw.I32 n) v is = sym (ap value_form is)
raw_form_is s t (raw.I64 n) v is = sym (ap value_form is)
raw_form_is s t (raw.F32 n) v is = sym (ap value_form is)
raw_form_is s t (raw.F64 n) v is = sym (ap value_form is)
raw_form_is s t (raw.V128 n) v is = sym (ap value_form is)
raw_form_is s t (raw.Func f) v is = sym (ap value_form is)
raw_form_is s t (raw.Cont c) v is = sym (ap value_form is)
raw_form_is s t (raw.Ref class None) v is = sym (ap value_form is)
raw_form_is s t (raw.Ref class (Some handle)) v is = sym (ap value_form is.is)

module _ (D : Type 0) (layouts : Layouts) (s : StoreView D) where
  -- the handle of a value that may be stored has a word
  pub is_rooted : (r : RawValue) → NamesLive D layouts s r → IsRooted (store_roots s) r
  is_rooted (raw.I32 n) live = tt
  is_rooted (raw.I64 n) live = tt
  is_rooted (raw.F32 n) live = tt
  is_rooted (raw.F64 n) live = tt
  is_rooted (raw.V128 n) live = tt
  is_rooted (raw.Func f) live = tt
  is_rooted (raw.Cont c) live = tt
  is_rooted (raw.Ref class None) live = tt
  is_rooted (raw.Ref class (Some handle)) live =
      let word = live_has_word layouts s live.table live.holds.0 live.holds.1 handle live.root live.named in
      (word.0, sym (own_word s handle (named_of_store s live.table handle live.root live.named)) ∙ word.1)

  module _ (t : Table D) (place : Placing) (holds : Holds layouts s t place) where
    -- it stands for a value of the table
    pub value_of : (r : RawValue) → NamesLive D layouts s r → (v : Value) × RawStands s t r v
    value_of (raw.I32 n) live = (numeric i32 (number_bits w32 n), refl)
    value_of (raw.I64 n) live = (numeric i64 (number_bits w64 n), refl)
    value_of (raw.F32 n) live = (numeric f32 n, refl)
    value_of (raw.F64 n) live = (numeric f64 n, refl)
    value_of (raw.V128 n) live = (numeric v128 n, refl)
    value_of (raw.Func f) live = (function f, refl)
    value_of (raw.Cont c) live = (continuation c, refl)
    value_of (raw.Ref class None) live = (reference class null, refl)
    value_of (raw.Ref class (Some handle)) live =
        let word = live_has_word layouts s live.table live.holds.0 live.holds.1 handle live.root live.named in
        let named = names_word layouts s t place holds handle word.0 word.1 in
        (reference class named.root, record { root = named.root; named = named.named; is = refl })

    -- what is kept of it stands for that value
    pub kept_stands : (ids : InternedIds) (r : RawValue) (v : Value) → RawStands s t r v → KeptStands ids (naming place ids) (store_roots s) r v
    kept_stands ids (raw.I32 n) v stands x kept small =
        let code : kept_code x ≡ cast_unsigned w32 n = ap kept_code kept in
        subst (λ (w : Value). IsCode (naming place ids) w (kept_code x)) (sym stands)
        (code ∙ sym (of_z-to_z w32 (cast_unsigned w32 n) (subst (FitsForm (raw_form (raw.I32 n))) code small)))
    kept_stands ids (raw.I64 n) v stands x kept small =
        let code : kept_code x ≡ cast_unsigned w64 n = ap kept_code kept in
        subst (λ (w : Value). IsCode (naming place ids) w (kept_code x)) (sym stands)
        (code ∙ sym (of_z-to_z w64 (cast_unsigned w64 n) (subst (FitsForm (raw_form (raw.I64 n))) code small)))
    kept_stands ids (raw.F32 n) v stands x kept small = subst (λ (w : Value). IsCode (naming place ids) w (kept_code x)) (sym stands) (ap kept_code kept)
    kept_stands ids (raw.F64 n) v stands x kept small = subst (λ (w : Value). IsCode (naming place ids) w (kept_code x)) (sym stands) (ap kept_code kept)
    kept_stands ids (raw.V128 n) v stands x kept small = subst (λ (w : Value). IsCode (naming place ids) w (kept_code x)) (sym stands) (ap kept_code kept)
    kept_stands ids (raw.Func f) v stands x kept small = subst (λ (w : Value). IsCode (naming place ids) w (kept_code x)) (sym stands) (subst (IsIdCode ids.funcs f) (sym (ap kept_code kept.1.1)) kept.1.0)
    kept_stands ids (raw.Cont c) v stands x kept small = subst (λ (w : Value). IsCode (naming place ids) w (kept_code x)) (sym stands) (subst (IsContCode ids.conts c) (sym (ap kept_code kept.1.1)) kept.1.0)
    kept_stands ids (raw.Ref class None) v stands x kept small = subst (λ (w : Value). IsCode (naming place ids) w (kept_code x)) (sym stands) (ap kept_code kept)
    kept_stands ids (raw.Ref class (Some handle)) v stands x kept small =
        let word = own_word s handle (named_of_store s t handle stands.root stands.named) ∙ kept.1.0 in
        subst (λ (w : Value). IsCode (naming place ids) w (kept_code x)) (sym stands.is)
        (subst (IsWord place stands.root) (sym (ap kept_code kept.1.1)) (named_word layouts s t place holds handle stands.root kept.0 stands.named word).0)

    -- What a slot keeps of a value that fits it
    pub stored_stands : (ids : InternedIds) (ty : StorageType) (r : RawValue) (v : Value) → RawStands s t r v → fits t.types t.objects ty v ≡ true → StoredStands ids (naming place ids) (store_roots s) ty r (stored ty v)
    stored_stands ids ty r v stands fit =
        let form = fits-form t.types t.objects ty v fit in
        record {
          value = v;
          stored_is = refl;
          form = form;
          stands = kept_stands ids r v stands;
          raw_form_is = raw_form_is s t r v stands ∙ sym form;
        }

    -- a value that may be put into a slot is of the slot's form
    pub storable_form : (ty : StorageType) (r : RawValue) → CanStore D layouts s ty r → raw_form r ≡ storage_form ty
    storable_form ty r can =
        let v = value_of r can.live in
        raw_form_is s t r v.0 v.1 ∙ sym (fits-form t.types t.objects ty v.0 (can.fits t v.0 (place, holds) v.1))

-- a heap with other bytes in an object
pub written_object : (layouts : Layouts) (old new : HeapView) (word offset : ℕ) (object : HeapObject) (ws : List ℕ) → get old.content word ≡ Some object → new ≡ record (put_object old word (with_data layouts object offset ws)) { counts = new.counts } → IsWrittenObject old new word (offset - struct_base layouts) ws
written_object layouts old new word offset object ws held is = record {
  before = object;
  there = held;
  here = ap (λ (h : HeapView). get h.content word) is ∙ grind (arith, common_steps, gets);
  others = λ q other. ap (λ (h : HeapView). get h.content q) is ∙ grind (arith, common_steps, gets, other);
  attached = ap (λ (h : HeapView). h.attached) is;
  capacity = ap (λ (h : HeapView). h.capacity) is;
  allocated = ap (λ (h : HeapView). h.allocated) is;
}

module _ (D : Type 0) (layouts : Layouts) (s : StoreView D) (handle : GcRootIndex) (index : ℕ) (r : RawValue) (can : CanWrite D layouts s handle index r) (word : ℕ) (e : word_of s handle ≡ Ok word) where
  -- where the value goes, in some table that the store holds
  abbrev pub spot : LyingAt layouts s can.table can.holds.0 can.has.position word can.has.object index can.before
  spot = lying_at layouts s can.table can.holds.0 can.holds.1 handle index can.before can.has word e

  module _ (found : Slot) (finds : FindsHeldSlot layouts s.types s.heap word index found) where
    pub spot_slot : storage_slot found ≡ spot.lying.slot
    spot_slot = slot_is_found layouts s can.table can.holds.0 can.has.position word can.has.object index can.before spot found finds

    -- of that type is the value that may be written
    spot_type : can.field.element_type ≡ found.storage
    spot_type =
        let same : can.field ≡ spot.lying.field = same_Some can.field spot.lying.field (sym can.field_is ∙ spot.lying.field_is) in
        ap (λ (f : FieldType). f.element_type) same ∙ spot.lying.type_is ∙ sym (ap (λ (x : StorageSlot). x.storage) spot_slot)

    pub spot_form : raw_form r ≡ storage_form found.storage
    spot_form = storable_form D layouts s can.table can.holds.0 can.holds.1 can.field.element_type r can.can_store ∙ ap storage_form spot_type

    module _ (ids : InternedIds) (interned : InternsAll s.ids ids (raw_side_values (r ∷ []))) where
      pub spot_kept : CanBeKept ids (store_roots s) r
      spot_kept = rooted_kept ids (store_roots s) r (interned_ids s.ids ids (raw_side_values (r ∷ [])) can.table.interned can.holds.1.interned interned) (is_rooted D layouts s r can.can_store.live)

      module _ (heap : HeapView) (x : Stored) (kept : KeptAs ids (store_roots s) r x) (small : FitsForm (raw_form r) (kept_code x))
          (written : (object : HeapObject) → get s.heap.content word ≡ Some object → heap ≡ record (put_object s.heap word (with_data layouts object found.offset (slot_bytes found.storage (kept_code x)))) { counts = heap.counts }) where
        abbrev after : StoreView D
        after = record s { heap = heap; ids = ids }

        -- each table that the store held is held with the value
        pub keeps_value : (t : Table D) (a : Account) → HoldsAccount layouts s t a → KeepsValue layouts s after t a handle index r
        keeps_value t a holds before v has field field_is stands =
            let lies = lying_at layouts s t holds.place holds.holds handle index before has word e in
            let slot : storage_slot found ≡ lies.lying.slot = slot_is_found layouts s t holds.place has.position word has.object index before lies found finds in
            let same : lies.lying.field ≡ field = same_Some lies.lying.field field (sym lies.lying.field_is ∙ field_is) in
            let ty : found.storage ≡ field.element_type = ap (λ (y : StorageSlot). y.storage) slot ∙ sym lies.lying.type_is ∙ ap (λ (f : FieldType). f.element_type) same in
            let fit : fits t.types t.objects found.storage v ≡ true =
            sym (ap (λ (st : StorageType). fits t.types t.objects st v) spot_type) ∙ can.can_store.fits t v (holds.place, holds.holds) stands in
            let is : heap ≡ record (put_object s.heap word (with_data layouts lies.object found.offset (slot_bytes found.storage (kept_code x)))) { counts = heap.counts } = written lies.object lies.is.held in
            let values : List Value = stored found.storage v ∷ [] in
            let given : raw_side_values (r ∷ []) ≡ side_values values = raw-stands s t r v stands ∙ sym (side-stored found.storage v) in
            let by : InternedBy (with_side_values (side_values values) t.interned) ids =
            subst (λ (x : SideValues). InternedBy (with_side_values x t.interned) ids) given (held_all s.ids ids (raw_side_values (r ∷ [])) t.interned interned holds.holds.interned) in
            let now : Holds layouts after (write has.position index (stored found.storage v) t) holds.place =
            holds_write layouts (with_ids ids s) (intern values t) holds.place heap word has.position index has.object (storage_slot found) (stored found.storage v) (slot_bytes found.storage (kept_code x))
            (holds_interned layouts s t holds.place values ids holds.holds (keeps_all s.ids ids (raw_side_values (r ∷ [])) interned) by) lies.placed has.object_is
            (subst (IsSlotOf layouts t.types has.object index) (sym slot) lies.lying.is_slot)
            (kept_encoded ids (naming holds.place ids) (store_roots s) found.storage r (stored found.storage v) x (stored_stands D layouts s t holds.place holds.holds ids found.storage r v stands fit) kept small)
            (fits-stored t.types t.objects found.storage v fit)
            (written_object layouts s.heap heap word found.offset lies.object (slot_bytes found.storage (kept_code x)) lies.is.held is) in
            record {
              place = holds.place;
              holds = subst (λ (st : StorageType). Holds layouts after (write has.position index (stored st v) t) holds.place) ty now;
              account = account_kept s after holds.place a refl refl (ap (λ (h : HeapView). h.needs_gc) is) holds.account;
            }

        -- so some table is held
        pub some_written : (t : Table D) × ((a : Account) × HoldsAccount layouts after t a)
        some_written =
            let v = value_of D layouts s can.table can.holds.0 can.holds.1 r can.can_store.live in
            let some = some_account layouts s can.table can.holds in (
              write can.has.position index (stored can.field.element_type v.0) can.table,
              (some.0, keeps_value can.table some.0 some.1 can.before v.0 can.has can.field can.field_is v.1),
            )
