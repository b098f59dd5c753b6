-- Frames that are opened and closed, and their slots.
use Rattle.std.proofs.Common.{inl, inr, ◌≡◌, ℕ, ◌<◌, ◌-◌, Bool, true, false, List, [], ◌∷◌, ◌++◌, zero, suc, ◌+◌, length, take, Option, Some, None, Ok, refl, sym, ap, ◌∙◌, subst, arith}
use Rattle.std.specs.Prelude.{slice_index_or, slice_set, replicate, option_to_list, nat_lt, IsSome}
use Rattle.std.proofs.lemmas.Bool.{lt-ltb}
use Rattle.std.proofs.lemmas.Bool.Decides.{nat_tests}
use Rattle.std.proofs.lemmas.List.{map-append, length-map, length-replicate, length-append, length-set, get_or-map, take_all, take-append-le, take-map}
use Rattle.std.proofs.lemmas.Option.{slice_get_within, slice_get-get_or, slice_get_cases}
use Rattle.gc_types.specs.declared.kind.Layouts.{Layouts}
use Rattle.gc_owner.specs.declared.entry.GcClass.{GcClass}
use Rattle.gc_owner.specs.declared.entry.SlotEntry.{SlotEntry}
use Rattle.gc_owner.specs.RootColumns.{AreFrames, HasSlot, newest_start, with_places, with_slot, empty_slot}
use Rattle.gc_owner.specs.RootColumns as columns
use Rattle.gc_owner.specs.Owners.{OwnerView, ChangesRoots}
use Rattle.gc_model.specs.Values.{Reference}
use Rattle.gc_model.specs.Table as table
use Rattle.gc_model.specs.Table.{Table, Slot}
use Rattle.gc_model.specs.Frames.{newest, opened, closed, changed, push_frame, pop_frame, set_slot, slot_at}
use Rattle.gc_model.specs.RootPoints.{SlotBy}
use Rattle.gc_model.specs.Stores.{StoreView}
use Rattle.gc_model.specs.Holds.{Placing, IsWord, Holds}
use Rattle.gc_model.proofs.FramesSet.{newest-stand}
use Rattle.gc_model.proofs.HoldsFrames.{with_frame, without_frame, holds_frame_pushed, holds_frame_popped, holds_slot_set}
use Rattle.gc_model.proofs.HoldsFrames as holds_frames
use Rattle.gc_model.proofs.SlotsSet.{slot_beside}
use Rattle.gc_model.specs.Accounts.{Account, IsAccount, HoldsAccount}
use Rattle.gc_model.specs.Shown.{frames_of}
use Rattle.gc_model.proofs.AccountLemmas.{account_kept}
use Rattle.gc_model.proofs.Frames.{frames-pushed, frames-popped, frames-set, frames-count, has_slot, slot_read}
use Rattle.gc_values.specs.declared.config.HeapConfig.{HeapConfig}
use Rattle.gc_values.specs.declared.engine.StoreId.{StoreId}
use Rattle.gc_values.specs.declared.root.GcRootIndex.{GcRootIndex}
use Rattle.gc_store.specs.Roots.{IsRootWord}
use Rattle.gc_store.specs.Slots.{FindsWord}
use Rattle.gc_store.specs.Stores.{StoreTables, store_view, IsSoundStore}
use Rattle.gc_values.specs.SlotCounts.{slot_counts}
use Rattle.gc_store.proofs.SlotLemmas.{entry_of}

-- How many slots frames have

module _ (frames : List (List SlotEntry)) where
  opened_counts : (count : ℕ) → slot_counts (opened count empty_slot frames) ≡ slot_counts frames ++ count ∷ []
  opened_counts count = map-append length frames (replicate count empty_slot ∷ []) ∙ ap (λ (n : ℕ). slot_counts frames ++ n ∷ []) (length-replicate count empty_slot)

-- a frame is open where the newest has a slot
some_frame : (frames : List (List SlotEntry)) (index : ℕ) → index < length (newest frames) → 0 < length frames
some_frame [] index within = absurd (omega (arith, within))
some_frame (slots ∷ frames) index within = omega arith

closed_counts : (frames : List (List SlotEntry)) → slot_counts (closed frames) ≡ take (length frames - 1) (slot_counts frames)
closed_counts frames = sym (take-map length (length frames - 1) frames)

set_counts : (n : ℕ) (slots : List SlotEntry) (frames : List (List SlotEntry)) → length slots ≡ slice_index_or (slot_counts frames) n 0 → slot_counts (slice_set frames n slots) ≡ slot_counts frames
set_counts n slots [] same = refl
set_counts zero slots (first ∷ frames) same = ap (λ (k : ℕ). k ∷ slot_counts frames) same
set_counts (suc n) slots (first ∷ frames) same = ap (λ (ns : List ℕ). length first ∷ ns) (set_counts n slots frames same)

changed_counts : (index : ℕ) (entry : SlotEntry) (frames : List (List SlotEntry)) → slot_counts (changed index entry frames) ≡ slot_counts frames
changed_counts index entry [] = refl
changed_counts index entry (first ∷ frames) =
    set_counts (length (first ∷ frames) - 1) (slice_set (newest (first ∷ frames)) index entry) (first ∷ frames)
    (length-set (newest (first ∷ frames)) index entry ∙ sym (get_or-map length (first ∷ frames) (length (first ∷ frames) - 1) [] 0 (omega arith)))

popped_less : (counts counts' : List ℕ) (last : Option ℕ) → counts ≡ counts' ++ option_to_list last → IsSome last → length counts' + 1 ≡ length counts
popped_less counts counts' None split some = absurd (cc some)
popped_less counts counts' (Some n) split some = omega (arith, ap length split, length-append counts' (n ∷ []))

-- Steps of an owner on frames

module _ {D : Type 0} (layouts : Layouts) (id : StoreId) (config : HeapConfig) (tables : StoreTables) (tries : ℕ) (old new : OwnerView D) (are : AreFrames old.roots.frames (length old.roots.slots)) where
  abbrev before : StoreView D
  before = store_view id config tables old tries

  abbrev after : StoreView D
  after = store_view id config tables new tries

  -- a frame was opened
  module _ (count : ℕ) (is : new ≡ record old { roots = with_places new.roots (columns.with_frame count old.roots) }) where
    pushed_view : after ≡ with_frame count before
    pushed_view =
        ap (λ (v : OwnerView D). store_view id config tables v tries) is
        ∙ ap (λ (fs : List (List SlotEntry)). record before { frames = fs }) (frames-pushed count old.roots are)

    pub frame_was_pushed : (t : Table D) (a : Account) → HoldsAccount layouts before t a → HoldsAccount layouts after (push_frame count t) a
    frame_was_pushed t a holds =
        subst (λ (s : StoreView D). HoldsAccount layouts s (push_frame count t) a) (sym pushed_view) (record {
          place = holds.place;
          holds = holds_frame_pushed layouts before t holds.place holds.holds count;
          account = account_kept before _ holds.place a refl refl refl holds.account;
        })

    pub sound_frame_pushed : (counts counts' : List ℕ) → counts' ≡ counts ++ count ∷ [] → IsSoundStore D layouts counts old before → IsSoundStore D layouts counts' new after
    sound_frame_pushed counts counts' more sound = record {
      idle = ap (λ (v : OwnerView D). v.idle) is ∙ sound.idle;
      engine = ap (λ (v : OwnerView D). v.types.engine) is ∙ sound.engine;
      number = ap (λ (v : OwnerView D). v.types.number) is ∙ sound.number;
      frames = more ∙ ap (λ (ns : List ℕ). ns ++ count ∷ []) sound.frames ∙ sym (ap (λ (s : StoreView D). slot_counts s.frames) pushed_view ∙ opened_counts before.frames count);
      table = push_frame count sound.table;
      account = sound.account;
      holds = frame_was_pushed sound.table sound.account sound.holds;
    }

  -- the newest frame was closed
  module _ (some : 0 < length old.roots.frames) (is : new ≡ record old { roots = with_places new.roots (columns.without_frame old.roots) }) where
    popped_view : after ≡ without_frame before
    popped_view =
        ap (λ (v : OwnerView D). store_view id config tables v tries) is
        ∙ ap (λ (fs : List (List SlotEntry)). record before { frames = fs }) (frames-popped old.roots are some)

    pub frame_was_popped : (t : Table D) (a : Account) → HoldsAccount layouts before t a → (0 < length t.frames) × HoldsAccount layouts after (pop_frame t) a
    frame_was_popped t a holds = (
      omega (arith, some, frames-count old.roots.frames old.roots.slots, holds.holds.frames.same_count),
      subst (λ (s : StoreView D). HoldsAccount layouts s (pop_frame t) a) (sym popped_view) (record {
        place = holds.place;
        holds = holds_frame_popped layouts before t holds.place holds.holds;
        account = account_kept before _ holds.place a refl refl refl holds.account;
      }),
    )

    pub sound_frame_popped : (counts counts' : List ℕ) (last : Option ℕ) → counts ≡ counts' ++ option_to_list last → (0 < length counts → IsSome last) → IsSoundStore D layouts counts old before → IsSoundStore D layouts counts' new after
    sound_frame_popped counts counts' last split variant sound = record {
      idle = ap (λ (v : OwnerView D). v.idle) is ∙ sound.idle;
      engine = ap (λ (v : OwnerView D). v.types.engine) is ∙ sound.engine;
      number = ap (λ (v : OwnerView D). v.types.number) is ∙ sound.number;
      frames =
          let positive : 0 < length counts = omega (arith, some, ap length sound.frames, length-map before.frames length, frames-count old.roots.frames old.roots.slots) in
          let less : length counts' + 1 ≡ length counts = popped_less counts counts' last split (variant positive) in
          let count : length before.frames - 1 ≡ length counts' = omega (arith, less, ap length sound.frames, length-map before.frames length) in
          sym (take_all (length counts') counts' (omega arith))
          ∙ sym (take-append-le (length counts') counts' (option_to_list last) (omega arith))
          ∙ ap (take (length counts')) (sym split ∙ sound.frames)
          ∙ ap (λ (n : ℕ). take n (slot_counts before.frames)) (sym count)
          ∙ sym (closed_counts before.frames)
          ∙ ap (λ (s : StoreView D). slot_counts s.frames) (sym popped_view);
      table = pop_frame sound.table;
      account = sound.account;
      holds = (frame_was_popped sound.table sound.account sound.holds).1;
    }

  -- a slot was set
  module _ (index : ℕ) (class : GcClass) (word : ℕ) (within : index < length (newest before.frames)) (changes : ChangesRoots old new (with_slot index (record { class = class; word = word }) old.roots)) where
    some : 0 < length old.roots.frames
    some = omega (arith, some_frame before.frames index within, frames-count old.roots.frames old.roots.slots)

    set_view : after ≡ holds_frames.with_slot index class word new.heap before
    set_view =
        ap (λ (v : OwnerView D). store_view id config tables v tries) changes.rest
        ∙ ap (λ (fs : List (List SlotEntry)). record before { heap = new.heap; frames = fs }) (frames-set old.roots are some index (record { class = class; word = word }))

    pub slot_was_set : (t : Table D) (place : Placing) (a : Account) (r : Reference) → Holds layouts before t place → IsAccount layouts before place a → IsWord place r word → HoldsAccount layouts after (set_slot index class r t) a
    slot_was_set t place a r holds account is =
        subst (λ (s : StoreView D). HoldsAccount layouts s (set_slot index class r t) a) (sym set_view) (record {
          place = place;
          holds = holds_slot_set layouts before t place holds index class r word new.heap is changes.held;
          account = account_kept before _ place a refl refl changes.held.needs_gc account;
        })

    pub sound_slot_set : (counts : List ℕ) (handle : Option GcRootIndex) (sound : IsSoundStore D layouts counts old before) → FindsWord before sound.table sound.holds.place handle (Ok word) → IsSoundStore D layouts counts new after
    sound_slot_set counts handle sound finds = record {
      idle = ap (λ (v : OwnerView D). v.idle) changes.rest ∙ sound.idle;
      engine = ap (λ (v : OwnerView D). v.types.engine) changes.rest ∙ sound.engine;
      number = ap (λ (v : OwnerView D). v.types.number) changes.rest ∙ sound.number;
      frames = sound.frames ∙ sym (ap (λ (s : StoreView D). slot_counts s.frames) set_view ∙ changed_counts index (record { class = class; word = word }) before.frames);
      table = set_slot index class finds.0 sound.table;
      account = sound.account;
      holds = slot_was_set sound.table sound.holds.place sound.account finds.0 sound.holds.holds sound.holds.account finds.1.1;
    }

-- a slot that was found is there
pub found_within : {D : Type 0} (view s : StoreView D) (index : ℕ) (found : Bool) → view ≡ s → found ≡ nat_lt index (length (newest s.frames)) → found ≡ true → index < length (newest view.frames)
found_within view s index found same is there =
    let e : nat_lt index (length (newest view.frames)) ≡ true = ap (λ (x : StoreView _). nat_lt index (length (newest x.frames))) same ∙ sym is ∙ there in
    grind (arith, nat_tests, e)

-- the owner of a store has each slot that its newest frame shows, and it is that one
module _ {D : Type 0} (old : OwnerView D) (are : AreFrames old.roots.frames (length old.roots.slots)) (index : ℕ) (within : index < length (newest (frames_of old.roots.frames old.roots.slots))) where
  some_open : 0 < length old.roots.frames
  some_open = omega (arith, some_frame (frames_of old.roots.frames old.roots.slots) index within, frames-count old.roots.frames old.roots.slots)

  pub slot_there : HasSlot old.roots index
  slot_there = has_slot old.roots are some_open index within

  pub slot_is : slice_index_or old.roots.slots (newest_start old.roots + index) empty_slot ≡ entry_of (newest (frames_of old.roots.frames old.roots.slots)) index
  slot_is = slot_read old.roots are some_open index

-- a slot of the store's newest frame stands for that of the table, so its word is that of a root
module _ {D : Type 0} (layouts : Layouts) (s : StoreView D) (t : Table D) (place : Placing) (holds : Holds layouts s t place) (index : ℕ) where
  pub frame_slot_stands : (slot : Slot) → slot_at t index ≡ Some slot → SlotBy place (entry_of (newest s.frames) index) slot
  frame_slot_stands slot e =
      let stand = newest-stand place t.frames s.frames holds.frames in
      stand.each index (entry_of (newest s.frames) index) slot (slice_get-get_or (newest s.frames) index empty_slot (omega (arith, slice_get_within (newest t.frames) index slot e, stand.same_count))) e

  -- it is there where the table's is
  pub never_there : (slot : Slot) (found : Bool) → slot_at t index ≡ Some slot → found ≡ nat_lt index (length (newest s.frames)) → found ≡ false → ⊥
  never_there slot found e is not_found =
      let within : index < length (newest s.frames) = omega (arith, slice_get_within (newest t.frames) index slot e, (newest-stand place t.frames s.frames holds.frames).same_count) in
      let outside : nat_lt index (length (newest s.frames)) ≡ false = sym is ∙ not_found in
      cc (sym (lt-ltb index (length (newest s.frames)) within) ∙ outside)

  pub frame_slot_word : index < length (newest s.frames) → 0 < (entry_of (newest s.frames) index).word → IsRootWord D layouts s (entry_of (newest s.frames) index).word
  frame_slot_word below positive =
      let there = slice_get-get_or (newest s.frames) index empty_slot below in
      let beside = slot_beside place (newest t.frames) (newest s.frames) (newest-stand place t.frames s.frames holds.frames) index (entry_of (newest s.frames) index) there in
      record { table = t; place = place; holds = holds; root = beside.0.reference; is_word = beside.1.1.word; not_null = positive }

  -- a slot that was found is there, and one that wasn't is not
  pub slot_found : (found : Bool) → found ≡ nat_lt index (length (newest s.frames)) → found ≡ true → (slot : Slot) × (slot_at t index ≡ Some slot)
  slot_found found is there =
      let within : index < length (newest t.frames) = omega (arith, found_within s s index found refl is there, (newest-stand place t.frames s.frames holds.frames).same_count) in
      (slice_index_or (newest t.frames) index table.null_slot, slice_get-get_or (newest t.frames) index table.null_slot within)

  pub slot_missing : (found : Bool) → found ≡ nat_lt index (length (newest s.frames)) → found ≡ false → slot_at t index ≡ None
  slot_missing found is not_found = elim ((slice_get_cases (newest t.frames) index).1) [
    | inl known ↦ absurd (never_there known.0 found known.2 is not_found)
    | inr past ↦ past.1
  ]
