-- Slots that are set and read, and globals among them.
use Rattle.std.proofs.Common.{◌≡◌, ℕ, ◌<◌, List, length, Option, Some, Result, Ok, Err, refl, sym, ap, ◌∙◌, subst, arith}
use Rattle.std.specs.Prelude.{slice_index_or}
use Rattle.std.proofs.lemmas.Option.{slice_get_within, slice_get-get_or, get_or_from_slice_get}
use Rattle.gc_types.specs.declared.kind.Layouts.{Layouts}
use Rattle.gc_owner.specs.declared.entry.GcClass.{GcClass}
use Rattle.gc_owner.specs.declared.entry.SlotEntry.{SlotEntry}
use Rattle.gc_owner.specs.RootColumns.{with_global, empty_slot}
use Rattle.gc_owner.specs.Owners.{OwnerView, ChangesRoots}
use Rattle.gc_model.specs.Values.{Reference}
use Rattle.gc_model.specs.Table.{Table, Slot, global_count}
use Rattle.gc_model.specs.Globals.{set_global, global_at}
use Rattle.gc_model.specs.RootPoints.{SlotBy}
use Rattle.gc_model.specs.Stores.{StoreView, unset_globals}
use Rattle.gc_model.specs.Holds.{Placing, IsWord, Holds}
use Rattle.gc_model.proofs.Lists.{all_replicated}
use Rattle.gc_model.proofs.SlotsSet.{slot_beside}
use Rattle.gc_model.proofs.HoldsGlobals.{holds_global_set}
use Rattle.gc_model.specs.Accounts.{Account, IsAccount, HoldsAccount}
use Rattle.gc_model.proofs.AccountLemmas.{account_kept}
use Rattle.gc_values.specs.declared.config.HeapConfig.{HeapConfig}
use Rattle.gc_values.specs.declared.engine.StoreId.{StoreId}
use Rattle.gc_values.specs.declared.root.GcRootIndex.{GcRootIndex}
use Rattle.gc_values.specs.declared.root.RootFault.{RootFault}
use Rattle.gc_values.specs.declared.root.RootFault.TheVariants as fault
use Rattle.gc_store.specs.Reading.{ReadsReference, reference_value}
use Rattle.gc_store.specs.Roots.{IsRootWord}
use Rattle.gc_store.specs.Slots.{told_of_slot, FindsWord, ReadsSlot, slot_value}
use Rattle.gc_store.specs.Stores.{StoreTables, store_view, IsSoundStore}
use Rattle.gc_store.specs.Values.{ReadsValue}
use Rattle.gc_values.proofs.Keeping.{counts_of}

-- an owner set a global
module _ {D : Type 0} (layouts : Layouts) (id : StoreId) (config : HeapConfig) (tables : StoreTables) (tries : ℕ) (old new : OwnerView D) (index : ℕ) (class : GcClass) (word : ℕ)
    (changes : ChangesRoots old new (with_global index (record { class = class; word = word }) old.roots)) where
  abbrev before : StoreView D
  before = store_view id config tables old tries

  abbrev after : StoreView D
  after = store_view id config tables new tries

  -- so the store holds the table with that global set, and the same account
  pub global_was_set : (t : Table D) (place : Placing) (a : Account) (r : Reference) → Holds layouts before t place → IsAccount layouts before place a → IsWord place r word → HoldsAccount layouts after (set_global index class r t) a
  global_was_set t place a r holds account is =
      subst (λ (v : OwnerView D). HoldsAccount layouts (store_view id config tables v tries) (set_global index class r t) a) (sym changes.rest) (record {
        place = place;
        holds = holds_global_set layouts before t place index class r word new.heap holds is changes.held;
        account = account_kept before _ place a refl refl changes.held.needs_gc account;
      })

  -- and is sound
  pub sound_global_set : (counts : List ℕ) (handle : Option GcRootIndex) (sound : IsSoundStore D layouts counts old before) → FindsWord before sound.table sound.holds.place handle (Ok word) → IsSoundStore D layouts counts new after
  sound_global_set counts handle sound finds = record {
    idle = ap (λ (v : OwnerView D). v.idle) changes.rest ∙ sound.idle;
    engine = ap (λ (v : OwnerView D). v.types.engine) changes.rest ∙ sound.engine;
    number = ap (λ (v : OwnerView D). v.types.number) changes.rest ∙ sound.number;
    frames = sound.frames ∙ ap counts_of (sym changes.rest);
    table = set_global index class finds.0 sound.table;
    account = sound.account;
    holds = global_was_set sound.table sound.holds.place sound.account finds.0 sound.holds.holds sound.holds.account finds.1.1;
  }

-- the entry of a global of the store
abbrev pub entry_of : List SlotEntry → ℕ → SlotEntry
entry_of globals index = slice_index_or globals index empty_slot

module _ {D : Type 0} (layouts : Layouts) (s : StoreView D) (t : Table D) (place : Placing) (holds : Holds layouts s t place) (index : ℕ) where
  -- stands for that of the table
  pub global_stands : (slot : Slot) → global_at t index ≡ Some slot → SlotBy place (entry_of s.globals index) slot
  global_stands slot e =
      holds.globals.slots.each index (entry_of s.globals index) slot (slice_get-get_or s.globals index empty_slot (omega (arith, slice_get_within t.globals index slot e, holds.globals.slots.same_count))) e

  -- so its word is that of a root, where it is not null
  pub global_word : index < global_count → 0 < (entry_of s.globals index).word → IsRootWord D layouts s (entry_of s.globals index).word
  global_word below positive =
      let there = slice_get-get_or s.globals index empty_slot (omega (arith, below, holds.globals.count, holds.globals.slots.same_count)) in
      let beside = slot_beside place t.globals s.globals holds.globals.slots index (entry_of s.globals index) there in
      record { table = t; place = place; holds = holds; root = beside.0.reference; is_word = beside.1.1.word; not_null = positive }

-- A slot is read as the reference whose word its entry has
module _ {D : Type 0} (layouts : Layouts) (t : Table D) (a : Account) (entry : SlotEntry) (slot : Slot) (old new : StoreView D) (holds : HoldsAccount layouts old t a) (stands : SlotBy holds.place entry slot) where
  read_as : (answer : Result (Option GcRootIndex) RootFault) → ReadsReference layouts old entry.word answer new → ReadsValue layouts t a (slot_value slot) (reference_value slot.class answer) new
  read_as answer reads = reads t holds.place a slot.class slot.reference holds.holds holds.account stands.word

  pub reads_slot : (found : Option GcRootIndex) → ReadsReference layouts old entry.word (Ok found) new → ReadsSlot layouts t a slot (Ok (entry.class, found)) new
  reads_slot found reads = subst (λ (c : GcClass). ReadsSlot layouts t a slot (Ok (c, found)) new) (sym stands.class) (read_as (Ok found) reads)

  -- or it is refused a root
  pub reads_no_root : (f : RootFault) → ReadsReference layouts old entry.word (Err f) new → ReadsSlot layouts t a slot (Err (told_of_slot f)) new
  reads_no_root fault.WrongStore reads = absurd (read_as (Err fault.WrongStore) reads)
  reads_no_root fault.Unrooted reads = absurd (read_as (Err fault.Unrooted) reads)
  reads_no_root fault.RootsFull reads = read_as (Err fault.RootsFull) reads
  reads_no_root fault.Memory reads = read_as (Err fault.Memory) reads

-- there are as many globals as there are
pub globals_count : {D : Type 0} (layouts : Layouts) (s : StoreView D) (t : Table D) (place : Placing) → Holds layouts s t place → length s.globals ≡ global_count
globals_count layouts s t place holds = holds.globals.slots.same_count ∙ holds.globals.count

-- globals that each are empty are unset
pub are_unset : (globals : List SlotEntry) → length globals ≡ global_count → ((k : ℕ) → k < global_count → entry_of globals k ≡ empty_slot) → globals ≡ unset_globals
are_unset globals count each =
    all_replicated empty_slot global_count globals count (λ i entry e.
    sym (get_or_from_slice_get globals i entry empty_slot e) ∙ each i (omega (arith, slice_get_within globals i entry e, count)))
