-- Slots and globals stand for the table's after one was set, and one of them is read.
use Rattle.std.proofs.Common.{◌≡◌, ℕ, ◌<◌, inl, inr, List, length, Some, sym, ap, ◌∙◌, refl, subst, arith}
use Rattle.std.specs.List.{slice_get}
use Rattle.std.specs.Prelude.{slice_set}
use Rattle.std.proofs.lemmas.Bool.{cases_eq}
use Rattle.std.proofs.lemmas.List.{length-set}
use Rattle.std.proofs.lemmas.Option.{slice_get_within}
use Rattle.gc_owner.specs.declared.entry.GcClass.{GcClass}
use Rattle.gc_owner.specs.declared.entry.SlotEntry.{SlotEntry}
use Rattle.gc_model.specs.Values.{Reference}
use Rattle.gc_model.specs.Table.{Slot}
use Rattle.gc_model.specs.Words.{Placing, IsWord}
use Rattle.gc_model.specs.RootPoints.{SlotBy, SlotsBy, GlobalsBy}
use Rattle.gc_model.proofs.Changes.{slice_get-set_same, slice_get-set_other}
use Rattle.gc_model.proofs.Lists.{slice_get-same_length}

module _ (place : Placing) (i : ℕ) (class : GcClass) (r : Reference) (word : ℕ) (is : IsWord place r word) where
  abbrev new_slot : Slot
  new_slot = record { class = class; reference = r }

  abbrev new_entry : SlotEntry
  new_entry = record { class = class; word = word }

  slot_set : (slots : List Slot) (entries : List SlotEntry) → SlotsBy place slots entries → (j : ℕ) (entry : SlotEntry) (slot : Slot)
      → slice_get (slice_set entries i new_entry) j ≡ Some entry → slice_get (slice_set slots i new_slot) j ≡ Some slot → SlotBy place entry slot
  slot_set slots entries by j entry slot e f =
      elim (cases_eq j i) [
        | inl same ↦
            let in_slots : i < length slots = omega (arith, slice_get_within (slice_set slots i new_slot) j slot f, length-set slots i new_slot, same) in
            let in_entries : i < length entries = omega (arith, in_slots, by.same_count) in
            let slot_both : Some new_slot ≡ Some slot = sym (slice_get-set_same slots i new_slot in_slots) ∙ ap (slice_get (slice_set slots i new_slot)) (sym same) ∙ f in
            let entry_both : Some new_entry ≡ Some entry = sym (slice_get-set_same entries i new_entry in_entries) ∙ ap (slice_get (slice_set entries i new_entry)) (sym same) ∙ e in
            let slot_is : new_slot ≡ slot = grind (arith, slot_both) in
            let entry_is : new_entry ≡ entry = grind (arith, entry_both) in
            subst (λ (x : Slot). SlotBy place entry x) slot_is (subst (λ (x : SlotEntry). SlotBy place x new_slot) entry_is (record { class = refl; word = is }))
        | inr differ ↦ by.each j entry slot (sym (slice_get-set_other entries i j new_entry differ) ∙ e) (sym (slice_get-set_other slots i j new_slot differ) ∙ f)
      ]

  pub slots-set : (slots : List Slot) (entries : List SlotEntry) → SlotsBy place slots entries → SlotsBy place (slice_set slots i new_slot) (slice_set entries i new_entry)
  slots-set slots entries by = record {
    same_count = length-set entries i new_entry ∙ by.same_count ∙ sym (length-set slots i new_slot);
    each = slot_set slots entries by;
  }

  pub globals-set : (globals : List Slot) (entries : List SlotEntry) → GlobalsBy place globals entries → GlobalsBy place (slice_set globals i new_slot) (slice_set entries i new_entry)
  globals-set globals entries by = record {
    count = length-set globals i new_slot ∙ by.count;
    slots = slots-set globals entries by.slots;
  }

-- the slot of the table beside one of the store
pub slot_beside : (place : Placing) (slots : List Slot) (entries : List SlotEntry) → SlotsBy place slots entries → (i : ℕ) (entry : SlotEntry) → slice_get entries i ≡ Some entry
    → (slot : Slot) × ((slice_get slots i ≡ Some slot) × SlotBy place entry slot)
slot_beside place slots entries by i entry e =
    let slot = slice_get-same_length entries slots i entry by.same_count e in
    (slot.0, (slot.1, by.each i entry slot.0 e slot.1))
