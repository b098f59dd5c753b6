-- Frames stand for the table's after one was opened or closed, and after a slot of the newest was set.
use Rattle.std.proofs.Common.{◌≡◌, ℕ, ◌<◌, ◌-◌, inl, inr, List, [], ◌∷◌, length, Some, sym, ap, ◌∙◌, subst, arith}
use Rattle.std.specs.List.{slice_get}
use Rattle.std.specs.Prelude.{replicate, slice_set, slice_index_or}
use Rattle.std.proofs.lemmas.Bool.{cases_eq}
use Rattle.std.proofs.lemmas.List.{length-set, length-take, length-append}
use Rattle.std.proofs.lemmas.Option.{slice_get_within, slice_get_cases, slice_get-get_or}
use Rattle.gc_owner.specs.declared.entry.GcClass.{GcClass}
use Rattle.gc_owner.specs.declared.entry.SlotEntry.{SlotEntry}
use Rattle.gc_owner.specs.RootColumns.{empty_slot as empty_entry}
use Rattle.gc_model.specs.Values.{Reference}
use Rattle.gc_model.specs.Table.{Slot, null_slot}
use Rattle.gc_model.specs.Frames.{newest, opened, closed, changed}
use Rattle.gc_model.specs.Words.{Placing, IsWord}
use Rattle.gc_model.specs.RootPoints.{SlotsBy, FramesBy}
use Rattle.gc_model.proofs.Changes.{slice_get-set_same, slice_get-set_other}
use Rattle.gc_model.proofs.Lists.{slice_get-push_cases, slice_get-take}
use Rattle.gc_model.proofs.RootsMoved.{slots-empty}
use Rattle.gc_model.proofs.SlotsSet.{slots-set}

module _ (place : Placing) (frames : List (List Slot)) (entries : List (List SlotEntry)) (by : FramesBy place frames entries) where
  module _ (count : ℕ) where
    abbrev new_frame : List Slot
    new_frame = replicate count null_slot

    abbrev new_slots : List SlotEntry
    new_slots = replicate count empty_entry

    opened_at : (i : ℕ) (slots : List SlotEntry) (frame : List Slot) → slice_get (opened count empty_entry entries) i ≡ Some slots → slice_get (opened count null_slot frames) i ≡ Some frame → SlotsBy place frame slots
    opened_at i slots frame e f =
        elim (slice_get-push_cases entries new_slots i slots e) [
          | inl old ↦ elim (slice_get-push_cases frames new_frame i frame f) [
            | inl there ↦ by.each i slots frame old there
            | inr end ↦ absurd (omega (arith, end.0, by.same_count, slice_get_within entries i slots old))
          ]
          | inr new ↦ elim (slice_get-push_cases frames new_frame i frame f) [
            | inl there ↦ absurd (omega (arith, new.0, by.same_count, slice_get_within frames i frame there))
            | inr end ↦ subst (λ (x : List Slot). SlotsBy place x slots) end.1 (subst (λ (x : List SlotEntry). SlotsBy place new_frame x) new.1 (slots-empty place count))
          ]
        ]

    pub frames-opened : FramesBy place (opened count null_slot frames) (opened count empty_entry entries)
    frames-opened = record {
      same_count = omega (arith, length-append entries (new_slots ∷ []), length-append frames (new_frame ∷ []), by.same_count);
      each = opened_at;
    }

  pub frames-closed : FramesBy place (closed frames) (closed entries)
  frames-closed = record {
    same_count = omega (arith, length-take (length entries - 1) entries, length-take (length frames - 1) frames, by.same_count);
    each = λ i slots frame e f. by.each i slots frame (slice_get-take (length entries - 1) entries i slots e) (slice_get-take (length frames - 1) frames i frame f);
  }

  pub newest-stand : SlotsBy place (newest frames) (newest entries)
  newest-stand = elim ((slice_get_cases frames (length frames - 1)).1) [
    | inl found ↦
        let within : length frames - 1 < length entries = omega (arith, found.1, by.same_count) in
        let entries_end : length entries - 1 ≡ length frames - 1 = omega (arith, by.same_count) in
        subst (λ (n : ℕ). SlotsBy place (newest frames) (slice_index_or entries n [])) (sym entries_end)
        (by.each (length frames - 1) _ _ (slice_get-get_or entries (length frames - 1) [] within) (slice_get-get_or frames (length frames - 1) [] found.1))
    | inr past ↦ no_frames frames entries by (omega (arith, past.0))
  ]
    where
      no_frames : (fs : List (List Slot)) (es : List (List SlotEntry)) → FramesBy place fs es → length fs ≡ 0 → SlotsBy place (newest fs) (newest es)
      no_frames [] [] is none = slots-empty place 0
      no_frames [] (e ∷ es) is none = absurd (omega (arith, is.same_count))
      no_frames (f ∷ fs) es is none = absurd (omega (arith, none))

  module _ (i : ℕ) (frame : List Slot) (slots : List SlotEntry) (stand : SlotsBy place frame slots) where
    set_at : (j : ℕ) (slots' : List SlotEntry) (frame' : List Slot) → slice_get (slice_set entries i slots) j ≡ Some slots' → slice_get (slice_set frames i frame) j ≡ Some frame' → SlotsBy place frame' slots'
    set_at j slots' frame' e f =
        elim (cases_eq j i) [
          | inl same ↦
              let in_frames : i < length frames = omega (arith, slice_get_within (slice_set frames i frame) j frame' f, length-set frames i frame, same) in
              let in_entries : i < length entries = omega (arith, in_frames, by.same_count) in
              let frame_both : Some frame ≡ Some frame' = sym (slice_get-set_same frames i frame in_frames) ∙ ap (slice_get (slice_set frames i frame)) (sym same) ∙ f in
              let slots_both : Some slots ≡ Some slots' = sym (slice_get-set_same entries i slots in_entries) ∙ ap (slice_get (slice_set entries i slots)) (sym same) ∙ e in
              let frame_is : frame ≡ frame' = grind (arith, frame_both) in
              let slots_is : slots ≡ slots' = grind (arith, slots_both) in
              subst (λ (x : List Slot). SlotsBy place x slots') frame_is (subst (λ (x : List SlotEntry). SlotsBy place frame x) slots_is stand)
          | inr differ ↦ by.each j slots' frame' (sym (slice_get-set_other entries i j slots differ) ∙ e) (sym (slice_get-set_other frames i j frame differ) ∙ f)
        ]

    frames-set : FramesBy place (slice_set frames i frame) (slice_set entries i slots)
    frames-set = record {
      same_count = length-set entries i slots ∙ by.same_count ∙ sym (length-set frames i frame);
      each = set_at;
    }

  pub frames-changed : (index : ℕ) (class : GcClass) (r : Reference) (word : ℕ) → IsWord place r word
      → FramesBy place (changed index (record { class = class; reference = r }) frames) (changed index (record { class = class; word = word }) entries)
  frames-changed index class r word is =
      let slots : List SlotEntry = slice_set (newest entries) index (record { class = class; word = word }) in
      let frame : List Slot = slice_set (newest frames) index (record { class = class; reference = r }) in
      let end : length frames - 1 ≡ length entries - 1 = omega (arith, by.same_count) in
      subst (λ (n : ℕ). FramesBy place (slice_set frames (length frames - 1) frame) (slice_set entries n slots)) end
      (frames-set (length frames - 1) frame slots (slots-set place index class r word is (newest frames) (newest entries) newest-stand))
