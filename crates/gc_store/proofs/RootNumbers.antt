-- Where the roots of one kind lie among the root words.
use Rattle.std.proofs.Common.{◌≡◌, ℕ, zero, suc, ◌+◌, ◌-◌, ◌<◌, ◌≤◌, List, [], ◌∷◌, ◌++◌, length, map, drop, get_or, slice_index_or, Option, Some, refl, sym, ap, ◌∙◌, arith}
use Rattle.std.specs.List.{slice_get, flat_map}
use Rattle.std.specs.Option.{option_map}
use Rattle.std.proofs.lemmas.List.{map-append, length-map}
use Rattle.std.proofs.lemmas.Option.{none-some, slice_get-map, slice_get-get_or}
use Rattle.gc_owner.specs.declared.entry.RootEntry.{RootEntry}
use Rattle.gc_owner.specs.declared.entry.OwnedEntry.{OwnedEntry}
use Rattle.gc_owner.specs.declared.entry.SlotEntry.{SlotEntry}
use Rattle.gc_owner.specs.RootColumns.{global_count, empty_slot}
use Rattle.gc_store.specs.declared.root_words.RootWord.{RootWord}
use Rattle.gc_store.specs.declared.root_words.RootName.TheVariants as name
use Rattle.gc_store.specs.RootWords.{with_numbers, root_word, global_root_word, slot_root_word, slot_words, slot_roots, owned_root_word, scoped_root_word, handle_root_words}
use Rattle.gc_values.specs.SlotCounts.{slot_counts}

pub append_front : {X : Type 0} (xs ys : List X) (i : ℕ) → i < length xs → slice_get (xs ++ ys) i ≡ slice_get xs i
append_front [] ys i within = absurd (omega (arith, within))
append_front (x ∷ xs) ys zero within = refl
append_front (x ∷ xs) ys (suc i) within = append_front xs ys i (omega (arith, within))

pub append_behind : {X : Type 0} (xs ys : List X) (i : ℕ) → length xs ≤ i → slice_get (xs ++ ys) i ≡ slice_get ys (i - length xs)
append_behind [] ys i past = ap (slice_get ys) (omega arith)
append_behind (x ∷ xs) ys zero past = absurd (omega (arith, past))
append_behind (x ∷ xs) ys (suc i) past = append_behind xs ys i (omega (arith, past)) ∙ ap (slice_get ys) (omega arith)

pub numbered_at : {A B : Type 0} (give : ℕ → A → B) (from : ℕ) (xs : List A) (i : ℕ) → slice_get (with_numbers give from xs) i ≡ option_map (give (from + i)) (slice_get xs i)
numbered_at give from [] i = refl
numbered_at give from (x ∷ xs) zero = ap (λ (n : ℕ). Some (give n x)) (omega arith)
numbered_at give from (x ∷ xs) (suc i) = numbered_at give (from + 1) xs i ∙ ap (λ (n : ℕ). option_map (give n) (slice_get xs i)) (omega arith)

pub numbered_count : {A B : Type 0} (give : ℕ → A → B) (from : ℕ) (xs : List A) → length (with_numbers give from xs) ≡ length xs
numbered_count give from [] = refl
numbered_count give from (x ∷ xs) = ap suc (numbered_count give (from + 1) xs)

-- The words of the slots are those of their frames.
numbered_words : (frame from : ℕ) (slots : List SlotEntry) → map (λ (r : RootWord). r.word) (with_numbers (slot_root_word frame) from slots) ≡ slot_words slots
numbered_words frame from [] = refl
numbered_words frame from (e ∷ slots) = ap (λ (ws : List ℕ). e.word ∷ ws) (numbered_words frame (from + 1) slots)

words_are : (from : ℕ) (frames : List (List SlotEntry)) → map (λ (r : RootWord). r.word) (slot_roots from frames) ≡ flat_map slot_words frames
words_are from [] = refl
words_are from (slots ∷ frames) =
    map-append (λ (r : RootWord). r.word) (with_numbers (slot_root_word from) 0 slots) (slot_roots (from + 1) frames)
    ∙ ap (λ (ws : List ℕ). ws ++ map (λ (r : RootWord). r.word) (slot_roots (from + 1) frames)) (numbered_words from 0 slots)
    ∙ ap (λ (ws : List ℕ). slot_words slots ++ ws) (words_are (from + 1) frames)

-- what a place behind the slots of a frame holds lies in the frames behind it
pub skipped : (from : ℕ) (frames : List (List SlotEntry)) (k slot count : ℕ) → slice_get (slot_counts frames) k ≡ Some count → count ≤ slot
    → slice_get (slot_roots from (drop k frames)) slot ≡ slice_get (slot_roots (from + 1) (drop (k + 1) frames)) (slot - count)
skipped from [] k slot count is past = absurd (none-some count is)
skipped from (slots ∷ frames) zero slot count is past =
    let same : length slots ≡ count = cc in
    let all : length (with_numbers (slot_root_word from) 0 slots) ≡ count = numbered_count (slot_root_word from) 0 slots ∙ same in
    append_behind (with_numbers (slot_root_word from) 0 slots) (slot_roots (from + 1) frames) slot (omega (arith, all, past))
    ∙ ap (λ (n : ℕ). slice_get (slot_roots (from + 1) frames) (slot - n)) all
skipped from (slots ∷ frames) (suc k) slot count is past =
    let next : suc (k + 1) ≡ suc k + 1 = omega arith in
    skipped from frames k slot count is past ∙ ap (λ (n : ℕ). slice_get (slot_roots (from + 1) (drop n (slots ∷ frames))) (slot - count)) next

-- a slot of a frame
record IsSlot (from slot : ℕ) (found : Option RootWord) : Type 0 where
  entry : SlotEntry
  is : found ≡ Some (slot_root_word from slot entry)

in_frame : (from : ℕ) (frames : List (List SlotEntry)) (k slot count : ℕ) → slice_get (slot_counts frames) k ≡ Some count → slot < count
    → IsSlot from slot (slice_get (slot_roots from (drop k frames)) slot)
in_frame from [] k slot count is within = absurd (none-some count is)
in_frame from (slots ∷ frames) zero slot count is within =
    let same : length slots ≡ count = cc in
    let inside : slot < length slots = omega (arith, same, within) in
    let all = numbered_count (slot_root_word from) 0 slots in
    let none : SlotEntry = get_or slots slot empty_slot in
    record {
      entry = none;
      is = append_front (with_numbers (slot_root_word from) 0 slots) (slot_roots (from + 1) frames) slot (omega (arith, all, inside))
          ∙ numbered_at (slot_root_word from) 0 slots slot
          ∙ ap (λ (n : ℕ). option_map (slot_root_word from n) (slice_get slots slot)) (omega arith)
          ∙ ap (option_map (slot_root_word from slot)) (slice_get-get_or slots slot empty_slot inside);
    }
in_frame from (slots ∷ frames) (suc k) slot count is within = in_frame from frames k slot count is within

-- the slot at a place, by the frame and the slot that were found
pub slot_found : (frames : List (List SlotEntry)) (slots : List SlotEntry) (place k slot count word : ℕ)
    → flat_map slot_words frames ≡ slot_words slots → slice_get (slot_words slots) place ≡ Some word
    → slice_get (slot_roots 0 frames) place ≡ slice_get (slot_roots k (drop k frames)) slot
    → slice_get (slot_counts frames) k ≡ Some count → slot < count
    → Some (root_word (name.Slot k slot) word) ≡ slice_get (slot_roots 0 frames) place
slot_found frames slots place k slot count word same word_is goes is within =
    let at = in_frame k frames k slot count is within in
    let here : slice_get (slot_roots 0 frames) place ≡ Some (slot_root_word k slot at.entry) = goes ∙ at.is in
    let words : Some at.entry.word ≡ Some word =
    sym (ap (option_map (λ (r : RootWord). r.word)) here)
    ∙ sym (slice_get-map (λ (r : RootWord). r.word) (slot_roots 0 frames) place)
    ∙ ap (λ (ws : List ℕ). slice_get ws place) (words_are 0 frames ∙ same)
    ∙ word_is in
    let alike : at.entry.word ≡ word = cc in
    ap (λ (n : ℕ). Some (root_word (name.Slot k slot) n)) (sym alike) ∙ sym here

-- The root of a number behind the owned roots.
pub scoped_at : (owned : List OwnedEntry) (scoped : List RootEntry) (number : ℕ) → length owned ≤ number
    → slice_get (handle_root_words owned scoped) number ≡ option_map (scoped_root_word (number - length owned)) (slice_get scoped (number - length owned))
scoped_at owned scoped number past =
    let count : length (map owned_root_word owned) ≡ length owned = length-map owned owned_root_word in
    append_behind (map owned_root_word owned) (with_numbers scoped_root_word 0 scoped) number (omega (arith, count, past))
    ∙ ap (λ (n : ℕ). slice_get (with_numbers scoped_root_word 0 scoped) (number - n)) count
    ∙ numbered_at scoped_root_word 0 scoped (number - length owned)
    ∙ ap (λ (n : ℕ). option_map (scoped_root_word n) (slice_get scoped (number - length owned))) (omega arith)

-- As many roots are slots as the frames have.
slots_count : (frames : List (List SlotEntry)) (slots : List SlotEntry) → flat_map slot_words frames ≡ slot_words slots → length (slot_roots 0 frames) ≡ length slots
slots_count frames slots same =
    sym (length-map (slot_roots 0 frames) (λ (r : RootWord). r.word))
    ∙ ap (λ (ws : List ℕ). length ws) (words_are 0 frames ∙ same)
    ∙ length-map slots (λ (e : SlotEntry). e.word)

pub slot_front : (frames : List (List SlotEntry)) (slots : List SlotEntry) (behind : List RootWord) (number : ℕ) → flat_map slot_words frames ≡ slot_words slots → number < length slots
    → slice_get (slot_roots 0 frames ++ behind) number ≡ slice_get (slot_roots 0 frames) number
slot_front frames slots behind number same within =
    let count = slots_count frames slots same in
    append_front (slot_roots 0 frames) behind number (omega (arith, count, within))

pub slot_behind : (frames : List (List SlotEntry)) (slots : List SlotEntry) (behind : List RootWord) (number : ℕ) → flat_map slot_words frames ≡ slot_words slots → length slots ≤ number
    → slice_get (slot_roots 0 frames ++ behind) number ≡ slice_get behind (number - length slots)
slot_behind frames slots behind number same past =
    let count = slots_count frames slots same in
    append_behind (slot_roots 0 frames) behind number (omega (arith, count, past)) ∙ ap (λ (n : ℕ). slice_get behind (number - n)) count

-- The globals come first, then what is pending, and then the others.
module _ (globals : List SlotEntry) (count : length globals ≡ global_count) (pending : RootWord) (behind : List RootWord) (number : ℕ) where
  all_count : length (with_numbers global_root_word 0 globals) ≡ global_count
  all_count = numbered_count global_root_word 0 globals ∙ count

  pub global_at : number < global_count → Some (global_root_word number (slice_index_or globals number empty_slot)) ≡ slice_get (with_numbers global_root_word 0 globals ++ pending ∷ behind) number
  global_at within =
      let all = all_count in
      let inside : number < length globals = omega (arith, count, within) in
      sym (append_front (with_numbers global_root_word 0 globals) (pending ∷ behind) number (omega (arith, all, within))
      ∙ numbered_at global_root_word 0 globals number
      ∙ ap (λ (n : ℕ). option_map (global_root_word n) (slice_get globals number)) (omega arith)
      ∙ ap (option_map (global_root_word number)) (slice_get-get_or globals number empty_slot inside))

  pub pending_at : number ≡ global_count → Some pending ≡ slice_get (with_numbers global_root_word 0 globals ++ pending ∷ behind) number
  pending_at is =
      let all = all_count in
      let first : number - length (with_numbers global_root_word 0 globals) ≡ 0 = omega (arith, all, is) in
      sym (append_behind (with_numbers global_root_word 0 globals) (pending ∷ behind) number (omega (arith, all, is)) ∙ ap (slice_get (pending ∷ behind)) first)

  pub behind_at : global_count < number → slice_get behind (number - global_count - 1) ≡ slice_get (with_numbers global_root_word 0 globals ++ pending ∷ behind) number
  behind_at past =
      let all = all_count in
      let next : number - length (with_numbers global_root_word 0 globals) ≡ suc (number - global_count - 1) = omega (arith, all, past) in
      sym (append_behind (with_numbers global_root_word 0 globals) (pending ∷ behind) number (omega (arith, all, past)) ∙ ap (slice_get (pending ∷ behind)) next)
