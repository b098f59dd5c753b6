-- The frames of an owner, cut from the slots of all of them.
use Rattle.std.proofs.Common.{◌≡◌, ℕ, zero, suc, ◌+◌, ◌-◌, ◌<◌, ◌≤◌, List, [], ◌∷◌, ◌++◌, length, map, take, drop, refl, sym, ap, ap₂, ◌∙◌, subst, arith}
use Rattle.std.specs.List.{flat_map}
use Rattle.std.specs.Prelude.{slice_set, slice_index_or, replicate}
use Rattle.std.proofs.lemmas.List.{take-map, drop-map, map-append, append-nil, take-append-drop, take-append-le, drop-take, drop_all, take_all, take_more, length-append, length-drop, nil_from_length, get_or-append_right, get_or-drop}
use Rattle.std.proofs.Math.Seq.{drop-append_seam, set-append_seam}
use Rattle.gc_owner.specs.declared.entry.SlotEntry.{SlotEntry}
use Rattle.gc_owner.specs.RootColumns.{RootsView, RiseFrom, AreFrames, HasSlot, newest_start, empty_slot, with_frame, without_frame, with_slot}
use Rattle.gc_owner.proofs.FrameLemmas.{frames_less}
use Rattle.gc_model.specs.Frames.{newest, opened, closed, changed}
use Rattle.gc_model.specs.Shown.{slots_up_to, frames_of}

module _ (change : SlotEntry → SlotEntry) (slots : List SlotEntry) where
  up_to_mapped : (starts : List ℕ) (start : ℕ) → slots_up_to starts start (map change slots) ≡ map change (slots_up_to starts start slots)
  up_to_mapped [] start = drop-map change start slots
  up_to_mapped (next ∷ starts) start = ap (take (next - start)) (drop-map change start slots) ∙ take-map change (next - start) (drop start slots)

  -- slots that are changed one by one are changed in their frames
  pub frames-mapped : (starts : List ℕ) → frames_of starts (map change slots) ≡ map (map change) (frames_of starts slots)
  frames-mapped [] = refl
  frames-mapped (start ∷ starts) = ap₂ (λ (x : List SlotEntry) (xs : List (List SlotEntry)). x ∷ xs) (up_to_mapped starts start) (frames-mapped starts)

-- what lies behind a place, from another one on
drop_later : {X : Type 0} (a b : ℕ) (xs : List X) → a ≤ b → drop (b - a) (drop a xs) ≡ drop b xs
drop_later zero b xs within = let none : b - 0 ≡ b = omega arith in ap (λ (n : ℕ). drop n xs) none
drop_later (suc a) zero xs within = absurd (omega (arith, within))
drop_later (suc a) (suc b) [] within = drop_all (suc b - suc a) [] (omega arith)
drop_later (suc a) (suc b) (x ∷ xs) within = let less : suc b - suc a ≡ b - a = omega arith in ap (λ (n : ℕ). drop n (drop a xs)) less ∙ drop_later a b xs (omega (arith, within))

take_shorter : {X : Type 0} (a b : ℕ) (xs : List X) → a ≤ b → take a (take b xs) ≡ take a xs
take_shorter zero b xs within = refl
take_shorter (suc a) zero xs within = absurd (omega (arith, within))
take_shorter (suc a) (suc b) [] within = refl
take_shorter (suc a) (suc b) (x ∷ xs) within = ap (λ (ys : List _). x ∷ ys) (take_shorter a b xs (omega (arith, within)))

-- the words of some slots
abbrev pub words_of : List SlotEntry → List ℕ
words_of slots = map (λ (e : SlotEntry). e.word) slots

module _ (slots : List SlotEntry) where
  words_from : (start : ℕ) (starts : List ℕ) → RiseFrom start starts (length slots) → flat_map words_of (frames_of (start ∷ starts) slots) ≡ words_of (drop start slots)
  words_from start [] rise = append-nil (words_of (drop start slots))
  words_from start (next ∷ starts) rise =
      let front = take (next - start) (drop start slots) in
      ap (λ (ws : List ℕ). words_of front ++ ws) (words_from next starts rise.1)
      ∙ sym (map-append (λ (e : SlotEntry). e.word) front (drop next slots))
      ∙ ap (λ (es : List SlotEntry). words_of (front ++ es)) (sym (drop_later start next slots rise.0))
      ∙ ap words_of (take-append-drop (next - start) (drop start slots))

  -- the words of the frames are those of all slots
  pub frame_words : (starts : List ℕ) → AreFrames starts (length slots) → flat_map words_of (frames_of starts slots) ≡ words_of slots
  frame_words [] are = ap words_of (sym (nil_from_length slots are))
  frame_words (start ∷ starts) are = words_from start starts are.1 ∙ ap (λ (n : ℕ). words_of (drop n slots)) are.0

  up_to_cut : (starts : List ℕ) (place start : ℕ) → RiseFrom place starts start → slots_up_to (starts ++ start ∷ []) place slots ≡ slots_up_to starts place (take start slots)
  up_to_cut [] place start rise =
      let end : place + (start - place) ≡ start = omega (arith, rise) in
      sym (drop-take place (start - place) slots) ∙ ap (λ (n : ℕ). drop place (take n slots)) end
  up_to_cut (next ∷ starts) place start rise =
      let end : place + (start - place) ≡ start = omega (arith, rise.0, rises_to next starts start rise.1) in
      let within : next - place ≤ start - place = omega (arith, rises_to next starts start rise.1) in
      sym (take_shorter (next - place) (start - place) (drop place slots) within)
      ∙ ap (take (next - place)) (sym (drop-take place (start - place) slots) ∙ ap (λ (n : ℕ). drop place (take n slots)) end)
    where
      rises_to : (first : ℕ) (rest : List ℕ) (last : ℕ) → RiseFrom first rest last → first ≤ last
      rises_to first [] last rise = rise
      rises_to first (second ∷ rest) last rise = omega (arith, rise.0, rises_to second rest last rise.1)

  rise_cut : (place : ℕ) (starts : List ℕ) (start : ℕ) → RiseFrom place starts start → frames_of (starts ++ start ∷ []) slots ≡ frames_of starts (take start slots) ++ drop start slots ∷ []
  rise_cut place [] start rise = refl
  rise_cut place (next ∷ starts) start rise = ap₂ (λ (x : List SlotEntry) (xs : List (List SlotEntry)). x ∷ xs) (up_to_cut starts next start rise.1) (rise_cut next starts start rise.1)

  -- the newest frame is cut off where it begins
  frames_cut : (starts : List ℕ) (start : ℕ) → AreFrames starts start → frames_of (starts ++ start ∷ []) slots ≡ frames_of starts (take start slots) ++ drop start slots ∷ []
  frames_cut [] start are = refl
  frames_cut (first ∷ starts) start are = rise_cut 0 (first ∷ starts) start (omega arith, are.1)

-- the newest frame is the last one
module _ {X : Type 0} (frames : List (List X)) (last : List X) where
  end_is : length (frames ++ last ∷ []) - 1 ≡ length frames
  end_is = omega (arith, length-append frames (last ∷ []))

  newest_last : newest (frames ++ last ∷ []) ≡ last
  newest_last = get_or-append_right frames (last ∷ []) (length frames) (length (frames ++ last ∷ []) - 1) [] refl (omega (arith, end_is)) ∙ ap (λ (n : ℕ). slice_index_or (last ∷ []) n []) (let none : length (frames ++ last ∷ []) - 1 - length frames ≡ 0 = omega (arith, end_is) in none)

  closed_last : closed (frames ++ last ∷ []) ≡ frames
  closed_last = ap (λ (n : ℕ). take n (frames ++ last ∷ [])) end_is ∙ take-append-le (length frames) frames (last ∷ []) (omega arith) ∙ take_all (length frames) frames (omega arith)

  changed_last : (index : ℕ) (x : X) → changed index x (frames ++ last ∷ []) ≡ frames ++ slice_set last index x ∷ []
  changed_last index x =
      ap₂ (λ (n : ℕ) (xs : List X). slice_set (frames ++ last ∷ []) n (slice_set xs index x)) end_is newest_last
      ∙ set-append_seam frames last [] (slice_set last index x)

-- an element that is set behind a place
take_set : {X : Type 0} (n j : ℕ) (x : X) (xs : List X) → n ≤ j → take n (slice_set xs j x) ≡ take n xs
take_set zero j x xs behind = refl
take_set (suc n) zero x xs behind = absurd (omega (arith, behind))
take_set (suc n) (suc j) x [] behind = refl
take_set (suc n) (suc j) x (y ∷ xs) behind = ap (λ (ys : List _). y ∷ ys) (take_set n j x xs (omega (arith, behind)))

drop_set : {X : Type 0} (n i j : ℕ) (x : X) (xs : List X) → j ≡ n + i → drop n (slice_set xs j x) ≡ slice_set (drop n xs) i x
drop_set zero i j x xs is = let same : j ≡ i = omega (arith, is) in ap (λ (k : ℕ). slice_set xs k x) same
drop_set (suc n) i zero x xs is = absurd (omega (arith, is))
drop_set (suc n) i (suc j) x [] is = refl
drop_set (suc n) i (suc j) x (y ∷ xs) is = drop_set n i j x xs (omega (arith, is))

-- A frame that is opened is one more frame, of empty slots.
pub frames-pushed : (count : ℕ) (r : RootsView) → AreFrames r.frames (length r.slots) → frames_of (with_frame count r).frames (with_frame count r).slots ≡ opened count empty_slot (frames_of r.frames r.slots)
frames-pushed count r are =
    let new : List SlotEntry = replicate count empty_slot in
    let front : take (length r.slots) (r.slots ++ new) ≡ r.slots = take-append-le (length r.slots) r.slots new (omega arith) ∙ take_all (length r.slots) r.slots (omega arith) in
    frames_cut (r.slots ++ new) r.frames (length r.slots) are
    ∙ ap₂ (λ (es : List SlotEntry) (last : List SlotEntry). frames_of r.frames es ++ last ∷ []) front (drop-append_seam r.slots new)

-- the roots of which a frame is open
module _ (r : RootsView) (are : AreFrames r.frames (length r.slots)) (some : 0 < length r.frames) where
  abbrev start : ℕ
  start = newest_start r

  abbrev older : List ℕ
  older = take (length r.frames - 1) r.frames

  split : r.frames ≡ older ++ start ∷ []
  split =
      let count : length r.frames - 1 + 1 ≡ length r.frames = omega (arith, some) in
      sym (take_all (length r.frames) r.frames (omega arith)) ∙ ap (λ (n : ℕ). take n r.frames) (sym count) ∙ take_more r.frames (length r.frames - 1) 0 (omega (arith, some))

  begin : AreFrames older start × (start ≤ length r.slots)
  begin = frames_less older start (length r.slots) (subst (λ (starts : List ℕ). AreFrames starts (length r.slots)) split are)

  cut : (slots : List SlotEntry) → frames_of r.frames slots ≡ frames_of older (take start slots) ++ drop start slots ∷ []
  cut slots = ap (λ (starts : List ℕ). frames_of starts slots) split ∙ frames_cut slots older start begin.0

  -- the slots of the newest frame
  pub newest_is : newest (frames_of r.frames r.slots) ≡ drop start r.slots
  newest_is = ap newest (cut r.slots) ∙ newest_last (frames_of older (take start r.slots)) (drop start r.slots)

  -- a frame that is closed is one less
  pub frames-popped : frames_of (without_frame r).frames (without_frame r).slots ≡ closed (frames_of r.frames r.slots)
  frames-popped = sym (ap closed (cut r.slots) ∙ closed_last (frames_of older (take start r.slots)) (drop start r.slots))

  -- a slot that is set is one of the newest
  pub frames-set : (index : ℕ) (entry : SlotEntry) → frames_of (with_slot index entry r).frames (with_slot index entry r).slots ≡ changed index entry (frames_of r.frames r.slots)
  frames-set index entry =
      cut (slice_set r.slots (start + index) entry)
      ∙ ap₂ (λ (es : List SlotEntry) (last : List SlotEntry). frames_of older es ++ last ∷ []) (take_set start (start + index) entry r.slots (omega arith)) (drop_set start index (start + index) entry r.slots refl)
      ∙ sym (ap (changed index entry) (cut r.slots) ∙ changed_last (frames_of older (take start r.slots)) (drop start r.slots) index entry)

  -- and so is one that is read
  pub slot_read : (index : ℕ) → slice_index_or r.slots (start + index) empty_slot ≡ slice_index_or (newest (frames_of r.frames r.slots)) index empty_slot
  slot_read index = sym (get_or-drop start r.slots index empty_slot) ∙ ap (λ (es : List SlotEntry). slice_index_or es index empty_slot) (sym newest_is)

  -- it is there where the newest frame has so many
  pub has_slot : (index : ℕ) → index < length (newest (frames_of r.frames r.slots)) → HasSlot r index
  has_slot index within = (some, omega (arith, within, ap length newest_is, length-drop start r.slots, begin.1))

-- there are as many frames as places where they begin
pub frames-count : (starts : List ℕ) (slots : List SlotEntry) → length (frames_of starts slots) ≡ length starts
frames-count [] slots = refl
frames-count (first ∷ starts) slots = ap suc (frames-count starts slots)
