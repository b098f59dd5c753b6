-- The roots of an owner are those of the table that its store holds: what they list is what the table's roots name.
use Rattle.std.proofs.Common.{◌≡◌, ℕ, ◌<◌, inl, inr, true, false, List, [], ◌∷◌, ◌++◌, length, map, Option, Some, None, Contains, sym, subst, arith}
use Rattle.std.specs.List.{slice_get, flat_map}
use Rattle.std.proofs.lemmas.List.Elements.{Contains-append_cases, Contains-append_left, Contains-append_right}
use Rattle.gc_types.specs.declared.kind.Layouts.{Layouts}
use Rattle.gc_roots.specs.Roots.{Root}
use Rattle.gc_owner.specs.declared.entry.RootEntry.{RootEntry}
use Rattle.gc_owner.specs.declared.entry.SlotEntry.{SlotEntry}
use Rattle.gc_owner.specs.declared.entry.OwnedEntry.{OwnedEntry}
use Rattle.gc_owner.specs.RootColumns.{RootsView, scoped_words, owned_words, frame_slot_words, global_words, listed_as, roots_of, AreFrames}
use Rattle.gc_owner.specs.Owners.{OwnerView}
use Rattle.gc_model.specs.Values.{Reference}
use Rattle.gc_model.specs.Table.{Table, Scoped, Slot, Owned}
use Rattle.gc_model.specs.Reach.{root_references, slot_references, owned_references, present}
use Rattle.gc_model.specs.Stores.{StoreView}
use Rattle.gc_model.specs.Words.{Placing, IsWord}
use Rattle.gc_model.specs.RootPoints.{SlotsBy, OwnedBy, PendingBy}
use Rattle.gc_model.specs.Holds.{Holds}
use Rattle.gc_model.proofs.Lists.{slice_get-same_length}
use Rattle.gc_model.proofs.Members.{map_among, among_map}
use Rattle.gc_memory.proofs.ListLemmas.{only_item}
use Rattle.gc_model.specs.Shown.{shown}
use Rattle.gc_model.proofs.Frames.{words_of, frame_words}
use Rattle.gc_model.proofs.CollectedLists.{get_contains, contains_map, contains_flat, flat_contains, map_get}
use Rattle.gc_model.proofs.Columns.{Names, none_in, is_first, listed_word, word_listed}

-- lists of roots and entries, which stand for each other one by one
names-each : {A B : Type 0} (place : Placing) (reference_of : A → Reference) (word_of : B → ℕ) (roots : List A) (entries : List B) → length entries ≡ length roots
    → ((i : ℕ) (e : B) (root : A) → slice_get entries i ≡ Some e → slice_get roots i ≡ Some root → IsWord place (reference_of root) (word_of e)) → Names place (map reference_of roots) (map word_of entries)
names-each place reference_of word_of roots entries count each = record {
  back = λ w c above.
      let found = contains_map word_of entries w c in
      let root = slice_get-same_length entries roots found.index found.element count found.there in (
        reference_of root.0,
        (
          get_contains (map reference_of roots) found.index (reference_of root.0) (map_get reference_of roots found.index root.0 root.1),
          subst (IsWord place (reference_of root.0)) found.is (each found.index found.element root.0 found.there root.1),
        ),
      );
  forth = λ r c.
      let found = contains_map reference_of roots r c in
      let entry = slice_get-same_length roots entries found.index found.element (sym count) found.there in (
        word_of entry.0,
        (
          get_contains (map word_of entries) found.index (word_of entry.0) (map_get word_of entries found.index entry.0 entry.1),
          subst (λ (q : Reference). IsWord place q (word_of entry.0)) found.is (each found.index entry.0 found.element entry.1 found.there),
        ),
      );
}

-- each of some owned roots has handles
abbrev pub AllHeld : List OwnedEntry → Type 0
AllHeld entries = (e : OwnedEntry) → Contains entries e → 0 < e.handles

-- slots name what they stand for
slots_named : (place : Placing) (slots : List Slot) (entries : List SlotEntry) → SlotsBy place slots entries → Names place (slot_references slots) (words_of entries)
slots_named place slots entries by = names-each place (λ (slot : Slot). slot.reference) (λ (e : SlotEntry). e.word) slots entries by.same_count (λ i e slot f g. (by.each i e slot f g).word)

-- owned roots that all have handles name what they stand for
owned-names : (place : Placing) (owns count : ℕ) (owned : List Owned) (entries : List OwnedEntry) → AllHeld entries → OwnedBy place owns count owned entries → Names place (owned_references owned) (map (λ (e : OwnedEntry). e.word) entries)
owned-names place owns count owned entries held by = record {
  back = λ w c above.
      let entry = map_among (λ (e : OwnedEntry). e.word) entries w c in
      let found = by.in_table entry.of entry.among (held entry.of entry.among) in
      (found.0.reference, (among_map (λ (root : Owned). root.reference) owned found.0 found.1.0, subst (IsWord place found.0.reference) entry.is found.1.1.word));
  forth = λ r c.
      let root = map_among (λ (x : Owned). x.reference) owned r c in
      let found = by.in_store root.of root.among in
      (found.0.word, (among_map (λ (e : OwnedEntry). e.word) entries found.0 found.1.0, subst (λ (q : Reference). IsWord place q found.0.word) root.is found.1.1.word));
}

pending-names : (place : Placing) (pending : Option Reference) (word : ℕ) → PendingBy place pending word → Names place (present pending) (word ∷ [])
pending-names place None word null = record {
  back = λ w c above. absurd (omega (arith, only_item word w c));
  forth = λ r c. absurd (none_in r c);
}
pending-names place (Some r) word stands = record {
  back = λ w c above. (r, (is_first r [], subst (IsWord place r) (only_item word w c) stands.0));
  forth = λ q c. (word, (is_first word [], subst (λ (x : Reference). IsWord place x word) (only_item r q c) stands.0));
}

-- the columns of an owner's roots, in the order of their list
module _ (r : RootsView) where
  abbrev behind_slots : List Root
  behind_slots = listed_as 3 false (global_words r) ++ listed_as 4 false (r.pending ∷ [])

  abbrev behind_owned : List Root
  behind_owned = listed_as 2 true (frame_slot_words r) ++ behind_slots

  abbrev behind_scoped : List Root
  behind_scoped = listed_as 1 false (owned_words r) ++ behind_owned

  -- A word is that of a root.
  abbrev pub IsRooted : ℕ → Type 0
  IsRooted w = (x : Root) × (Contains (roots_of r) x × (x.word ≡ w))

  pub scoped_rooted : (w : ℕ) → Contains (scoped_words r) w → 0 < w → IsRooted w
  scoped_rooted w c above = let found = word_listed 0 false (scoped_words r) w c above in (found.0, (Contains-append_left (listed_as 0 false (scoped_words r)) behind_scoped found.0 found.1.0, found.1.1))

  behind_rooted : (x : Root) → Contains behind_scoped x → Contains (roots_of r) x
  behind_rooted x c = Contains-append_right (listed_as 0 false (scoped_words r)) behind_scoped x c

  pub slot_rooted : (w : ℕ) → Contains (frame_slot_words r) w → 0 < w → IsRooted w
  slot_rooted w c above =
      let found = word_listed 2 true (frame_slot_words r) w c above in (
        found.0,
        (
          behind_rooted found.0 (Contains-append_right (listed_as 1 false (owned_words r)) behind_owned found.0 (Contains-append_left (listed_as 2 true (frame_slot_words r)) behind_slots found.0 found.1.0)),
          found.1.1,
        ),
      )

  pub owned_rooted : (w : ℕ) → Contains (owned_words r) w → 0 < w → IsRooted w
  owned_rooted w c above = let found = word_listed 1 false (owned_words r) w c above in (found.0, (behind_rooted found.0 (Contains-append_left (listed_as 1 false (owned_words r)) behind_owned found.0 found.1.0), found.1.1))

  slots_behind : (x : Root) → Contains behind_slots x → Contains (roots_of r) x
  slots_behind x c = behind_rooted x (Contains-append_right (listed_as 1 false (owned_words r)) behind_owned x (Contains-append_right (listed_as 2 true (frame_slot_words r)) behind_slots x c))

  pub global_rooted : (w : ℕ) → Contains (global_words r) w → 0 < w → IsRooted w
  global_rooted w c above = let found = word_listed 3 false (global_words r) w c above in (found.0, (slots_behind found.0 (Contains-append_left (listed_as 3 false (global_words r)) (listed_as 4 false (r.pending ∷ [])) found.0 found.1.0), found.1.1))

  pub pending_rooted : 0 < r.pending → IsRooted r.pending
  pending_rooted above = let found = word_listed 4 false (r.pending ∷ []) r.pending (is_first r.pending []) above in (found.0, (slots_behind found.0 (Contains-append_right (listed_as 3 false (global_words r)) (listed_as 4 false (r.pending ∷ [])) found.0 found.1.0), found.1.1))

-- the references of the table's roots, in order
module _ {D : Type 0} (t : Table D) where
  abbrev owned_and_pending : List Reference
  owned_and_pending = owned_references t.owned ++ present t.pending

  abbrev from_globals : List Reference
  from_globals = slot_references t.globals ++ owned_and_pending

  abbrev from_frames : List Reference
  from_frames = flat_map slot_references t.frames ++ from_globals

  abbrev scoped_references : List Reference
  scoped_references = map (λ (root : Scoped). root.reference) t.scoped

module _ {D : Type 0} (layouts : Layouts) (s : StoreView D) (t : Table D) (place : Placing) (holds : Holds layouts s t place) where
  scoped_named : Names place (scoped_references t) (map (λ (e : RootEntry). e.word) s.scoped)
  scoped_named = names-each place (λ (root : Scoped). root.reference) (λ (e : RootEntry). e.word) t.scoped s.scoped holds.scoped.same_count (λ i e root f g. (holds.scoped.each i e root f g).word)

  pub frames_named : Names place (flat_map slot_references t.frames) (flat_map words_of s.frames)
  frames_named = record {
    back = λ w c above.
        let among = contains_flat words_of s.frames w c in
        let frame = slice_get-same_length s.frames t.frames among.index among.element holds.frames.same_count among.there in
        let found = (slots_named place frame.0 among.element (holds.frames.each among.index among.element frame.0 among.there frame.1)).back w among.among above in
        (found.0, (flat_contains slot_references t.frames among.index frame.0 found.0 frame.1 found.1.0, found.1.1));
    forth = λ r c.
        let among = contains_flat slot_references t.frames r c in
        let slots = slice_get-same_length t.frames s.frames among.index among.element (sym holds.frames.same_count) among.there in
        let found = (slots_named place among.element slots.0 (holds.frames.each among.index slots.0 among.element slots.1 among.there)).forth r among.among in
        (found.0, (flat_contains words_of s.frames among.index slots.0 found.0 slots.1 found.1.0, found.1.1));
  }

  globals_named : Names place (slot_references t.globals) (map (λ (e : SlotEntry). e.word) s.globals)
  globals_named = slots_named place t.globals s.globals holds.globals.slots

  -- whatever owned roots without handles stand, what one of the table names has a word
  owned_word : (r : Reference) → Contains (owned_references t.owned) r → (w : ℕ) × IsWord place r w
  owned_word r c =
      let root = map_among (λ (x : Owned). x.reference) t.owned r c in
      let found = holds.owned.in_store root.of root.among in
      (found.0.word, subst (λ (q : Reference). IsWord place q found.0.word) root.is found.1.1.word)

  pending_named : Names place (present t.pending) (s.pending ∷ [])
  pending_named = pending-names place t.pending s.pending holds.pending.same_word

  -- what a root of the table names has a word
  pub root_word : (r : Reference) → Contains (root_references t) r → (w : ℕ) × IsWord place r w
  root_word r c = elim (Contains-append_cases (scoped_references t) (from_frames t) r c) [
    | inl scoped ↦ let found = scoped_named.forth r scoped in (found.0, found.1.1)
    | inr behind ↦ elim (Contains-append_cases (flat_map slot_references t.frames) (from_globals t) r behind) [
      | inl slot ↦ let found = frames_named.forth r slot in (found.0, found.1.1)
      | inr rest ↦ elim (Contains-append_cases (slot_references t.globals) (owned_and_pending t) r rest) [
        | inl global ↦ let found = globals_named.forth r global in (found.0, found.1.1)
        | inr last ↦ elim (Contains-append_cases (owned_references t.owned) (present t.pending) r last) [
          | inl one ↦ owned_word r one
          | inr pending ↦ let found = pending_named.forth r pending in (found.0, found.1.1)
        ]
      ]
    ]
  ]

-- the slots of an owner are those of its frames
abbrev pub SlotsInFrames : RootsView → Type 0
SlotsInFrames r = AreFrames r.frames (length r.slots)

module _ {D : Type 0} (layouts : Layouts) (s : StoreView D) (v : OwnerView D) (t : Table D) (place : Placing) (holds : Holds layouts (shown s v) t place) where
  abbrev store : StoreView D
  store = shown s v

  -- a root that is listed has the word of a reference that is a root of the table
  pub listed_named : AllHeld v.roots.owned → SlotsInFrames v.roots → (x : Root) → Contains (roots_of v.roots) x → (r : Reference) × (Contains (root_references t) r × IsWord place r x.word)
  listed_named all_held in_frames x c = elim (Contains-append_cases (listed_as 0 false (scoped_words v.roots)) (behind_scoped v.roots) x c) [
    | inl scoped ↦
        let w = listed_word 0 false (scoped_words v.roots) x scoped in
        let found = (scoped_named layouts store t place holds).back x.word w.0 w.1 in
        (found.0, (Contains-append_left (scoped_references t) (from_frames t) found.0 found.1.0, found.1.1))
    | inr behind ↦ elim (Contains-append_cases (listed_as 1 false (owned_words v.roots)) (behind_owned v.roots) x behind) [
      | inl one ↦
          let w = listed_word 1 false (owned_words v.roots) x one in
          let found = (owned-names place t.owns v.roots.owns t.owned v.roots.owned all_held holds.owned).back x.word w.0 w.1 in
          (found.0, (globals_in found.0 (Contains-append_right (slot_references t.globals) (owned_and_pending t) found.0 (Contains-append_left (owned_references t.owned) (present t.pending) found.0 found.1.0)), found.1.1))
      | inr rest ↦ elim (Contains-append_cases (listed_as 2 true (frame_slot_words v.roots)) (behind_slots v.roots) x rest) [
        | inl slot ↦
            let w = listed_word 2 true (frame_slot_words v.roots) x slot in
            let among = subst (λ (ws : List ℕ). Contains ws x.word) (sym (frame_words v.roots.slots v.roots.frames in_frames)) w.0 in
            let found = (frames_named layouts store t place holds).back x.word among w.1 in
            (found.0, (Contains-append_right (scoped_references t) (from_frames t) found.0 (Contains-append_left (flat_map slot_references t.frames) (from_globals t) found.0 found.1.0), found.1.1))
        | inr last ↦ elim (Contains-append_cases (listed_as 3 false (global_words v.roots)) (listed_as 4 false (v.roots.pending ∷ [])) x last) [
          | inl global ↦
              let w = listed_word 3 false (global_words v.roots) x global in
              let found = (globals_named layouts store t place holds).back x.word w.0 w.1 in
              (found.0, (globals_in found.0 (Contains-append_left (slot_references t.globals) (owned_and_pending t) found.0 found.1.0), found.1.1))
          | inr pending ↦
              let w = listed_word 4 false (v.roots.pending ∷ []) x pending in
              let found = (pending_named layouts store t place holds).back x.word w.0 w.1 in
              (found.0, (globals_in found.0 (Contains-append_right (slot_references t.globals) (owned_and_pending t) found.0 (Contains-append_right (owned_references t.owned) (present t.pending) found.0 found.1.0)), found.1.1))
        ]
      ]
    ]
  ]
    where
      globals_in : (r : Reference) → Contains (from_globals t) r → Contains (root_references t) r
      globals_in r c = Contains-append_right (scoped_references t) (from_frames t) r (Contains-append_right (flat_map slot_references t.frames) (from_globals t) r c)
