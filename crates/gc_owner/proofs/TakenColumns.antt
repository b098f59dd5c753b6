-- Entries that take their words from a list, one after the other.
use Rattle.std.proofs.Common.{◌≡◌, ℕ, ◌+◌, ◌<◌, ◌≤◌, ◌⊎◌, inl, inr, Bool, cond, nat_eq, List, [], ◌∷◌, ◌++◌, length, map, take, drop, get_or, set, refl, sym, ap, ◌∙◌, arith}
use Rattle.std.proofs.lemmas.Bool.{cases_eq, ne_eqb, eq-eqb}
use Rattle.std.proofs.lemmas.List.{take_more, drop_more, take_all, map-append, append_assoc, append-nil, length-map, length-take, length-drop, get_or_at, get_or-drop, set_at, drop-drop}
use Rattle.gc_roots.specs.Roots.{Root, root, root_at, no_root}
use Rattle.gc_heap.specs.Collection.{moved, moved_root}
use Rattle.gc_owner.specs.RootColumns.{listed_as, ColumnFollows}
use Rattle.gc_owner.proofs.ListedRoots.{listed_present, listed_null, listed-append}

-- one more word is listed
pub listed_more : {T : Type 0} (word_of : T → ℕ) (entries : List T) (index : ℕ) (d : T) (place : ℕ) (b : Bool) (before old new : List Root) (word : ℕ) → index < length entries → word ≡ word_of (get_or entries index d)
    → old ≡ before ++ listed_as place b (map word_of (take index entries)) → new ≡ old ++ listed_as place b (word ∷ []) → new ≡ before ++ listed_as place b (map word_of (take (index + 1) entries))
listed_more word_of entries index d place b before old new word below is so_far one =
    one
    ∙ ap (λ (rs : List Root). rs ++ listed_as place b (word ∷ [])) so_far
    ∙ append_assoc before (listed_as place b (map word_of (take index entries))) (listed_as place b (word ∷ []))
    ∙ ap (λ (rs : List Root). before ++ rs) (sym (listed-append place b (map word_of (take index entries)) (word ∷ [])))
    ∙ ap (λ w. before ++ listed_as place b (map word_of (take index entries) ++ w ∷ [])) is
    ∙ ap (λ ws. before ++ listed_as place b ws) (sym (map-append word_of (take index entries) (get_or entries index d ∷ [])))
    ∙ ap (λ es. before ++ listed_as place b (map word_of es)) (sym (take_more entries index d below))

module _ {T : Type 0} (word_of : T → ℕ) (put_word : T → ℕ → T) (to : ℕ → ℕ) (place : ℕ) (b : Bool) (behind : List Root) (first : List T) (roots : List Root) where
  abbrev pub moved_entry : T → T
  moved_entry e = put_word e (moved to (word_of e))

  -- how far the entries have come, and where their words go on in the list
  pub record Taken (now : List T) (index at : ℕ) : Type 0 where
    pub entries : now ≡ map moved_entry (take index first) ++ drop index first
    pub rest : ColumnFollows at roots to place b (map word_of (drop index first)) behind

  pub all_taken : (now : List T) (index at : ℕ) → length first ≤ index → Taken now index at → (now ≡ map moved_entry first) × (drop at roots ≡ behind)
  all_taken now index at enough taken =
      let none : drop index first ≡ [] = nothing (drop index first) (let count = length-drop index first in omega arith) in (
        taken.entries ∙ ap (λ es. map moved_entry (take index first) ++ es) none ∙ append-nil (map moved_entry (take index first)) ∙ ap (map moved_entry) (take_all index first enough),
        taken.rest ∙ ap (λ es. map (moved_root to) (listed_as place b (map word_of es)) ++ behind) none,
      )
    where
      nothing : (es : List T) → length es ≡ 0 → es ≡ []
      nothing [] e = refl
      nothing (x ∷ es) e = absurd (omega arith)

  module _ (now : List T) (index at : ℕ) (d : T) (below : index < length first) (taken : Taken now index at) where
    abbrev entry : T
    entry = get_or first index d

    front : length (map moved_entry (take index first)) ≡ index
    front = let a = length-map (take index first) moved_entry in let t = length-take index first in omega arith

    split : now ≡ map moved_entry (take index first) ++ entry ∷ drop (index + 1) first
    split = taken.entries ∙ ap (λ es. map moved_entry (take index first) ++ es) (drop_more first index d below)

    pub entry_is : get_or now index d ≡ entry
    entry_is = ap (λ es. get_or es index d) split ∙ get_or_at (map moved_entry (take index first)) entry (drop (index + 1) first) d index front

    follow : drop at roots ≡ map (moved_root to) (listed_as place b (word_of entry ∷ map word_of (drop (index + 1) first))) ++ behind
    follow = taken.rest ∙ ap (λ es. map (moved_root to) (listed_as place b (map word_of es)) ++ behind) (drop_more first index d below)

    head : 0 < word_of entry → drop at roots ≡ root place b (moved to (word_of entry)) ∷ (map (moved_root to) (listed_as place b (map word_of (drop (index + 1) first))) ++ behind)
    head above = follow ∙ ap (λ rs. map (moved_root to) rs ++ behind) (listed_present place b (word_of entry) (map word_of (drop (index + 1) first)) above)

    inside : 0 < word_of entry → at < length roots
    inside above =
        let count = ap (λ (rs : List Root). length rs) (head above) in
        let left = length-drop at roots in
        omega arith

    -- the word can be read
    pub readable : (word : ℕ) → word ≡ word_of entry → (word ≡ 0) ⊎ (at < length roots)
    readable word is = elim (cases_eq word 0) [
      | inl null ↦ inl null
      | inr other ↦ let ne : (word ≡ 0 → ⊥) = other in inr (inside (omega arith))
    ]

    word_at : 0 < word_of entry → (root_at roots at).word ≡ moved to (word_of entry)
    word_at above =
        let same : at ≡ at + 0 = omega arith in
        ap (λ n. (get_or roots n no_root).word) same ∙ ap (λ (r : Root). r.word) (sym (get_or-drop at roots 0 no_root)) ∙ ap (λ (rs : List Root). (get_or rs 0 no_root).word) (head above)

    pub next_word : (word new_word : ℕ) → word ≡ word_of entry → new_word ≡ cond (nat_eq word 0) 0 (root_at roots at).word → new_word ≡ moved to (word_of entry)
    next_word word new_word is new_is = elim (cases_eq word 0) [
      | inl null ↦ new_is ∙ ap (λ t. cond t 0 (root_at roots at).word) (eq-eqb word 0 null) ∙ sym (ap (moved to) (sym is ∙ null))
      | inr other ↦ let ne : (word ≡ 0 → ⊥) = other in new_is ∙ ap (λ t. cond t 0 (root_at roots at).word) (ne_eqb word 0 ne) ∙ word_at (omega arith)
    ]

    next_rest : (word at' : ℕ) → word ≡ word_of entry → (word ≡ 0 → at' ≡ at) → (0 < word → at < length roots → at' ≡ at + 1) → ColumnFollows at' roots to place b (map word_of (drop (index + 1) first)) behind
    next_rest word at' is stays goes = elim (cases_eq word 0) [
      | inl null ↦
          ap (λ n. drop n roots) (stays null) ∙ follow ∙ ap (λ rs. map (moved_root to) rs ++ behind) (listed_null place b (word_of entry) (map word_of (drop (index + 1) first)) (sym is ∙ null))
      | inr other ↦
          let ne : (word ≡ 0 → ⊥) = other in
          let above : 0 < word_of entry = omega arith in
          ap (λ n. drop n roots) (goes (omega arith) (inside above)) ∙ sym (drop-drop 1 at roots) ∙ ap (drop 1) (head above)
    ]

    -- one more entry took its word
    pub taken_more : (word new_word at' : ℕ) → word ≡ word_of entry → new_word ≡ cond (nat_eq word 0) 0 (root_at roots at).word → (word ≡ 0 → at' ≡ at) → (0 < word → at < length roots → at' ≡ at + 1)
        → Taken (set now index (put_word entry new_word)) (index + 1) at'
    taken_more word new_word at' is new_is stays goes = record {
      entries =
          ap (λ es. set es index (put_word entry new_word)) split
          ∙ set_at (map moved_entry (take index first)) entry (drop (index + 1) first) (put_word entry new_word) index front
          ∙ ap (λ v. map moved_entry (take index first) ++ put_word entry v ∷ drop (index + 1) first) (next_word word new_word is new_is)
          ∙ sym (ap (λ es. map moved_entry es ++ drop (index + 1) first) (take_more first index d below)
          ∙ ap (λ es. es ++ drop (index + 1) first) (map-append moved_entry (take index first) (entry ∷ []))
          ∙ append_assoc (map moved_entry (take index first)) (moved_entry entry ∷ []) (drop (index + 1) first));
      rest = next_rest word at' is stays goes;
    }
