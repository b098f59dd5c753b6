-- The root words from which walks begin are those of the table's roots.
use Rattle.std.proofs.Common.{inl, inr, ◌≡◌, ◌⊎◌, ℕ, ◌+◌, ◌<◌, zero, suc, List, [], ◌∷◌, ◌++◌, length, map, Option, Some, None, Bool, true, false, not, cond, nat_eq, sym, ap, ◌∙◌, refl, subst, arith, zero-add, eq-eqb, ne_eqb, Contains}
use Rattle.std.specs.Prelude.{sum_by}
use Rattle.std.specs.List.{slice_get}
use Rattle.std.proofs.lemmas.Bool.{cases_eq}
use Rattle.std.proofs.lemmas.List.{map-append}
use Rattle.std.proofs.lemmas.List.Sums.{sum_by-cons, sum_by-append}
use Rattle.std.proofs.lemmas.List.Elements.{Contains-append_left, Contains-append_right, Contains-append_cases}
use Rattle.std.proofs.lemmas.Option.{none-some, same_Some}
use Rattle.gc_types.specs.declared.kind.Layouts.{Layouts}
use Rattle.gc_owner.specs.declared.entry.RootEntry.{RootEntry}
use Rattle.gc_owner.specs.declared.entry.OwnedEntry.{OwnedEntry}
use Rattle.gc_owner.specs.declared.entry.SlotEntry.{SlotEntry}
use Rattle.gc_owner.specs.RootColumns.{with_handles}
use Rattle.gc_model.specs.Values.{Reference, null, small, at}
use Rattle.gc_model.specs.Reads.{is_null}
use Rattle.gc_model.specs.Table.{Table, Slot, Owned, Scoped}
use Rattle.gc_model.specs.Words.{Placing, IsWord}
use Rattle.gc_model.specs.RootPoints.{SlotsBy, FramesBy, OwnedBy, PendingBy, ScopedBy}
use Rattle.gc_model.specs.Stores.{StoreView}
use Rattle.gc_model.specs.Holds.{Holds}
use Rattle.gc_model.proofs.Members.{get_contains, contains_get, map_among, among_map}
use Rattle.gc_model.proofs.SlotObjects.{AreWordsOf}
use Rattle.gc_model.proofs.Words.{place_even}
use Rattle.gc_model.proofs.OwnedNames.{held_owned, entry_word}
use Rattle.gc_store.specs.declared.root_words.RootName.TheVariants as name
use Rattle.gc_store.specs.declared.root_words.RootWord.{RootWord}
use Rattle.gc_store.specs.RootWords as words
use Rattle.gc_store.specs.RootWords.{with_numbers, root_word, slot_roots}
use Rattle.gc_values.specs.Words.{owned_id}
use Rattle.gc_paths.specs.Walks.{StartRoot, start_root, global_root, pending_roots, slot_root, frame_roots, owned_root, scoped_root, scoped_roots, start_roots}
use Rattle.gc_paths.specs.Answers.{present_count}
use Rattle.gc_paths.specs.Progress.{word_count}
use Rattle.gc_paths.proofs.StartRoots.{scoped_words, start_words}

abbrev references : List StartRoot → List Reference
references roots = map (λ (r : StartRoot). r.reference) roots

abbrev words_count : List RootWord → ℕ
words_count ws = sum_by word_count ws

-- one for a word that isn't 0
abbrev one_word : ℕ → ℕ
one_word word = cond (nat_eq word 0) 0 1

-- the root of a table that a root word is
pub record IsRootOf (place : Placing) (roots : List StartRoot) (w : RootWord) : Type 0 where
  pub one : StartRoot
  pub among : Contains roots one
  pub name_is : one.name ≡ w.name
  pub word : IsWord place one.reference w.word

-- the word of a root that names a position
pub record HasWord (place : Placing) (ws : List RootWord) (p : ℕ) : Type 0 where
  pub index : ℕ
  pub one : RootWord
  pub there : slice_get ws index ≡ Some one
  pub word : place p ≡ Some one.word

-- root words stand for roots: as many aren't null, each that isn't is a root's, and each root that names an object has a word
pub record StandFor (place : Placing) (ws : List RootWord) (roots : List StartRoot) : Type 0 where
  pub as_many : words_count ws ≡ present_count (references roots)
  pub sound : (i : ℕ) (w : RootWord) → slice_get ws i ≡ Some w → 0 < w.word → IsRootOf place roots w
  pub complete : (r : StartRoot) (p : ℕ) → Contains roots r → r.reference ≡ at p → HasWord place ws p

slice_get-append_left : {X : Type 0} (xs ys : List X) (i : ℕ) (x : X) → slice_get xs i ≡ Some x → slice_get (xs ++ ys) i ≡ Some x
slice_get-append_left [] ys i x e = absurd (none-some x e)
slice_get-append_left (y ∷ xs) ys zero x e = e
slice_get-append_left (y ∷ xs) ys (suc i) x e = slice_get-append_left xs ys i x e

pub slice_get-append_right : {X : Type 0} (xs ys : List X) (i : ℕ) (x : X) → slice_get ys i ≡ Some x → slice_get (xs ++ ys) (length xs + i) ≡ Some x
slice_get-append_right [] ys i x e = subst (λ (k : ℕ). slice_get ys k ≡ Some x) (omega arith) e
slice_get-append_right (y ∷ xs) ys i x e = subst (λ (k : ℕ). slice_get (y ∷ (xs ++ ys)) k ≡ Some x) (next xs) (slice_get-append_right xs ys i x e)
  where
    next : (xs : List _) → suc (length xs + i) ≡ length (y ∷ xs) + i
    next xs = omega arith

slice_get-append_cases : {X : Type 0} (xs ys : List X) (i : ℕ) (x : X) → slice_get (xs ++ ys) i ≡ Some x → (slice_get xs i ≡ Some x) ⊎ ((k : ℕ) × (slice_get ys k ≡ Some x))
slice_get-append_cases [] ys i x e = inr (i, e)
slice_get-append_cases (y ∷ xs) ys zero x e = inl e
slice_get-append_cases (y ∷ xs) ys (suc i) x e = slice_get-append_cases xs ys i x e

module _ (place : Placing) where
  stand_none : StandFor place [] []
  stand_none = record {
    as_many = refl;
    sound = λ i w e some. absurd (none-some w e);
    complete = λ r p c is. absurd (let inside = c.1 in omega (arith, inside));
  }

  root_left : (xs ys : List StartRoot) (w : RootWord) → IsRootOf place xs w → IsRootOf place (xs ++ ys) w
  root_left xs ys w is = record { one = is.one; among = Contains-append_left xs ys is.one is.among; name_is = is.name_is; word = is.word }

  root_right : (xs ys : List StartRoot) (w : RootWord) → IsRootOf place ys w → IsRootOf place (xs ++ ys) w
  root_right xs ys w is = record { one = is.one; among = Contains-append_right xs ys is.one is.among; name_is = is.name_is; word = is.word }

  pub stand_both : (vs ws : List RootWord) (xs ys : List StartRoot) → StandFor place vs xs → StandFor place ws ys → StandFor place (vs ++ ws) (xs ++ ys)
  stand_both vs ws xs ys first second = record {
    as_many = sum_by-append word_count vs ws
        ∙ (λ i. first.as_many i + second.as_many i)
        ∙ sym (ap present_count (map-append (λ (r : StartRoot). r.reference) xs ys) ∙ sum_by-append (λ r. cond (not (is_null r)) 1 0) (references xs) (references ys));
    sound = λ i w e some. elim (slice_get-append_cases vs ws i w e) [
      | inl before ↦ root_left xs ys w (first.sound i w before some)
      | inr (k, behind) ↦ root_right xs ys w (second.sound k w behind some)
    ];
    complete = λ r p c is. elim (Contains-append_cases xs ys r c) [
      | inl before ↦ let has = first.complete r p before is in record { index = has.index; one = has.one; there = slice_get-append_left vs ws has.index has.one has.there; word = has.word }
      | inr behind ↦ let has = second.complete r p behind is in record { index = length vs + has.index; one = has.one; there = slice_get-append_right vs ws has.index has.one has.there; word = has.word }
    ];
  }

-- a root and its word
record OneStands (place : Placing) (w : RootWord) (r : StartRoot) : Type 0 where
  named : r.name ≡ w.name
  is_word : IsWord place r.reference w.word

-- places are not 0
abbrev IsPositive : Placing → Type 0
IsPositive place = (p word : ℕ) → place p ≡ Some word → 0 < word

module _ (place : Placing) (positive : IsPositive place) where
  one_count : (r : Reference) (word : ℕ) → IsWord place r word → one_word word ≡ cond (not (is_null r)) 1 0
  one_count null word is = ap (λ b. cond b 0 1) (eq-eqb word 0 is)
  one_count (small n) word is = ap (λ b. cond b 0 1) (ne_eqb word 0 (λ zero_is. absurd (omega (arith, is, zero_is))))
  one_count (at p) word is = ap (λ b. cond b 0 1) (ne_eqb word 0 (λ zero_is. let some = positive p word is in absurd (omega (arith, some, zero_is))))

  pub stand_one : (w : RootWord) (r : StartRoot) → r.name ≡ w.name → IsWord place r.reference w.word → StandFor place (w ∷ []) (r ∷ [])
  stand_one w r named is = record {
    as_many = sum_by-cons word_count w [] ∙ ap (λ n. n + 0) (one_count r.reference w.word is) ∙ sym (sum_by-cons (λ x. cond (not (is_null x)) 1 0) r.reference []);
    sound = sound;
    complete = complete;
  }
    where
      sound : (i : ℕ) (v : RootWord) → slice_get (w ∷ []) i ≡ Some v → 0 < v.word → IsRootOf place (r ∷ []) v
      sound zero v e some = subst (IsRootOf place (r ∷ [])) (same_Some w v e) (record { one = r; among = get_contains (r ∷ []) 0 r refl; name_is = named; word = is })
      sound (suc i) v e some = absurd (none-some v e)

      complete : (x : StartRoot) (p : ℕ) → Contains (r ∷ []) x → x.reference ≡ at p → HasWord place (w ∷ []) p
      complete x p c at_p = by (contains_get (r ∷ []) x c)
        where
          by : (i : ℕ) × (slice_get (r ∷ []) i ≡ Some x) → HasWord place (w ∷ []) p
          by (zero, e) = record { index = 0; one = w; there = refl; word = subst (λ (q : Reference). IsWord place q w.word) (ap (λ (y : StartRoot). y.reference) (same_Some r x e) ∙ at_p) is }
          by (suc i, e) = absurd (none-some x e)

  stand_more : (w : RootWord) (r : StartRoot) (ws : List RootWord) (rs : List StartRoot) → r.name ≡ w.name → IsWord place r.reference w.word → StandFor place ws rs → StandFor place (w ∷ ws) (r ∷ rs)
  stand_more w r ws rs named is rest = stand_both place (w ∷ []) ws (r ∷ []) rs (stand_one w r named is) rest

  -- a root word that is null stands for none
  stand_nothing : (w : RootWord) (ws : List RootWord) (rs : List StartRoot) → w.word ≡ 0 → StandFor place ws rs → StandFor place (w ∷ ws) rs
  stand_nothing w ws rs zero_is rest = stand_both place (w ∷ []) ws [] rs (record {
    as_many = sum_by-cons word_count w [] ∙ ap (λ b. cond b 0 1 + 0) (eq-eqb w.word 0 zero_is);
    sound = none;
    complete = λ r p c is. absurd (let inside = c.1 in omega (arith, inside));
  }) rest
    where
      none : (i : ℕ) (v : RootWord) → slice_get (w ∷ []) i ≡ Some v → 0 < v.word → IsRootOf place [] v
      none zero v e some = let same : w.word ≡ v.word = ap (λ (x : RootWord). x.word) (same_Some w v e) in absurd (omega (arith, some, same, zero_is))
      none (suc i) v e some = absurd (none-some v e)

  -- slots
  slots_stand : (give : ℕ → SlotEntry → RootWord) (have : ℕ → Slot → StartRoot) → ((k : ℕ) (e : SlotEntry) (x : Slot) → (have k x).name ≡ (give k e).name) → ((k : ℕ) (e : SlotEntry) → (give k e).word ≡ e.word) → ((k : ℕ) (x : Slot) → (have k x).reference ≡ x.reference)
      → (from : ℕ) (entries : List SlotEntry) (slots : List Slot) → SlotsBy place slots entries → StandFor place (with_numbers give from entries) (with_numbers have from slots)
  slots_stand give have same_name same_word same_reference from [] [] by = stand_none place
  slots_stand give have same_name same_word same_reference from [] (x ∷ slots) by = let counts = by.same_count in absurd (omega (arith, counts))
  slots_stand give have same_name same_word same_reference from (e ∷ entries) [] by = let counts = by.same_count in absurd (omega (arith, counts))
  slots_stand give have same_name same_word same_reference from (e ∷ entries) (x ∷ slots) by =
      stand_more (give from e) (have from x) (with_numbers give (from + 1) entries) (with_numbers have (from + 1) slots) (same_name from e x)
      (subst (λ (q : Reference). IsWord place q (give from e).word) (sym (same_reference from x)) (subst (IsWord place x.reference) (sym (same_word from e)) (by.each 0 e x refl refl).word))
      (slots_stand give have same_name same_word same_reference (from + 1) entries slots (record {
        same_count = (let counts = by.same_count in omega (arith, counts));
        each = λ i y z at_y at_z. by.each (suc i) y z at_y at_z;
      }))

  frames_stand : (from : ℕ) (entries : List (List SlotEntry)) (frames : List (List Slot)) → FramesBy place frames entries → StandFor place (slot_roots from entries) (frame_roots from frames)
  frames_stand from [] [] by = stand_none place
  frames_stand from [] (x ∷ frames) by = let counts = by.same_count in absurd (omega (arith, counts))
  frames_stand from (e ∷ entries) [] by = let counts = by.same_count in absurd (omega (arith, counts))
  frames_stand from (e ∷ entries) (x ∷ frames) by =
      stand_both place (with_numbers (words.slot_root_word from) 0 e) (slot_roots (from + 1) entries) (with_numbers (slot_root from) 0 x) (frame_roots (from + 1) frames)
      (slots_stand (words.slot_root_word from) (slot_root from) (λ k y z. refl) (λ k y. refl) (λ k z. refl) 0 e x (by.each 0 e x refl refl))
      (frames_stand (from + 1) entries frames (record {
        same_count = (let counts = by.same_count in omega (arith, counts));
        each = λ i y z at_y at_z. by.each (suc i) y z at_y at_z;
      }))

  pending_stands : (word : ℕ) (pending : Option Reference) → PendingBy place pending word → StandFor place (root_word name.Pending word ∷ []) (pending_roots pending)
  pending_stands word None is = stand_nothing (root_word name.Pending word) [] [] is (stand_none place)
  pending_stands word (Some r) is = stand_one (root_word name.Pending word) (start_root name.Pending r) refl is.0

  -- scoped roots
  scoped_stand : (from : ℕ) (entries : List RootEntry) (roots : List Scoped) → length entries ≡ length roots → ((i : ℕ) (e : RootEntry) (x : Scoped) → slice_get entries i ≡ Some e → slice_get roots i ≡ Some x → IsWord place x.reference e.word)
      → StandFor place (with_numbers words.scoped_root_word from entries) (with_numbers scoped_root from roots)
  scoped_stand from [] [] counts each = stand_none place
  scoped_stand from [] (x ∷ roots) counts each = absurd (omega (arith, counts))
  scoped_stand from (e ∷ entries) [] counts each = absurd (omega (arith, counts))
  scoped_stand from (e ∷ entries) (x ∷ roots) counts each =
      stand_more (words.scoped_root_word from e) (scoped_root from x) (with_numbers words.scoped_root_word (from + 1) entries) (with_numbers scoped_root (from + 1) roots) refl (each 0 e x refl refl)
      (scoped_stand (from + 1) entries roots (omega (arith, counts)) (λ i y z at_y at_z. each (suc i) y z at_y at_z))

  -- owned roots
  owned_count : (entries : List OwnedEntry) (roots : List Owned) → AreWordsOf place (map (λ (x : Owned). x.reference) roots) (map entry_word (with_handles entries))
      → words_count (map words.owned_root_word entries) ≡ present_count (references (map owned_root roots))
  owned_count entries roots are = held_count entries ∙ same_count (map (λ (x : Owned). x.reference) roots) (map entry_word (with_handles entries)) are ∙ sym (ap present_count (names_gone roots))
    where
      names_gone : (xs : List Owned) → references (map owned_root xs) ≡ map (λ (x : Owned). x.reference) xs
      names_gone [] = refl
      names_gone (x ∷ xs) = ap (λ rs. x.reference ∷ rs) (names_gone xs)

      same_count : (rs : List Reference) (ws : List ℕ) → AreWordsOf place rs ws → sum_by one_word ws ≡ present_count rs
      same_count [] [] are = refl
      same_count [] (w ∷ ws) are = absurd are
      same_count (r ∷ rs) [] are = absurd are
      same_count (r ∷ rs) (w ∷ ws) are =
          sum_by-cons one_word w ws ∙ (λ i. one_count r w are.0 i + same_count rs ws are.1 i) ∙ sym (sum_by-cons (λ x. cond (not (is_null x)) 1 0) r rs)

      held_count : (es : List OwnedEntry) → words_count (map words.owned_root_word es) ≡ sum_by one_word (map entry_word (with_handles es))
      held_count [] = refl
      held_count (e ∷ es) =
          sum_by-cons word_count (words.owned_root_word e) (map words.owned_root_word es)
          ∙ elim (nat_eq e.handles 0) as (λ b. one_word (cond b 0 e.word) + words_count (map words.owned_root_word es) ≡ sum_by one_word (map entry_word (cond (not b) (e ∷ with_handles es) (with_handles es)))) [
            | true ↦ zero-add (words_count (map words.owned_root_word es)) ∙ held_count es
            | false ↦ ap (λ n. one_word e.word + n) (held_count es) ∙ sym (sum_by-cons one_word e.word (map entry_word (with_handles es)))
          ]

  owned_stand : (owns count : ℕ) (owned : List Owned) (entries : List OwnedEntry) → OwnedBy place owns count owned entries → StandFor place (map words.owned_root_word entries) (map owned_root owned)
  owned_stand owns count owned entries by = record {
    as_many = owned_count entries owned (held_owned place owns count owned entries by);
    sound = sound;
    complete = complete;
  }
    where
      handled : (e : OwnedEntry) → 0 < cond (nat_eq e.handles 0) 0 e.word → (0 < e.handles) × (cond (nat_eq e.handles 0) 0 e.word ≡ e.word)
      handled e some = elim (cases_eq e.handles 0) [
        | inl none ↦ absurd (let is : cond (nat_eq e.handles 0) 0 e.word ≡ 0 = ap (λ b. cond b 0 e.word) (eq-eqb e.handles 0 none) in omega (arith, some, is))
        | inr held ↦ (omega (arith, held), ap (λ b. cond b 0 e.word) (ne_eqb e.handles 0 held))
      ]

      of_entry : (e : OwnedEntry) → Contains entries e → 0 < (words.owned_root_word e).word → IsRootOf place (map owned_root owned) (words.owned_root_word e)
      of_entry e c some =
          let held = handled e some in
          let found = by.in_table e c held.0 in
          record {
            one = owned_root found.0;
            among = among_map owned_root owned found.0 found.1.0;
            name_is = ap (λ n. name.Owned (owned_id n)) (sym found.1.1.number);
            word = subst (IsWord place found.0.reference) (sym held.1) found.1.1.word;
          }

      sound : (i : ℕ) (w : RootWord) → slice_get (map words.owned_root_word entries) i ≡ Some w → 0 < w.word → IsRootOf place (map owned_root owned) w
      sound i w e some =
          let image = map_among words.owned_root_word entries w (get_contains (map words.owned_root_word entries) i w e) in
          subst (IsRootOf place (map owned_root owned)) image.is (of_entry image.of image.among (subst (λ (v : RootWord). 0 < v.word) (sym image.is) some))

      complete : (r : StartRoot) (p : ℕ) → Contains (map owned_root owned) r → r.reference ≡ at p → HasWord place (map words.owned_root_word entries) p
      complete r p c is =
          let image = map_among owned_root owned r c in
          let found = by.in_store image.of image.among in
          let held = found.1.1.held in
          let handles = found.1.1.handles in
          let among = contains_get (map words.owned_root_word entries) (words.owned_root_word found.0) (among_map words.owned_root_word entries found.0 found.1.0) in
          let at_p : image.of.reference ≡ at p = ap (λ (x : StartRoot). x.reference) image.is ∙ is in
          let some : (found.0.handles ≡ 0 → ⊥) = λ none. absurd (omega (arith, held, handles, none)) in
          record {
            index = among.0;
            one = words.owned_root_word found.0;
            there = among.1;
            word = subst (λ (q : Reference). IsWord place q (words.owned_root_word found.0).word) at_p
                (subst (IsWord place image.of.reference) (sym (ap (λ b. cond b 0 found.0.word) (ne_eqb found.0.handles 0 some))) found.1.1.word);
          }

  scoped_asked : (scoped : Bool) (entries : List RootEntry) (roots : List Scoped) (pushes : List _) → ScopedBy pushes place roots entries → StandFor place (scoped_words scoped entries) (scoped_roots scoped roots)
  scoped_asked false entries roots pushes by = stand_none place
  scoped_asked true entries roots pushes by = scoped_stand 0 entries roots by.same_count (λ i e x at_e at_x. (by.each i e x at_e at_x).word)

-- The root words of a store that holds a table stand for the table's roots.
pub starts_stand : {D : Type 0} (layouts : Layouts) (s : StoreView D) (t : Table D) (place : Placing) (scoped : Bool) → Holds layouts s t place → StandFor place (start_words scoped s) (start_roots scoped t)
starts_stand layouts s t place scoped holds =
    stand_both place (with_numbers words.global_root_word 0 s.globals) (root_word name.Pending s.pending ∷ (slot_roots 0 s.frames ++ (map words.owned_root_word s.owned ++ scoped_words scoped s.scoped)))
    (with_numbers global_root 0 t.globals) (pending_roots t.pending ++ (frame_roots 0 t.frames ++ (map owned_root t.owned ++ scoped_roots scoped t.scoped)))
    (slots_stand place positive words.global_root_word global_root (λ k y z. refl) (λ k y. refl) (λ k z. refl) 0 s.globals t.globals holds.globals.slots)
    (stand_both place (root_word name.Pending s.pending ∷ []) (slot_roots 0 s.frames ++ (map words.owned_root_word s.owned ++ scoped_words scoped s.scoped))
    (pending_roots t.pending) (frame_roots 0 t.frames ++ (map owned_root t.owned ++ scoped_roots scoped t.scoped))
    (pending_stands place positive s.pending t.pending holds.pending.same_word)
    (stand_both place (slot_roots 0 s.frames) (map words.owned_root_word s.owned ++ scoped_words scoped s.scoped) (frame_roots 0 t.frames) (map owned_root t.owned ++ scoped_roots scoped t.scoped)
    (frames_stand place positive 0 s.frames t.frames holds.frames)
    (stand_both place (map words.owned_root_word s.owned) (scoped_words scoped s.scoped) (map owned_root t.owned) (scoped_roots scoped t.scoped)
    (owned_stand place positive t.owns s.owns t.owned s.owned holds.owned)
    (scoped_asked place positive scoped s.scoped t.scoped t.pushes holds.scoped))))
  where
    positive : IsPositive place
    positive p word e = (place_even layouts t place s.heap holds.objects p word e).1
