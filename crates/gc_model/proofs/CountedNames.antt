-- How often a counting heap has a place named is how often the table has its position named.
use Rattle.std.proofs.Common.{◌≡◌, ℕ, suc, ◌+◌, ◌%◌, ◌<◌, Bool, true, false, not, cond, nat_eq, IsTrue, IsSome, List, [], ◌∷◌, ◌++◌, length, map, filter, sum, Option, Some, None, Contains, inl, inr, refl, sym, ap, ◌∙◌, subst, arith}
use Rattle.std.specs.List.{slice_get, flat_map}
use Rattle.std.specs.FinMap.{get, entries}
use Rattle.std.specs.FinSet.{contains}
use Rattle.std.proofs.lemmas.Bool.{cases_eq, eq-eqb, ne_eqb}
use Rattle.std.proofs.lemmas.Option.{same_Some}
use Rattle.std.proofs.lemmas.List.Elements.{Contains-append_left, Contains-append_right, filter-append}
use Rattle.std.proofs.lemmas.List.{length-append}
use Rattle.std.proofs.lemmas.List.Sums.{sum-map}
use Rattle.gc_types.specs.declared.kind.Layouts.{Layouts}
use Rattle.gc_types.specs.declared.kind.Layouts.TheVariants.{Null, Counting, Copying}
use Rattle.gc_types.specs.Declarations.{Declaration, shape_at}
use Rattle.gc_types.specs.Layouts.{struct_base}
use Rattle.gc_roots.specs.Roots.{Root, root}
use Rattle.gc_view.specs.Heaps.{HeapObject}
use Rattle.gc_view.specs.Slots.{shape_slots}
use Rattle.gc_view.proofs.Spacing.{slot_offsets}
use Rattle.gc_model.specs.Values.{Reference, null, small, at, Object, struct, array, host, exception}
use Rattle.gc_model.specs.Table.{Table, Scoped, Slot, Owned}
use Rattle.gc_model.specs.Reach.{references_in, object_values, slot_references, present, IsHost, AreAll}
use Rattle.gc_model.specs.Counts.{is_at, times, counted_references, references_of, count, given_up, CountsBy}
use Rattle.gc_model.specs.Words.{Placing, IsWord}
use Rattle.gc_model.specs.Forms.{naming}
use Rattle.gc_model.specs.Standing.{Stands}
use Rattle.gc_model.specs.RootPoints.{OwnedBy, PendingBy}
use Rattle.gc_model.specs.Stores.{StoreView}
use Rattle.gc_model.specs.Holds.{Holds}
use Rattle.gc_model.proofs.HeldObjects.{object_held}
use Rattle.gc_model.proofs.ObjectStands.{stands_by_shape}
use Rattle.gc_model.proofs.SlotObjects.{AreWordsOf, references_are_words}
use Rattle.gc_heap.specs.References.{references, reference_offsets, word_in}
use Rattle.gc_heap.specs.Collection.{occurrences, held_words, stack_words, names_of}
use Rattle.gc_heap.specs.Content.{total, IsHeap, IsHeld, IsSpare}
use Rattle.gc_heap.proofs.CountLemmas.{occurrences-append, held-append, words-append}
use Rattle.gc_heap.proofs.AgainLemmas.{external_offsets}
use Rattle.gc_owner.specs.declared.entry.RootEntry.{RootEntry}
use Rattle.gc_owner.specs.declared.entry.OwnedEntry.{OwnedEntry}
use Rattle.gc_owner.specs.declared.entry.SlotEntry.{SlotEntry}
use Rattle.gc_owner.specs.RootColumns.{RootsView, scoped_words, owned_words, frame_slot_words, global_words, listed_as, roots_of, with_handles}
use Rattle.gc_owner.specs.RootColumns as columns
use Rattle.gc_owner.specs.Owners.{OwnerView, CanBegin}
use Rattle.gc_model.specs.Accounts.{Account, HoldsAccount}
use Rattle.gc_model.specs.Collects.{HasPlace}
use Rattle.gc_model.proofs.CollectedLists.{get_contains, contains_map}
use Rattle.gc_model.proofs.Columns.{word_listed}
use Rattle.gc_model.proofs.Frames.{frame_words}
use Rattle.gc_model.specs.Shown.{shown}
use Rattle.gc_model.proofs.CollectedOffsets.{stands_fields, shape_offsets, array_counted}
use Rattle.gc_model.proofs.HeldBlocks.{same_positions}
use Rattle.gc_model.proofs.HeldEntries.{held_entry}
use Rattle.gc_model.proofs.HeldNumber.{position_of, placed_of, positions, are_placed}
use Rattle.gc_model.proofs.HeldSums.{same_sums}
use Rattle.gc_model.proofs.OwnedNames.{held_owned, held_or_given_up}
use Rattle.gc_model.proofs.RootsShown.{SlotsInFrames, frames_named}

-- roots that are no frame slots are all counted
words_listed : (kind : ℕ) (ws : List ℕ) → held_words (map (λ w. root kind false w) ws) ≡ ws
words_listed kind [] = refl
words_listed kind (w ∷ ws) = ap (λ rest. w ∷ rest) (words_listed kind ws)

-- and none of those that are
words_stacked : (kind : ℕ) (ws : List ℕ) → held_words (map (λ w. root kind true w) ws) ≡ []
words_stacked kind [] = refl
words_stacked kind (w ∷ ws) = words_stacked kind ws

stack_listed : (kind : ℕ) (ws : List ℕ) → stack_words (map (λ w. root kind true w) ws) ≡ ws
stack_listed kind [] = refl
stack_listed kind (w ∷ ws) = ap (λ rest. w ∷ rest) (stack_listed kind ws)

-- what is listed is a word that isn't null
listed_present : (kind : ℕ) (ws : List ℕ) (x : Root) → Contains (map (λ w. root kind true w) ws) x → Contains ws x.word
listed_present kind ws x c =
    let found = contains_map (λ w. root kind true w) ws x c in
    subst (Contains ws) (ap (λ (y : Root). y.word) found.is) (get_contains ws found.index found.element found.there)

times-append : (p : ℕ) (rs qs : List Reference) → times p (rs ++ qs) ≡ times p rs + times p qs
times-append p rs qs = ap length (filter-append (is_at p) rs qs) ∙ length-append (filter (is_at p) rs) (filter (is_at p) qs)

-- roots and entries that stand for each other one by one
words_each : {A B : Type 0} (place : Placing) (reference_of : A → Reference) (word_of : B → ℕ) (roots : List A) (entries : List B) → length entries ≡ length roots
    → ((i : ℕ) (e : B) (r : A) → slice_get entries i ≡ Some e → slice_get roots i ≡ Some r → IsWord place (reference_of r) (word_of e)) → AreWordsOf place (map reference_of roots) (map word_of entries)
words_each place reference_of word_of [] [] count each = tt
words_each place reference_of word_of [] (e ∷ entries) count each = absurd (omega (arith, count))
words_each place reference_of word_of (r ∷ roots) [] count each = absurd (omega (arith, count))
words_each place reference_of word_of (r ∷ roots) (e ∷ entries) count each = (each 0 e r refl refl, words_each place reference_of word_of roots entries (omega (arith, count)) (λ i. each (suc i)))

-- a position lies at a place that is even and not 0, and no other one does
record IsPlacedAlone (place : Placing) (p word : ℕ) : Type 0 where
  placed : place p ≡ Some word
  even : word % 2 ≡ 0
  not_null : 0 < word
  alone : (q : ℕ) → place q ≡ Some word → q ≡ p

module _ (place : Placing) (p word : ℕ) (is : IsPlacedAlone place p word) where
  -- a reference names the position exactly where its word is the place
  names_alike : (r : Reference) (w : ℕ) → IsWord place r w → is_at p r ≡ nat_eq word w
  names_alike null w null_word = let not_null = is.not_null in sym (ne_eqb word w (λ same. absurd (omega (arith, same, null_word))))
  names_alike (small n) w odd = let even = is.even in sym (ne_eqb word w (λ same. absurd (omega (arith, same, odd))))
  names_alike (at q) w there = elim (cases_eq p q) [
    | inl same ↦ eq-eqb p q same ∙ sym (eq-eqb word w (same_Some word w (sym is.placed ∙ ap place same ∙ there)))
    | inr other ↦ ne_eqb p q other ∙ sym (ne_eqb word w (λ same. other (sym (is.alone q (there ∙ ap (λ n. Some n) (sym same))))))
  ]

  -- so references name it as often as their words do
  times_alike : (rs : List Reference) (ws : List ℕ) → AreWordsOf place rs ws → times p rs ≡ occurrences word ws
  times_alike [] [] words = refl
  times_alike [] (w ∷ ws) words = absurd words
  times_alike (r ∷ rs) [] words = absurd words
  times_alike (r ∷ rs) (w ∷ ws) words =
      step (is_at p r) (nat_eq word w) (names_alike r w words.0) (times_alike rs ws words.1)
    where
      step : (b c : Bool) → b ≡ c → times p rs ≡ occurrences word ws → length (cond b (r ∷ filter (is_at p) rs) (filter (is_at p) rs)) ≡ length (cond c (w ∷ filter (nat_eq word) ws) (filter (nat_eq word) ws))
      step b c same rest = ap (λ d. length (cond d (r ∷ filter (is_at p) rs) (filter (is_at p) rs))) same ∙ by c
        where
          by : (c : Bool) → length (cond c (r ∷ filter (is_at p) rs) (filter (is_at p) rs)) ≡ length (cond c (w ∷ filter (nat_eq word) ws) (filter (nat_eq word) ws))
          by true = ap suc rest
          by false = rest

  -- nulls are no roots, and name nothing
  present_alike : (ws : List ℕ) → occurrences word (columns.non_null_words ws) ≡ occurrences word ws
  present_alike [] = refl
  present_alike (w ∷ ws) = elim (cases_eq w 0) [
    | inl zero_word ↦
        let other : nat_eq word w ≡ false = let not_null = is.not_null in ne_eqb word w (λ same. absurd (omega (arith, same, zero_word))) in
        ap (λ b. occurrences word (cond (not b) (w ∷ columns.non_null_words ws) (columns.non_null_words ws))) (eq-eqb w 0 zero_word)
        ∙ present_alike ws
        ∙ sym (ap (λ b. length (cond b (w ∷ filter (nat_eq word) ws) (filter (nat_eq word) ws))) other)
    | inr above ↦
        ap (λ b. occurrences word (cond (not b) (w ∷ columns.non_null_words ws) (columns.non_null_words ws))) (ne_eqb w 0 above)
        ∙ occurrences-append word (w ∷ []) (columns.non_null_words ws)
        ∙ ap (λ n. occurrences word (w ∷ []) + n) (present_alike ws)
        ∙ sym (occurrences-append word (w ∷ []) ws)
  ]

  -- words of one kind that are counted
  column_words : (kind : ℕ) (ws : List ℕ) → occurrences word (held_words (listed_as kind false ws)) ≡ occurrences word ws
  column_words kind ws = ap (occurrences word) (words_listed kind (columns.non_null_words ws)) ∙ present_alike ws

  column_alike : (kind : ℕ) (rs : List Reference) (ws : List ℕ) → AreWordsOf place rs ws → occurrences word (held_words (listed_as kind false ws)) ≡ times p rs
  column_alike kind rs ws words = column_words kind ws ∙ sym (times_alike rs ws words)

  -- owned roots, some of which were given up
  owned_alike : (owns made : ℕ) (owned : List Owned) (entries : List OwnedEntry) → OwnedBy place owns made owned entries
      → occurrences word (held_words (listed_as 1 false (map (λ (e : OwnedEntry). e.word) entries))) ≡ times p (map (λ (x : Owned). x.reference) owned) + occurrences word (given_up entries)
  owned_alike owns made owned entries by =
      column_words 1 (map (λ (e : OwnedEntry). e.word) entries)
      ∙ held_or_given_up word entries
      ∙ ap (λ (n : ℕ). n + occurrences word (given_up entries)) (sym (times_alike (map (λ (x : Owned). x.reference) owned) (map (λ (e : OwnedEntry). e.word) (with_handles entries)) (held_owned place owns made owned entries by)))

  -- and the pending exception
  pending_alike : (pending : Option Reference) (w : ℕ) → PendingBy place pending w → occurrences word (held_words (listed_as 4 false (w ∷ []))) ≡ times p (present pending)
  pending_alike None w zero_word =
      ap (occurrences word) (words_listed 4 (columns.non_null_words (w ∷ []))) ∙ present_alike (w ∷ [])
      ∙ ap (λ b. length (cond b (w ∷ []) [])) (let not_null = is.not_null in ne_eqb word w (λ same. absurd (omega (arith, same, zero_word))))
  pending_alike (Some r) w stands = column_alike 4 (r ∷ []) (w ∷ []) (stands.0, tt)

module _ {D : Type 0} (s : StoreView D) (v : OwnerView D) (t : Table D) (place : Placing) (holds : Holds Counting (shown s v) t place) (heap : IsHeap Counting v.heap) where
  -- the words of an object's references, in order
  shape_words : (o : Object D) (h : HeapObject) → ¬ IsHost (Some o) → Stands Counting t.types (naming place s.ids) o h → AreWordsOf place (references_in o) (references Counting t.types h)
  shape_words o h not_host stands =
      let by = stands_by_shape Counting t.types (naming place s.ids) o h not_host stands in
      let offsets : reference_offsets Counting t.types h ≡ slot_offsets (shape_slots Counting by.stands.shape by.stands.count) =
      shape_offsets Counting t.types h by.stands.shape by.stands.count (ap (shape_at t.types) by.stands.same_type ∙ by.stands.declared) (stands_fields Counting t.types (naming place s.ids) o h not_host stands)
      (λ of_array. array_counted Counting t.types (naming place s.ids) o h by.stands.shape stands by.of_shape of_array ∙ by.stands.counted) in
      subst (λ (at : List ℕ). AreWordsOf place (references_in o) (map (word_in Counting h) at)) (sym offsets)
      (references_are_words (naming place s.ids) (struct_base Counting) (shape_slots Counting by.stands.shape by.stands.count) (object_values o) h.bytes by.stands.values_lie)

  object_words : (o : Object D) (h : HeapObject) → IsSpare Counting h → Stands Counting t.types (naming place s.ids) o h → AreWordsOf place (references_in o) (references Counting t.types h)
  object_words (struct ty values) h spare stands = shape_words (struct ty values) h (λ is. is) stands
  object_words (array ty values) h spare stands = shape_words (array ty values) h (λ is. is) stands
  object_words (host value) h spare stands =
      subst (λ (at : List ℕ). AreWordsOf place [] (map (word_in Counting h) at)) (sym (external_offsets Counting t.types h stands.1.kind spare)) tt
  object_words (exception ty tag values) h spare stands = shape_words (exception ty tag values) h (λ is. is) stands

  module _ (p word : ℕ) (alone : IsPlacedAlone place p word) where
    abbrev names_in : ℕ → ℕ
    names_in q = times p (references_of (slice_get t.objects q))

    abbrev found_at : ℕ → ℕ
    found_at = position_of Counting t place v.heap holds.objects

    object_names : (w : ℕ) (h : HeapObject) → get v.heap.content w ≡ Some h → names_in (found_at w) ≡ occurrences word (references Counting t.types h)
    object_names w h got =
        let placed = placed_of Counting t place v.heap holds.objects w h got in
        let there = holds.objects.placed (found_at w) w placed in
        ap (λ (x : Option (Object D)). times p (references_of x)) there.in_table
        ∙ times_alike place p word alone (references_in there.entry) (references Counting t.types h)
        (object_words there.entry h (heap.objects w h got).spare (object_held Counting (shown s v) t place holds (found_at w) w there.entry h placed got there.in_table))

    objects_alike : (held : List ℕ) → AreAll (HasPlace place) held → sum (map names_in held) ≡ total (λ o. occurrences word (references Counting t.types o)) v.heap.content
    objects_alike held all =
        sum-map names_in held
        ∙ same_positions names_in (HasPlace place) held (positions Counting t place v.heap holds.objects) all (are_placed Counting t place v.heap holds.objects)
        ∙ same_sums names_in (λ (e : ℕ × HeapObject). found_at e.0) (λ (e : ℕ × HeapObject). occurrences word (references Counting t.types e.1)) (entries v.heap.content)
        (λ i e there. object_names e.0 e.1 (held_entry v.heap.content i e there))
        ∙ sym (sum-map (λ (e : ℕ × HeapObject). occurrences word (references Counting t.types e.1)) (entries v.heap.content))

    abbrev r : RootsView
    r = v.roots

    abbrev behind_slots : List Root
    behind_slots = listed_as 3 false (global_words r) ++ listed_as 4 false (r.pending ∷ [])

    abbrev behind_owned : List Root
    behind_owned = listed_as 2 true (frame_slot_words r) ++ behind_slots

    abbrev behind_scoped : List Root
    behind_scoped = listed_as 1 false (owned_words r) ++ behind_owned

    roots_alike : occurrences word (held_words (roots_of r)) ≡ times p (counted_references t) + occurrences word (given_up r.owned)
    roots_alike =
        let scoped = column_alike place p word alone 0 (map (λ (x : Scoped). x.reference) t.scoped) (scoped_words r)
        (words_each place (λ (x : Scoped). x.reference) (λ (e : RootEntry). e.word) t.scoped r.scoped holds.scoped.same_count (λ i e x f g. (holds.scoped.each i e x f g).word)) in
        let owned = owned_alike place p word alone t.owns r.owns t.owned r.owned holds.owned in
        let globals = column_alike place p word alone 3 (slot_references t.globals) (global_words r)
        (words_each place (λ (x : Slot). x.reference) (λ (e : SlotEntry). e.word) t.globals r.globals holds.globals.slots.same_count (λ i e x f g. (holds.globals.slots.each i e x f g).word)) in
        let pending = pending_alike place p word alone t.pending r.pending holds.pending.same_word in
        let slots : occurrences word (held_words (listed_as 2 true (frame_slot_words r))) ≡ 0 = ap (occurrences word) (words_stacked 2 (columns.non_null_words (frame_slot_words r))) in
        let cut0 = held-append word (listed_as 0 false (scoped_words r)) behind_scoped in
        let cut1 = held-append word (listed_as 1 false (owned_words r)) behind_owned in
        let cut2 = held-append word (listed_as 2 true (frame_slot_words r)) behind_slots in
        let cut3 = held-append word (listed_as 3 false (global_words r)) (listed_as 4 false (r.pending ∷ [])) in
        let sum0 = times-append p (map (λ (x : Scoped). x.reference) t.scoped) (map (λ (x : Owned). x.reference) t.owned ++ (slot_references t.globals ++ present t.pending)) in
        let sum1 = times-append p (map (λ (x : Owned). x.reference) t.owned) (slot_references t.globals ++ present t.pending) in
        let sum2 = times-append p (slot_references t.globals) (present t.pending) in
        omega (arith, scoped, owned, globals, pending, slots, cut0, cut1, cut2, cut3, sum0, sum1, sum2)

    -- a slot of a frame that names the position lists its place
    slot_listed : SlotsInFrames r → Contains (flat_map slot_references t.frames) (at p) → Contains (stack_words (roots_of r)) word
    slot_listed in_frames among =
        let found = (frames_named Counting (shown s v) t place holds).forth (at p) among in
        let same : found.0 ≡ word = same_Some found.0 word (sym found.1.1 ∙ alone.placed) in
        let there : Contains (frame_slot_words r) word = subst (Contains (frame_slot_words r)) same (subst (λ (ws : List ℕ). Contains ws found.0) (frame_words r.slots r.frames in_frames) found.1.0) in
        let listed = word_listed 2 true (frame_slot_words r) word there alone.not_null in
        let stacked : Contains (stack_words (listed_as 2 true (frame_slot_words r))) word =
        subst (λ (ws : List ℕ). Contains ws word) (sym (stack_listed 2 (columns.non_null_words (frame_slot_words r)))) (subst (Contains (columns.non_null_words (frame_slot_words r))) listed.1.1 (listed_present 2 (columns.non_null_words (frame_slot_words r)) listed.0 listed.1.0)) in
        subst (λ (ws : List ℕ). Contains ws word) (sym (words-append (λ (x : Root). x.on_stack) (listed_as 0 false (scoped_words r)) behind_scoped))
        (Contains-append_right (stack_words (listed_as 0 false (scoped_words r))) (stack_words behind_scoped) word
        (subst (λ (ws : List ℕ). Contains ws word) (sym (words-append (λ (x : Root). x.on_stack) (listed_as 1 false (owned_words r)) behind_owned))
        (Contains-append_right (stack_words (listed_as 1 false (owned_words r))) (stack_words behind_owned) word
        (subst (λ (ws : List ℕ). Contains ws word) (sym (words-append (λ (x : Root). x.on_stack) (listed_as 2 true (frame_slot_words r)) behind_slots))
        (Contains-append_left (stack_words (listed_as 2 true (frame_slot_words r))) (stack_words behind_slots) word stacked)))))

-- The counts of a counting heap are those of the table that its store holds.
pub counts_by : {D : Type 0} (s : StoreView D) (v : OwnerView D) (t : Table D) (a : Account) → HoldsAccount Counting (shown s v) t a → IsHeap Counting v.heap → CanBegin Counting v → SlotsInFrames v.roots → CountsBy t a.held a.places v.roots.owned v.heap.counts
counts_by {D} s v t a holds heap can in_frames = record {
  counted = λ p word lies. counted p word (sym (holds.account.places p) ∙ lies);
  shown = λ p word lies among. shown_there p word (sym (holds.account.places p) ∙ lies) among;
}
  where
    alone : (p word : ℕ) → holds.place p ≡ Some word → IsPlacedAlone holds.place p word
    alone p word placed =
        let there = holds.holds.objects.placed p word placed in
        let even = holds.holds.objects.even word there.object there.in_heap in
        record { placed = placed; even = even.0; not_null = even.1; alone = λ q other. holds.holds.objects.injective q p word other placed }

    held : (p word : ℕ) → holds.place p ≡ Some word → IsHeld v.heap word
    held p word placed = let there = holds.holds.objects.placed p word placed in (there.object, there.in_heap)

    names : (p word : ℕ) → holds.place p ≡ Some word → names_of Counting v.types.declarations v.heap (roots_of v.roots) word ≡ count t a.held p + occurrences word (given_up v.roots.owned)
    names p word placed =
        ap (λ (types : List Declaration). names_of Counting types v.heap (roots_of v.roots) word) holds.holds.types
        ∙ (let objects = objects_alike s v t holds.place holds.holds heap p word (alone p word placed) a.held holds.account.held in
        let roots = roots_alike s v t holds.place holds.holds heap p word (alone p word placed) in
        omega (arith, objects, roots))

    counted : (p word : ℕ) → holds.place p ≡ Some word → get v.heap.counts.counted word ≡ Some (count t a.held p + occurrences word (given_up v.roots.owned))
    counted p word placed = by (get v.heap.counts.counted word) refl ((heap.by_kind.0.counted word).0 (held p word placed))
      where
        by : (found : Option ℕ) → get v.heap.counts.counted word ≡ found → IsSome found → get v.heap.counts.counted word ≡ Some (count t a.held p + occurrences word (given_up v.roots.owned))
        by None none some = absurd (cc some)
        by (Some n) found some = found ∙ ap (λ k. Some k) (can.collects.counts.counted word n found ∙ names p word placed)

    shown_there : (p word : ℕ) → holds.place p ≡ Some word → Contains (flat_map slot_references t.frames) (at p) → IsTrue (contains v.heap.counts.shown word)
    shown_there p word placed among =
        can.collects.counts.shown word (held p word placed) (slot_listed s v t holds.place holds.holds heap p word (alone p word placed) in_frames among)

-- the same of a heap that is known to be one
pub kind_counts : {D : Type 0} (layouts : Layouts) (s : StoreView D) (v : OwnerView D) (t : Table D) (a : Account) → layouts ≡ Counting → HoldsAccount layouts (shown s v) t a → IsHeap layouts v.heap → CanBegin layouts v → SlotsInFrames v.roots → CountsBy t a.held a.places v.roots.owned v.heap.counts
kind_counts Null s v t a is holds heap can in_frames = absurd (cc)
kind_counts Counting s v t a is holds heap can in_frames = counts_by s v t a holds heap can in_frames
kind_counts Copying s v t a is holds heap can in_frames = absurd (cc)
