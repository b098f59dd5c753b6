-- A collection may begin after a number or a reference was written to an object, and after the barrier of it.
use Rattle.std.proofs.Common.{◌≡◌, ◌≢◌, ℕ, ◌+◌, ◌-◌, ◌%◌, ◌<◌, ◌≤◌, ◌^◌, ◌⊎◌, inl, inr, Bool, List, [], ◌∷◌, length, map, Option, Some, None, Contains, refl, sym, ap, ap₂, ◌∙◌, subst, arith}
use Rattle.std.specs.Int.{w32, to_le_bytes}
use Rattle.std.specs.FinMap.{get, insert}
use Rattle.std.specs.FinSet as finset
use Rattle.std.proofs.lemmas.Bool.{cases_eq, cases_lt}
use Rattle.gc_types.specs.declared.kind.Layouts.{Layouts}
use Rattle.gc_types.specs.declared.kind.Layouts.TheVariants.{Null, Counting, Copying}
use Rattle.gc_types.specs.Declarations.{Declaration}
use Rattle.gc_types.specs.Layouts.{struct_base}
use Rattle.gc_roots.specs.Roots.{Root}
use Rattle.gc_memory.specs.Lists.{In, here, there}
use Rattle.gc_view.specs.Heaps.{HeapObject, HeapView, Counts}
use Rattle.gc_heap.specs.Objects.{held_size, writable_offset}
use Rattle.gc_heap.specs.References.{reference_offsets, references, word_in, Spaced}
use Rattle.gc_heap.specs.Content.{total, IsHeap}
use Rattle.gc_heap.specs.Barriers.{raise, lower, copied, emptied, overwritten}
use Rattle.gc_heap.specs.Heap.{with_data, put_object}
use Rattle.gc_heap.specs.Collection.{CanCollect, CountsExact, AreCounted, IsWordOf, names_of, occurrences}
use Rattle.gc_heap.proofs.TotalLemmas.{total-replace, total-least}
use Rattle.gc_heap.proofs.SpacedLemmas.{Spaced-in, Spaced-apart}
use Rattle.gc_memory.proofs.ListLemmas.{contains_in, in_contains, map_in}
use Rattle.gc_heap.proofs.ReferenceLemmas.{references_spaced, same_offsets, references_aligned}
use Rattle.gc_heap.proofs.AddedLemmas.{start}
use Rattle.gc_heap.proofs.CountLemmas.{CountsAre, raise_are, lower_are, raise_shown, lower_shown, put_cases, occurrences-append, never}
use Rattle.gc_heap.proofs.MadeLemmas.{counted_place, uncounted}
use Rattle.gc_heap.proofs.WrittenLemmas.{Puts, held_before, can_collect_put, FitsData, written_shape, writable_from, word_apart, word_written}

map_same : (f g : ℕ → ℕ) (xs : List ℕ) → ((x : ℕ) → In x xs → g x ≡ f x) → map g xs ≡ map f xs
map_same f g [] same = refl
map_same f g (x ∷ xs) same = ap₂ (λ (y : ℕ) (ys : List ℕ). y ∷ ys) (same x here) (map_same f g xs (λ z i. same z (there i)))

-- One word of a list became another.
pub record Changed (q : ℕ) (old new : List ℕ) (was now : ℕ) : Type 0 where
  pub rest : ℕ
  pub old_is : occurrences q old ≡ rest + occurrences q (was ∷ [])
  pub new_is : occurrences q new ≡ rest + occurrences q (now ∷ [])

changed : (q lo hi : ℕ) (f g : ℕ → ℕ) (os : List ℕ) (at : ℕ) → Spaced lo hi os → In at os → ((x : ℕ) → In x os → x ≢ at → g x ≡ f x) → Changed q (map f os) (map g os) (f at) (g at)
changed q lo hi f g [] at spaced i same = elim i [ ]
changed q lo hi f g (at ∷ os) _ spaced here same =
    let tail : map g os ≡ map f os = map_same f g os (λ x i. same x (there i) (λ e. let later = Spaced-in (at + 4) hi os x spaced.2 i in absurd (omega (arith, later.0)))) in
    let first = occurrences-append q (f at ∷ []) (map f os) in
    let second = occurrences-append q (g at ∷ []) (map g os) in
    let equal : occurrences q (map g os) ≡ occurrences q (map f os) = ap (occurrences q) tail in
    record { rest = occurrences q (map f os); old_is = omega arith; new_is = omega arith }
changed q lo hi f g (x ∷ os) at spaced (there i) same =
    let others = changed q (x + 4) hi f g os at spaced.2 i (λ y j. same y (there j)) in
    let later = Spaced-in (x + 4) hi os at spaced.2 i in
    let head : g x ≡ f x = same x here (λ e. absurd (omega (arith, later.0))) in
    let first = occurrences-append q (f x ∷ []) (map f os) in
    let second = occurrences-append q (g x ∷ []) (map g os) in
    let equal : occurrences q (g x ∷ []) ≡ occurrences q (f x ∷ []) = ap (λ w. occurrences q (w ∷ [])) head in
    let old_rest = others.old_is in
    let new_rest = others.new_is in
    record { rest = occurrences q (f x ∷ []) + others.rest; old_is = omega arith; new_is = omega arith }

-- the names that a slot gives to a place
slot_names : ℕ → Option ℕ → ℕ
slot_names q None = 0
slot_names q (Some word) = occurrences q (word ∷ [])

-- A slot holds a word: none where it is null.
abbrev pub IsSlotOf : Option ℕ → ℕ → Type 0
IsSlotOf None word = word ≡ 0
IsSlotOf (Some held) word = (held ≡ word) × (0 < word)

slot_one : (q word : ℕ) (slot : Option ℕ) → IsSlotOf slot word → 0 < q → occurrences q (word ∷ []) ≡ slot_names q slot
unfolding slot_names
slot_one q word None is above = never q word (λ e. absurd (omega arith))
slot_one q word (Some held) is above = ap (λ w. occurrences q (w ∷ [])) (sym is.0)

slot_null : (q word : ℕ) (slot : Option ℕ) → IsSlotOf slot word → q ≡ 0 → slot_names q slot ≡ 0
unfolding slot_names
slot_null q word None is zero_place = refl
slot_null q word (Some held) is zero_place = never q held (λ e. let same : held ≡ word = is.0 in let above : 0 < word = is.1 in absurd (omega arith))

copied_are : (h : HeapView) (source : Option ℕ) (names : ℕ → ℕ) → CountsAre h.counts names → CountsAre (copied h source).counts (λ q. names q + slot_names q source)
unfolding slot_names
copied_are h None names are = λ q n is. let n_is : n ≡ names q = are q n is in omega arith
copied_are h (Some word) names are = raise_are h.counts word names (λ q. names q + occurrences q (word ∷ [])) are (λ q. refl)

emptied_are : (h : HeapView) (destination : Option ℕ) (names names' : ℕ → ℕ) → CountsAre h.counts names → ((q : ℕ) → names q ≡ names' q + slot_names q destination) → CountsAre (emptied h destination).counts names'
unfolding slot_names
emptied_are h None names names' are less = λ q n is. let n_is : n ≡ names q = are q n is in let e = less q in omega arith
emptied_are h (Some word) names names' are less = lower_are h.counts word names names' are less

copied_shown : (h : HeapView) (source : Option ℕ) → (copied h source).counts.shown ≡ h.counts.shown
copied_shown h None = refl
copied_shown h (Some word) = raise_shown (get h.counts.counted word) word h.counts

emptied_shown : (h : HeapView) (destination : Option ℕ) → (emptied h destination).counts.shown ≡ h.counts.shown
emptied_shown h None = refl
emptied_shown h (Some word) = lower_shown (get h.counts.counted word) word h.counts

-- a barrier counts no place that wasn't counted
Counted : Counts → ℕ → Type 0
Counted c q = (n : ℕ) × (get c.counted q ≡ Some n)

put_counted : (c : Counts) (w was k q n : ℕ) → get c.counted w ≡ Some was → get (insert c.counted w k) q ≡ Some n → Counted c q
unfolding Counted
put_counted c w was k q n at is = elim (put_cases c.counted w k q n is) [
  | inl same ↦ (was, ap (get c.counted) same.0 ∙ at)
  | inr other ↦ (n, other.1)
]

raise_counted : (c : Counts) (w q n : ℕ) → get (raise (get c.counted w) w c).counted q ≡ Some n → Counted c q
unfolding Counted
raise_counted c w q n = elim (get c.counted w) as (λ at. get c.counted w ≡ at → get (raise at w c).counted q ≡ Some n → Counted c q) [
  | None ↦ λ at is. (n, is)
  | Some was ↦ λ at is. put_counted c w was (was + 1) q n at is
] refl

lower_counted : (c : Counts) (w q n : ℕ) → get (lower (get c.counted w) w c).counted q ≡ Some n → Counted c q
unfolding Counted
lower_counted c w q n = elim (get c.counted w) as (λ at. get c.counted w ≡ at → get (lower at w c).counted q ≡ Some n → Counted c q) [
  | None ↦ λ at is. (n, is)
  | Some was ↦ λ at is. put_counted c w was (was - 1) q n at is
] refl

copied_counted : (h : HeapView) (source : Option ℕ) (q n : ℕ) → get (copied h source).counts.counted q ≡ Some n → Counted h.counts q
unfolding Counted
copied_counted h None q n is = (n, is)
copied_counted h (Some word) q n is = raise_counted h.counts word q n is

emptied_counted : (h : HeapView) (destination : Option ℕ) (q n : ℕ) → get (emptied h destination).counts.counted q ≡ Some n → Counted h.counts q
unfolding Counted
emptied_counted h None q n is = (n, is)
emptied_counted h (Some word) q n is = lower_counted h.counts word q n is

overwritten_counted : (h : HeapView) (destination source : Option ℕ) (q n : ℕ) → get (overwritten h destination source).counts.counted q ≡ Some n → Counted h.counts q
unfolding Counted
overwritten_counted h destination source q n is =
    let between = emptied_counted (copied h source) destination q n is in
    copied_counted h source q between.0 between.1

-- a barrier leaves all but the counts
copied_rest : (h : HeapView) (source : Option ℕ) → copied h source ≡ record h { counts = (copied h source).counts }
copied_rest h None = refl
copied_rest h (Some word) = refl

emptied_rest : (h : HeapView) (destination : Option ℕ) → emptied h destination ≡ record h { counts = (emptied h destination).counts }
emptied_rest h None = refl
emptied_rest h (Some word) = refl

overwritten_content : (h : HeapView) (destination source : Option ℕ) → (overwritten h destination source).content ≡ h.content
overwritten_content h destination source = ap (λ (x : HeapView). x.content) (emptied_rest (copied h source) destination) ∙ ap (λ (x : HeapView). x.content) (copied_rest h source)

overwritten_attached : (h : HeapView) (destination source : Option ℕ) → (overwritten h destination source).attached ≡ h.attached
overwritten_attached h destination source = ap (λ (x : HeapView). x.attached) (emptied_rest (copied h source) destination) ∙ ap (λ (x : HeapView). x.attached) (copied_rest h source)

overwritten_scopes : (h : HeapView) (destination source : Option ℕ) → (overwritten h destination source).scopes ≡ h.scopes
overwritten_scopes h destination source = ap (λ (x : HeapView). x.scopes) (emptied_rest (copied h source) destination) ∙ ap (λ (x : HeapView). x.scopes) (copied_rest h source)

-- Names that change as an object in a heap does.
names_put : (types : List Declaration) (old new : HeapView) (roots : List Root) (place q : ℕ) (o o' : HeapObject) → get old.content place ≡ Some o → new.content ≡ insert old.content place o'
    → names_of Counting types new roots q + occurrences q (references Counting types o) ≡ names_of Counting types old roots q + occurrences q (references Counting types o')
names_put types old new roots place q o o' held content =
    let f : HeapObject → ℕ = λ x. occurrences q (references Counting types x) in
    let fields : total f new.content + f o ≡ total f old.content + f o' = ap (λ m. total f m + f o) content ∙ total-replace f old.content place o o' held in
    omega arith

-- where the references are the same, the counts stay
counts_kept : (types : List Declaration) (old new : HeapView) (roots : List Root) (place : ℕ) (o o' : HeapObject) → Puts old new place o o' → new.counts ≡ old.counts
    → references Counting types o' ≡ references Counting types o → CountsExact types old roots → CountsExact types new roots
counts_kept types old new roots place o o' puts counts same exact = record {
  counted = λ q n is.
      let names = names_put types old new roots place q o o' puts.held puts.content in
      let equal : occurrences q (references Counting types o') ≡ occurrences q (references Counting types o) = ap (occurrences q) same in
      let count : n ≡ names_of Counting types old roots q = exact.counted q n (sym (ap (λ c. get c.counted q) counts) ∙ is) in
      omega arith;
  shown = λ q held among. ap (λ c. finset.contains c.shown q) counts ∙ exact.shown q (held_before old new place o o' puts q held) among;
}

-- A slot of an object was overwritten, with its barrier.
stored_exact : (types : List Declaration) (h : HeapView) (roots : List Root) (place : ℕ) (o o' : HeapObject) (was now : ℕ) (destination source : Option ℕ) → IsHeap Counting h
    → Puts h (put_object (overwritten h destination source) place o') place o o' → ((q : ℕ) → Changed q (references Counting types o) (references Counting types o') was now)
    → IsSlotOf destination was → IsSlotOf source now → CountsExact types h roots → CountsExact types (put_object (overwritten h destination source) place o') roots
unfolding Counted
stored_exact types h roots place o o' was now destination source heap puts changes is_was is_now exact = record {
  counted = λ q n is.
      let counted = overwritten_counted h destination source q n is in
      let above : 0 < q = (counted_place h heap q counted.0 counted.1).1 in
      let count : n ≡ names_of Counting types h roots q + slot_names q source - slot_names q destination =
      emptied_are (copied h source) destination (λ q. names_of Counting types h roots q + slot_names q source) (λ q. names_of Counting types h roots q + slot_names q source - slot_names q destination)
      (copied_are h source (names_of Counting types h roots) exact.counted) enough q n is in
      let names = names_put types h new roots place q o o' puts.held puts.content in
      let old_is = (changes q).old_is in
      let new_is = (changes q).new_is in
      let before = slot_one q was destination is_was above in
      let after = slot_one q now source is_now above in
      let most = enough q in
      omega arith;
  shown = λ q held among.
      ap (λ s. finset.contains s q) (emptied_shown (copied h source) destination ∙ copied_shown h source) ∙ exact.shown q (held_before h new place o o' puts q held) among;
}
  where
    new : HeapView
    new = put_object (overwritten h destination source) place o'

    enough : (q : ℕ) → names_of Counting types h roots q + slot_names q source ≡ names_of Counting types h roots q + slot_names q source - slot_names q destination + slot_names q destination
    enough q = elim (cases_eq q 0) [
      | inl zero_place ↦ let none = slot_null q was destination is_was zero_place in omega arith
      | inr other ↦
          let f : HeapObject → ℕ = λ x. occurrences q (references Counting types x) in
          let least : f o ≤ total f h.content = total-least f h.content place o puts.held in
          let old_is = (changes q).old_is in
          let before = slot_one q was destination is_was (omega arith) in
          omega arith
    ]

-- What is written to an object of a heap, at an offset.
pub record IsWrite (layouts : Layouts) (h : HeapView) (place : ℕ) (o : HeapObject) (offset : ℕ) (ws : List ℕ) : Type 0 where
  pub heap : IsHeap layouts h
  pub held : get h.content place ≡ Some o
  pub fits : FitsData layouts o offset ws

module _ (layouts : Layouts) (types : List Declaration) (h : HeapView) (place : ℕ) (o : HeapObject) (offset : ℕ) (ws : List ℕ) (write : IsWrite layouts h place o offset ws)
    (roots : List Root) (hosts : ℕ → Bool) (can : CanCollect layouts (start h roots types hosts)) where
  abbrev written : HeapObject
  written = with_data layouts o offset ws

  abbrev offsets : List ℕ
  offsets = reference_offsets layouts types o

  pub spaced : Spaced (writable_offset layouts o.kind) (held_size layouts o) offsets
  spaced = references_spaced layouts types o (write.heap.objects place o write.held).spare (can.typed place o write.held)

  offset_above : (x : ℕ) → In x offsets → struct_base layouts ≤ x
  offset_above x i =
      let least = writable_from layouts o.kind write.fits.fields in
      let inside = Spaced-in (writable_offset layouts o.kind) (held_size layouts o) offsets x spaced i in
      omega (arith, inside.0)

  old_word : (x : ℕ) → In x offsets → IsWordOf h (word_in layouts o x)
  old_word x i = can.fields place o (word_in layouts o x) write.held (in_contains (references layouts types o) (word_in layouts o x) (map_in (word_in layouts o) offsets x i))

  offsets_written : reference_offsets layouts types written ≡ offsets
  offsets_written = same_offsets layouts types o written (written_shape layouts o offset ws write.fits) (write.heap.objects place o write.held).spare (can.typed place o write.held)

  references_written : references layouts types written ≡ map (word_in layouts written) offsets
  references_written = ap (map (word_in layouts written)) offsets_written

  put_in : (destination source : Option ℕ) → Puts h (put_object (overwritten h destination source) place written) place o written
  put_in destination source = record {
    held = write.held;
    content = ap (λ m. insert m place written) (overwritten_content h destination source);
    attached = overwritten_attached h destination source;
    scopes = overwritten_scopes h destination source;
  }

  can_collect_words : (new : HeapView) → Puts h new place o written → ((x : ℕ) → In x offsets → IsWordOf h (word_in layouts written x)) → AreCounted layouts types new roots → CanCollect layouts (start new roots types hosts)
  can_collect_words new puts words counted =
      can_collect_put h new place o written puts layouts types roots hosts can (write.heap.objects place o write.held).spare (written_shape layouts o offset ws write.fits) write.fits.fields
      (λ x among. words x (contains_in offsets x among)) counted

  module _ (apart : (x : ℕ) → Contains offsets x → (x + 4 ≤ offset) ⊎ (offset + length ws ≤ x)) where
    number_word : (x : ℕ) → In x offsets → word_in layouts written x ≡ word_in layouts o x
    number_word x i = word_apart layouts o offset ws write.fits x (offset_above x i) (apart x (in_contains offsets x i))

    pub number_references : references layouts types written ≡ references layouts types o
    number_references = references_written ∙ map_same (word_in layouts o) (word_in layouts written) offsets number_word

    pub number_words : (x : ℕ) → In x offsets → IsWordOf h (word_in layouts written x)
    number_words x i = subst (IsWordOf h) (sym (number_word x i)) (old_word x i)

number_counted : (layouts : Layouts) (types : List Declaration) (old new : HeapView) (roots : List Root) (place : ℕ) (o o' : HeapObject) → Puts old new place o o' → new.counts ≡ old.counts
    → references layouts types o' ≡ references layouts types o → AreCounted layouts types old roots → AreCounted layouts types new roots
number_counted Null types old new roots place o o' puts counts same exact = tt
number_counted Counting types old new roots place o o' puts counts same exact = counts_kept types old new roots place o o' puts counts same exact
number_counted Copying types old new roots place o o' puts counts same exact = tt

-- A collection may begin after a write that lies apart from each reference of its object.
pub can_collect_number : (layouts : Layouts) (types : List Declaration) (h : HeapView) (place : ℕ) (o : HeapObject) (offset : ℕ) (ws : List ℕ) (roots : List Root) (hosts : ℕ → Bool) → IsWrite layouts h place o offset ws
    → ((x : ℕ) → Contains (reference_offsets layouts types o) x → (x + 4 ≤ offset) ⊎ (offset + length ws ≤ x)) → CanCollect layouts (start h roots types hosts)
    → CanCollect layouts (start (put_object h place (with_data layouts o offset ws)) roots types hosts)
can_collect_number layouts types h place o offset ws roots hosts write apart can =
    let puts = put_in layouts types h place o offset ws write roots hosts can None None in
    can_collect_words layouts types h place o offset ws write roots hosts can (put_object h place (with_data layouts o offset ws)) puts
    (number_words layouts types h place o offset ws write roots hosts can apart)
    (number_counted layouts types h (put_object h place (with_data layouts o offset ws)) roots place o (with_data layouts o offset ws) puts refl (number_references layouts types h place o offset ws write roots hosts can apart) can.counts)

module _ (layouts : Layouts) (types : List Declaration) (h : HeapView) (place : ℕ) (o : HeapObject) (offset word : ℕ) (write : IsWrite layouts h place o offset (to_le_bytes w32 word)) (small : word < 2 ^ 32)
    (roots : List Root) (hosts : ℕ → Bool) (can : CanCollect layouts (start h roots types hosts)) (among : Contains (reference_offsets layouts types o) offset) where
  abbrev stored : HeapObject
  stored = with_data layouts o offset (to_le_bytes w32 word)

  abbrev all_offsets : List ℕ
  all_offsets = reference_offsets layouts types o

  stored_other : (x : ℕ) → In x all_offsets → x ≢ offset → word_in layouts stored x ≡ word_in layouts o x
  stored_other x i ne =
      let ws : List ℕ = to_le_bytes w32 word in
      word_apart layouts o offset ws write.fits x (offset_above layouts types h place o offset ws write roots hosts can x i)
      (elim (Spaced-apart (writable_offset layouts o.kind) (held_size layouts o) all_offsets x offset (spaced layouts types h place o offset ws write roots hosts can) i (contains_in all_offsets offset among)) [
        | inl same ↦ absurd (ne same)
        | inr apart ↦ apart
      ])

  stored_word : word_in layouts stored offset ≡ word
  stored_word = word_written layouts o offset word write.fits small

  pub stored_words : IsWordOf h word → (x : ℕ) → In x all_offsets → IsWordOf h (word_in layouts stored x)
  stored_words is x i = elim (cases_eq x offset) [
    | inl at ↦ subst (IsWordOf h) (sym (ap (word_in layouts stored) at ∙ stored_word)) is
    | inr ne ↦ subst (IsWordOf h) (sym (stored_other x i ne)) (old_word layouts types h place o offset (to_le_bytes w32 word) write roots hosts can x i)
  ]

  pub stored_changed : (q : ℕ) → Changed q (references layouts types o) (references layouts types stored) (word_in layouts o offset) word
  stored_changed q =
      let ws : List ℕ = to_le_bytes w32 word in
      let change = changed q (writable_offset layouts o.kind) (held_size layouts o) (word_in layouts o) (word_in layouts stored) all_offsets offset
      (spaced layouts types h place o offset ws write roots hosts can) (contains_in all_offsets offset among) stored_other in
      subst (λ now. Changed q (references layouts types o) (references layouts types stored) (word_in layouts o offset) now) stored_word
      (subst (λ words. Changed q (references layouts types o) words (word_in layouts o offset) (word_in layouts stored offset)) (sym (references_written layouts types h place o offset ws write roots hosts can)) change)

-- Two words at multiples of 4 are one, or apart.
apart_words : (x offset : ℕ) → x % 4 ≡ 0 → offset % 4 ≡ 0 → x ≢ offset → (x + 4 ≤ offset) ⊎ (offset + 4 ≤ x)
apart_words x offset aligned aligned' ne = elim (cases_lt x offset) [ inl before ↦ inl (omega arith) | inr behind ↦ inr (let other : (x ≡ offset → ⊥) = ne in grind arith) ]

-- In a heap that doesn't count, a collection may begin after a word was written that is null, a number, or
-- names a held object, whether a reference lies there or not.
pub can_collect_word : (layouts : Layouts) (types : List Declaration) (h : HeapView) (place : ℕ) (o : HeapObject) (offset word : ℕ) (roots : List Root) (hosts : ℕ → Bool) → (layouts ≡ Counting → ⊥)
    → IsWrite layouts h place o offset (to_le_bytes w32 word) → word < 2 ^ 32 → offset % 4 ≡ 0 → IsWordOf h word → CanCollect layouts (start h roots types hosts)
    → CanCollect layouts (start (put_object h place (with_data layouts o offset (to_le_bytes w32 word))) roots types hosts)
can_collect_word layouts types h place o offset word roots hosts other write small aligned is can =
    let ws : List ℕ = to_le_bytes w32 word in
    let new : HeapObject = with_data layouts o offset ws in
    can_collect_words layouts types h place o offset ws write roots hosts can (put_object h place new) (put_in layouts types h place o offset ws write roots hosts can None None)
    (λ x i. elim (cases_eq x offset) [
      | inl at ↦ subst (IsWordOf h) (sym (ap (word_in layouts new) at ∙ word_written layouts o offset word write.fits small)) is
      | inr ne ↦ subst (IsWordOf h)
          (sym (word_apart layouts o offset ws write.fits x (offset_above layouts types h place o offset ws write roots hosts can x i) (apart_words x offset (references_aligned layouts types o x i) aligned ne)))
          (old_word layouts types h place o offset ws write roots hosts can x i)
    ])
    (uncounted layouts types (put_object h place new) roots other)

stored_counted : (layouts : Layouts) (types : List Declaration) (h : HeapView) (roots : List Root) (place : ℕ) (o o' : HeapObject) (was now : ℕ) (destination source : Option ℕ) → IsHeap layouts h
    → Puts h (put_object (overwritten h destination source) place o') place o o' → ((q : ℕ) → Changed q (references layouts types o) (references layouts types o') was now)
    → IsSlotOf destination was → IsSlotOf source now → AreCounted layouts types h roots → AreCounted layouts types (put_object (overwritten h destination source) place o') roots
stored_counted Null types h roots place o o' was now destination source heap puts changes is_was is_now exact = tt
stored_counted Counting types h roots place o o' was now destination source heap puts changes is_was is_now exact = stored_exact types h roots place o o' was now destination source heap puts changes is_was is_now exact
stored_counted Copying types h roots place o o' was now destination source heap puts changes is_was is_now exact = tt

-- The same of any heap, after the barrier of the write.
pub can_collect_stored : (layouts : Layouts) (types : List Declaration) (h : HeapView) (place : ℕ) (o : HeapObject) (offset word : ℕ) (destination source : Option ℕ) (roots : List Root) (hosts : ℕ → Bool)
    → IsWrite layouts h place o offset (to_le_bytes w32 word) → word < 2 ^ 32 → Contains (reference_offsets layouts types o) offset → IsWordOf h word → IsSlotOf destination (word_in layouts o offset) → IsSlotOf source word
    → CanCollect layouts (start h roots types hosts) → CanCollect layouts (start (put_object (overwritten h destination source) place (with_data layouts o offset (to_le_bytes w32 word))) roots types hosts)
can_collect_stored layouts types h place o offset word destination source roots hosts write small among is is_was is_now can =
    let ws : List ℕ = to_le_bytes w32 word in
    let puts = put_in layouts types h place o offset ws write roots hosts can destination source in
    can_collect_words layouts types h place o offset ws write roots hosts can (put_object (overwritten h destination source) place (with_data layouts o offset ws)) puts
    (stored_words layouts types h place o offset word write small roots hosts can among is)
    (stored_counted layouts types h roots place o (with_data layouts o offset ws) (word_in layouts o offset) word destination source write.heap puts
    (stored_changed layouts types h place o offset word write small roots hosts can among) is_was is_now can.counts)
