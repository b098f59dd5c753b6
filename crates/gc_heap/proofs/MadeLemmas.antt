-- A collection may begin after an object was made and rooted: counts stay exact.
use Rattle.std.proofs.Common.{◌≡◌, ◌≢◌, ℕ, ◌+◌, ◌%◌, ◌<◌, inl, inr, Bool, false, not, List, [], ◌∷◌, ◌++◌, Some, Contains, refl, sym, ap, ap₂, ◌∙◌, subst, arith}
use Rattle.std.specs.FinMap.{get}
use Rattle.std.specs.FinSet as finset
use Rattle.std.specs.Prelude.{is_some}
use Rattle.std.proofs.lemmas.List.{append-nil}
use Rattle.std.proofs.lemmas.List.Elements.{Contains-append_cases}
use Rattle.gc_types.specs.declared.kind.Layouts.{Layouts}
use Rattle.gc_types.specs.declared.kind.Layouts.TheVariants.{Null, Counting, Copying}
use Rattle.gc_types.specs.Declarations.{Declaration}
use Rattle.gc_roots.specs.Roots.{Root, root}
use Rattle.gc_view.specs.Heaps.{HeapObject, HeapView}
use Rattle.gc_heap.specs.References.{references}
use Rattle.gc_heap.specs.Content.{total, IsHeld, IsHeap}
use Rattle.gc_heap.specs.Heap.{AddsObject}
use Rattle.gc_heap.specs.Collection.{CanCollect, CountsExact, AreCounted, IsWordOf, names_of, occurrences, held_words, stack_words}
use Rattle.gc_heap.specs.Totals.{total-insert}
use Rattle.gc_heap.proofs.TotalLemmas.{total-zero}
use Rattle.gc_memory.proofs.ListLemmas.{only_item}
use Rattle.gc_heap.proofs.AddedLemmas.{start, Adds, adds_of, IsBlank, OwnsHost, held_new, held_other, word_still, no_word, can_collect_added}
use Rattle.gc_heap.proofs.CountLemmas.{root_of_word, no_occurrence, once, never, words-append, held-append, put_cases}

-- nothing but places of held objects is counted
pub counted_held : (h : HeapView) → IsHeap Counting h → (q n : ℕ) → get h.counts.counted q ≡ Some n → IsHeld h q
counted_held h heap q n is = (heap.by_kind.0.counted q).1 (ap is_some is)

pub counted_place : (h : HeapView) → IsHeap Counting h → (q n : ℕ) → get h.counts.counted q ≡ Some n → (q % 2 ≡ 0) × (0 < q)
counted_place h heap q n is =
    let held = counted_held h heap q n is in
    let lies = heap.objects q held.0 held.1 in
    let aligned : q % 16 ≡ 0 = lies.aligned in
    (omega arith, lies.not_null)

-- null references name no place
pub blank_names : (layouts : Layouts) (types : List Declaration) (o : HeapObject) (q : ℕ) → IsBlank layouts types o → 0 < q → occurrences q (references layouts types o) ≡ 0
blank_names layouts types o q blank above = no_occurrence q (references layouts types o) (λ has. let null = blank.null q has in omega arith)

module _ (types : List Declaration) (old new : HeapView) (roots : List Root) (number place : ℕ) (o : HeapObject) (adds : Adds Counting old new place o)
    (root_words : (r : Root) → Contains roots r → IsWordOf old r.word)
    (field_words : (q : ℕ) (x : HeapObject) (word : ℕ) → get old.content q ≡ Some x → Contains (references Counting types x) word → IsWordOf old word) where
  abbrev with_root : List Root
  with_root = roots ++ root number false place ∷ []

  unnamed : names_of Counting types old roots place ≡ 0
  unnamed =
      let f : HeapObject → ℕ = λ x. occurrences place (references Counting types x) in
      let fields : total f old.content ≡ 0 = total-zero f old.content (λ q x is. no_occurrence place (references Counting types x) (λ t.
      no_word Counting old new place o adds (field_words q x place is t))) in
      let held : occurrences place (held_words roots) ≡ 0 = no_occurrence place (held_words roots) (λ t.
      let found = root_of_word (λ (r : Root). not r.on_stack) roots place t in
      no_word Counting old new place o adds (subst (IsWordOf old) found.1.1 (root_words found.0 found.1.0))) in
      omega arith

  names_made : (q : ℕ) → names_of Counting types new with_root q ≡ names_of Counting types old roots q + occurrences q (references Counting types o) + occurrences q (place ∷ [])
  names_made q =
      let f : HeapObject → ℕ = λ x. occurrences q (references Counting types x) in
      let fields : total f new.content ≡ total f old.content + f o = ap (total f) adds.content ∙ total-insert f old.content place o adds.fresh.free in
      let held : occurrences q (held_words with_root) ≡ occurrences q (held_words roots) + occurrences q (place ∷ []) = held-append q roots (root number false place ∷ []) in
      omega arith

  -- the new object's count of 1 is that of its root
  pub made_exact : ((q n : ℕ) → get new.counts.counted q ≡ Some n → occurrences q (references Counting types o) ≡ 0) → CountsExact types old roots → CountsExact types new with_root
  made_exact blank exact = record {
    counted = λ q n is.
        let none = blank q n is in
        let names : names_of Counting types new with_root q ≡ names_of Counting types old roots q + occurrences q (place ∷ []) = let made = names_made q in omega arith in
        elim (put_cases old.counts.counted place 1 q n (sym (ap (λ c. get c.counted q) adds.counts) ∙ is)) [
          | inl new_one ↦
              let one : occurrences q (place ∷ []) ≡ 1 = ap (λ w. occurrences q (w ∷ [])) (sym new_one.0) ∙ once q in
              let before : names_of Counting types old roots q ≡ 0 = ap (names_of Counting types old roots) new_one.0 ∙ unnamed in
              new_one.1 ∙ sym (names ∙ ap₂ (λ a b. a + b) before one)
          | inr was ↦
              let other : occurrences q (place ∷ []) ≡ 0 = never q place was.0 in
              let count : n ≡ names_of Counting types old roots q = exact.counted q n was.1 in
              omega arith
        ];
    shown = λ q held on_stack.
        let before : Contains (stack_words roots) q = subst (λ ws. Contains ws q) (words-append (λ (r : Root). r.on_stack) roots (root number false place ∷ []) ∙ append-nil _) on_stack in
        let found = root_of_word (λ (r : Root). r.on_stack) roots q before in
        let other : q ≢ place = λ e. no_word Counting old new place o adds (subst (IsWordOf old) (found.1.1 ∙ e) (root_words found.0 found.1.0)) in
        ap (λ c. finset.contains c.shown q) adds.counts ∙ exact.shown q (held.0, sym (held_other Counting old new place o adds q other) ∙ held.1) before;
  }

-- What the new object's references must not name for its heap's counts to stay exact.
abbrev pub NamesNone : Layouts → List Declaration → HeapView → HeapObject → Type 0
NamesNone Null types h o = Unit {0}
NamesNone Counting types h o = (q n : ℕ) → get h.counts.counted q ≡ Some n → occurrences q (references Counting types o) ≡ 0
NamesNone Copying types h o = Unit {0}

made_counted : (layouts : Layouts) (types : List Declaration) (old new : HeapView) (roots : List Root) (number place : ℕ) (o : HeapObject) → Adds layouts old new place o
    → ((r : Root) → Contains roots r → IsWordOf old r.word)
    → ((q : ℕ) (x : HeapObject) (word : ℕ) → get old.content q ≡ Some x → Contains (references layouts types x) word → IsWordOf old word)
    → NamesNone layouts types new o → AreCounted layouts types old roots → AreCounted layouts types new (roots ++ root number false place ∷ [])
made_counted Null types old new roots number place o adds rs fs none counted = tt
made_counted Counting types old new roots number place o adds rs fs none counted = made_exact types old new roots number place o adds rs fs none counted
made_counted Copying types old new roots number place o adds rs fs none counted = tt

-- a blank object was made and rooted
pub can_collect_rooted : (layouts : Layouts) (types : List Declaration) (old new : HeapView) (roots : List Root) (number place : ℕ) (o : HeapObject) (hosts : ℕ → Bool) → Adds layouts old new place o
    → CanCollect layouts (start old roots types hosts) → IsBlank layouts types o → OwnsHost hosts old o → NamesNone layouts types new o → CanCollect layouts (start new (roots ++ root number false place ∷ []) types hosts)
can_collect_rooted layouts types old new roots number place o hosts adds can blank owns none =
    can_collect_added layouts old new place o adds types roots (roots ++ root number false place ∷ []) hosts can blank owns
    (λ r among. elim (Contains-append_cases roots (root number false place ∷ []) r among) [
      | inl was ↦ word_still layouts old new place o adds r.word (can.roots r was)
      | inr is ↦ subst (λ (r : Root). IsWordOf new r.word) (only_item (root number false place) r is) (inr (inr (o, held_new layouts old new place o adds)))
    ])
    (made_counted layouts types old new roots number place o adds can.roots can.fields none can.counts)

blank_none : (layouts : Layouts) (types : List Declaration) (old new : HeapView) (place : ℕ) (o : HeapObject) → Adds layouts old new place o → IsHeap layouts old → IsBlank layouts types o → NamesNone layouts types new o
blank_none Null types old new place o adds heap blank = tt
blank_none Counting types old new place o adds heap blank = λ q n is. elim (put_cases old.counts.counted place 1 q n (sym (ap (λ c. get c.counted q) adds.counts) ∙ is)) [
  | inl new_one ↦ let above = adds.fresh.not_null in let same : q ≡ place = new_one.0 in blank_names Counting types o q blank (omega arith)
  | inr was ↦ blank_names Counting types o q blank (counted_place old heap q n was.1).1
]
blank_none Copying types old new place o adds heap blank = tt

-- A collection may begin after an allocation whose object is rooted.
pub can_collect_made : (layouts : Layouts) (types : List Declaration) (old new : HeapView) (roots : List Root) (number place : ℕ) (o : HeapObject) (size : ℕ) (hosts : ℕ → Bool) → AddsObject layouts old new place o size → IsHeap layouts old
    → CanCollect layouts (start old roots types hosts) → IsBlank layouts types o → OwnsHost hosts old o → CanCollect layouts (start new (roots ++ root number false place ∷ []) types hosts)
can_collect_made layouts types old new roots number place o size hosts added heap can blank owns =
    let adds = adds_of layouts old new place o size added in
    can_collect_rooted layouts types old new roots number place o hosts adds can blank owns (blank_none layouts types old new place o adds heap blank)

pub uncounted : (layouts : Layouts) (types : List Declaration) (h : HeapView) (roots : List Root) → (layouts ≡ Counting → ⊥) → AreCounted layouts types h roots
uncounted Null types h roots other = tt
uncounted Counting types h roots other = absurd (other refl)
uncounted Copying types h roots other = tt

-- The same where the object is not rooted, in a heap that doesn't count.
pub can_collect_unrooted : (layouts : Layouts) (types : List Declaration) (old new : HeapView) (roots : List Root) (place : ℕ) (o : HeapObject) (size : ℕ) (hosts : ℕ → Bool) → (layouts ≡ Counting → ⊥) → AddsObject layouts old new place o size
    → CanCollect layouts (start old roots types hosts) → IsBlank layouts types o → OwnsHost hosts old o → CanCollect layouts (start new roots types hosts)
can_collect_unrooted layouts types old new roots place o size hosts other added can blank owns =
    let adds = adds_of layouts old new place o size added in
    can_collect_added layouts old new place o adds types roots roots hosts can blank owns (λ r among. word_still layouts old new place o adds r.word (can.roots r among)) (uncounted layouts types new roots other)
