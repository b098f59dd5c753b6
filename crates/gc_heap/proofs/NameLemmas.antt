-- A word of a heap may be cloned, and that of a root dropped: counts are the numbers of names, and a place
-- has fewer names than the heap has bytes and counted roots.
use Rattle.std.proofs.Common.{◌≡◌, ℕ, ◌+◌, ◌-◌, ◌<◌, ◌≤◌, ◌^◌, inl, inr, Bool, true, false, not, cond, nat_eq, min, List, [], ◌∷◌, ◌++◌, length, map, filter, Option, Some, None, option_map, refl, sym, ap, ◌∙◌, arith}
use Rattle.std.specs.Prelude.{sum_by}
use Rattle.std.specs.Ordering.{nat_cmp}
use Rattle.std.specs.FinMap.{FinMap, entries, get, get-empty}
use Rattle.std.proofs.lemmas.Option.{none-some}
use Rattle.std.proofs.lemmas.List.{length-map}
use Rattle.std.proofs.lemmas.List.Sums.{sum-map, sum_by-cons}
use Rattle.gc_types.specs.declared.kind.Layouts.{Layouts}
use Rattle.gc_types.specs.declared.kind.Layouts.TheVariants.{Null, Counting, Copying}
use Rattle.gc_types.specs.Declarations.{Declaration}
use Rattle.gc_roots.specs.Roots.{Root}
use Rattle.gc_view.specs.Heaps.{HeapObject, HeapView, Counts, no_counts}
use Rattle.gc_heap.specs.Objects.{held_size}
use Rattle.gc_heap.specs.References.{references, reference_offsets, word_in, Spaced}
use Rattle.gc_heap.specs.Content.{IsHeap, total}
use Rattle.gc_heap.proofs.TotalLemmas.{total-same}
use Rattle.gc_heap.specs.Barriers.{CanName, CanUnname, IsNamed}
use Rattle.gc_heap.specs.Collection.{CanCollect, AreCounted, IsWordOf, names_of, occurrences, held_words}
use Rattle.gc_heap.proofs.ReferenceLemmas.{references_spaced}
use Rattle.gc_heap.proofs.AddedLemmas.{start}
use Rattle.gc_heap.proofs.CountLemmas.{held-between, held_one, once}
use Rattle.gc_heap.proofs.RootedLemmas.{is_among}

nothing_counted : (h : HeapView) (q n : ℕ) → h.counts ≡ no_counts → get h.counts.counted q ≡ Some n → ⊥
nothing_counted h q n none is = none-some n (sym (get-empty nat_cmp q) ∙ ap (λ (c : Counts). get c.counted q) (sym none) ∙ is)

-- where a place is counted, its count is the number of its names
pub counted_is : (layouts : Layouts) (types : List Declaration) (h : HeapView) (roots : List Root) → IsHeap layouts h → AreCounted layouts types h roots → (q n : ℕ) → get h.counts.counted q ≡ Some n → n ≡ names_of layouts types h roots q
counted_is Null types h roots heap counted q n is = absurd (nothing_counted h q n heap.by_kind.0 is)
counted_is Counting types h roots heap counted q n is = counted.counted q n is
counted_is Copying types h roots heap counted q n is = absurd (nothing_counted h q n heap.by_kind.counts is)

-- a word that isn't null may be given to a barrier
pub is_named : (h : HeapView) (word : ℕ) → IsWordOf h word → 0 < word → IsNamed h word
is_named h word (inl null) present = absurd (omega arith)
is_named h word (inr named) present = named

sum_below : (f g : HeapObject → ℕ) → ((o : HeapObject) → f o ≤ g o) → (es : List (ℕ × HeapObject)) → sum_by (λ (e : ℕ × HeapObject). f e.1) es ≤ sum_by (λ (e : ℕ × HeapObject). g e.1) es
sum_below f g le [] = omega arith
sum_below f g le (e ∷ es) =
    let one = sum_by-cons (λ (e : ℕ × HeapObject). f e.1) e es in
    let other = sum_by-cons (λ (e : ℕ × HeapObject). g e.1) e es in
    let rest = sum_below f g le es in
    let first = le e.1 in
    omega arith

total_below : (f g : HeapObject → ℕ) (m : FinMap nat_cmp HeapObject) → ((o : HeapObject) → f o ≤ g o) → total f m ≤ total g m
total_below f g m le =
    let one = sum-map (λ (e : ℕ × HeapObject). f e.1) (entries m) in
    let other = sum-map (λ (e : ℕ × HeapObject). g e.1) (entries m) in
    let below = sum_below f g le (entries m) in
    omega arith

-- a sum is at most another where each held object's number is
pub total-le : (f g : HeapObject → ℕ) (m : FinMap nat_cmp HeapObject) → ((q : ℕ) (o : HeapObject) → get m q ≡ Some o → f o ≤ g o) → total f m ≤ total g m
total-le f g m le =
    let same : total f m ≡ total (λ o. min (f o) (g o)) m = total-same f (λ o. min (f o) (g o)) m m (λ q. alike (get m q) (le q)) in
    let below = total_below (λ o. min (f o) (g o)) g m (λ o. omega arith) in
    omega arith
  where
    alike : (found : Option HeapObject) → ((o : HeapObject) → found ≡ Some o → f o ≤ g o) → option_map f found ≡ option_map (λ o. min (f o) (g o)) found
    alike None le = refl
    alike (Some o) le = let here = le o refl in ap Some (omega arith)

-- a list has no more of a word than it has words
occurrences-le : (q : ℕ) (words : List ℕ) → occurrences q words ≤ length words
occurrences-le q [] = omega arith
occurrences-le q (w ∷ words) =
    let rest = occurrences-le q words in
    elim (nat_eq q w) as (λ b. length (cond b (w ∷ filter (nat_eq q) words) (filter (nat_eq q) words)) ≤ length (w ∷ words)) [ true ↦ omega arith | false ↦ omega arith ]

-- no more words of roots are counted than there are roots
pub held-le : (roots : List Root) → length (held_words roots) ≤ length roots
held-le [] = omega arith
held-le (r ∷ roots) =
    let rest = held-le roots in
    elim r.on_stack as (λ b. length (map (λ (r : Root). r.word) (cond (not b) (r ∷ filter (λ (r : Root). not r.on_stack) roots) (filter (λ (r : Root). not r.on_stack) roots))) ≤ length (r ∷ roots)) [ true ↦ omega arith | false ↦ omega arith ]

-- so many words lie in so many bytes
spaced_count : (lo hi : ℕ) (offsets : List ℕ) → Spaced lo hi offsets → length offsets ≤ hi - lo
spaced_count lo hi [] spaced = omega arith
spaced_count lo hi (o ∷ os) spaced =
    let rest = spaced_count (o + 4) hi os spaced.2 in
    let from = spaced.0 in
    let to = spaced.1 in
    omega arith

module _ (layouts : Layouts) (types : List Declaration) (h : HeapView) (roots : List Root) (hosts : ℕ → Bool) (heap : IsHeap layouts h) (can : CanCollect layouts (start h roots types hosts)) where
  -- a place has fewer names than the heap has bytes and counted roots
  pub names_few : (q : ℕ) → names_of layouts types h roots q ≤ 2 ^ 32 + length (held_words roots)
  names_few q =
      let fields = total-le (λ o. occurrences q (references layouts types o)) (held_size layouts) h.content (λ p o is.
      let spaced = spaced_count _ _ _ (references_spaced layouts types o (heap.objects p o is).spare (can.typed p o is)) in
      let many = occurrences-le q (references layouts types o) in
      let count = length-map (reference_offsets layouts types o) (word_in layouts o) in
      omega arith) in
      let held = occurrences-le q (held_words roots) in
      let fits = heap.fits in
      let bound = heap.bound in
      omega arith

  -- a word of the heap or of a root may be cloned
  pub can_name : length (held_words roots) < 2 ^ 63 → (word : ℕ) → IsWordOf h word → 0 < word → CanName h word
  can_name few word is present = record {
    named = is_named h word is present;
    below = λ n counted.
        let names = counted_is layouts types h roots heap can.counts word n counted in
        let most = names_few word in
        omega arith;
  }

-- a root's word may be dropped
pub can_unname : (layouts : Layouts) (types : List Declaration) (h : HeapView) (before : List Root) (r : Root) (behind : List Root) (hosts : ℕ → Bool) → IsHeap layouts h
    → CanCollect layouts (start h (before ++ r ∷ behind) types hosts) → r.on_stack ≡ false → 0 < r.word → CanUnname h r.word
can_unname layouts types h before r behind hosts heap can held present = record {
  named = is_named h r.word (can.roots r (is_among before r behind)) present;
  counted = λ n counted.
      let names = counted_is layouts types h (before ++ r ∷ behind) heap can.counts r.word n counted in
      let between = held-between r.word before r behind in
      let one = held_one r.word r held ∙ once r.word in
      omega arith;
}
