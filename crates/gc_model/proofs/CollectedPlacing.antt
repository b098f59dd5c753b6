-- Where the objects of a table lie after a collection: each that was kept at its new place, and no other.
use Rattle.std.proofs.Common.{◌≡◌, ℕ, ◌%◌, Bool, cond, if◌then◌else◌, nat_eq, List, Option, Some, None, inl, inr, refl, sym, ap, ◌∙◌, subst, arith}
use Rattle.std.specs.FinMap.{get}
use Rattle.std.proofs.lemmas.Bool.{cases_eq, eq-eqb, ne_eqb}
use Rattle.std.proofs.lemmas.Bool.Decides.{nat_tests}
use Rattle.std.proofs.lemmas.Option.{none-some}
use Rattle.gc_types.specs.declared.kind.Layouts.{Layouts}
use Rattle.gc_roots.specs.Roots.{Root}
use Rattle.gc_model.specs.Values.{Reference, null, small, at}
use Rattle.gc_view.specs.Heaps.{HeapObject, HeapView}
use Rattle.gc_model.specs.Holds.{Placing, IsWord}
use Rattle.gc_heap.specs.Content.{IsHeap}
use Rattle.gc_heap.specs.Collection.{Start, Kept, moved, Collected}
use Rattle.gc_heap.proofs.AgainLemmas.{kept_held, moved-place}

module _ (layouts : Layouts) (s : Start) (h : HeapView) (roots : List Root) (hosts : ℕ → Bool) (done : Collected layouts s h roots hosts) where
  -- the new place of what was held at a word, by what is held there now
  abbrev place_of : (word : ℕ) (found : Option HeapObject) → get h.content (done.to word) ≡ found → Option ℕ
  place_of word None e = None
  place_of word (Some o) e = if nat_eq (done.only (done.to word) (o, e)).0 word then Some (done.to word) else None

  place_of_kept : (word : ℕ) (found : Option HeapObject) (e : get h.content (done.to word) ≡ found) → Kept layouts s word → place_of word found e ≡ Some (done.to word)
  place_of_kept word None e kept =
      let was = kept_held layouts s word kept in
      let after = done.kept word was.0 kept was.1 in
      absurd (none-some after.0 (sym e ∙ after.1.0))
  place_of_kept word (Some o) e kept =
      let from = done.only (done.to word) (o, e) in
      ap (λ b. cond b (Some (done.to word)) None) (eq-eqb from.0 word (done.injective from.0 word from.1.0 kept from.1.1))

  kept_of_place : (word q : ℕ) (found : Option HeapObject) (e : get h.content (done.to word) ≡ found) → place_of word found e ≡ Some q → Kept layouts s word × (done.to word ≡ q)
  kept_of_place word q None e is = absurd (none-some q is)
  kept_of_place word q (Some o) e is =
      let from = done.only (done.to word) (o, e) in
      elim (cases_eq from.0 word) [
        | inl same ↦ (subst (Kept layouts s) same from.1.0, (let both : Some (done.to word) ≡ Some q = sym (ap (λ b. cond b (Some (done.to word)) None) (eq-eqb from.0 word same)) ∙ is in grind (arith, both)))
        | inr other ↦ absurd (none-some q (sym (ap (λ b. cond b (Some (done.to word)) None) (ne_eqb from.0 word other)) ∙ is))
      ]

  abbrev place_at : Option ℕ → Option ℕ
  place_at None = None
  place_at (Some word) = place_of word (get h.content (done.to word)) refl

  -- the objects that were kept, at their new places
  abbrev pub place_after : Placing → Placing
  place_after place p = place_at (place p)

  pub placed_after : (place : Placing) (p word : ℕ) → place p ≡ Some word → Kept layouts s word → place_after place p ≡ Some (done.to word)
  placed_after place p word is kept = ap place_at is ∙ place_of_kept word (get h.content (done.to word)) refl kept

-- Where a position was that is placed after a collection.
pub record Before (layouts : Layouts) (s : Start) (to : ℕ → ℕ) (place : Placing) (p q : ℕ) : Type 0 where
  pub word : ℕ
  pub placed : place p ≡ Some word
  pub kept : Kept layouts s word
  pub moves : to word ≡ q

module _ (layouts : Layouts) (s : Start) (h : HeapView) (roots : List Root) (hosts : ℕ → Bool) (done : Collected layouts s h roots hosts) where
  before_by : (place : Placing) (p q : ℕ) (word : Option ℕ) → place p ≡ word → place_at layouts s h roots hosts done word ≡ Some q → Before layouts s done.to place p q
  before_by place p q None e is = absurd (none-some q is)
  before_by place p q (Some word) e is =
      let was = kept_of_place layouts s h roots hosts done word q (get h.content (done.to word)) refl is in
      record { word = word; placed = e; kept = was.0; moves = was.1 }

  pub placed_before : (place : Placing) (p q : ℕ) → place_after layouts s h roots hosts done place p ≡ Some q → Before layouts s done.to place p q
  placed_before place p q is = before_by place p q (place p) refl is

  -- the word of a reference, where what it names is kept
  pub word_carried : IsHeap layouts s.heap → (place : Placing) (r : Reference) (w : ℕ) → ((p : ℕ) → place p ≡ Some w → Kept layouts s w) → IsWord place r w → IsWord (place_after layouts s h roots hosts done place) r (moved done.to w)
  word_carried heap place null w kept is = ap (moved done.to) is
  word_carried heap place (small n) w kept is = let odd : w % 2 ≡ 1 = omega (arith, is) in moved_number w odd ∙ is
    where
      moved_number : (w : ℕ) → w % 2 ≡ 1 → moved done.to w ≡ w
      moved_number w odd = grind (arith, nat_tests)
  word_carried heap place (at p) w kept is =
      let was = kept_held layouts s w (kept p is) in
      let lies = heap.objects w was.0 was.1 in
      placed_after layouts s h roots hosts done place p w is (kept p is) ∙ ap (λ n. Some n) (sym (moved-place done.to w lies.aligned lies.not_null))
