-- Two references have the same word exactly where they are the same.
use Rattle.std.proofs.Common.{◌≡◌, ◌↔◌, ℕ, ◌+◌, ◌*◌, ◌%◌, ◌<◌, Some, sym, ap, ◌∙◌, refl, subst, arith}
use Rattle.gc_types.specs.declared.kind.Layouts.{Layouts}
use Rattle.gc_model.specs.Values.{Reference, null, small, at}
use Rattle.gc_model.specs.Table.{Table}
use Rattle.gc_view.specs.Heaps.{HeapView}
use Rattle.gc_model.specs.Holds.{Placing, IsWord, InternedIds, naming, ObjectsHold}

-- a reference has one word
pub word_alone : (place : Placing) (r : Reference) (w w' : ℕ) → IsWord place r w → IsWord place r w' → w ≡ w'
word_alone place null w w' is is' = is ∙ sym is'
word_alone place (small n) w w' is is' = is ∙ sym is'
word_alone place (at p) w w' is is' = grind (arith, sym is ∙ is')

module _ {D : Type 0} (layouts : Layouts) (t : Table D) (place : Placing) {ids : InternedIds} (heap : HeapView) (objects : ObjectsHold layouts t (naming place ids) heap) where
  -- a place is an even number, and not 0
  pub place_even : (p word : ℕ) → place p ≡ Some word → (word % 2 ≡ 0) × (0 < word)
  place_even p word e = let held = objects.placed p word e in objects.even word held.object held.in_heap

  -- a small integer's word is odd, so it is no place
  small_at : (n p word : ℕ) → word ≡ 2 * n + 1 → place p ≡ Some word → ⊥
  small_at n p word is e = omega (arith, is, (place_even p word e).0)

  -- a word is that of one reference
  pub word_names : (r q : Reference) (word : ℕ) → IsWord place r word → IsWord place q word → r ≡ q
  word_names null null word is is' = refl
  word_names null (small n) word is is' = absurd (omega (arith, is, is'))
  word_names null (at p) word is is' = absurd (omega (arith, is, (place_even p word is').1))
  word_names (small n) null word is is' = absurd (omega (arith, is, is'))
  word_names (small n) (small k) word is is' = let same : n ≡ k = omega (arith, is, is') in ap small same
  word_names (small n) (at p) word is is' = absurd (small_at n p word is is')
  word_names (at p) null word is is' = absurd (omega (arith, is', (place_even p word is).1))
  word_names (at p) (small n) word is is' = absurd (small_at n p word is' is)
  word_names (at p) (at k) word is is' = ap at (objects.injective p k word is is')

  pub word_same : (r q : Reference) (w w' : ℕ) → IsWord place r w → IsWord place q w' → (w ≡ w') ↔ (r ≡ q)
  word_same r q w w' is is' = (
    λ same. word_names r q w is (subst (IsWord place q) (sym same) is'),
    λ same. word_alone place q w w' (subst (λ (x : Reference). IsWord place x w) same is) is',
  )
