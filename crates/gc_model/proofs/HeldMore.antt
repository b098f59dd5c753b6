-- The positions that a heap holds once one more object was made.
use Rattle.std.proofs.Common.{◌≡◌, ◌≢◌, ℕ, ◌<◌, ◌⊎◌, inl, inr, List, [], ◌∷◌, ◌++◌, Some, sym, ap, ◌∙◌, arith}
use Rattle.std.proofs.lemmas.Grind.{common_steps}
use Rattle.std.proofs.lemmas.List.Elements.{Contains-append_cases, Contains-append_left, Contains-append_right}
use Rattle.gc_model.specs.Reach.{AreAll}
use Rattle.gc_model.specs.Holds.{Placing}
use Rattle.gc_model.proofs.HoldsMake.{placed_at}
use Rattle.gc_memory.proofs.ListLemmas.{only_item}
use Rattle.gc_model.specs.Collects.{HasPlace}
use Rattle.gc_model.proofs.CollectedLists.{get_contains}
use Rattle.gc_model.proofs.HeldSums.{distinct_push}

placed_new : (place : Placing) (n word : ℕ) → placed_at place n word n ≡ Some word
placed_new place n word = grind (arith, common_steps)

placed_old : (place : Placing) (n word position : ℕ) → position ≢ n → placed_at place n word position ≡ place position
placed_old place n word position differ = grind (arith, common_steps)

placed_cases : (place : Placing) (n word position w : ℕ) → placed_at place n word position ≡ Some w → (position ≡ n) ⊎ (place position ≡ Some w)
placed_cases place n word position w e = grind (arith, common_steps)

-- all positions that were held, which lie below the new one, and this
pub held_more : (place : Placing) (held : List ℕ) (n word : ℕ) → ((p w : ℕ) → place p ≡ Some w → p < n) → AreAll (HasPlace place) held → AreAll (HasPlace (placed_at place n word)) (held ++ n ∷ [])
held_more place held n word below all = record {
  distinct = distinct_push held n all.distinct (λ c. let there = (all.all n).0 c in absurd (let less : n < n = below n there.0 there.1 in omega arith));
  all = λ p. (
    λ c. elim (Contains-append_cases held (n ∷ []) p c) [
      | inl one ↦
          let there = (all.all p).0 one in
          let less : p < n = below p there.0 there.1 in
          (there.0, placed_old place n word p (omega arith) ∙ there.1)
      | inr last ↦ (word, ap (placed_at place n word) (sym (only_item n p last)) ∙ placed_new place n word)
    ],
    λ placed. elim (placed_cases place n word p placed.0 placed.1) [
      | inl new ↦ Contains-append_right held (n ∷ []) p (get_contains (n ∷ []) 0 p (ap (λ k. Some k) (sym new)))
      | inr old ↦ Contains-append_left held (n ∷ []) p ((all.all p).1 (placed.0, old))
    ],
  );
}
