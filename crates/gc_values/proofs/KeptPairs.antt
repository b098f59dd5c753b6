-- The pairs of types that a store keeps, as it shows them.
use Rattle.std.proofs.Common.{◌≡◌, ◌≤◌, ◌||◌, inl, inr, List, [], ◌∷◌, length, map, refl, sym, ap, ◌∙◌, subst}
use Rattle.std.specs.List.{list_any}
use Rattle.std.proofs.lemmas.List.{length-map}
use Rattle.gc_types.specs.Declarations.{Declaration}
use Rattle.gc_values.specs.declared.subtypes.AskedPairs.{AskedPairs}
use Rattle.gc_values.specs.declared.subtypes.TypePair.{TypePair}
use Rattle.gc_values.specs.Subtypes.{KeepsPairs, Remembers, keeps, keeps_pair, kept_count, most_pairs, pairs_of, same_pair}

among_pairs : (keys : List TypePair) (pair : TypePair) → keeps_pair (map (λ (p : TypePair). (p.sub, p.sup)) keys) pair ≡ list_any (same_pair pair) keys
among_pairs [] pair = refl
among_pairs (key ∷ keys) pair = ap (λ b. same_pair pair key || b) (among_pairs keys pair)

-- a pair is among those that are shown where it is kept
pub pair_told : (asked : AskedPairs) (pair : TypePair) → keeps_pair (pairs_of asked) pair ≡ keeps asked pair
pair_told asked pair = among_pairs asked.pairs.keys pair

pairs_counted : (asked : AskedPairs) → length (pairs_of asked) ≡ kept_count asked
pairs_counted asked = length-map asked.pairs.keys (λ (p : TypePair). (p.sub, p.sup))

-- no pair that is shown was dropped, and none was added but one
pub pairs_kept : (types : List Declaration) (pair : TypePair) (old new : AskedPairs) → Remembers types pair old new → KeepsPairs types pair (pairs_of old) (pairs_of new)
pairs_kept types pair old new remembers = record {
  kept = λ p was. pair_told new p ∙ remembers.kept p (sym (pair_told old p) ∙ was);
  only = λ p is. elim (remembers.only p (sym (pair_told new p) ∙ is)) [
    | inl was ↦ inl (pair_told old p ∙ was)
    | inr added ↦ inr added
  ];
  few = elim remembers.few [
    | inl same ↦ inl (pairs_counted new ∙ same ∙ sym (pairs_counted old))
    | inr few ↦ inr (subst (λ n. n ≤ most_pairs) (sym (pairs_counted new)) few)
  ];
}
