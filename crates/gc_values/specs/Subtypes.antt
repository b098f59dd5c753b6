-- Which pairs of types are kept as asked of.
use Rattle.std.specs.Prelude.{◌≡◌, ◌≢◌, ◌↔◌, ◌⊎◌, ◌≤◌, ℕ, ◌==◌, ◌&&◌, Bool, true, false, List, Option, Some, None, IsTrue, map, length}
use Rattle.std.specs.List.{list_any}
use Rattle.std.specs.HashSet.{contains_by, hash_set_len}
use Rattle.gc_types.specs.Declarations.{Declaration, kind_at}
use Rattle.gc_types.specs.Subtyping.{supertypes_of, Meets}
use Rattle.gc_values.specs.declared.subtypes.TypePair.{TypePair}
use Rattle.gc_values.specs.declared.subtypes.AskedPairs.{AskedPairs}

abbrev pub same_pair : TypePair → TypePair → Bool
same_pair p q = (p.sub == q.sub) && (p.sup == q.sup)

-- whether a pair is kept, and how many are
abbrev pub keeps : AskedPairs → TypePair → Bool
keeps asked pair = contains_by (same_pair pair) asked.pairs

-- the pairs that are kept
abbrev pub pairs_of : AskedPairs → List (ℕ × ℕ)
pairs_of asked = map (λ (p : TypePair). (p.sub, p.sup)) asked.pairs.keys

abbrev pub kept_count : AskedPairs → ℕ
kept_count asked = hash_set_len asked.pairs

-- how many are kept at most
abbrev pub most_pairs : ℕ
most_pairs = 65536

-- both types of the pair are declared
abbrev pub IsDeclaredPair : List Declaration → TypePair → Type 0
IsDeclaredPair types pair = (kind_at types pair.sub ≢ None) × (kind_at types pair.sup ≢ None)

-- whether a pair is among those that a store keeps
abbrev pub keeps_pair : List (ℕ × ℕ) → TypePair → Bool
keeps_pair kept pair = list_any (λ (p : ℕ × ℕ). (pair.sub == p.0) && (pair.sup == p.1)) kept

-- No pair was dropped, and none was added but that one, whose types are declared.
pub record Remembers (types : List Declaration) (pair : TypePair) (old new : AskedPairs) : Type 0 where
  pub kept : (p : TypePair) → keeps old p ≡ true → keeps new p ≡ true
  pub only : (p : TypePair) → keeps new p ≡ true → (keeps old p ≡ true) ⊎ (IsDeclaredPair types pair × (same_pair pair p ≡ true))
  pub few : (kept_count new ≡ kept_count old) ⊎ (kept_count new ≤ most_pairs)

-- so it is of the pairs that a store keeps
pub record KeepsPairs (types : List Declaration) (pair : TypePair) (old new : List (ℕ × ℕ)) : Type 0 where
  pub kept : (p : TypePair) → keeps_pair old p ≡ true → keeps_pair new p ≡ true
  pub only : (p : TypePair) → keeps_pair new p ≡ true → (keeps_pair old p ≡ true) ⊎ (IsDeclaredPair types pair × (same_pair pair p ≡ true))
  pub few : (length new ≡ length old) ⊎ (length new ≤ most_pairs)

-- the answer of a kept pair, and none of any other
abbrev pub TellsKept : List Declaration → Bool → TypePair → Option Bool → Type 0
TellsKept types kept pair None = kept ≡ false
TellsKept types kept pair (Some answer) = (kept ≡ true) × (IsTrue answer ↔ Meets (supertypes_of types) pair.sub pair.sup)
