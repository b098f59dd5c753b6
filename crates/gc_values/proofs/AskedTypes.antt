-- Pairs of types that are kept as asked of.
use Rattle.std.proofs.Common.{◌≡◌, ◌≢◌, ◌⊎◌, inl, inr, ℕ, ◌+◌, ◌<◌, ◌≤◌, Bool, true, false, cond, List, Option, Some, None, refl, sym, ap, ◌∙◌, arith}
use Rattle.std.specs.Option.{is_some}
use Rattle.gc_types.specs.Declarations.{Declaration}
use Rattle.gc_values.specs.declared.subtypes.TypePair.{TypePair}
use Rattle.gc_values.specs.declared.subtypes.AskedPairs.{AskedPairs}
use Rattle.gc_values.specs.Subtypes.{keeps, kept_count, same_pair, most_pairs, IsDeclaredPair, Remembers}

-- nothing is added
pub not_added : (types : List Declaration) (pair : TypePair) (old new : AskedPairs) → ((p : TypePair) → keeps new p ≡ keeps old p) → kept_count new ≡ kept_count old → Remembers types pair old new
not_added types pair old new same count = record { kept = λ p e. same p ∙ e; only = λ p e. inl (sym (same p) ∙ e); few = inl count }

either : (b x : Bool) → x ≡ true → cond b true x ≡ true
either true x e = refl
either false x e = e

split : (b x : Bool) → cond b true x ≡ true → (x ≡ true) ⊎ (b ≡ true)
split true x e = inr refl
split false x e = inl e

few : (n m : ℕ) (b : Bool) → n < 65536 → m ≡ n + cond b 1 0 → m ≤ 65536
few n m true below is = omega (arith, below, is)
few n m false below is = omega (arith, below, is)

-- the pair is added, where there is room
pub added : (types : List Declaration) (pair : TypePair) (old new : AskedPairs) → ((p : TypePair) → keeps new p ≡ cond (same_pair pair p) true (keeps old p)) → (more : Bool) → kept_count old < most_pairs
    → kept_count new ≡ kept_count old + cond more 1 0 → IsDeclaredPair types pair → Remembers types pair old new
added types pair old new puts more room count declared = record {
  kept = λ p e. puts p ∙ either (same_pair pair p) (keeps old p) e;
  only = λ p e. elim (split (same_pair pair p) (keeps old p) (sym (puts p) ∙ e)) [
    | inl was ↦ inl was
    | inr is ↦ inr (declared, is)
  ];
  few = inr (few (kept_count old) (kept_count new) more room count);
}

-- what was found to be there is something
pub is_there : {A : Type 0} (found asked : Option A) → found ≡ asked → is_some found ≡ true → asked ≢ None
is_there found None same there none = absurd (cc (sym (ap is_some same) ∙ there))
is_there found (Some x) same there none = absurd (cc none)
