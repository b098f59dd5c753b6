-- Subtyping by following supertypes.
use Rattle.std.proofs.Common.{ℕ, ◌≡◌, ◌<◌, ◌⊎◌, inl, inr, List, Option, Some, length, subst}
use Rattle.std.specs.List.{slice_get}
use Rattle.std.proofs.lemmas.Option.{slice_get_within}
use Rattle.gc_types.specs.Subtyping.{Meets, here, up}

-- both types are declared
pub meets_declared : (supers : List (Option ℕ)) {a b : ℕ} → Meets supers a b → (a < length supers) × (b < length supers)
meets_declared supers (here h) = (h, h)
meets_declared supers (up {a = a} {p = p} s m) = (slice_get_within supers a (Some p) s, (meets_declared supers m).1)

pub meets_trans : (supers : List (Option ℕ)) {a b c : ℕ} → Meets supers a b → Meets supers b c → Meets supers a c
meets_trans supers (here h) n = n
meets_trans supers (up s m) n = up s (meets_trans supers m n)

-- a type has one supertype
one_super : (supers : List (Option ℕ)) (a p q : ℕ) → slice_get supers a ≡ Some (Some p) → slice_get supers a ≡ Some (Some q) → p ≡ q
one_super supers a p q e f = cc

-- the ancestors of a type stand in one line
pub meets_linear : (supers : List (Option ℕ)) {a b c : ℕ} → Meets supers a b → Meets supers a c → Meets supers b c ⊎ Meets supers c b
meets_linear supers (here h) n = inl n
meets_linear supers (up s m) (here h) = inr (up s m)
meets_linear supers {c = c} (up {a = a} {p = p} s m) (up {p = q} t n) =
    meets_linear supers m (subst (λ z. Meets supers z c) (one_super supers a q p t s) n)
