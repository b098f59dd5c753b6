-- Where the block that a free list gives begins.
use Rattle.std.proofs.Common.{◌≡◌, ℕ, ◌+◌, ◌-◌, true, false, cond, List, [], ◌∷◌, ◌++◌, map, Option, Some, None, refl, sym, ap, subst, inl, inr}
use Rattle.std.proofs.Math.Logic.{◌⊎◌}
use Rattle.std.specs.Prelude.{nat_lt, nat_le, MatchOption}
use Rattle.gc_memory.specs.Lists.{In, here, there}
use Rattle.gc_free.specs.declared.run.Run.{Run}
use Rattle.gc_free.specs.Runs.{run, gap, gaps}
use Rattle.gc_free.specs.Orders.{shortest_fit}
use Rattle.gc_free.specs.Space.{Space, IsSound, IsBetween, take, take_from, taken_from, take_shortest, run_rest, free_runs, places_end}
use Rattle.gc_free.proofs.ByLength as runs
use Rattle.gc_free.proofs.Taking.{shortest_found}
use Rattle.gc_drc.specs.Layout.{block_of}
use Rattle.gc_drc.specs.View.{block_at}

-- a place is the first one, or a block of these places ends there
abbrev pub Begins : (ℕ → ℕ) → ℕ → List ℕ → ℕ → Type 0
Begins sizes from ps p = (p ≡ from) ⊎ ((q : ℕ) × (In q ps × (q + block_of (sizes q) ≡ p)))

either : (r : Run) (xs ys : List Run) → runs.In r (xs ++ ys) → runs.In r xs ⊎ runs.In r ys
either r [] ys i = inr i
either r (x ∷ xs) ys (inl e) = inl (inl e)
either r (x ∷ xs) ys (inr i) = elim (either r xs ys i) [ inl j ↦ inl (inr j) | inr j ↦ inr j ]

gap_begins : (r : Run) (from to : ℕ) → runs.In r (gap from to) → r.place ≡ from
gap_begins r from to i = elim (nat_lt from to) as (λ b. runs.In r (cond b (run from (to - from) ∷ []) []) → r.place ≡ from) [
  | true ↦ λ j. only j
  | false ↦ λ j. absurd j
] i
  where
    only : runs.In r (run from (to - from) ∷ []) → r.place ≡ from
    only (inl e) = ap (λ (x : Run). x.place) (sym e)
    only (inr n) = absurd n

later : (sizes : ℕ → ℕ) (from p place : ℕ) (ps : List ℕ) → Begins sizes (p + block_of (sizes p)) ps place → Begins sizes from (p ∷ ps) place
later sizes from p place ps (inl e) = inr (p, (here, sym e))
later sizes from p place ps (inr b) = inr (b.0, (there b.1.0, b.1.1))

free_begins : (sizes : ℕ → ℕ) (from end : ℕ) (ps : List ℕ) (r : Run) → runs.In r (gaps from end (map (block_at sizes) ps)) → Begins sizes from ps r.place
free_begins sizes from end [] r i = inl (gap_begins r from end i)
free_begins sizes from end (p ∷ ps) r i = elim (either r (gap from p) (gaps (p + block_of (sizes p)) end (map (block_at sizes) ps)) i) [
  | inl j ↦ inl (gap_begins r from p j)
  | inr j ↦ later sizes from p r.place ps (free_begins sizes (p + block_of (sizes p)) end ps r j)
]

between_begins : (sizes : ℕ → ℕ) (from end : ℕ) (ps : List ℕ) (r : Run) → IsBetween r from end (map (block_at sizes) ps) → Begins sizes from ps r.place
between_begins sizes from end [] r b = inl b.0
between_begins sizes from end (p ∷ ps) r (inl b) = inl b.0
between_begins sizes from end (p ∷ ps) r (inr b) = later sizes from p r.place ps (between_begins sizes (p + block_of (sizes p)) end ps r b)

some_place : (p q : ℕ) → Some p ≡ Some q → p ≡ q
some_place p q e = cc

no_place : (p : ℕ) → None ≡ Some p → ⊥
no_place p e = cc

shortest_begins : (sizes : ℕ → ℕ) (ps : List ℕ) (size : ℕ) (s : Space) (p : ℕ) (o : Option Run) → s.held ≡ map (block_at sizes) ps → shortest_fit size (free_runs s) ≡ o
    → (take_shortest size s o).place ≡ Some p → Begins sizes 16 ps p
shortest_begins sizes ps size s p None blocks found e = absurd (no_place p e)
shortest_begins sizes ps size s p (Some r) blocks found e =
    let among : runs.In r (gaps 16 (places_end s.capacity) (map (block_at sizes) ps)) =
    subst (λ held. runs.In r (gaps 16 (places_end s.capacity) held)) blocks (shortest_found size (free_runs s) r found).among in
    subst (Begins sizes 16 ps) (some_place r.place p e) (free_begins sizes 16 (places_end s.capacity) ps r among)

from_begins : (sizes : ℕ → ℕ) (ps : List ℕ) (size : ℕ) (s : Space) (p : ℕ) (o : Option Run) → s.held ≡ map (block_at sizes) ps
    → MatchOption o (Unit {0}) (λ c. IsBetween c 16 (places_end s.capacity) s.held) → (take_from size s o).place ≡ Some p → Begins sizes 16 ps p
from_begins sizes ps size s p None blocks between e = shortest_begins sizes ps size s p (shortest_fit size (free_runs s)) blocks refl e
from_begins sizes ps size s p (Some c) blocks between e = elim (nat_le size c.length) as (λ b. (cond b (taken_from size s c (Some (run_rest size c))) (take_shortest size s (shortest_fit size (free_runs s)))).place ≡ Some p → Begins sizes 16 ps p) [
  | true ↦ λ at. subst (Begins sizes 16 ps) (some_place c.place p at)
      (between_begins sizes 16 (places_end s.capacity) ps c (subst (IsBetween c 16 (places_end s.capacity)) blocks between))
  | false ↦ λ at. shortest_begins sizes ps size s p (shortest_fit size (free_runs s)) blocks refl at
] e

-- a block that is taken begins at the first place or where a held block ends
pub taken_begins : (sizes : ℕ → ℕ) (ps : List ℕ) (size : ℕ) (s : Space) (p : ℕ) → s.held ≡ map (block_at sizes) ps → IsSound s → (take size s).place ≡ Some p → Begins sizes 16 ps p
taken_begins sizes ps size s p blocks sound e = from_begins sizes ps size s p s.current blocks sound.current e
