-- The middle of a collection is kept by a copy, by a moved reference, and by a frontier that advances.
use Rattle.std.proofs.Common.{◌≡◌, ℕ, ◌+◌, ◌<◌, ◌≤◌, List, sym, subst, ◌∙◌, inl, inr, arith}
use Rattle.std.proofs.Math.Logic.{◌⊎◌}
use Rattle.std.proofs.lemmas.Bool.{cases_lt}
use Rattle.gc_view.specs.Bytes.{SameBytes}
use Rattle.gc_view.proofs.ByteLemmas.{SameBytes-part}
use Rattle.gc_memory.specs.Words.{word}
use Rattle.gc_memory.specs.Changes.{SameAcross}
use Rattle.gc_memory.specs.Lists.{In}
use Rattle.gc_memory.proofs.WordLemmas.{word_in_same, word_across}
use Rattle.gc_memory.proofs.ChainLemmas.{LiesInChain, Chain-lies, Chain-apart}
use Rattle.gc_heap.proofs.SpacedLemmas.{Spaced-in}
use Rattle.gc_heap.specs.References.{Spaced}
use Rattle.gc_copying.specs.CopyStart.{From, refs}
use Rattle.gc_copying.specs.CopyMiddle.{Moves, IsOutsideWords, CopyOf, Mid, Later}
use Rattle.gc_copying.specs.Layout.{copying_size_at}

-- what lies before all of them is outside
pub Spaced-outside : (lo hi : ℕ) (os : List ℕ) (j : ℕ) → Spaced lo hi os → j < lo → IsOutsideWords os j
Spaced-outside lo hi os j s l = λ o i. inl (let r = Spaced-in lo hi os o s i in omega (arith, r.0))

-- where an old object lies
pub lies : {s : From} {m : List ℕ} {base bump limit count t : ℕ} → Mid s m base bump limit count t → (p : ℕ) → In p s.places
    → LiesInChain (copying_size_at s.memory) s.first s.end p
lies {s = s} mid p i = Chain-lies (copying_size_at s.memory) s.first s.end p s.places mid.start.chain i

-- where a copy lies
pub new_lies : {s : From} {m : List ℕ} {base bump limit count t : ℕ} → (mid : Mid s m base bump limit count t) → (q : ℕ) → In q mid.news
    → LiesInChain (copying_size_at m) base bump q
new_lies {m = m} {base = base} {bump = bump} mid q i = Chain-lies (copying_size_at m) base bump q mid.news mid.chain i

-- two ranges, one inside the old objects and one inside the half of the copies, are apart
pub halves_apart : {s : From} {m : List ℕ} {base bump limit count t : ℕ} → Mid s m base bump limit count t → (a b c d : ℕ)
    → s.first ≤ a → b ≤ s.end → base ≤ c → d ≤ limit → (b ≤ c) ⊎ (d ≤ a)
halves_apart mid a b c d h k l n = elim mid.apart [ inl e ↦ inl (omega arith) | inr e ↦ inr (omega arith) ]

pub less_by_ne : (a b : ℕ) → a ≤ b → (a ≡ b → ⊥) → a < b
less_by_ne a b h ne = elim (cases_lt a b) [ inl l ↦ l | inr l ↦ absurd (ne (omega arith)) ]

pub no_both : {n : ℕ} → n ≡ 0 → n ≡ 1 → ⊥
no_both a b = omega arith

-- two old objects are one, or apart
pub old_apart : {s : From} {m : List ℕ} {base bump limit count t : ℕ} → Mid s m base bump limit count t → (p p' : ℕ) → In p s.places → In p' s.places
    → (p' ≡ p → ⊥) → (p' + copying_size_at s.memory p' ≤ p) ⊎ (p + copying_size_at s.memory p ≤ p')
old_apart {s = s} mid p p' i j ne = elim (cases_lt p p') [
  | inl h ↦ inr (Chain-apart (copying_size_at s.memory) s.first s.end p p' s.places mid.start.chain i j h)
  | inr h ↦ inl (Chain-apart (copying_size_at s.memory) s.first s.end p' p s.places mid.start.chain j i (less_by_ne p' p h ne))
]

-- the size of a copy
pub copy_size : {s : From} {m : List ℕ} {t p q : ℕ} → CopyOf s m t p q → Spaced 12 (copying_size_at s.memory p) (refs s p) → 16 ≤ copying_size_at s.memory p
    → copying_size_at m q ≡ copying_size_at s.memory p
copy_size {s = s} {m = m} {p = p} {q = q} copy spaced least =
    let head : SameAcross s.memory p m q 8 12 = record { at = λ j d l h. copy.rest j d (omega arith) (Spaced-outside 12 (copying_size_at s.memory p) (refs s p) j spaced h) } in
    word_across head 8 (omega arith) (omega arith)

-- what a later memory keeps of a moved word
pub moves_later : (s : From) (m m' : List ℕ) (w w' : ℕ) → Later s m m' → Moves s m w w' → Moves s m' w w'
moves_later s m m' w w' later moves = record { leads = λ r. later w w' (moves.leads r); other = moves.other }

-- a copy in bytes that stay
pub copy_kept : (s : From) (m m' : List ℕ) (t p q : ℕ) → Spaced 12 (copying_size_at s.memory p) (refs s p) → Later s m m'
    → SameBytes m m' q (q + copying_size_at s.memory p) → CopyOf s m t p q → CopyOf s m' t p q
copy_kept s m m' t p q spaced later same copy = record {
  rest = λ j d l h. same.at (q + j) d (omega arith) (omega arith) ∙ copy.rest j d l h;
  moved = λ o i l.
      let r = Spaced-in 12 (copying_size_at s.memory p) (refs s p) o spaced i in
      let e : word m' (q + o) ≡ word m (q + o) = word_in_same m m' (q + o) (SameBytes-part same (q + o) (q + o + 4) (omega arith) (omega (arith, r.1))) in
      subst (λ w. Moves s m' (word s.memory (p + o)) w) (sym e) (moves_later s m m' _ _ later (copy.moved o i l));
  to_do = λ o i l.
      let r = Spaced-in 12 (copying_size_at s.memory p) (refs s p) o spaced i in
      word_in_same m m' (q + o) (SameBytes-part same (q + o) (q + o + 4) (omega arith) (omega (arith, r.1))) ∙ copy.to_do o i l;
}
