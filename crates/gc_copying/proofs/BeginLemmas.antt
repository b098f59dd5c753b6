-- A collection begins: the halves change sides, and nothing is copied yet.
use Rattle.std.proofs.Common.{◌≡◌, ℕ, ◌+◌, ◌%◌, ◌<◌, ◌≤◌, not, Bool, true, false, if◌then◌else◌, List, [], length, refl, sym, ap, subst, ◌∙◌, inl, inr, arith}
use Rattle.std.proofs.Math.Logic.{◌⊎◌}
use Rattle.std.proofs.lemmas.Bool.{cases_eq, eq-eqb, ne_eqb}
use Rattle.gc_view.specs.Bytes.{SameBytes}
use Rattle.gc_memory.specs.Chains.{Chain, done}
use Rattle.gc_memory.proofs.ListLemmas.{sum_over-same}
use Rattle.gc_memory.proofs.ChainLemmas.{Chain-sum}
use Rattle.gc_heap.specs.Content.{half_of}
use Rattle.gc_copying.specs.declared.space.Space.{Space}
use Rattle.gc_copying.specs.Spaces.{half_first, half_end, half_skipped}
use Rattle.gc_copying.specs.CopyStart.{From, IsFrom}
use Rattle.gc_copying.specs.CopyMiddle.{IsCopiedTo, left_at, Mid}
use Rattle.gc_copying.specs.CopySteps.{WorkAt}
use Rattle.gc_copying.specs.CopyEnd.{IsBegun}
use Rattle.gc_copying.proofs.MidLemmas.{no_both}
use Rattle.gc_copying.proofs.CopyKeeps.{left_fresh}
use Rattle.gc_copying.specs.Layout.{copying_size_at}

-- what the two halves are
pub record HalvesAre (capacity : ℕ) (upper : Bool) (half skip first end : ℕ) : Type 0 where
  pub twice : half + half ≤ capacity
  pub whole : half % 16 ≡ 0
  pub skips : ((half ≡ 0) × (skip ≡ 0)) ⊎ ((16 ≤ half) × (skip ≡ 16))
  pub side : ((first ≡ skip) × (end ≡ half)) ⊎ ((first ≡ half + skip) × (end ≡ half + half))

skips_are : (half : ℕ) → half % 16 ≡ 0 → ((half ≡ 0) × (half_skipped half ≡ 0)) ⊎ ((16 ≤ half) × (half_skipped half ≡ 16))
skips_are half whole = elim (cases_eq half 0) [
  | inl e ↦ inl (e, ap (λ b. if b then 0 else 16) (eq-eqb half 0 e))
  | inr ne ↦ inr (omega arith, ap (λ b. if b then 0 else 16) (ne_eqb half 0 ne))
]

pub halves_are : (capacity : ℕ) (upper : Bool) → HalvesAre capacity upper (half_of capacity) (half_skipped (half_of capacity)) (half_first capacity upper) (half_end capacity upper)
halves_are capacity true = record {
  twice = omega arith;
  whole = omega arith;
  skips = skips_are (half_of capacity) (omega arith);
  side = inr (refl, refl);
}
halves_are capacity false = record {
  twice = omega arith;
  whole = omega arith;
  skips = skips_are (half_of capacity) (omega arith);
  side = inl (omega arith, omega arith);
}

-- what is known of two halves, as far as numbers tell it
pub record Flipped (first end base limit capacity : ℕ) : Type 0 where
  pub aligned : base % 16 ≡ 0
  pub low : 0 < limit → 16 ≤ base
  pub inside : limit ≤ capacity
  pub apart : (end ≤ base) ⊎ (limit ≤ first)
  pub equal : end + base ≡ first + limit

flipped_by : (capacity half skip first end base limit : ℕ) → half + half ≤ capacity → half % 16 ≡ 0 → ((half ≡ 0) × (skip ≡ 0)) ⊎ ((16 ≤ half) × (skip ≡ 16))
    → (((first ≡ skip) × (end ≡ half)) × ((base ≡ half + skip) × (limit ≡ half + half))) ⊎ (((first ≡ half + skip) × (end ≡ half + half)) × ((base ≡ skip) × (limit ≡ half)))
    → Flipped first end base limit capacity
flipped_by capacity half skip first end base limit twice whole (inl k) (inl s) =
    let a = k.0 in let b = k.1 in let c = s.0.0 in let d = s.0.1 in let e = s.1.0 in let f = s.1.1 in
    record { aligned = omega arith; low = λ h. absurd (omega arith); inside = omega arith; apart = inl (omega arith); equal = omega arith }
flipped_by capacity half skip first end base limit twice whole (inl k) (inr s) =
    let a = k.0 in let b = k.1 in let c = s.0.0 in let d = s.0.1 in let e = s.1.0 in let f = s.1.1 in
    record { aligned = omega arith; low = λ h. absurd (omega arith); inside = omega arith; apart = inl (omega arith); equal = omega arith }
flipped_by capacity half skip first end base limit twice whole (inr k) (inl s) =
    let a = k.0 in let b = k.1 in let c = s.0.0 in let d = s.0.1 in let e = s.1.0 in let f = s.1.1 in
    record { aligned = omega arith; low = λ h. omega arith; inside = omega arith; apart = inl (omega arith); equal = omega arith }
flipped_by capacity half skip first end base limit twice whole (inr k) (inr s) =
    let a = k.0 in let b = k.1 in let c = s.0.0 in let d = s.0.1 in let e = s.1.0 in let f = s.1.1 in
    record { aligned = omega arith; low = λ h. omega arith; inside = omega arith; apart = inr (omega arith); equal = omega arith }

pub flipped_half : (capacity : ℕ) (upper : Bool) → Flipped (half_first capacity upper) (half_end capacity upper) (half_first capacity (not upper)) (half_end capacity (not upper)) capacity
flipped_half capacity true =
    let h = halves_are capacity true in
    flipped_by capacity (half_of capacity) (half_skipped (half_of capacity)) _ _ _ _ h.twice h.whole h.skips (inr ((refl, refl), (omega arith, omega arith)))
flipped_half capacity false =
    let h = halves_are capacity false in
    flipped_by capacity (half_of capacity) (half_skipped (half_of capacity)) _ _ _ _ h.twice h.whole h.skips (inl ((omega arith, omega arith), (refl, refl)))

-- nothing leads anywhere yet
no_leads : (s : From) (p q : ℕ) → IsFrom s → IsCopiedTo s s.memory p q → ⊥
no_leads s p q start leads = no_both (start.fresh p leads.place) leads.flagged

same_all : (m : List ℕ) (lo hi : ℕ) → SameBytes m m lo hi
same_all m lo hi = record { same_length = refl; at = λ j d l h. refl }

mid_begun : (s : From) (first end base limit : ℕ) → IsFrom s → s.first ≡ first → s.end ≤ end → Flipped first end base limit (length s.memory)
    → Mid s s.memory base base limit 0 base
mid_begun s first end base limit start first_is fits f =
    let all = sum_over-same (copying_size_at s.memory) (left_at s s.memory) s.places (λ p i. left_fresh s s.memory p (start.fresh p i)) in
    let sum = Chain-sum (copying_size_at s.memory) s.first s.end s.places start.chain in
    record {
      start = start;
      same_length = refl;
      aligned = f.aligned;
      low = f.low;
      inside = f.inside;
      apart = elim f.apart [ inl h ↦ inl (omega arith) | inr h ↦ inr (omega arith) ];
      from = omega arith;
      frontier = omega arith;
      room = omega (arith, all, sum, f.equal);
      news = [];
      chain = done;
      counted = refl;
      sizes = λ p i. refl;
      intact = λ p i clear. same_all s.memory p (p + copying_size_at s.memory p);
      tail = λ p i. same_all s.memory (p + 16) (p + copying_size_at s.memory p);
      copied = λ p q leads. absurd (no_leads s p q start leads);
      back = λ q i. elim i [ ];
      once = λ p p' q leads leads'. absurd (no_leads s p q start leads);
    }

-- the halves changed sides: the worklist is empty
pub begun : (s : From) (old new : Space) → IsBegun s old → new.memory ≡ old.memory → new.upper ≡ not old.upper
    → new.bump ≡ half_first (length old.memory) (not old.upper) → new.objects ≡ 0 → WorkAt s new new.bump 0 0
begun s old new is memory upper bump objects =
    let m : new.memory ≡ s.memory = memory ∙ sym is.memory in
    let len : length s.memory ≡ length old.memory = ap (λ (l : List ℕ). length l) is.memory in
    let b : new.bump ≡ half_first (length new.memory) new.upper = bump ∙ ap (λ (l : List ℕ). half_first (length l) (not old.upper)) (sym memory) ∙ ap (λ u. half_first (length new.memory) u) (sym upper) in
    let flipped : Flipped (half_first (length s.memory) old.upper) (half_end (length s.memory) old.upper) (half_first (length s.memory) (not old.upper)) (half_end (length s.memory) (not old.upper)) (length s.memory) = flipped_half (length s.memory) old.upper in
    let base : ℕ = half_first (length s.memory) (not old.upper) in
    let mid : Mid s s.memory base base (half_end (length s.memory) (not old.upper)) 0 base =
    mid_begun s (half_first (length s.memory) old.upper) (half_end (length s.memory) old.upper) base (half_end (length s.memory) (not old.upper)) is.start
    (is.first ∙ ap (λ (n : ℕ). half_first n old.upper) (sym len)) (subst (λ (n : ℕ). s.end ≤ half_end n old.upper) (sym len) (subst (λ (n : ℕ). n ≤ half_end (length old.memory) old.upper) (sym is.end) is.room)) flipped in
    let on_upper : Mid s s.memory (half_first (length s.memory) new.upper) (half_first (length s.memory) new.upper) (half_end (length s.memory) new.upper) 0 (half_first (length s.memory) new.upper) =
    subst (λ u. Mid s s.memory (half_first (length s.memory) u) (half_first (length s.memory) u) (half_end (length s.memory) u) 0 (half_first (length s.memory) u)) (sym upper) mid in
    let on_memory : Mid s new.memory (half_first (length new.memory) new.upper) (half_first (length new.memory) new.upper) (half_end (length new.memory) new.upper) 0 (half_first (length new.memory) new.upper) =
    subst (λ l. Mid s l (half_first (length l) new.upper) (half_first (length l) new.upper) (half_end (length l) new.upper) 0 (half_first (length l) new.upper)) (sym m) on_upper in
    record {
      mid = subst (λ (x : ℕ). Mid s new.memory (half_first (length new.memory) new.upper) x (half_end (length new.memory) new.upper) new.objects x) (sym b)
          (subst (λ (x : ℕ). Mid s new.memory (half_first (length new.memory) new.upper) (half_first (length new.memory) new.upper) (half_end (length new.memory) new.upper) x (half_first (length new.memory) new.upper)) (sym objects) on_memory);
      front = [];
      chain = subst (λ (x : ℕ). Chain (copying_size_at new.memory) (half_first (length new.memory) new.upper) x []) (sym b) done;
      scanned = refl;
      looked_at = refl;
    }
