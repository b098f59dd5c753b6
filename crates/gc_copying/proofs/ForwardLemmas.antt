-- A word is moved.
use Rattle.std.proofs.Common.{◌≡◌, ℕ, ◌+◌, ◌-◌, ◌/◌, ◌%◌, ◌<◌, ◌≤◌, ◌^◌, List, length, refl, sym, ap, subst, ◌∙◌, inl, inr, arith}
use Rattle.std.proofs.Math.Logic.{◌⊎◌}
use Rattle.gc_view.specs.Bytes.{u32_at}
use Rattle.gc_memory.specs.Lists.{In}
use Rattle.gc_memory.proofs.WordLemmas.{word-is}
use Rattle.gc_memory.proofs.ChainLemmas.{Chain-length}
use Rattle.gc_copying.specs.declared.space.Space.{Space}
use Rattle.gc_copying.specs.Spaces.{half_first, half_end}
use Rattle.gc_copying.specs.CopyWords.{flag, copied_unit, IsCopyingPlace}
use Rattle.gc_copying.specs.CopyStart.{From}
use Rattle.gc_copying.specs.CopyMiddle.{IsCopiedTo, left_at, Mid}
use Rattle.gc_copying.specs.CopySteps.{CanCopyTo, CopiesObject, Midway, Known, SameSides, Forwards}
use Rattle.gc_copying.proofs.MidLemmas.{lies, halves_apart}
use Rattle.gc_copying.proofs.CopyKeeps.{sum_over-member, left_fresh, mid_copied, copy_later, copy_leads}
use Rattle.gc_copying.specs.Layout.{copying_size_at}

-- the middle of a collection, where the fields are known by equations
pub midway : (s : From) (t : ℕ) (old new : Space) (bump count : ℕ)
    → Mid s new.memory (half_first (length old.memory) old.upper) bump (half_end (length old.memory) old.upper) count t
    → length new.memory ≡ length old.memory → new.upper ≡ old.upper → new.bump ≡ bump → new.objects ≡ count → Midway s t new
midway s t old new bump count mid len upper b n =
    subst (λ l. Mid s new.memory (half_first l new.upper) new.bump (half_end l new.upper) new.objects t) (sym len)
    (subst (λ u. Mid s new.memory (half_first (length old.memory) u) new.bump (half_end (length old.memory) u) new.objects t) (sym upper)
    (subst (λ (x : ℕ). Mid s new.memory (half_first (length old.memory) old.upper) x (half_end (length old.memory) old.upper) new.objects t) (sym b)
    (subst (λ (x : ℕ). Mid s new.memory (half_first (length old.memory) old.upper) bump (half_end (length old.memory) old.upper) x t) (sym n) mid)))

-- an old object that isn't copied may be copied
pub can_copy : {s : From} {m : List ℕ} {base bump limit count t : ℕ} → Mid s m base bump limit count t → (p : ℕ) → In p s.places → flag m p ≡ 0
    → CanCopyTo m p bump
can_copy {s = s} {m = m} {bump = bump} {limit = limit} mid p i fresh =
    let at = lies mid p i in
    let size : copying_size_at m p ≡ copying_size_at s.memory p = mid.sizes p i in
    let len = mid.same_length in
    let fits : bump + copying_size_at s.memory p ≤ limit = omega (arith, sum_over-member (left_at s m) s.places p i, left_fresh s m p fresh, mid.room) in
    record {
      source = omega (arith, at.to, mid.start.inside);
      destination = omega (arith, mid.inside);
      least = omega (arith, at.least);
      apart = subst (λ (n : ℕ). (p + n ≤ bump) ⊎ (bump + n ≤ p)) (sym size)
          (halves_apart mid p (p + copying_size_at s.memory p) bump (bump + copying_size_at s.memory p) at.from at.to (omega (arith, mid.from, mid.frontier)) fits);
      whole = omega (arith, at.whole);
      fresh = fresh;
      small = omega (arith, mid.start.small);
    }

-- there are few copies
pub count_small : {s : From} {m : List ℕ} {base bump limit count t : ℕ} → Mid s m base bump limit count t → count < 2 ^ 32 - 1
count_small {s = s} {m = m} {base = base} {bump = bump} mid =
    omega (arith, Chain-length (copying_size_at m) base bump mid.news mid.chain, mid.counted, mid.room, mid.inside, mid.same_length, mid.start.small)

-- an old object's first words lie in the memory
pub word_inside : {s : From} {m : List ℕ} {base bump limit count t : ℕ} → Mid s m base bump limit count t → (p : ℕ) → In p s.places → p + 16 ≤ length m
word_inside {s = s} mid p i =
    let at = lies mid p i in
    omega (arith, at.to, at.least, mid.start.inside, mid.same_length)

-- a number that isn't a place
pub no_place : (w : ℕ) → (w ≡ 0) ⊎ (w % 2 ≡ 1) → IsCopyingPlace w → ⊥
no_place w (inl h) place = omega (arith, place.not_null)
no_place w (inr h) place = omega (arith, place.even)

-- a number that is neither null nor odd is one
pub place_word : (w : ℕ) → (w ≡ 0 → ⊥) → (w % 2 ≡ 1 → ⊥) → IsCopyingPlace w
place_word w ne odd = record { not_null = omega arith; even = omega arith }

-- the flag is one of two numbers
pub not_one : (k : ℕ) → (k / copied_unit % 2 ≡ 1 → ⊥) → k / copied_unit % 2 ≡ 0
not_one k ne = omega arith

-- the flag as it was read
pub flag_read : (m : List ℕ) (p k : ℕ) → k ≡ u32_at m p → flag m p ≡ k / copied_unit % 2
flag_read m p k e = ap (λ w. w / copied_unit % 2) (word-is m p ∙ sym e)

-- another word stays
pub forwards_other : (s : From) (t : ℕ) (h : Space) (w : ℕ) → (w ≡ 0) ⊎ (w % 2 ≡ 1) → Midway s t h → Forwards s t h h w w
forwards_other s t h w other mid = record {
  mid = mid;
  later = λ p q l. l;
  moves = record { leads = λ place. absurd (no_place w other place); other = λ _. refl };
}

-- an object that was copied before
pub forwards_before : (s : From) (t : ℕ) (h : Space) (w w' kind_word : ℕ) → IsCopyingPlace w → kind_word ≡ u32_at h.memory w → kind_word / copied_unit % 2 ≡ 1
    → w' ≡ u32_at h.memory (w + 12) → Midway s t h → Known s w → Forwards s t h h w w'
forwards_before s t h w w' kind_word place read one to mid known = record {
  mid = mid;
  later = λ p q l. l;
  moves = record {
    leads = λ _. record {
      place = (known place).0;
      flagged = flag_read h.memory w kind_word read ∙ one;
      to = word-is h.memory (w + 12) ∙ sym to;
    };
    other = λ none. absurd (none place);
  };
}

-- an object that is copied now
pub forwards_new : (s : From) (t : ℕ) (old new : Space) (w w' kind_word : ℕ) → IsCopyingPlace w → kind_word ≡ u32_at old.memory w → kind_word / copied_unit % 2 ≡ 0
    → w' ≡ old.bump → CopiesObject old.memory new.memory w old.bump (copying_size_at old.memory w) → new.bump ≡ old.bump + copying_size_at old.memory w
    → new.objects ≡ old.objects + 1 → SameSides old new → Midway s t old → Known s w → Forwards s t old new w w'
forwards_new s t old new w w' kind_word place read zero to copies bump count sides mid known =
    let i = (known place).0 in
    let fresh : flag old.memory w ≡ 0 = flag_read old.memory w kind_word read ∙ zero in
    let size : copying_size_at old.memory w ≡ copying_size_at s.memory w = mid.sizes w i in
    let copied : CopiesObject old.memory new.memory w old.bump (copying_size_at s.memory w) = subst (λ (n : ℕ). CopiesObject old.memory new.memory w old.bump n) size copies in
    let base = half_first (length old.memory) old.upper in
    let limit = half_end (length old.memory) old.upper in
    let reached = (known place).1 in
    record {
      mid = midway s t old new (old.bump + copying_size_at s.memory w) (old.objects + 1)
          (mid_copied s old.memory new.memory base old.bump limit old.objects t w mid i fresh reached copied)
          copied.same_length sides.upper (bump ∙ ap (λ (n : ℕ). old.bump + n) size) count;
      later = copy_later s old.memory new.memory base old.bump limit old.objects t w mid i fresh reached copied;
      moves = record {
        leads = λ _. subst (λ (x : ℕ). IsCopiedTo s new.memory w x) (sym to)
            (copy_leads s old.memory new.memory base old.bump limit old.objects t w mid i fresh reached copied);
        other = λ none. absurd (none place);
      };
    }
