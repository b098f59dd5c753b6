-- A free stretch of a counting heap is a gap between the positions that its store holds, where they lie.
use Rattle.std.proofs.Common.{◌≡◌, ℕ, ◌+◌, ◌≤◌, ◌⊎◌, inl, inr, nat_eq, if◌then◌else◌, Option, Some, refl, sym, ap, ◌∙◌, subst}
use Rattle.gc_types.specs.declared.kind.Layouts.{Layouts}
use Rattle.gc_types.specs.declared.kind.Layouts.TheVariants.{Null, Counting, Copying}
use Rattle.gc_types.specs.Layouts.{round_up}
use Rattle.gc_view.specs.Sizes.{alignment}
use Rattle.gc_model.specs.Table.{Table}
use Rattle.gc_model.specs.Words.{Placing, nowhere, placed_at}
use Rattle.gc_model.specs.Gaps.{told, LiesAt, IsGap, IsFront, first, behind}
use Rattle.gc_model.specs.Stores.{StoreView}
use Rattle.gc_model.specs.Holds.{Holds}
use Rattle.gc_heap.specs.Heap.{IsFree, EndsAt, IsPlaceFor}
use Rattle.gc_model.specs.Accounts.{HoldsAccount}
use Rattle.gc_model.specs.Policy.{PolicyState, LiesNow, IsPlaceIn}
use Rattle.gc_model.proofs.HeldBlocks.{held_block}

-- a gap beside some objects is one beside fewer
pub gap_beside : {D : Type 0} (Lies Fewer : ℕ → ℕ → Type 0) (t : Table D) (place bytes : ℕ) → ((p word : ℕ) → Fewer p word → Lies p word) → IsGap Lies t place bytes → IsGap Fewer t place bytes
gap_beside Lies Fewer t place bytes lies gap = record { aligned = gap.aligned; not_null = gap.not_null; inside = gap.inside; apart = λ p word fewer. gap.apart p word (lies p word fewer) }

module _ {D : Type 0} (s : StoreView D) (t : Table D) (places : Placing) (holds : Holds Counting s t places) where
  -- what is free of objects is a gap between the positions
  pub gap_of_free : (place bytes : ℕ) → IsFree s.heap place bytes → IsGap (LiesAt places) t place bytes
  gap_of_free place bytes free = record {
    aligned = free.aligned;
    not_null = free.not_null;
    inside = subst (λ n. place + bytes ≤ n) holds.memory.capacity free.inside;
    apart = λ p word lies.
        let there = holds.objects.placed p word lies in
        subst (λ n. (word + n ≤ place) ⊎ (place + bytes ≤ word)) (sym (held_block Counting s t places holds p word there.object lies there.in_heap)) (free.free word there.object there.in_heap);
  }

  -- and the other way
  pub free_of_gap : (place bytes : ℕ) → IsGap (LiesAt places) t place bytes → IsFree s.heap place bytes
  free_of_gap place bytes gap = record {
    aligned = gap.aligned;
    not_null = gap.not_null;
    inside = subst (λ n. place + bytes ≤ n) (sym holds.memory.capacity) gap.inside;
    free = λ word object held.
        let found = holds.objects.only word object held in
        subst (λ n. (word + n ≤ place) ⊎ (place + bytes ≤ word)) (held_block Counting s t places holds found.0 word object found.1 held) (gap.apart found.0 word found.1);
  }

  -- where an object of the heap ends, one of the positions does
  front_of_end : (place : ℕ) → (place ≡ alignment) ⊎ EndsAt s.heap place → IsFront (LiesAt places) t place
  front_of_end place (inl is) = first is
  front_of_end place (inr ends) =
      let found = holds.objects.only ends.before ends.object ends.held in
      behind {p = found.0} {word = ends.before} found.1 (ap (λ n. ends.before + n) (held_block Counting s t places holds found.0 ends.before ends.object found.1 ends.held) ∙ ends.ends)

front_beside : {D : Type 0} (Lies More : ℕ → ℕ → Type 0) (t : Table D) (place : ℕ) → ((p word : ℕ) → Lies p word → More p word) → IsFront Lies t place → IsFront More t place
front_beside Lies More t place more (first is) = first is
front_beside Lies More t place more (behind {p = p} {word = word} lies ends) = behind {p = p} {word = word} (more p word lies) ends

module _ {D : Type 0} (s : StoreView D) (p : PolicyState D) (holds : HoldsAccount Counting s p.table p.account) where
  -- the same by the account, which tells where the positions lie
  pub gap_now : (place bytes : ℕ) → IsFree s.heap place bytes → IsGap (LiesNow p) p.table place bytes
  gap_now place bytes free =
      gap_beside (LiesAt holds.place) (LiesNow p) p.table place bytes (λ q word lies. sym (holds.account.places q) ∙ lies) (gap_of_free s p.table holds.place holds.holds place bytes free)

  pub free_now : (place bytes : ℕ) → IsGap (LiesNow p) p.table place bytes → IsFree s.heap place bytes
  free_now place bytes gap =
      free_of_gap s p.table holds.place holds.holds place bytes (gap_beside (LiesNow p) (LiesAt holds.place) p.table place bytes (λ q word lies. holds.account.places q ∙ lies) gap)

-- The place that a heap gives to a new object is one that the policy gives.
pub place_in : {D : Type 0} (layouts : Layouts) (s : StoreView D) (p : PolicyState D) (word size : ℕ) → HoldsAccount layouts s p.table p.account → IsPlaceFor layouts s.heap word size → IsPlaceIn layouts p word size
place_in Null s p word size holds lies = tt
place_in Counting s p word size holds (free, ends) = (
  gap_now s p holds word (round_up size alignment) free,
  front_beside (LiesAt holds.place) (LiesNow p) p.table word (λ q w is. holds.account.places q ∙ is) (front_of_end s p.table holds.place holds.holds word ends),
)
place_in Copying s p word size holds lies = tt

-- what is told of a placing with one more position
pub told_more : (layouts : Layouts) (places place : Placing) (n word p : ℕ) → places p ≡ told layouts place p → told layouts (placed_at places n word) p ≡ told layouts (placed_at place n word) p
told_more Null places place n word p is = refl
told_more Counting places place n word p is = ap (λ (x : Option ℕ). if nat_eq p n then Some word else x) is
told_more Copying places place n word p is = refl

-- of no position anything is told where none is placed
pub told_nowhere : (layouts : Layouts) (p : ℕ) → nowhere p ≡ told layouts nowhere p
told_nowhere Null p = refl
told_nowhere Counting p = refl
told_nowhere Copying p = refl
