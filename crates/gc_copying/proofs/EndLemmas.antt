-- What stands between the increments of a collection.
use Rattle.std.proofs.Common.{◌≡◌, ℕ, ◌+◌, ◌≤◌, List, length, sym, subst, ◌∙◌, arith, not}
use Rattle.gc_memory.specs.Chains.{Chain}
use Rattle.gc_memory.proofs.ListLemmas.{sum_over-same}
use Rattle.gc_memory.proofs.ChainLemmas.{Chain-resized}
use Rattle.gc_roots.specs.Roots.{Root}
use Rattle.gc_heap.specs.Collection.{present_words}
use Rattle.gc_copying.specs.declared.space.Space.{Space}
use Rattle.gc_copying.specs.Spaces.{half_first}
use Rattle.gc_copying.specs.CopyWords.{copying_offsets_at}
use Rattle.gc_copying.specs.CopyStart.{From}
use Rattle.gc_copying.specs.CopyMiddle.{Later}
use Rattle.gc_copying.specs.CopySteps.{Midway, SameSides, WorkAt, words_of_roots, ForwardsRoots, CanForwardRoots}
use Rattle.gc_copying.specs.CopyEnd.{IsBegun, CanBeginCopy, AtWork}
use Rattle.gc_copying.proofs.WorkLemmas.{front_size, front_refs}
use Rattle.gc_copying.proofs.BeginLemmas.{begun}
use Rattle.gc_copying.specs.Layout.{copying_size_at}

-- the scanned copies in a memory in which more was copied
pub work_kept : (s : From) (old new : Space) (scan n fields : ℕ) → (work : WorkAt s old scan n fields) → Midway s scan new → Later s old.memory new.memory
    → new.upper ≡ old.upper → WorkAt s new scan n fields
work_kept s old new scan n fields work mid later upper =
    let le : scan ≤ old.bump = work.mid.frontier in
    let len : length new.memory ≡ length old.memory = mid.same_length ∙ sym work.mid.same_length in
    let base = half_first (length old.memory) old.upper in
    let chain = Chain-resized (copying_size_at old.memory) (copying_size_at new.memory) base scan work.front work.chain (front_size s old new scan n fields scan work le mid later) in
    record {
      mid = mid;
      front = work.front;
      chain = subst (λ u. Chain (copying_size_at new.memory) (half_first (length new.memory) u) scan work.front) (sym upper)
          (subst (λ l. Chain (copying_size_at new.memory) (half_first l old.upper) scan work.front) (sym len) chain);
      scanned = work.scanned;
      looked_at =
          sum_over-same (λ x. length (copying_offsets_at s.types old.memory x)) (λ x. length (copying_offsets_at s.types new.memory x)) work.front
          (front_refs s old new scan n fields scan work le mid later)
          ∙ work.looked_at;
    }

-- the start is one of the middle
pub can_forward_roots : (old flipped : Space) (roots : List Root) → CanBeginCopy old roots → flipped.memory ≡ old.memory → flipped.upper ≡ not old.upper
    → flipped.bump ≡ half_first (length old.memory) (not old.upper) → flipped.objects ≡ 0 → CanForwardRoots flipped roots
can_forward_roots old flipped roots can memory upper bump objects =
    let work = begun can.start old flipped can.begun memory upper bump objects in
    record { start = can.start; frontier = flipped.bump; mid = work.mid; roots_are = can.roots_are }

-- the first increment was done
pub at_work : (s : From) (old flipped new : Space) (rs roots : List Root) (counted before now : ℕ) → IsBegun s old → s.roots ≡ words_of_roots rs → flipped.memory ≡ old.memory → flipped.upper ≡ not old.upper
    → flipped.bump ≡ half_first (length old.memory) (not old.upper) → flipped.objects ≡ 0 → flipped.externals ≡ 0
    → ((s1 : From) (t : ℕ) → s1.roots ≡ words_of_roots rs → Midway s1 t flipped → ForwardsRoots s1 t flipped new rs roots) → SameSides flipped new
    → now + flipped.objects ≡ before + new.objects + length (present_words rs) → now ≡ before + counted
    → AtWork s rs roots new flipped.bump 0 counted
at_work s old flipped new rs roots counted before now is roots_are memory upper bump objects externals forwards sides ticks counts =
    let work = begun s old flipped is memory upper bump objects in
    let f = forwards s flipped.bump roots_are work.mid in
    record {
      fields = 0;
      work = work_kept s flipped new flipped.bump 0 0 work f.mid f.later sides.upper;
      roots_are = roots_are;
      roots_moved = f.moved;
      none_listed = sides.externals ∙ externals;
      counted_is = omega arith;
    }
