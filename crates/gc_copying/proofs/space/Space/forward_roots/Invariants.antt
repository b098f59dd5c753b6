use Rattle.std.proofs.Common.{◌≡◌, ℕ, ◌+◌, ◌≤◌, length, drop}
use Rattle.gc_heap.specs.Collection.{present_words}
use Rattle.gc_copying.specs.CopyStart.{From}
use Rattle.gc_copying.specs.CopySteps.{Midway, SameSides, words_of_roots}
use Rattle.gc_copying.proofs.RootLemmas.{RootsSoFar}
use Rattle.gc_copying.proofs.space.Space.forward_roots.Given as goal

abbrev pub invariant-loop-index : goal.invariant-loop-index
invariant-loop-index g l = record {
  along : (s : From) (t : ℕ) → s.roots ≡ words_of_roots l.fn.roots.roots → Midway s t l.fn.self → RootsSoFar s t l.fn.self l.self l.fn.roots.roots l.roots.roots l.index;
  same_length : length l.roots.roots ≡ length l.fn.roots.roots;
  ticks : l.steps + l.fn.self.objects + length (present_words (drop l.index l.fn.roots.roots)) ≡ l.fn.steps + l.self.objects + length (present_words l.fn.roots.roots);
  sides : SameSides l.fn.self l.self;
  rises : l.fn.steps ≤ l.steps;
  spare : l.roots.spare ≡ l.fn.roots.spare;
}
