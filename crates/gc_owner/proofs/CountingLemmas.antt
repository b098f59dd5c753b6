-- What a counted increment leaves, and how many steps a collection took.
use Rattle.std.proofs.Common.{◌≡◌, ℕ, ◌+◌, arith}
use Rattle.gc_types.specs.declared.kind.Layouts.{Layouts}
use Rattle.gc_heap.specs.Collection.{Start, Stepped}
use Rattle.gc_heap.specs.declared.collection.GcProgress.{GcProgress}
use Rattle.gc_heap.specs.declared.collection.GcProgress.TheVariants as progress
use Rattle.gc_owner.specs.Counting.{CountsSteps}

-- a counted increment leaves what one that isn't counted leaves
pub without_count : (layouts : Layouts) (s : Start) (n : ℕ) (goes sound count collected : Type 0) (p : GcProgress) → Stepped layouts s n p goes (sound × count × collected) → Stepped layouts s n p goes (sound × collected)
without_count layouts s n goes sound count collected progress.Complete step = (step.0, (step.1.0, step.1.2))
without_count layouts s n goes sound count collected progress.Continue step = step

-- of the steps that were counted some were counted before
pub counts_after : (layouts : Layouts) (s : Start) (first before old mid new : ℕ) → before + old ≡ first + mid → CountsSteps layouts s before mid new → CountsSteps layouts s first old new
counts_after layouts s first before old mid new so_far last = record {
  total = last.total;
  count = last.count;
  steps = let rest = last.steps in omega (arith, so_far, rest);
}
