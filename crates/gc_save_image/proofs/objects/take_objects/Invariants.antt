use Rattle.std.proofs.Common.{ℕ, List}
use Rattle.gc_store.specs.Stores.{IsSameStore}
use Rattle.gc_paths.specs.Progress.{Basis}
use Rattle.gc_save_image.specs.Parts.{found_handles}
use Rattle.gc_save_image.specs.Progress.{ImageProgress}
use Rattle.gc_save_image.proofs.Rounds.{Round}
use Rattle.gc_save_image.proofs.objects.take_objects.Given as goal

abbrev pub invariant-loop-number : goal.invariant-loop-number
invariant-loop-number g l = record {
  goes : (b : Basis ℕ) (told : List ℕ) (start : ℕ) → ImageProgress g.H.GcHeap.KIND b told start l.fn.store (found_handles l.fn.found) → Round g.H.GcHeap.KIND b told start l.number l.store (found_handles l.found) l.lines.items;
  same : IsSameStore l.fn.store l.store;
}
