use Rattle.std.proofs.Common.{ℕ, []}
use Rattle.gc_paths.specs.Progress.{Basis}
use Rattle.gc_save_image.specs.GlobalSteps.{AllRead, GlobalsSaid}
use Rattle.gc_save_image.specs.Parts.{found_handles}
use Rattle.gc_save_image.specs.Progress.{ImageGoesOn, ImageProgress}
use Rattle.gc_save_image.proofs.globals.global_lines.Given as goal

abbrev pub invariant-loop-index : goal.invariant-loop-index
invariant-loop-index g l = record {
  goes : (b : Basis ℕ) (count : ℕ) (progress : ImageProgress g.H.GcHeap.KIND b [] count l.store (found_handles l.fn.found)) → AllRead l.store progress.holds.now b.table.globals l.reads
      → ImageGoesOn g.H.GcHeap.KIND b [] count l.store (found_handles l.found) (λ then. GlobalsSaid then l.index b.table.globals l.lines.items);
}
