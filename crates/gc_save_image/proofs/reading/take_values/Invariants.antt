use Rattle.std.proofs.Common.{◌≡◌, ℕ, List, ◌+◌, length, take}
use Rattle.gc_model.specs.Values.{Object}
use Rattle.gc_model.specs.Reach.{object_values}
use Rattle.gc_store.specs.Stores.{IsSameStore}
use Rattle.gc_paths.specs.Progress.{Basis, values_count}
use Rattle.gc_save_image.specs.Parts.{found_handles}
use Rattle.gc_save_image.specs.Progress.{ImageGoesOn, ImageProgress, SaysFirst}
use Rattle.gc_save_image.specs.Steps.{IsNumberedObject}
use Rattle.gc_save_image.proofs.reading.take_values.Given as goal

abbrev pub invariant-loop-index : goal.invariant-loop-index
invariant-loop-index g l = record {
  goes : (b : Basis ℕ) (told : List ℕ) (start : ℕ) (o : Object ℕ) → ImageProgress g.H.GcHeap.KIND b told start l.fn.store (found_handles l.fn.found) → IsNumberedObject b told l.number o → l.count ≡ length (object_values o)
      → ImageGoesOn g.H.GcHeap.KIND b told (start + values_count (take l.index (object_values o))) l.store (found_handles l.found) (λ then. SaysFirst then l.index (object_values o) l.words.items);
  same : IsSameStore l.fn.store l.store;
}
