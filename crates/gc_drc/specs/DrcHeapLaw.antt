-- A sound counting heap is what a heap always is.
use Rattle.std.proofs.Common.{ℕ, ◌<◌, ◌^◌}
use Rattle.gc_types.specs.declared.kind.Layouts.TheVariants.{Counting}
use Rattle.gc_heap.specs.Content.{IsHeap}
use Rattle.gc_drc.specs.SpaceLaws.{counting_space_is_heap, counting_detached_is_heap}
use Rattle.gc_drc.specs.States.{counting_seen_of, drc_seen, IsCountingBacked, IsDrcSound}
use Rattle.gc_drc.specs.declared.heap.DrcHeap.{DrcHeap}
use Rattle.gc_drc.specs.Backed.{CountingBacking}
use Rattle.gc_heap.specs.declared.backing.Backing.TheVariants as backing

counting_backed_is_heap : (scopes : ℕ) (b : CountingBacking) → IsCountingBacked b → scopes < 2 ^ 64 → IsHeap Counting (counting_seen_of scopes b)
counting_backed_is_heap scopes backing.Detached backed below = counting_detached_is_heap scopes below
counting_backed_is_heap scopes (backing.Attached s) backed below = counting_space_is_heap s scopes backed below
counting_backed_is_heap scopes (backing.Taken m) backed below = absurd backed

pub drc_is_heap : (h : DrcHeap) → IsDrcSound h → IsHeap Counting (drc_seen h)
drc_is_heap h s = counting_backed_is_heap h.scopes h.backing s.backed s.scopes
