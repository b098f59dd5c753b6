-- A sound copying heap is what a heap always is.
use Rattle.std.proofs.Common.{ℕ, ◌<◌, ◌^◌}
use Rattle.gc_types.specs.declared.kind.Layouts.TheVariants.{Copying}
use Rattle.gc_heap.specs.Content.{IsHeap}
use Rattle.gc_copying.specs.HeapLaws.{copying_space_is_heap, copying_detached_is_heap}
use Rattle.gc_copying.specs.States.{copying_seen_of, copying_seen, IsCopyingBacked, IsCopyingSound}
use Rattle.gc_copying.specs.declared.heap.CopyingHeap.{CopyingHeap}
use Rattle.gc_copying.specs.Backed.{CopyingBacking}
use Rattle.gc_heap.specs.declared.backing.Backing.TheVariants as backing

copying_backed_is_heap : (scopes : ℕ) (b : CopyingBacking) → IsCopyingBacked b → scopes < 2 ^ 64 → IsHeap Copying (copying_seen_of scopes b)
copying_backed_is_heap scopes backing.Detached backed below = copying_detached_is_heap scopes below
copying_backed_is_heap scopes (backing.Attached s) backed below = copying_space_is_heap s.memory s.upper s.bump s.externals s.objects scopes backed below
copying_backed_is_heap scopes (backing.Taken m) backed below = absurd backed

pub copying_is_heap : (h : CopyingHeap) → IsCopyingSound h → IsHeap Copying (copying_seen h)
copying_is_heap h s = copying_backed_is_heap h.scopes h.backing s.backed s.scopes
