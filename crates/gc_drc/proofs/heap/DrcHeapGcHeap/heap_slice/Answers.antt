use Rattle.std.proofs.Common.{◌≡◌, sym, ap, ap₂, subst, take, drop, Some, []}
use Rattle.std.specs.FinMap as finite
use Rattle.gc_types.specs.declared.kind.Layouts.TheVariants.{Counting}
use Rattle.gc_view.specs.Heaps.{HeapView}
use Rattle.gc_heap.specs.Objects.{IsObjectData}
use Rattle.gc_heap.specs.Barriers.{ShowsCount}
use Rattle.gc_drc.specs.Content.{counting_seen_in, IsSoundSpace}
use Rattle.gc_drc.specs.States.{counting_seen_of, IsCountingBacked}
use Rattle.gc_drc.specs.ThreadedLists.{ThreadsLists}
use Rattle.gc_drc.proofs.ReadLemmas.{held_at, size_of, data_of, shows_count}
use Rattle.gc_drc.proofs.ThreadedMemory.{threads_lists, threads_none}
use Rattle.gc_drc.proofs.BackingLemmas.{not_attached, nothing_held, nothing_counted}
use Rattle.gc_drc.proofs.heap.DrcHeapGcHeap.heap_slice.Goals as goal

pub returns-in-Attached-clause-objects : goal.returns-in-Attached-clause-objects
returns-in-Attached-clause-objects c = λ place object held.
    let h = c.args.self.now in
    let s = c.in-Attached.space in
    let sound : IsSoundSpace s = subst IsCountingBacked c.in-Attached.is c.requires.backed in
    let at = held_at s h.scopes place object sound (subst (λ b. finite.get (counting_seen_of h.scopes b).content place ≡ Some object) c.in-Attached.is held) in
    subst (IsObjectData Counting object) (sym (ap₂ (λ n m. take n (drop place m)) (size_of s place object at) c.bytes.ensures.value)) (data_of s place object at)

pub returns-in-Attached-clause-counts : goal.returns-in-Attached-clause-counts
returns-in-Attached-clause-counts c = λ place n.
    let h = c.args.self.now in
    let s = c.in-Attached.space in
    let sound : IsSoundSpace s = subst IsCountingBacked c.in-Attached.is c.requires.backed in
    subst (λ b. finite.get (counting_seen_of h.scopes b).counts.counted place ≡ Some n → ShowsCount (counting_seen_of h.scopes b) c.bytes.result.now place n) (sym c.in-Attached.is)
    (subst (λ m. finite.get (counting_seen_in h.scopes s).counts.counted place ≡ Some n → ShowsCount (counting_seen_in h.scopes s) m place n) (sym c.bytes.ensures.value) (shows_count s h.scopes place n sound))

pub returns-in-Attached-clause-lists : goal.returns-in-Attached-clause-lists
returns-in-Attached-clause-lists c =
    let h = c.args.self.now in
    let s = c.in-Attached.space in
    let sound : IsSoundSpace s = subst IsCountingBacked c.in-Attached.is c.requires.backed in
    subst (λ b. ThreadsLists (counting_seen_of h.scopes b) c.bytes.result.now) (sym c.in-Attached.is)
    (subst (λ m. ThreadsLists (counting_seen_in h.scopes s) m) (sym c.bytes.ensures.value) (threads_lists s h.scopes sound))

pub returns-in_default : goal.returns-in_default
returns-in_default c =
    let h = c.args.self.now in
    record {
      size = sym (ap (λ (v : HeapView). v.capacity) (not_attached h.scopes h.backing c.in_default.not-Attached));
      objects = λ place object held. absurd (nothing_held h.scopes h.backing place object c.in_default.not-Attached held);
      counts = λ place n held. absurd (nothing_counted h.scopes h.backing place n c.in_default.not-Attached held);
      lists = subst (λ (v : HeapView). ThreadsLists v []) (sym (not_attached h.scopes h.backing c.in_default.not-Attached)) (threads_none h.scopes);
    }
