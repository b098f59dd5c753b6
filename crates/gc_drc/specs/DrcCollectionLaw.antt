-- A collection of a counting heap begins.
use Rattle.std.proofs.Common.{◌≡◌, ℕ, refl, sym, ap, subst, ◌∙◌}
use Rattle.gc_types.specs.declared.kind.Layouts.TheVariants.{Counting}
use Rattle.gc_view.specs.Heaps.{HeapView}
use Rattle.gc_heap.specs.Collection.{Start, CanCollect}
use Rattle.gc_drc.specs.declared.collection.DrcCollection.{DrcCollection}
use Rattle.gc_drc.specs.declared.collect.phase.Phase.{Phase}
use Rattle.gc_drc.specs.declared.collect.phase.Phase.TheVariants as phase
use Rattle.gc_drc.specs.declared.heap.DrcHeap.{DrcHeap}
use Rattle.gc_drc.specs.Backed.{CountingBacking}
use Rattle.gc_heap.specs.declared.backing.Backing.TheVariants as backing
use Rattle.gc_drc.specs.States.{counting_seen_of, drc_seen, IsCountingBacked, IsDrcSound}
use Rattle.gc_drc.specs.ObjectsBetween.{CountingBetween, IsDrcUnderWay}

-- Nothing was done of a collection.
abbrev pub IsCountingFresh : DrcCollection → Type 0
IsCountingFresh c = c.phase ≡ phase.MarkFrames

counting_starts_in : (s : Start) (scopes : ℕ) (b : CountingBacking) → IsCountingBacked b → counting_seen_of scopes b ≡ s.heap → CanCollect Counting s → CountingBetween s 0 scopes b phase.MarkFrames s.roots s.types s.hosts
counting_starts_in s scopes backing.Detached backed seen can = absurd (cc (ap (λ (h : HeapView). h.attached) seen ∙ can.attached))
counting_starts_in s scopes (backing.Attached space) backed seen can = record {
  view = backed.view;
  before = space;
  begins = record { holds = backed.holds; unmarked = backed.unmarked; heap_is = seen; can = can };
  number = refl;
  stands = (refl, refl);
  roots_are = refl;
  types_are = refl;
}
counting_starts_in s scopes (backing.Taken m) backed seen can = absurd backed

pub drc_starts : (s : Start) (heap : DrcHeap) (state : DrcCollection) → IsDrcSound heap → IsCountingFresh state → drc_seen heap ≡ s.heap → CanCollect Counting s
    → IsDrcUnderWay s 0 heap state.phase s.roots s.types s.hosts
drc_starts s heap state sound fresh seen can =
    subst (λ (at : Phase). CountingBetween s 0 heap.scopes heap.backing at s.roots s.types s.hosts) (sym fresh) (counting_starts_in s heap.scopes heap.backing sound.backed seen can)
