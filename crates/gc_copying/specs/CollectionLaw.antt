-- A collection of a copying heap begins.
use Rattle.std.proofs.Common.{◌≡◌, ℕ, true, refl, sym, ap, subst, ◌∙◌}
use Rattle.gc_types.specs.declared.kind.Layouts.TheVariants.{Copying}
use Rattle.gc_view.specs.Heaps.{HeapView}
use Rattle.gc_heap.specs.Collection.{Start, CanCollect}
use Rattle.gc_copying.specs.declared.collection.CopyingCollection.{CopyingCollection}
use Rattle.gc_copying.specs.declared.copy.collect.Phase.{Phase}
use Rattle.gc_copying.specs.declared.copy.collect.Phase.TheVariants as phase
use Rattle.gc_copying.specs.declared.heap.CopyingHeap.{CopyingHeap}
use Rattle.gc_copying.specs.Backed.{CopyingBacking}
use Rattle.gc_heap.specs.declared.backing.Backing.TheVariants as backing
use Rattle.gc_copying.specs.States.{copying_seen_of, copying_seen, IsCopyingBacked, IsCopyingSound}
use Rattle.gc_copying.specs.CopyBetween.{CopyingBetween, IsCopyingUnderWay}

-- Nothing was done of a collection.
pub record IsCopyingFresh (c : CopyingCollection) : Type 0 where
  pub phase_is : c.phase ≡ phase.Roots
  pub no_ticks : c.ticks.count ≡ 0

copying_starts_in : (s : Start) (scopes : ℕ) (b : CopyingBacking) → IsCopyingBacked b → copying_seen_of scopes b ≡ s.heap → CanCollect Copying s → CopyingBetween s 0 0 scopes b phase.Roots s.roots s.types s.hosts
copying_starts_in s scopes backing.Detached backed seen can = absurd (cc (ap (λ (h : HeapView). h.attached) seen ∙ can.attached))
copying_starts_in s scopes (backing.Attached space) backed seen can = record {
  memory = space.memory;
  upper = space.upper;
  bump = space.bump;
  head = space.externals;
  objects = space.objects;
  begins = record { space = backed; heap_is = seen; can = can };
  stands = record { none_done = refl; none_counted = refl; memory_is = refl; upper_is = refl; bump_is = refl; head_is = refl; roots_are = refl };
  types_are = refl;
  hosts_are = refl;
}
copying_starts_in s scopes (backing.Taken m) backed seen can = absurd backed

pub copying_starts : (s : Start) (heap : CopyingHeap) (state : CopyingCollection) → IsCopyingSound heap → IsCopyingFresh state → copying_seen heap ≡ s.heap → CanCollect Copying s
    → IsCopyingUnderWay s 0 true heap state.phase state.ticks.count s.roots s.types s.hosts
copying_starts s heap state sound fresh seen can = record {
  counted = 0;
  between = subst (λ (p : Phase). CopyingBetween s 0 0 heap.scopes heap.backing p s.roots s.types s.hosts) (sym fresh.phase_is) (copying_starts_in s heap.scopes heap.backing sound.backed seen can);
  ticks_are = λ _. fresh.no_ticks;
}
