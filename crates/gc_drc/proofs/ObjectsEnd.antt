-- A collection that ends in memory is complete in objects.
use Rattle.std.proofs.Common.{◌≡◌, ℕ, ◌-◌, Bool, refl, sym, ap, subst, ◌∙◌}
use Rattle.gc_types.specs.declared.kind.Layouts.TheVariants.{Counting}
use Rattle.gc_memory.specs.Lists.{In}
use Rattle.gc_memory.proofs.ListLemmas.{In-occ, occ-In}
use Rattle.gc_view.specs.Bytes.{u32_at}
use Rattle.gc_view.specs.Heaps.{HeapObject, HeapView}
use Rattle.gc_heap.specs.References.{word_in}
use Rattle.gc_heap.specs.Collection.{Start, IsMoved, Collected}
use Rattle.gc_heap.specs.Collection as content
use Rattle.gc_drc.specs.declared.space.CountedSpace.{CountedSpace}
use Rattle.gc_drc.specs.Layout.{counting_object_at}
use Rattle.gc_drc.specs.View.{View}
use Rattle.gc_drc.specs.Content.{counting_seen_in, IsSoundSpace}
use Rattle.gc_drc.specs.Graph as graph
use Rattle.gc_drc.specs.CollectSpan.{Ends}
use Rattle.gc_drc.specs.Objects.{CountingBeginsIn}
use Rattle.gc_drc.proofs.ObjectsRoots.{stays, roots_stay}
use Rattle.gc_drc.proofs.ObjectsBegin.{start, found, reached_in, reached_so, reached_back}
use Rattle.gc_drc.proofs.ObjectsLeft.{Leaves, same_object, held_after, place_after, still_held, counts_anew, capacity_after, host_so, external_so, id_is}
use Rattle.gc_drc.proofs.ObjectsLeft as left

-- an object that stays is moved to where it was
is_unmoved : (s : Start) (o o' : HeapObject) → o' ≡ o → IsMoved Counting s.types (λ (p : ℕ). p) o o'
is_unmoved s o o' e = subst (IsMoved Counting s.types (λ (p : ℕ). p) o) (sym e) (record {
  kind = refl;
  ty = refl;
  spare = refl;
  size = refl;
  refers = λ offset i. sym (stays (word_in Counting o offset));
  rest = λ at d none. refl;
})

module _ (s : Start) (v w : View) (space after : CountedSpace) (scopes : ℕ) (now : ℕ → Bool) (b : CountingBeginsIn s v space scopes)
    (e : Ends (start s v space scopes b) w after s.hosts now) where
  from : (p : ℕ) → In p w.places → graph.CountingReached (start s v space scopes b).graph p
  from p i = e.done.held p (In-occ p w.places i)

  kept_place : (p : ℕ) → content.ReachedPlace Counting s p → In p w.places
  kept_place p r = occ-In p w.places (e.done.kept p (reached_so s v space scopes b p r))

  leaves : Leaves (start s v space scopes b) w after
  leaves = record {
    holds = e.holds;
    same_length = e.same_length;
    intact = e.intact;
    from = λ p i. reached_in s v space scopes b p (from p i);
    counts = e.done.counts;
    frames_shown = e.done.frames_shown;
    shown_frames = e.done.shown_frames;
    unmarked = e.unmarked;
    unqueued = e.unqueued;
  }

  -- The space is sound.
  pub sound_after : IsSoundSpace after
  sound_after = left.sound_after s v w space after scopes b leaves

  -- The collection is complete.
  pub collected_so : Collected Counting s (counting_seen_in scopes after) s.roots now
  collected_so = record {
    to = λ (p : ℕ). p;
    injective = λ p q kp kq same. same;
    kept = λ p o kp got.
        let i = kept_place p kp in
        let f = found s v space scopes b p o got in
        (counting_object_at after.memory p, (held_after s v w space after scopes b leaves p i, is_unmoved s o (counting_object_at after.memory p) (same_object s v w space after scopes b leaves p i ∙ sym f.1)));
    only = λ p h.
        let i = place_after s v w space after scopes b leaves p h.0 h.1 in
        (p, (reached_back s v space scopes b p (from p i), refl));
    roots_moved = sym (roots_stay s.roots);
    hosts_lost = λ p o x none.
        let h = host_so s v space scopes b p o x in
        ap (λ (n : ℕ). now (n - 1)) h.1 ∙ e.hosts.lost p h.0.0 h.0.1 (λ i. none (reached_back s v space scopes b p (from p i)));
    hosts_kept = λ id all.
        e.hosts.kept id (λ p i is number.
        let x = external_so s v space scopes b p i is in
        let h = host_so s v space scopes b p (counting_object_at space.memory p) x in
        kept_place p (all p (counting_object_at space.memory p) x (id_is id (u32_at (counting_object_at space.memory p).bytes 0) (h.1 ∙ number))));
    attached = refl;
    capacity = capacity_after s v w space after scopes b leaves;
    scopes = ap (λ (h : HeapView). h.scopes) b.heap_is ∙ b.can.open_scopes;
    by_kind = (λ p kp. (refl, still_held s v w space after scopes b leaves p (kept_place p kp)), (counts_anew s v w space after scopes b leaves, refl));
  }
