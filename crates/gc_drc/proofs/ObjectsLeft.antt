-- What a collection leaves of the objects of its start.
use Rattle.std.proofs.Common.{◌≡◌, ℕ, ◌+◌, ◌-◌, ◌<◌, List, [], length, Some, sym, ap, ap₂, subst, ◌∙◌, arith}
use Rattle.std.specs.Ordering.{nat_cmp}
use Rattle.std.specs.FinMap as finite
use Rattle.std.specs.FinSet as finset
use Rattle.gc_types.specs.declared.kind.Layouts.TheVariants.{Counting}
use Rattle.gc_types.specs.declared.kind.VMGcKind.TheVariants.{ExternRef}
use Rattle.gc_memory.specs.Lists.{In, occ}
use Rattle.gc_memory.proofs.ListLemmas.{In-occ, occ-In}
use Rattle.gc_view.specs.Bytes.{u32_at}
use Rattle.gc_view.specs.Heaps.{HeapObject, HeapView, Counts}
use Rattle.gc_heap.specs.References.{references}
use Rattle.gc_heap.specs.Content.{total}
use Rattle.gc_heap.specs.Collection.{Start, held_words, stack_words, occurrences, IsExternal, CountsAnew, names_of}
use Rattle.gc_drc.specs.declared.space.CountedSpace.{CountedSpace}
use Rattle.gc_drc.specs.Layout.{counting_kind_at, counting_object_at}
use Rattle.gc_drc.specs.View.{View, HoldsBlocks}
use Rattle.gc_drc.specs.Content.{places_of, counting_seen_in, IsSoundSpace}
use Rattle.gc_drc.proofs.CountsSeen.{counts_of}
use Rattle.gc_drc.specs.PlaceLaws.{get_in, found_in, in_contains}
use Rattle.gc_drc.proofs.PlaceLemmas.{contains_in}
use Rattle.gc_drc.specs.SpaceLaws.{places_are}
use Rattle.gc_drc.proofs.CountsSeen.{counts_are}
use Rattle.gc_drc.specs.Graph.{names}
use Rattle.gc_drc.specs.CollectMemory.{Context, SameObject}
use Rattle.gc_drc.specs.CollectHosts.{counting_host_word}
use Rattle.gc_drc.specs.Objects.{CountingBeginsIn}
use Rattle.gc_drc.proofs.TendLemmas.{object_by_words}
use Rattle.gc_memory.proofs.ListLemmas as list
use Rattle.gc_drc.proofs.ObjectsRoots.{occ_is}
use Rattle.gc_drc.proofs.ObjectsBegin.{data_word, total_names, start, held, found, held_at, references_so}

-- Some objects of a start are left, as they were but for the heap's own words. The counts are the names, shown is
-- what frame slots name, and nothing is queued or marked.
pub record Leaves (c : Context) (w : View) (after : CountedSpace) : Type 0 where
  pub holds : HoldsBlocks w after
  pub same_length : length after.memory ≡ length c.memory
  pub intact : (p : ℕ) → In p w.places → SameObject c.memory after.memory p
  pub from : (p : ℕ) → In p w.places → In p c.graph.places
  pub counts : (x : ℕ) → 0 < occ x w.places → w.counted x ≡ names c.graph w.places x + occ x c.graph.roots
  pub frames_shown : (x : ℕ) → 0 < occ x c.graph.places → 0 < occ x c.graph.frames → 0 < occ x w.shown
  pub shown_frames : (x : ℕ) → 0 < occ x w.shown → 0 < occ x c.graph.frames
  pub unmarked : w.marked ≡ []
  pub unqueued : w.queue ≡ []

module _ (s : Start) (v w : View) (space after : CountedSpace) (scopes : ℕ) (b : CountingBeginsIn s v space scopes)
    (l : Leaves (start s v space scopes b) w after) where
  -- an object that is still held is as it was
  pub same_object : (p : ℕ) → In p w.places → counting_object_at after.memory p ≡ counting_object_at space.memory p
  same_object p i =
      let o = l.intact p i in
      (object_by_words space.memory after.memory p (held_at s v space scopes b p (l.from p i)).whole o.kind o.ty o.size (λ least. o.bytes)).object

  pub held_after : (p : ℕ) → In p w.places → finite.get (counting_seen_in scopes after).content p ≡ Some (counting_object_at after.memory p)
  held_after p i = get_in (counting_object_at after.memory) p (places_of after.free.space.held) (subst (In p) (sym (places_are w after l.holds)) i)

  pub place_after : (p : ℕ) (o : HeapObject) → finite.get (counting_seen_in scopes after).content p ≡ Some o → In p w.places
  place_after p o got = subst (In p) (places_are w after l.holds) (found_in (counting_object_at after.memory) p o (places_of after.free.space.held) got).0

  pub still_held : (p : ℕ) → In p w.places → finite.get (counting_seen_in scopes after).content p ≡ finite.get s.heap.content p
  still_held p i = held_after p i ∙ ap (λ (o : HeapObject). Some o) (same_object p i) ∙ sym (held s v space scopes b p (l.from p i))

  references_after : (p : ℕ) → In p w.places → references Counting s.types (counting_object_at after.memory p) ≡ (start s v space scopes b).graph.words p
  references_after p i = ap (references Counting s.types) (same_object p i) ∙ references_so s v space scopes b p (l.from p i)

  -- the counts of a view
  counts_after : (counting_seen_in scopes after).counts ≡ counts_of w
  counts_after = counts_are w after l.holds

  count_after : (p n : ℕ) → finite.get (counting_seen_in scopes after).counts.counted p ≡ Some n → n ≡ names_of Counting s.types (counting_seen_in scopes after) s.roots p
  count_after p n got =
      let f = found_in w.counted p n w.places (ap (λ (c : Counts). finite.get c.counted p) (sym counts_after) ∙ got) in
      let fields : total (λ (o : HeapObject). occurrences p (references Counting s.types o)) (counting_seen_in scopes after).content ≡ names (start s v space scopes b).graph w.places p =
      total_names s.types (start s v space scopes b).graph.words w after scopes p l.holds references_after in
      f.1 ∙ l.counts p (In-occ p w.places f.0) ∙ sym (ap₂ (λ (n k : ℕ). n + k) fields (occ_is p (held_words s.roots)))

  shown_is : (p : ℕ) → finset.contains (counting_seen_in scopes after).counts.shown p ≡ finset.contains (finset.from_list {R = nat_cmp} w.shown) p
  shown_is p = ap (λ (c : Counts). finset.contains c.shown p) counts_after

  pub counts_anew : CountsAnew s.types (counting_seen_in scopes after) s.roots
  counts_anew = record {
    exact = record {
      counted = count_after;
      shown = λ p h c.
          let i = place_after p h.0 h.1 in
          let frames = In-occ p (stack_words s.roots) (list.contains_in (stack_words s.roots) p c) in
          shown_is p ∙ contains_in p w.shown (occ-In p w.shown (l.frames_shown p (In-occ p v.places (l.from p i)) frames));
    };
    shown = λ p is.
        let j = in_contains p w.shown (sym (shown_is p) ∙ is) in
        list.in_contains (stack_words s.roots) p (occ-In p (stack_words s.roots) (l.shown_frames p (In-occ p w.shown j)));
    queued = ap (λ (c : Counts). c.queued) counts_after ∙ ap (λ (xs : List ℕ). finset.from_list {R = nat_cmp} xs) l.unqueued;
  }

  -- The space is sound.
  pub sound_after : IsSoundSpace after
  sound_after = record { view = w; holds = l.holds; unmarked = l.unmarked }

  pub capacity_after : (counting_seen_in scopes after).capacity ≡ s.heap.capacity
  capacity_after = l.same_length ∙ ap (λ (h : HeapView). h.capacity) b.heap_is

-- EXTERNAL OBJECTS

module _ (s : Start) (v : View) (space : CountedSpace) (scopes : ℕ) (b : CountingBeginsIn s v space scopes) where
  -- an external object in objects and in memory
  pub host_so : (p : ℕ) (o : HeapObject) → IsExternal s.heap p o → (In p v.places × (counting_kind_at space.memory p ≡ ExternRef)) × (u32_at o.bytes 0 ≡ counting_host_word space.memory p)
  host_so p o x =
      let f = found s v space scopes b p o x.held in
      let h = held_at s v space scopes b p f.0 in
      let is : counting_kind_at space.memory p ≡ ExternRef = ap (λ (y : HeapObject). y.kind) (sym f.1) ∙ x.kind in
      let size = (h.whole.external is).size in
      ((f.0, is), ap (λ (y : HeapObject). u32_at y.bytes 0) f.1 ∙ data_word space.memory p 28 (omega arith) (omega arith) h.inside)

  pub external_so : (p : ℕ) → In p v.places → counting_kind_at space.memory p ≡ ExternRef → IsExternal s.heap p (counting_object_at space.memory p)
  external_so p i is = record { held = held s v space scopes b p i; kind = is }

-- the id of a host value whose number is one more
pub id_is : (id n : ℕ) → n ≡ id + 1 → n - 1 ≡ id
id_is id n is = omega arith
