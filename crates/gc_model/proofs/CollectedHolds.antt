-- A store that held a table holds it after a collection of its owner, and no other object than the collection keeps.
use Rattle.std.proofs.Common.{◌≡◌, ℕ, ◌+◌, ◌%◌, ◌<◌, true, false, List, Option, Some, None, is_some, Contains, refl, sym, ap, ◌∙◌, subst, arith}
use Rattle.std.specs.Ordering.{nat_cmp}
use Rattle.std.specs.FinMap.{FinMap, get}
use Rattle.std.proofs.lemmas.List.{length-map}
use Rattle.std.proofs.lemmas.Option.{none-some, same_Some}
use Rattle.gc_types.specs.declared.kind.Layouts.{Layouts}
use Rattle.gc_types.specs.declared.kind.Layouts.TheVariants.{Null, Counting, Copying}
use Rattle.gc_owner.specs.declared.entry.SlotEntry.{SlotEntry}
use Rattle.gc_owner.specs.RootColumns.{RootsView, AreFrames, roots_of, moved_roots}
use Rattle.gc_owner.specs.Owners.{OwnerView, CanBegin, CollectsAll, start_of}
use Rattle.gc_model.specs.Values.{Reference, null, small, at}
use Rattle.gc_model.specs.Table.{Table}
use Rattle.gc_model.specs.Reach.{IsKept}
use Rattle.gc_model.specs.Gaps.{told, AreCut}
use Rattle.gc_view.specs.Heaps.{HeapView, HeapObject}
use Rattle.gc_model.specs.Stores.{StoreView}
use Rattle.gc_model.proofs.HoldsParts.{places_changed}
use Rattle.gc_model.specs.Holds.{Placing, IsWord, naming, HostStands, IsHostAt, HostsBy, ObjectsHold, KindHolds, Holds, HoldsKept, FramesBy}
use Rattle.gc_model.proofs.PointParts.{HeldAt}
use Rattle.gc_heap.specs.References.{references}
use Rattle.gc_heap.specs.Content.{IsHeld, IsHeap, IsSpare}
use Rattle.gc_heap.specs.Extents.{host_id}
use Rattle.gc_heap.specs.Collection.{Start, Kept, moved, IsMoved, Collected, has_host, IsExternal, IsPartOf}
use Rattle.gc_heap.proofs.AgainLemmas.{kept_by_root, kept_by_field, kept_held}
use Rattle.gc_model.specs.Shown.{shown, frames_of}
use Rattle.gc_model.proofs.RootsShown.{SlotsInFrames, AllHeld, IsRooted, scoped_rooted, slot_rooted, global_rooted, owned_rooted, pending_rooted}
use Rattle.gc_model.proofs.Frames.{frame_words, frames-mapped}
use Rattle.gc_model.proofs.CollectedRoots.{StaysPresent, scoped-carried, frames-carried, globals-carried, owned-carried, thrown-carried}
use Rattle.gc_model.proofs.CollectedValues.{stands_moved, host_moved, host_was}
use Rattle.gc_model.proofs.CollectedPlacing.{place_after, placed_after, placed_before, word_carried}
use Rattle.gc_model.proofs.CollectedKept.{traced_here, kept_position, kept_placed}

-- a value of a table is one of its part, where that has some value under the id
pub part_value : {D : Type 0} (part whole : FinMap nat_cmp D) (id : ℕ) (value : D) → IsPartOf part whole → get whole id ≡ Some value → has_host part id ≡ true → get part id ≡ Some value
part_value {D} part whole id value within is there = by (get part id) refl there
  where
    by : (found : Option D) → get part id ≡ found → is_some found ≡ true → get part id ≡ Some value
    by None none some = absurd (cc)
    by (Some x) found some = found ∙ sym (within id x found) ∙ is

-- A collection of an owner whose store holds a table, once it was trimmed.
pub record CollectsHeld {D : Type 0} (layouts : Layouts) (s : StoreView D) (t : Table D) (place : Placing) (v w : OwnerView D) : Type 0 where
  pub holds : Holds layouts (shown s v) t place
  pub can : CanBegin layouts v
  pub in_frames : SlotsInFrames v.roots
  pub all_held : AllHeld v.roots.owned
  pub was_heap : IsHeap layouts v.heap
  pub attached : v.heap.attached ≡ true
  pub collects : CollectsAll layouts v w

module _ {D : Type 0} (layouts : Layouts) (s : StoreView D) (t : Table D) (place : Placing) (v w : OwnerView D) (c : CollectsHeld layouts s t place v w) where
  abbrev begin : Start
  begin = start_of v

  abbrev done : Collected layouts begin w.heap (roots_of w.roots) (has_host w.hosts)
  done = c.collects.collected

  abbrev after : Placing
  after = place_after layouts begin w.heap (roots_of w.roots) (has_host w.hosts) done place

  begin_heap : IsHeap layouts begin.heap
  begin_heap = subst (λ b. IsHeap layouts (record v.heap { attached = b })) c.attached c.was_heap

  even : (word : ℕ) (o : HeapObject) → get w.heap.content word ≡ Some o → (word % 2 ≡ 0) × (0 < word)
  even word o e = let lies = c.collects.is_heap.objects word o e in (let aligned = lies.aligned in omega arith, lies.not_null)

  carried : (r : Reference) (x : ℕ) → ((p : ℕ) → place p ≡ Some x → Kept layouts begin x) → IsWord place r x → IsWord after r (moved done.to x)
  carried r x kept is = word_carried layouts begin w.heap (roots_of w.roots) (has_host w.hosts) done begin_heap place r x kept is

  held_of : (p x : ℕ) → place p ≡ Some x → IsHeld begin.heap x
  held_of p x e = let held = c.holds.objects.placed p x e in (held.object, held.in_heap)

  moved_here : (old new : HeapObject) → IsMoved layouts begin.types done.to old new → IsMoved layouts t.types done.to old new
  moved_here old new is = subst (λ types. IsMoved layouts types done.to old new) c.holds.types is

  spare_here : (word : ℕ) (h : HeapObject) → get v.heap.content word ≡ Some h → IsSpare layouts h
  spare_here word h got = (c.was_heap.objects word h got).spare

  object_after : (p word : ℕ) → place p ≡ Some word → Kept layouts begin word → HeldAt layouts t (naming after s.ids) w.heap.content p (done.to word)
  object_after p word e kept =
      let there = c.holds.objects.placed p word e in
      let now = done.kept word there.object kept there.in_heap in
      record {
        object = now.0;
        entry = there.entry;
        in_heap = now.1.0;
        in_table = there.in_table;
        stands = stands_moved layouts t.types done.to there.object now.0 place after s.ids
            (moved_here there.object now.0 now.1.1)
            (spare_here word there.object there.in_heap)
            (traced_here layouts s v t place c.holds c.in_frames c.all_held c.can.traced (has_host v.hosts) word there.object there.in_heap)
            (λ r x among is_word. carried r x
            (λ q placed. kept_by_field layouts begin x word there.object (held_of q x placed) kept there.in_heap (subst (λ types. Contains (references layouts types there.object) x) (sym c.holds.types) among)) is_word)
            there.entry there.stands;
      }

  objects_after : ObjectsHold layouts t (naming after s.ids) w.heap
  objects_after = record {
    placed = λ p q e.
        let was = placed_before layouts begin w.heap (roots_of w.roots) (has_host w.hosts) done place p q e in
        subst (λ x. HeldAt layouts t (naming after s.ids) w.heap.content p x) was.moves (object_after p was.word was.placed was.kept);
    only = λ q o e.
        let from = done.only q (o, e) in
        let held = kept_held layouts begin from.0 from.1.0 in
        let p = c.holds.objects.only from.0 held.0 held.1 in
        (p.0, placed_after layouts begin w.heap (roots_of w.roots) (has_host w.hosts) done place p.0 from.0 p.1 from.1.0 ∙ ap (λ x. Some x) from.1.1);
    injective = λ p q word e f.
        let one = placed_before layouts begin w.heap (roots_of w.roots) (has_host w.hosts) done place p word e in
        let other = placed_before layouts begin w.heap (roots_of w.roots) (has_host w.hosts) done place q word f in
        let same : one.word ≡ other.word = done.injective one.word other.word one.kept other.kept (one.moves ∙ sym other.moves) in
        c.holds.objects.injective p q one.word one.placed (other.placed ∙ ap (λ x. Some x) (sym same));
    even = even;
  }

  abbrev HostBefore : ℕ → ℕ → D → Type 0
  HostBefore p id d = IsHostAt t.objects place v.heap.content p id d

  abbrev HostAfter : ℕ → ℕ → D → Type 0
  HostAfter p id d = IsHostAt t.objects after w.heap.content p id d

  -- a host object that is kept has the same id
  host_stays : (p id : ℕ) (d : D) (is : HostBefore p id d) → Kept layouts begin is.word → HostAfter p id d
  host_stays p id d is kept =
      let now = done.kept is.word is.object kept is.in_heap in
      record {
        word = done.to is.word;
        object = now.0;
        in_table = is.in_table;
        placed = placed_after layouts begin w.heap (roots_of w.roots) (has_host w.hosts) done place p is.word is.placed kept;
        in_heap = now.1.0;
        stands = host_moved layouts t.types done.to is.object now.0 id (moved_here is.object now.0 now.1.1) (spare_here is.word is.object is.in_heap) is.stands;
      }

  -- and one that is there was there
  host_was_there : (p id : ℕ) (d : D) → HostAfter p id d → HostBefore p id d
  host_was_there p id d is =
      let was = placed_before layouts begin w.heap (roots_of w.roots) (has_host w.hosts) done place p is.word is.placed in
      let there = c.holds.objects.placed p was.word was.placed in
      let now = done.kept was.word there.object was.kept there.in_heap in
      let same : now.0 ≡ is.object = same_Some now.0 is.object (sym now.1.0 ∙ ap (get w.heap.content) was.moves ∙ is.in_heap) in
      record {
        word = was.word;
        object = there.object;
        in_table = is.in_table;
        placed = was.placed;
        in_heap = there.in_heap;
        stands = host_was layouts t.types done.to there.object now.0 id (moved_here there.object now.0 now.1.1) (spare_here was.word there.object there.in_heap)
            (subst (λ (h : HeapObject). HostStands id h) (sym same) is.stands);
      }

  external_here : (p id : ℕ) (d : D) (is : HostBefore p id d) → IsExternal begin.heap is.word is.object
  external_here p id d is = record { held = is.in_heap; kind = is.stands.kind }

  id_here : (p id : ℕ) (d : D) (is : HostBefore p id d) → host_id is.object ≡ id
  id_here p id d is = omega (arith, is.stands.id_is)

  -- its value stays
  value_stays : (p id : ℕ) (d : D) (is : HostBefore p id d) → Kept layouts begin is.word → get v.hosts id ≡ Some d → get w.hosts id ≡ Some d
  value_stays p id d is kept held =
      let stays : has_host w.hosts id ≡ has_host v.hosts id = done.hosts_kept id (λ q o external same.
      let at_word : is.word ≡ q = c.can.collects.own_hosts is.word q is.object o (external_here p id d is) external (id_here p id d is ∙ sym same) in
      subst (Kept layouts begin) at_word kept) in
      part_value w.hosts v.hosts id d c.collects.values held (stays ∙ ap is_some held)

  -- and is given back where the object isn't kept
  value_lost : (p id : ℕ) (d : D) (is : HostBefore p id d) → (Kept layouts begin is.word → ⊥) → get w.hosts id ≡ Some d → ⊥
  value_lost p id d is dropped found =
      let lost : has_host w.hosts id ≡ false = ap (has_host w.hosts) (sym (id_here p id d is)) ∙ done.hosts_lost is.word is.object (external_here p id d is) dropped in
      let there : has_host w.hosts id ≡ true = ap is_some found in
      absurd (cc (sym there ∙ lost))

  kept_at : (p word q : ℕ) → place p ≡ Some word → after p ≡ Some q → Kept layouts begin word
  kept_at p word q placed is =
      let was = placed_before layouts begin w.heap (roots_of w.roots) (has_host w.hosts) done place p q is in
      subst (Kept layouts begin) (same_Some was.word word (sym was.placed ∙ placed)) was.kept

  -- each value that is left is that of a host object that was kept
  host_left : (p id : ℕ) (d : D) → HostBefore p id d → get w.hosts id ≡ Some d → HostAfter p id d
  host_left p id d is found = by (after p) refl
    where
      by : (q : Option ℕ) → after p ≡ q → HostAfter p id d
      by None none = absurd (value_lost p id d is
          (λ kept. none-some (done.to is.word) (sym none ∙ placed_after layouts begin w.heap (roots_of w.roots) (has_host w.hosts) done place p is.word is.placed kept)) found)
      by (Some q) placed = host_stays p id d is (kept_at p is.word q is.placed placed)

  hosts_after : HostsBy t.objects after w.heap.content w.hosts
  hosts_after = record {
    each = λ p q d placed in_table.
        let was = placed_before layouts begin w.heap (roots_of w.roots) (has_host w.hosts) done place p q placed in
        let has = c.holds.hosts.each p was.word d was.placed in_table in
        let kept = kept_at p has.is_at.word q has.is_at.placed placed in
        record { id = has.id; is_at = host_stays p has.id d has.is_at kept; held = value_stays p has.id d has.is_at kept has.held };
    only = λ id d found. let entry = c.holds.hosts.only id d (c.collects.values id d found) in (entry.0, host_left entry.0 id d entry.1 found);
    apart = λ p q id d e is_p is_q. c.holds.hosts.apart p q id d e (host_was_there p id d is_p) (host_was_there q id e is_q);
  }

  present : StaysPresent done.to place after
  present null x above is is' = absurd (omega (arith, is))
  present (small n) x above is is' = omega (arith, is')
  present (at p) x above is is' = let held = objects_after.placed p (moved done.to x) is' in (objects_after.even (moved done.to x) held.object held.in_heap).1

  -- a position whose word is that of a root is kept
  kept_rooted : (x : ℕ) → (0 < x → IsRooted v.roots x) → (p : ℕ) → place p ≡ Some x → Kept layouts begin x
  kept_rooted x rooted p placed =
      let above : 0 < x = let held = c.holds.objects.placed p x placed in (c.holds.objects.even x held.object held.in_heap).1 in
      let root = rooted above in
      kept_by_root layouts begin x root.0 (held_of p x placed) root.1.0 root.1.1

  abbrev roots_after : RootsView
  roots_after = moved_roots done.to v.roots

  -- the words of the frames are those of roots
  frames_moved : FramesBy after t.frames (frames_of roots_after.frames roots_after.slots)
  frames_moved =
      subst (λ (es : List (List SlotEntry)). FramesBy after t.frames es) (sym (frames-mapped (λ (e : SlotEntry). record e { word = moved done.to e.word }) v.roots.slots v.roots.frames))
      (frames-carried done.to place after t.frames (frames_of v.roots.frames v.roots.slots)
      (λ r x among is. carried r x (kept_rooted x (slot_rooted v.roots x (subst (λ (ws : List ℕ). Contains ws x) (frame_words v.roots.slots v.roots.frames c.in_frames) among))) is) c.holds.frames)

  -- what the store shows after the collection
  abbrev collected : OwnerView D
  collected = record v { heap = w.heap; hosts = w.hosts; roots = roots_after; last = w.heap.allocated }

  holds_collected : KindHolds layouts t after w.heap → Holds layouts (shown s collected) t after
  holds_collected kind =
      places_changed c.holds
      (record {
        made = done.attached ∙ sym c.attached ∙ c.holds.memory.made;
        capacity = done.capacity ∙ c.holds.memory.capacity;
        no_pages = c.holds.memory.no_pages;
        no_objects = c.holds.memory.no_objects;
      })
      objects_after
      kind
      (scoped-carried done.to place after t.pushes t.scoped v.roots.scoped (λ r x among is. carried r x (kept_rooted x (scoped_rooted v.roots x among)) is) present c.holds.scoped)
      frames_moved
      (globals-carried done.to place after t.globals v.roots.globals (λ r x among is. carried r x (kept_rooted x (global_rooted v.roots x among)) is) c.holds.globals)
      (owned-carried done.to place after t.owns v.roots.owns t.owned v.roots.owned (λ r x among is. carried r x (kept_rooted x (owned_rooted v.roots x among)) is) present c.holds.owned)
      (thrown-carried done.to place after t.objects t.pending v.roots.pending (λ r above is. carried r v.roots.pending (kept_rooted v.roots.pending (λ x. pending_rooted v.roots x)) is) present c.holds.pending)
      hosts_after
      c.holds.typed

  holds_after : KindHolds layouts t after w.heap → Holds layouts (shown s w) t after
  holds_after kind =
      let is : w ≡ collected = c.collects.rest ∙ ap (λ (r : RootsView). record v { heap = w.heap; hosts = w.hosts; roots = r; last = w.heap.allocated }) c.collects.roots in
      subst (λ (x : OwnerView D). Holds layouts (shown s x) t after) (sym is) (holds_collected kind)

  kept_after : (p word : ℕ) → after p ≡ Some word → IsKept layouts t p
  kept_after p word e =
      let was = placed_before layouts begin w.heap (roots_of w.roots) (has_host w.hosts) done place p word e in
      kept_position layouts s v t place c.holds c.in_frames c.all_held c.can.traced c.was_heap (has_host v.hosts) was.word was.kept p was.placed

  pub frames_after : SlotsInFrames w.roots
  frames_after =
      subst SlotsInFrames (sym c.collects.roots)
      (subst (AreFrames v.roots.frames) (sym (length-map v.roots.slots (λ (e : SlotEntry). record e { word = moved done.to e.word }))) c.in_frames)

-- what one kind of heap owes alone
kind_after : {D : Type 0} (layouts : Layouts) (s : StoreView D) (t : Table D) (place : Placing) (v w : OwnerView D) (c : CollectsHeld layouts s t place v w) → KindHolds layouts t (after layouts s t place v w c) w.heap
kind_after Null s t place v w c = record {
  all_held = λ p below.
      let was = c.holds.by_kind.all_held p below in
      let kept = held_of Null s t place v w c p was.0 was.1 in
      (c.collects.collected.to was.0, placed_after Null (begin Null s t place v w c) w.heap (roots_of w.roots) (has_host w.hosts) c.collects.collected place p was.0 was.1 kept);
  allocated = ap (λ (h : HeapView). h.allocated + 1) c.collects.collected.by_kind.0 ∙ c.holds.by_kind.allocated;
}
kind_after Counting s t place v w c = tt
kind_after Copying s t place v w c = tt

-- The store holds the table after a collection, and its heap holds what the collection keeps.
pub collected_holds : {D : Type 0} (layouts : Layouts) (s : StoreView D) (t : Table D) (place : Placing) (v w : OwnerView D) → CollectsHeld layouts s t place v w → HoldsKept layouts (shown s w) t
collected_holds layouts s t place v w c = (
  after layouts s t place v w c,
  (holds_after layouts s t place v w c (kind_after layouts s t place v w c), kept_after layouts s t place v w c),
)

-- What the table keeps was at a place that the collection kept.
pub position_kept : {D : Type 0} (layouts : Layouts) (s : StoreView D) (t : Table D) (place : Placing) (v w : OwnerView D) → CollectsHeld layouts s t place v w → (p : ℕ) → IsKept layouts t p → (word : ℕ) × ((place p ≡ Some word) × Kept layouts (start_of v) word)
position_kept layouts s t place v w c p kept =
    let there = kept_placed (shown s w) t (after layouts s t place v w c) layouts (holds_after layouts s t place v w c (kind_after layouts s t place v w c)) p kept in
    let was = placed_before layouts (start_of v) w.heap (roots_of w.roots) (has_host w.hosts) c.collects.collected place p there.0 there.1 in
    (was.word, (was.placed, was.kept))

-- In a counting heap what is left lies where it lay.
counting_stays : {D : Type 0} (s : StoreView D) (t : Table D) (place : Placing) (v w : OwnerView D) (c : CollectsHeld Counting s t place v w) (p word : ℕ) → after Counting s t place v w c p ≡ Some word → place p ≡ Some word
counting_stays s t place v w c p word left =
    let was = placed_before Counting (start_of v) w.heap (roots_of w.roots) (has_host w.hosts) c.collects.collected place p word left in
    let stays : c.collects.collected.to was.word ≡ was.word = (c.collects.collected.by_kind.0 was.word was.kept).0 in
    was.placed ∙ ap (λ x. Some x) (sym stays ∙ was.moves)

counting_left : {D : Type 0} (s : StoreView D) (t : Table D) (place : Placing) (v w : OwnerView D) (c : CollectsHeld Counting s t place v w) (p word : ℕ) → place p ≡ Some word → IsKept Counting t p → after Counting s t place v w c p ≡ Some word
counting_left s t place v w c p word placed kept =
    let there = kept_placed (shown s w) t (after Counting s t place v w c) Counting (holds_after Counting s t place v w c (kind_after Counting s t place v w c)) p kept in
    there.1 ∙ sym (counting_stays s t place v w c p there.0 there.1) ∙ placed

-- Where places are told, those of what is kept are left.
pub collected_places : {D : Type 0} (layouts : Layouts) (s : StoreView D) (t : Table D) (place : Placing) (v w : OwnerView D) (c : CollectsHeld layouts s t place v w) → AreCut layouts t (told layouts place) (told layouts (collected_holds layouts s t place v w c).0)
unfolding collected_holds
collected_places Null s t place v w c p word = (λ none. absurd (none-some word none), λ kept. absurd (none-some word kept.0))
collected_places Counting s t place v w c p word = (
  λ left. (counting_stays s t place v w c p word left, kept_after Counting s t place v w c p word left),
  λ kept. counting_left s t place v w c p word kept.0 kept.1,
)
collected_places Copying s t place v w c p word = (λ none. absurd (none-some word none), λ kept. absurd (none-some word kept.0))
