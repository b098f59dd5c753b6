-- How many objects a heap holds, counted by the positions of the table.
use Rattle.std.proofs.Common.{◌≡◌, ℕ, List, length, map, Option, Some, None, Contains, refl, sym, ap, ◌∙◌, subst, arith}
use Rattle.std.specs.FinMap.{get, len, entries, len-entries}
use Rattle.std.proofs.lemmas.List.{length-map}
use Rattle.std.proofs.lemmas.Option.{none-some}
use Rattle.gc_types.specs.declared.kind.Layouts.{Layouts}
use Rattle.gc_model.specs.Table.{Table}
use Rattle.gc_model.specs.Reach.{IsKept, AreAll, HasNumber}
use Rattle.gc_view.specs.Heaps.{HeapObject, HeapView}
use Rattle.gc_model.specs.Stores.{StoreView}
use Rattle.gc_model.specs.Holds.{Placing, InternedIds, naming, ObjectsHold, Holds, HoldsKept}
use Rattle.gc_model.specs.Collects.{HasPlace}
use Rattle.gc_model.proofs.CollectedLists.{get_contains, contains_map, map_get}
use Rattle.gc_model.proofs.CollectedKept.{kept_placed}
use Rattle.gc_model.proofs.HeldEntries.{held_entry, entry_held, keys_differ}

module _ {D : Type 0} (layouts : Layouts) (t : Table D) (place : Placing) {ids : InternedIds} (heap : HeapView) (objects : ObjectsHold layouts t (naming place ids) heap) where
  abbrev position_found : (word : ℕ) (found : Option HeapObject) → get heap.content word ≡ found → ℕ
  position_found word None e = 0
  position_found word (Some o) e = (objects.only word o e).0

  placed_found : (word : ℕ) (found : Option HeapObject) (e : get heap.content word ≡ found) (o : HeapObject) → found ≡ Some o → place (position_found word found e) ≡ Some word
  placed_found word None e o is = absurd (none-some o is)
  placed_found word (Some x) e o is = (objects.only word x e).1

  -- the position of the object at a place
  abbrev pub position_of : ℕ → ℕ
  position_of word = position_found word (get heap.content word) refl

  pub placed_of : (word : ℕ) (o : HeapObject) → get heap.content word ≡ Some o → place (position_of word) ≡ Some word
  placed_of word o e = placed_found word (get heap.content word) refl o e

  -- the positions of the objects of the heap, in the order of their places
  abbrev pub positions : List ℕ
  positions = map (λ (e : ℕ × HeapObject). position_of e.0) (entries heap.content)

  placed_from : (p : ℕ) → Contains positions p → HasPlace place p
  placed_from p c =
      let found = contains_map (λ (e : ℕ × HeapObject). position_of e.0) (entries heap.content) p c in
      (found.element.0, ap place (sym found.is) ∙ placed_of found.element.0 found.element.1 (held_entry heap.content found.index found.element found.there))

  placed_among : (p : ℕ) → HasPlace place p → Contains positions p
  placed_among p (word, e) =
      let held = objects.placed p word e in
      let entry = entry_held heap.content word held.object held.in_heap in
      let same : position_of word ≡ p = objects.injective (position_of word) p word (placed_of word held.object held.in_heap) e in
      subst (Contains positions) same (get_contains positions entry.0 (position_of word) (map_get (λ (e : ℕ × HeapObject). position_of e.0) (entries heap.content) entry.0 (word, held.object) entry.1))

  pub are_placed : AreAll (HasPlace place) positions
  are_placed = record {
    distinct = keys_differ position_of heap.content (λ p q x y e f same.
        let both : Some p ≡ Some q = sym (placed_of p x e) ∙ ap place same ∙ placed_of q y f in grind (arith, both));
    all = λ p. (placed_from p, placed_among p);
  }

  pub length-positions : len heap.content ≡ length positions
  length-positions = len-entries heap.content ∙ sym (length-map (entries heap.content) (λ (e : ℕ × HeapObject). position_of e.0))

module _ {D : Type 0} (layouts : Layouts) (s : StoreView D) (t : Table D) (place : Placing) (holds : Holds layouts s t place) where
  -- The heap holds as many objects as positions are placed.
  pub held_number : HasNumber (HasPlace place) (len s.heap.content)
  held_number = (positions layouts t place s.heap holds.objects, (are_placed layouts t place s.heap holds.objects, length-positions layouts t place s.heap holds.objects))

  -- Where only what a collection keeps is placed, these are the positions that it keeps.
  pub are_kept : ((p word : ℕ) → place p ≡ Some word → IsKept layouts t p) → AreAll (IsKept layouts t) (positions layouts t place s.heap holds.objects)
  are_kept kept =
      let placed = are_placed layouts t place s.heap holds.objects in
      record {
        distinct = placed.distinct;
        all = λ p. (λ c. let at = (placed.all p).0 c in kept p at.0 at.1, λ k. (placed.all p).1 (kept_placed s t place layouts holds p k));
      }

-- After a collection the heap holds as many objects as a collection keeps.
pub kept_number : {D : Type 0} (layouts : Layouts) (s : StoreView D) (t : Table D) → HoldsKept layouts s t → HasNumber (IsKept layouts t) (len s.heap.content)
kept_number layouts s t kept = (
  positions layouts t kept.0 s.heap kept.1.0.objects,
  (are_kept layouts s t kept.0 kept.1.0 kept.1.1, length-positions layouts t kept.0 s.heap kept.1.0.objects),
)
