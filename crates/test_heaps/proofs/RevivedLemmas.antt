-- A collection may begin behind some barriers of a new object.
use Rattle.std.proofs.Common.{◌≡◌, ℕ, ◌+◌, ◌-◌, ◌<◌, Bool, true, false, List, [], ◌∷◌, map, Option, Some, refl, sym, ap, ap₂, subst, ◌∙◌, inr, arith}
use Rattle.std.specs.FinMap.{get}
use Rattle.gc_types.specs.declared.kind.Layouts.TheVariants.{Counting}
use Rattle.gc_types.specs.declared.kind.VMGcKind.TheVariants.{ExternRef, StructRef}
use Rattle.gc_types.specs.declared.layout.GcStructLayout.{GcStructLayout}
use Rattle.gc_types.specs.Declarations.{Declaration}
use Rattle.gc_types.specs.Layouts.{layout_at}
use Rattle.gc_roots.specs.Roots.{Root, root}
use Rattle.gc_view.specs.Heaps.{HeapObject, HeapView}
use Rattle.gc_heap.specs.Content.{IsHeld, IsHeap}
use Rattle.gc_heap.specs.Heap.{AddsObject, new_struct, exn_or_struct}
use Rattle.gc_heap.specs.Barriers.{raise, lower, cloned, dropped, exposed, CanName, CanUnname}
use Rattle.gc_heap.specs.Collection.{Start, CanCollect, moved_root, Collected}
use Rattle.gc_heap.proofs.AddedLemmas.{start, blank_struct, owns_none}
use Rattle.gc_heap.proofs.MadeLemmas.{can_collect_made}
use Rattle.gc_heap.proofs.RootedLemmas.{can_collect_cloned, can_collect_dropped, can_collect_exposed, can_collect_unstacked}
use Rattle.gc_heap.proofs.AgainLemmas.{can_collect_again}
use Rattle.gc_drc.proofs.SeenLemmas.{get-insert-same}

-- A NUMBER OF NAMES

raised_count : (h : HeapView) (place n : ℕ) → get h.counts.counted place ≡ Some n → get (cloned h place).counts.counted place ≡ Some (n + 1)
raised_count h place n is = subst (λ (o : Option ℕ). get (raise o place h.counts).counted place ≡ Some (n + 1)) (sym is) (get-insert-same h.counts.counted place (n + 1))

lowered_count : (h : HeapView) (place n : ℕ) → get h.counts.counted place ≡ Some n → get (dropped h place).counts.counted place ≡ Some (n - 1)
lowered_count h place n is = subst (λ (o : Option ℕ). get (lower o place h.counts).counted place ≡ Some (n - 1)) (sym is) (get-insert-same h.counts.counted place (n - 1))

some_same : (n m : ℕ) → Some n ≡ Some m → m ≡ n
some_same n m e = cc

can_name_counted : (h : HeapView) (place n : ℕ) → IsHeld h place → get h.counts.counted place ≡ Some n → n < 2 → CanName h place
can_name_counted h place n held is few = record {
  named = inr held;
  below = λ m got. let same = some_same n m (sym is ∙ got) in omega arith;
}

can_unname_counted : (h : HeapView) (place n : ℕ) → IsHeld h place → get h.counts.counted place ≡ Some n → 0 < n → CanUnname h place
can_unname_counted h place n held is some = record {
  named = inr held;
  counted = λ m got. let same = some_same n m (sym is ∙ got) in omega arith;
}

-- a word was given up and copied again
pub twice : (h h1 h2 : HeapView) (object word : ℕ) → word ≡ object → h1 ≡ dropped h object → h2 ≡ cloned h1 word → h2 ≡ cloned (dropped h object) object
twice h h1 h2 object word is drops clones = clones ∙ ap₂ (λ (v : HeapView) (w : ℕ). cloned v w) drops is

-- A NEW OBJECT

module _ (h made : HeapView) (place size : ℕ) (o : HeapObject) (added : AddsObject Counting h made place o size) where
  held_made : IsHeld made place
  held_made = (o, ap (λ (x : HeapView). get x.content place) added.added ∙ get-insert-same h.content place o)

  count_made : get made.counts.counted place ≡ Some 1
  count_made = ap (λ (x : HeapView). get x.counts.counted place) added.added ∙ get-insert-same h.counts.counted place 1

  -- its word may be given up
  pub can_unname_made : CanUnname made place
  can_unname_made = can_unname_counted made place 1 held_made count_made (omega arith)

  -- where it was given up, it may be copied, and the copy be given up
  pub can_name_dropped : CanName (dropped made place) place
  can_name_dropped = can_name_counted (dropped made place) place 0 held_made (lowered_count made place 1 count_made) (omega arith)

  pub can_unname_again : CanUnname (cloned (dropped made place) place) place
  can_unname_again = can_unname_counted (cloned (dropped made place) place) place 1 held_made (raised_count (dropped made place) place 0 (lowered_count made place 1 count_made)) (omega arith)

struct_is : StructRef ≡ ExternRef → ⊥
struct_is e = cc

module _ (types : List Declaration) (h made : HeapView) (place ty : ℕ) (layout : GcStructLayout) (hosts : ℕ → Bool) (heap : IsHeap Counting h) (added : AddsObject Counting h made place (new_struct Counting ty layout) layout.size)
    (plain : layout.is_exception ≡ false) (declared : layout_at Counting types ty ≡ Some layout) (can : CanCollect Counting (start h [] types hosts)) where
  -- its one word
  abbrev one : Root
  one = root 0 false place

  rooted : CanCollect Counting (start made (one ∷ []) types hosts)
  rooted = can_collect_made Counting types h made [] 0 place (new_struct Counting ty layout) layout.size hosts added heap can (blank_struct Counting types ty layout declared)
      (owns_none hosts h (new_struct Counting ty layout) (λ e. struct_is (sym (ap exn_or_struct plain) ∙ e)))

  is_held : IsHeld made place
  is_held = held_made h made place layout.size (new_struct Counting ty layout) added

  -- the word was given up
  pub given_up : CanCollect Counting (start (dropped made place) [] types hosts)
  given_up = can_collect_dropped Counting types made [] one [] hosts rooted refl

  copied_again : CanCollect Counting (start (cloned (dropped made place) place) (one ∷ []) types hosts)
  copied_again = can_collect_cloned Counting types (dropped made place) [] one [] hosts given_up refl (inr (inr is_held))

  -- it was copied again, and shown to a frame slot
  pub shown_again : IsHeap Counting (cloned (dropped made place) place) → CanCollect Counting (start (exposed (cloned (dropped made place) place) place) (root 0 true place ∷ []) types hosts)
  shown_again middle = can_collect_exposed Counting types (cloned (dropped made place) place) [] one (root 0 true place) [] hosts middle copied_again refl refl refl

-- A frame slot was the one root, and was left after a collection.
pub slot_left : (s : Start) (h : HeapView) (roots : List Root) (hosts : ℕ → Bool) (word : ℕ) → IsHeap Counting s.heap → CanCollect Counting s → s.roots ≡ root 0 true word ∷ [] → Collected Counting s h roots hosts
    → CanCollect Counting (start h [] s.types hosts)
slot_left s h roots hosts word heap can one done =
    let moves : roots ≡ moved_root done.to (root 0 true word) ∷ [] = done.roots_moved ∙ ap (map (moved_root done.to)) one in
    can_collect_unstacked Counting s.types h [] (moved_root done.to (root 0 true word)) [] hosts
    (subst (λ (rs : List Root). CanCollect Counting (start h rs s.types hosts)) moves (can_collect_again Counting s h roots hosts heap can done)) refl
