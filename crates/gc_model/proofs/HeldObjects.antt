-- What a store's heap holds at a placed position, and what a live root names.
use Rattle.std.proofs.Common.{◌≡◌, ℕ, Some, sym, ◌∙◌, subst, arith}
use Rattle.std.specs.List.{slice_get}
use Rattle.std.specs.FinMap.{get}
use Rattle.gc_types.specs.declared.kind.Layouts.{Layouts}
use Rattle.gc_view.specs.Heaps.{HeapObject}
use Rattle.gc_model.specs.Values.{at, Object}
use Rattle.gc_model.specs.Table.{Table}
use Rattle.gc_model.specs.Live.{rooted}
use Rattle.gc_model.specs.Stores.{StoreView}
use Rattle.gc_model.specs.Holds.{Placing, naming, Holds, Stands}
use Rattle.gc_model.proofs.Live.{rooted_word}
use Rattle.gc_model.proofs.PointParts.{HeldAt}

module _ {D : Type 0} (layouts : Layouts) (s : StoreView D) (t : Table D) (place : Placing) (holds : Holds layouts s t place) where
  -- the heap's object at a placed position stands for the table's
  pub object_held : (position word : ℕ) (o : Object D) (h : HeapObject) → place position ≡ Some word → get s.heap.content word ≡ Some h → slice_get t.objects position ≡ Some o → Stands layouts t.types (naming place s.ids) o h
  object_held position word o h placed in_heap in_table =
      let held = holds.objects.placed position word placed in
      let entries : Some held.entry ≡ Some o = sym held.in_table ∙ in_table in
      let entry_same : held.entry ≡ o = grind (arith, entries) in
      let objects : Some held.object ≡ Some h = sym held.in_heap ∙ in_heap in
      let object_same : held.object ≡ h = grind (arith, objects) in
      subst (λ (x : HeapObject). Stands layouts t.types (naming place s.ids) o x) object_same
      (subst (λ (x : Object D). Stands layouts t.types (naming place s.ids) x held.object) entry_same held.stands)

  -- What a live root names, with its word.
  pub record NamesHeld (position : ℕ) : Type 0 where
    pub word : ℕ
    pub placed : place position ≡ Some word
    pub held : HeldAt layouts t (naming place s.ids) s.heap.content position word

  pub live_object : (serial position : ℕ) → rooted t serial ≡ Some (at position) → NamesHeld position
  live_object serial position live =
      let word = rooted_word layouts s t place holds serial (at position) live in
      record { word = word.0; placed = word.1.0; held = holds.objects.placed position word.0 word.1.0 }
