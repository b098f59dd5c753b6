-- What a collection of the heap keeps are the objects that the roots of the table reach.
use Rattle.std.proofs.Common.{◌≡◌, ℕ, Bool, Some, Contains, sym, ◌∙◌, subst, arith}
use Rattle.std.specs.List.{slice_get}
use Rattle.std.specs.FinMap.{get}
use Rattle.std.proofs.lemmas.Option.{slice_get_within}
use Rattle.gc_types.specs.declared.kind.Layouts.{Layouts}
use Rattle.gc_types.specs.declared.kind.Layouts.TheVariants.{Null, Counting, Copying}
use Rattle.gc_model.specs.Values.{Reference, at, Object}
use Rattle.gc_model.specs.Table.{Table}
use Rattle.gc_model.specs.Reach as reach
use Rattle.gc_model.specs.Reach.{references_in, IsReached, IsKept}
use Rattle.gc_view.specs.Heaps.{HeapObject}
use Rattle.gc_model.specs.Stores.{StoreView}
use Rattle.gc_model.specs.Holds.{Placing, IsWord, naming, Holds}
use Rattle.gc_model.proofs.Words.{word_names}
use Rattle.gc_heap.specs.Content.{IsHeap}
use Rattle.gc_heap.specs.References.{reference_offsets, references, word_in}
use Rattle.gc_heap.specs.Collection.{ReachedPlace, Kept}
use Rattle.gc_memory.proofs.ListLemmas.{contains_in, in_map}
use Rattle.gc_owner.specs.Tracing.{IsTraced, AreTraced, start_from}
use Rattle.gc_owner.specs.RootColumns.{roots_of}
use Rattle.gc_owner.specs.Owners.{OwnerView}
use Rattle.gc_model.specs.Shown.{shown}
use Rattle.gc_model.proofs.RootsShown.{SlotsInFrames, AllHeld, root_word, listed_named}
use Rattle.gc_model.proofs.CollectedReach.{reference_word, reference_of_word}

module _ {D : Type 0} (layouts : Layouts) (s : StoreView D) (t : Table D) (place : Placing) (holds : Holds layouts s t place) where
  -- what is reached is placed
  pub reached_placed : (p : ℕ) → reach.Reached t.objects (reach.root_references t) p → (word : ℕ) × (place p ≡ Some word)
  reached_placed p (reach.by_start c) = root_word layouts s t place holds (at p) c
  reached_placed p (reach.by_step {y = q} reached named) =
      let before = reached_placed q reached in
      let there = holds.objects.placed q before.0 before.1 in
      let both : Some named.object ≡ Some there.entry = sym named.there ∙ there.in_table in
      let same : named.object ≡ there.entry = grind (arith, both) in
      reference_word layouts t.types (naming place s.ids) there.entry there.object there.stands (at p) (subst (λ (x : Object D). Contains (references_in x) (at p)) same named.among)

  value_reached : (q : ℕ) (o : Object D) → IsReached t q → slice_get t.objects q ≡ Some o → (r : Reference) (p : ℕ) → r ≡ at p → Contains (references_in o) r → IsReached t p
  value_reached q o reached e r p is c = reach.by_step reached (record { object = o; there = e; among = subst (λ (x : Reference). Contains (references_in o) x) is c })

module _ {D : Type 0} (layouts : Layouts) (s : StoreView D) (v : OwnerView D) (t : Table D) (place : Placing) (holds : Holds layouts (shown s v) t place) (in_frames : SlotsInFrames v.roots) (all_held : AllHeld v.roots.owned) (traced : AreTraced layouts v.types.declarations v.heap) (hosts : ℕ → Bool) where
  -- an object of the heap is traced by the table's types
  pub traced_here : (word : ℕ) (h : HeapObject) → get v.heap.content word ≡ Some h → IsTraced layouts t.types h
  traced_here word h got = subst (λ types. IsTraced layouts types h) holds.types (traced word h got)

  -- an object that the heap's roots reach is one that the table's roots reach
  pub reached_position : IsHeap layouts v.heap → (word : ℕ) → ReachedPlace layouts (start_from v.types.declarations v.heap (roots_of v.roots) hosts) word → (p : ℕ) → place p ≡ Some word → IsReached t p
  reached_position heap word (reach.by_start root) p e =
      let found = listed_named layouts s v t place holds all_held in_frames root.root root.among in
      let names : found.0 ≡ at p = word_names layouts t place v.heap holds.objects found.0 (at p) word (subst (IsWord place found.0) root.names found.1.1) e in
      reach.by_start (subst (λ (x : Reference). Contains (reach.root_references t) x) names found.1.0)
  reached_position heap word (reach.by_step {y = from} reached field) p e =
      let before = holds.objects.only from field.object field.there in
      let there = holds.objects.placed before.0 from before.1 in
      let both : Some there.object ≡ Some field.object = sym there.in_heap ∙ field.there in
      let same : there.object ≡ field.object = grind (arith, both) in
      let found = in_map (word_in layouts there.object) (reference_offsets layouts t.types there.object) word
      (contains_in (references layouts t.types there.object) word (subst (λ x. Contains (references layouts t.types x) word) (sym same) (subst (λ types. Contains (references layouts types field.object) word) holds.types field.among))) in
      let named = reference_of_word layouts t.types (naming place s.ids) there.entry there.object there.stands (heap.objects from there.object there.in_heap).spare (traced_here from there.object there.in_heap) found.0 found.1.0 in
      let names : named.reference_is ≡ at p = word_names layouts t place v.heap holds.objects named.reference_is (at p) word (subst (IsWord place named.reference_is) found.1.1 named.is_word) e in
      value_reached layouts (shown s v) t place holds before.0 there.entry (reached_position heap from reached before.0 before.1) there.in_table named.reference_is p names named.among

-- What a collection of the heap keeps, one of the table keeps.
pub kept_position : {D : Type 0} (layouts : Layouts) (s : StoreView D) (v : OwnerView D) (t : Table D) (place : Placing) → Holds layouts (shown s v) t place → SlotsInFrames v.roots → AllHeld v.roots.owned → AreTraced layouts v.types.declarations v.heap → IsHeap layouts v.heap → (hosts : ℕ → Bool) (word : ℕ) → Kept layouts (start_from v.types.declarations v.heap (roots_of v.roots) hosts) word
    → (p : ℕ) → place p ≡ Some word → IsKept layouts t p
kept_position Null s v t place holds in_frames all_held traced heap hosts word kept p e = let there = holds.objects.placed p word e in slice_get_within t.objects p there.entry there.in_table
kept_position Counting s v t place holds in_frames all_held traced heap hosts word kept p e = reached_position Counting s v t place holds in_frames all_held traced hosts heap word kept p e
kept_position Copying s v t place holds in_frames all_held traced heap hosts word kept p e = reached_position Copying s v t place holds in_frames all_held traced hosts heap word kept p e

module _ {D : Type 0} (s : StoreView D) (t : Table D) (place : Placing) where
  -- What a collection of the table keeps is placed.
  pub kept_placed : (layouts : Layouts) → Holds layouts s t place → (p : ℕ) → IsKept layouts t p → (word : ℕ) × (place p ≡ Some word)
  kept_placed Null holds p kept = holds.by_kind.all_held p kept
  kept_placed Counting holds p kept = reached_placed Counting s t place holds p kept
  kept_placed Copying holds p kept = reached_placed Copying s t place holds p kept
