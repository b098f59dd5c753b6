-- A store whose heap is made holds the table whose heap is made.
use Rattle.std.proofs.Common.{◌≡◌, ℕ, ◌+◌, ◌*◌, [], Bool, true, false, cond, Some, length, sym, ap, ◌∙◌, refl, arith}
use Rattle.std.specs.List.{slice_get}
use Rattle.std.specs.Ordering.{nat_cmp}
use Rattle.std.specs.FinMap.{empty, get-empty}
use Rattle.std.proofs.lemmas.Option.{none-some}
use Rattle.gc_types.specs.declared.kind.Layouts.{Layouts}
use Rattle.gc_types.specs.declared.kind.Layouts.TheVariants.{Null, Counting, Copying}
use Rattle.gc_model.specs.Table.{Table, make_heap, with_pages}
use Rattle.gc_view.specs.Pages.{page}
use Rattle.gc_model.specs.Sizes.{next_after}
use Rattle.gc_view.specs.Heaps.{HeapView}
use Rattle.gc_model.specs.Stores.{StoreView}
use Rattle.gc_model.specs.Holds.{Placing, InternedIds, naming, Holds, KindHolds, ObjectsHold}
use Rattle.gc_model.proofs.HoldsParts.{objects-same, hosts-same, heap_changed}
use Rattle.gc_model.proofs.Hosts.{hosts-none}

-- a heap that was just made with so many pages
pub record IsMadeHeap (layouts : Layouts) (heap : HeapView) (pages : ℕ) : Type 0 where
  pub attached : heap.attached ≡ true
  pub content : heap.content ≡ empty
  pub capacity : heap.capacity ≡ page * pages
  pub allocated : layouts ≡ Null → heap.allocated ≡ 0

-- the store with another heap
abbrev pub with_heap : {D : Type 0} → HeapView → StoreView D → StoreView D
with_heap heap s = record s { heap = heap }

-- nothing is placed where there are no objects
pub nothing_placed : {D : Type 0} (layouts : Layouts) (t : Table D) (place : Placing) {ids : InternedIds} (heap : HeapView) → ObjectsHold layouts t (naming place ids) heap → t.objects ≡ [] → (position word : ℕ) → place position ≡ Some word → ⊥
nothing_placed layouts t place heap objects none position word e =
    let held = objects.placed position word e in
    none-some held.entry (sym (ap (λ os. slice_get os position) none) ∙ held.in_table)

made_by_kind : {D : Type 0} (layouts : Layouts) (t : Table D) (place : Placing) (heap : HeapView) (pages : ℕ) → t.objects ≡ [] → IsMadeHeap layouts heap pages → KindHolds layouts (make_heap t) place heap
made_by_kind Null t place heap pages none made = record {
  all_held = λ position within. absurd (omega (arith, ap length none));
  allocated = ap (λ n. n + 1) (made.allocated refl) ∙ sym (ap (next_after t.types 1) none);
}
made_by_kind Counting t place heap pages none made = tt
made_by_kind Copying t place heap pages none made = tt

pub holds_heap : {D : Type 0} (layouts : Layouts) (s : StoreView D) (t : Table D) (place : Placing) (heap : HeapView) → t.made ≡ false → IsMadeHeap layouts heap t.first → Holds layouts s t place → Holds layouts (with_heap heap s) (make_heap t) place
holds_heap layouts s t place heap unmade made holds =
    let none : t.objects ≡ [] = holds.memory.no_objects unmade in
    let nowhere = nothing_placed layouts t place s.heap holds.objects none in
    heap_changed holds
    (record {
      made = made.attached;
      capacity = made.capacity ∙ ap (λ (b : Bool). page * cond b t.pages t.first) (sym unmade);
      no_pages = λ h. absurd (cc);
      no_objects = λ h. none;
    })
    (record {
      placed = λ position word e. absurd (nowhere position word e);
      only = λ word object e. absurd (none-some object (sym (get-empty nat_cmp word) ∙ ap (λ (m : _). Rattle.std.specs.FinMap.get m word) (sym made.content) ∙ e));
      injective = λ p q word e f. absurd (nowhere p word e);
      even = λ word object e. absurd (none-some object (sym (get-empty nat_cmp word) ∙ ap (λ (m : _). Rattle.std.specs.FinMap.get m word) (sym made.content) ∙ e));
    })
    (made_by_kind layouts t place heap t.first none made)
    (hosts-none t.objects place place s.heap.content heap.content s.hosts none holds.hosts)
    holds.typed

-- a heap with the same objects and so many pages
pub record IsGrownHeap (layouts : Layouts) (old new : HeapView) (pages : ℕ) : Type 0 where
  pub attached : new.attached ≡ true
  pub content : new.content ≡ old.content
  pub capacity : new.capacity ≡ page * pages
  pub allocated : layouts ≡ Null → new.allocated ≡ old.allocated

grown_by_kind : {D : Type 0} (layouts : Layouts) (t : Table D) (place : Placing) (old new : HeapView) (pages : ℕ) → IsGrownHeap layouts old new pages → KindHolds layouts t place old → KindHolds layouts (with_pages pages t) place new
grown_by_kind Null t place old new pages grown holds = record {
  all_held = holds.all_held;
  allocated = ap (λ n. n + 1) (grown.allocated refl) ∙ holds.allocated;
}
grown_by_kind Counting t place old new pages grown holds = tt
grown_by_kind Copying t place old new pages grown holds = tt

-- a store holds the table with other pages, once its heap has as many
pub holds_pages : {D : Type 0} (layouts : Layouts) (s : StoreView D) (t : Table D) (place : Placing) (heap : HeapView) (pages : ℕ) → IsGrownHeap layouts s.heap heap pages → Holds layouts s t place → Holds layouts (with_heap heap s) (with_pages pages t) place
holds_pages layouts s t place heap pages grown holds =
    heap_changed holds
    (record { made = grown.attached; capacity = grown.capacity; no_pages = λ h. absurd (cc); no_objects = λ h. absurd (cc) })
    (objects-same layouts t place s.heap heap grown.content holds.objects)
    (grown_by_kind layouts t place s.heap heap pages grown holds.by_kind)
    (hosts-same t place s.heap heap s.hosts grown.content holds.hosts)
    holds.typed
