-- A new object may be given back.
use Rattle.std.proofs.Common.{◌≡◌, ℕ, inl, inr, Bool, true, false, Some, None, refl, sym, ap, ◌∙◌, arith}
use Rattle.std.specs.FinMap.{get, insert, gets}
use Rattle.std.specs.FinSet as finset
use Rattle.std.specs.Ordering.{nat_cmp}
use Rattle.std.proofs.lemmas.Grind.{common_steps}
use Rattle.std.proofs.lemmas.Option.{none-some}
use Rattle.gc_types.specs.declared.kind.Layouts.{Layouts}
use Rattle.gc_types.specs.declared.kind.Layouts.TheVariants.{Null, Counting, Copying}
use Rattle.gc_types.specs.declared.kind.VMGcKind.{VMGcKind}
use Rattle.gc_view.specs.Heaps.{HeapObject, HeapView, no_counts}
use Rattle.gc_view.proofs.Content.{get-put_same}
use Rattle.gc_heap.specs.Content.{IsHeld, IsHeap}
use Rattle.gc_heap.specs.Heap.{AddsObject, CanGiveBack, IsStructOrExn, exn_or_struct}

-- nothing is shown where nothing is counted
none_shown : (place : ℕ) → finset.contains no_counts.shown place ≡ false
none_shown place = finset.contains-empty nat_cmp place

none_counted : (place n : ℕ) → get no_counts.counted place ≡ Some n → ⊥
none_counted place n is = grind (arith, common_steps, gets)

-- nor what no place holds
not_held : (h : HeapView) (place : ℕ) (b : Bool) → get h.content place ≡ None → (b ≡ true → IsHeld h place) → b ≡ false
not_held h place true free held = let o = held refl in absurd (none-some o.0 (sym free ∙ o.1))
not_held h place false free held = refl

module _ (old new : HeapView) (place size : ℕ) (o : HeapObject) (K : VMGcKind → Type 0) (kind : K o.kind) where
  -- a heap that tells no counts
  uncounted : new.content ≡ insert old.content place o → new.counts ≡ no_counts → CanGiveBack new place K
  uncounted content counts = record {
    object = o;
    held = ap (λ m. get m place) content ∙ get-put_same old.content place o;
    kind = kind;
    one_name = λ n is. absurd (none_counted place n (ap (λ c. get c.counted place) (sym counts) ∙ is));
    not_shown = ap (λ c. finset.contains c.shown place) counts ∙ none_shown place;
    not_queued = ap (λ c. finset.contains c.queued place) counts ∙ none_shown place;
  }

  counted : IsHeap Counting old → AddsObject Counting old new place o size → CanGiveBack new place K
  counted heap added = record {
    object = o;
    held = ap (λ (h : HeapView). get h.content place) added.added ∙ get-put_same old.content place o;
    kind = kind;
    one_name = λ n is. let one : get (insert old.counts.counted place 1) place ≡ Some n = ap (λ (h : HeapView). get h.counts.counted place) (sym added.added) ∙ is in grind (arith, common_steps, gets);
    not_shown = ap (λ (h : HeapView). finset.contains h.counts.shown place) added.added ∙ not_held old place (finset.contains old.counts.shown place) added.fresh.free (heap.by_kind.0.shown place);
    not_queued = ap (λ (h : HeapView). finset.contains h.counts.queued place) added.added ∙ not_held old place (finset.contains old.counts.queued place) added.fresh.free (heap.by_kind.0.queued place);
  }

-- a new object is named by its maker's word alone
pub can_give_back : (layouts : Layouts) (old new : HeapView) (place size : ℕ) (o : HeapObject) (K : VMGcKind → Type 0) → K o.kind → IsHeap layouts old → AddsObject layouts old new place o size → CanGiveBack new place K
can_give_back Null old new place size o K kind heap added = uncounted old new place size o K kind (ap (λ (h : HeapView). h.content) added.added) (ap (λ (h : HeapView). h.counts) added.added ∙ heap.by_kind.0)
can_give_back Counting old new place size o K kind heap added = counted old new place size o K kind heap added
can_give_back Copying old new place size o K kind heap added = uncounted old new place size o K kind (ap (λ (h : HeapView). h.content) added.added) (ap (λ (h : HeapView). h.counts) added.added ∙ heap.by_kind.counts)

pub struct_or_exn : (is_exception : Bool) → IsStructOrExn (exn_or_struct is_exception)
struct_or_exn true = inr refl
struct_or_exn false = inl refl
