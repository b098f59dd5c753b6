-- What is known of a heap after an allocation.
use Rattle.std.proofs.Common.{◌≡◌, ℕ, ◌+◌, ◌-◌, ◌≤◌, Bool, true, false, sym, ap, subst, ◌∙◌, arith}
use Rattle.std.specs.FinMap as finite
use Rattle.std.proofs.lemmas.List.{length-replicate}
use Rattle.gc_types.specs.declared.kind.Layouts.{Layouts}
use Rattle.gc_types.specs.declared.kind.Layouts.TheVariants.{Null}
use Rattle.gc_view.specs.Heaps.{HeapView}
use Rattle.gc_view.proofs.Content.{get-put_same}
use Rattle.gc_heap.specs.Objects.{zeroed}
use Rattle.gc_heap.specs.Heap.{AddsObject, IsWritable, exn_or_struct}

-- a range behind the header of a new struct or exception of a null heap may be written
new_writable_null : (old new : HeapView) (place ty spare : ℕ) (is_exception : Bool) (size offset count : ℕ)
    → AddsObject Null old new place (zeroed Null (exn_or_struct is_exception) ty spare size) size → 8 ≤ offset → offset + count ≤ size
    → IsWritable Null new place offset count
new_writable_null old new place ty spare false size offset count a from to = record {
  object = zeroed Null (exn_or_struct false) ty spare size;
  held = ap (λ (h : HeapView). finite.get h.content place) a.added ∙ get-put_same old.content place (zeroed Null (exn_or_struct false) ty spare size);
  from = from;
  to = omega (arith, length-replicate {A = ℕ} (size - 8) 0);
}
new_writable_null old new place ty spare true size offset count a from to = record {
  object = zeroed Null (exn_or_struct true) ty spare size;
  held = ap (λ (h : HeapView). finite.get h.content place) a.added ∙ get-put_same old.content place (zeroed Null (exn_or_struct true) ty spare size);
  from = from;
  to = omega (arith, length-replicate {A = ℕ} (size - 8) 0);
}

pub new_writable : (layouts : Layouts) → layouts ≡ Null → (old new : HeapView) (place ty : ℕ) (spare : Layouts → ℕ) (is_exception : Bool) (size offset count : ℕ)
    → AddsObject layouts old new place (zeroed layouts (exn_or_struct is_exception) ty (spare layouts) size) size → 8 ≤ offset → offset + count ≤ size
    → IsWritable layouts new place offset count
new_writable layouts is old new place ty spare is_exception size offset count =
    subst (λ (l : Layouts). AddsObject l old new place (zeroed l (exn_or_struct is_exception) ty (spare l) size) size → 8 ≤ offset → offset + count ≤ size → IsWritable l new place offset count)
    (sym is) (new_writable_null old new place ty (spare Null) is_exception size offset count)
