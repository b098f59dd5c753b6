-- What the header of a held object tells, and what stands in front of its slots.
use Rattle.std.proofs.Common.{◌≡◌, ℕ, ◌+◌, ◌≤◌, length, Some, Result, Ok, Err, refl, sym, ap, ◌∙◌, subst, arith}
use Rattle.std.specs.Prelude.{IsOk, IsOkAnd}
use Rattle.std.specs.FinMap.{get}
use Rattle.std.proofs.lemmas.Option.{same_Some}
use Rattle.gc_types.specs.declared.kind.Layouts.{Layouts}
use Rattle.gc_types.specs.declared.kind.Layouts.TheVariants.{Null, Counting, Copying}
use Rattle.gc_types.specs.declared.kind.VMGcKind.{VMGcKind}
use Rattle.gc_types.specs.declared.kind.VMGcKind.TheVariants.{ExnRef}
use Rattle.gc_types.specs.Layouts.{struct_base, exception_base}
use Rattle.gc_view.specs.Heaps.{HeapObject, HeapView}
use Rattle.gc_heap.specs.Access.{IsReadable}
use Rattle.gc_heap.specs.Content.{IsHeap}
use Rattle.gc_heap.specs.Extents.{HasFields, first_offset, data_offset, size_with}

-- an answer that is right is there
pub ok_there : {A E : Type 0} (r : Result A E) (P : A → Type 0) → IsOkAnd r P → IsOk r
ok_there (Ok x) P is = refl
ok_there (Err e) P is = absurd is

pub ok_value : {A E : Type 0} (r : Result A E) (x : A) (P : A → Type 0) → IsOkAnd r P → r ≡ Ok x → P x
ok_value (Ok y) x P is e = let same : y ≡ x = cc in subst P same is
ok_value (Err f) x P is e = absurd is

-- one object is held at a place
pub one_held : (h : HeapView) (place : ℕ) (o p : HeapObject) → get h.content place ≡ Some o → get h.content place ≡ Some p → o ≡ p
one_held h place o p first second = same_Some o p (sym first ∙ second)

tag_bases : (layouts : Layouts) → struct_base layouts + 8 ≡ exception_base layouts
tag_bases Null = refl
tag_bases Counting = refl
tag_bases Copying = refl

-- the words of an exception's tag may be read
pub tag_readable : (layouts : Layouts) (h : HeapView) (place : ℕ) (o : HeapObject) (offset : ℕ) → IsHeap layouts h → get h.content place ≡ Some o → o.kind ≡ ExnRef → struct_base layouts ≤ offset → offset + 4 ≤ struct_base layouts + 8 → IsReadable layouts h place offset 4
tag_readable layouts h place o offset heap held kind low high =
    let whole = subst (λ (k : VMGcKind). first_offset layouts k ≤ data_offset layouts k + length o.bytes) kind (heap.objects place o held).whole in
    record {
      object = o;
      held = held;
      has_fields = subst HasFields (sym kind) tt;
      from = low;
      to = omega (arith, high, whole, tag_bases layouts, ap (λ (k : VMGcKind). size_with layouts k (length o.bytes)) kind);
    }
