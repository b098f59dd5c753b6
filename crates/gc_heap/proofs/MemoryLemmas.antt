-- What a heap with no memory holds: nothing; and where no heap holds anything.
use Rattle.std.proofs.Common.{◌≡◌, ℕ, ◌%◌, Some, sym, ap, ◌∙◌, arith}
use Rattle.std.specs.Ordering.{nat_cmp}
use Rattle.std.specs.FinMap as finite
use Rattle.gc_types.specs.declared.kind.Layouts.{Layouts}
use Rattle.gc_view.specs.Heaps.{HeapObject, HeapView, detached_in}
use Rattle.gc_heap.specs.Content.{IsHeap}

nothing_in : (X : Type 0) (q : ℕ) (x : X) → finite.get (finite.empty {X = X} {R = nat_cmp}) q ≡ Some x → ⊥
nothing_in X q x e = cc (finite.get-empty nat_cmp q)

pub nothing_held : (h : HeapView) (q : ℕ) (o : HeapObject) → h ≡ detached_in h.scopes → finite.get h.content q ≡ Some o → ⊥
nothing_held h q o none held = nothing_in HeapObject q o (sym (ap (λ (v : HeapView). finite.get v.content q) none) ∙ held)

pub nothing_counted : (h : HeapView) (q n : ℕ) → h ≡ detached_in h.scopes → finite.get h.counts.counted q ≡ Some n → ⊥
nothing_counted h q n none counted = nothing_in ℕ q n (sym (ap (λ (v : HeapView). finite.get v.counts.counted q) none) ∙ counted)

-- no object is named by a number
pub held_even : (layouts : Layouts) (h : HeapView) (q : ℕ) (o : HeapObject) → IsHeap layouts h → finite.get h.content q ≡ Some o → q % 2 ≡ 1 → ⊥
held_even layouts h q o heap held odd = let lies = heap.objects q o held in omega (arith, lies.aligned)
