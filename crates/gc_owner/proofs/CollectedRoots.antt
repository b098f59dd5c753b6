-- What a collection makes of the roots.
use Rattle.std.proofs.Common.{◌≡◌, ℕ, Bool, true, List, ◌++◌, length, take, drop, sym, ap, ◌∙◌, subst}
use Rattle.std.proofs.Math.Seq.{take-append_seam}
use Rattle.gc_types.specs.declared.kind.Layouts.{Layouts}
use Rattle.gc_types.specs.Declarations.{Declaration}
use Rattle.gc_roots.specs.Roots.{Root}
use Rattle.gc_view.specs.Heaps.{HeapView}
use Rattle.gc_heap.specs.Content.{IsHeap}
use Rattle.gc_heap.specs.Collection.{Collected}
use Rattle.gc_heap.proofs.AddedLemmas.{start}
use Rattle.gc_owner.specs.RootColumns.{RootsView, roots_of, moved_roots}
use Rattle.gc_owner.specs.Owners.{CollectsRoots}
use Rattle.gc_owner.specs.Tracing.{IsCollectable}
use Rattle.gc_owner.proofs.Begins.{memory_same, again, present_moved}
use Rattle.gc_owner.proofs.AllRoots.{all_moved}

-- a list that was written through a loan of all of it
pub refilled : {A : Type 0} (xs ys : List A) (n : ℕ) → length xs ≡ n → take n (xs ++ drop (length xs) ys) ≡ xs
refilled xs ys n is = ap (λ k. take k (xs ++ drop (length xs) ys)) (sym is) ∙ take-append_seam xs (drop (length xs) ys)

-- the same as `CollectsRoots`, with the heap where it began and the roots of the list by themselves
record CollectsTo (layouts : Layouts) (types : List Declaration) (begun new : HeapView) (r r' : RootsView) (roots' : List Root) (hosts hosts' : ℕ → Bool) : Type 0 where
  collected : Collected layouts (start begun (roots_of r) types hosts) new roots' hosts'
  moves : r' ≡ moved_roots collected.to r
  can : IsCollectable layouts types new roots' hosts'

pub collects_roots : (layouts : Layouts) (types : List Declaration) (old new : HeapView) (r r' : RootsView) (roots' : List Root) (hosts hosts' : ℕ → Bool) → IsHeap layouts old → old.attached ≡ true → IsHeap layouts new → IsCollectable layouts types old (roots_of r) hosts
    → (done : Collected layouts (start old (roots_of r) types hosts) new roots' hosts') → r' ≡ moved_roots done.to r → CollectsRoots layouts types old new r r' hosts hosts'
collects_roots layouts types old new r r' roots' hosts hosts' heap attached after can done moves =
    let keeps = present_moved layouts types old new (roots_of r) roots' hosts hosts' heap attached can done after in
    let same : roots' ≡ roots_of r' = done.roots_moved ∙ sym (all_moved done.to r keeps) ∙ ap roots_of (sym moves) in
    let first : CollectsTo layouts types old new r r' roots' hosts hosts' = record { collected = done; moves = moves; can = again layouts types old new (roots_of r) roots' hosts hosts' heap attached can done } in
    let whole = subst (λ h. CollectsTo layouts types h new r r' (roots_of r') hosts hosts') (sym (memory_same old attached)) (subst (λ rs. CollectsTo layouts types old new r r' rs hosts hosts') same first) in
    record { collected = whole.collected; moves = whole.moves; can = whole.can }
