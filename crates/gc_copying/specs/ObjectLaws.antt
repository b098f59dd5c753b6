-- Laws of the objects of a copying heap: their sizes, and the map of them.
use Rattle.std.proofs.Common.{◌≡◌, ℕ, ◌+◌, ◌-◌, ◌≤◌, cond, List, [], ◌∷◌, take, drop, length, map, Some, None, refl, sym, ap, subst, ◌∙◌, inl, inr, arith}
use Rattle.std.specs.Ordering.{nat_cmp}
use Rattle.std.specs.Cmp.{unsigned_tied, nat_cmp_total}
use Rattle.std.specs.FinMap as finite
use Rattle.std.proofs.lemmas.Bool.{cases_eq, ne_eqb}
use Rattle.std.proofs.lemmas.List.{length-take-le, length-drop}
use Rattle.gc_types.specs.declared.kind.Layouts.TheVariants.{Copying}
use Rattle.gc_types.specs.declared.kind.VMGcKind.{VMGcKind}
use Rattle.gc_types.specs.declared.kind.VMGcKind.TheVariants.{ExternRef, AnyRef, EqRef, StructRef, ArrayRef, ExnRef}
use Rattle.gc_memory.specs.Lists.{In, here, there, sum_over}
use Rattle.gc_memory.specs.Chains.{Chain, done, next}
use Rattle.gc_memory.proofs.ChainLemmas.{Chain-lies}
use Rattle.gc_view.specs.Heaps.{HeapObject}
use Rattle.gc_heap.specs.Objects.{size_with, held_size, first_offset, IsObjectKind}
use Rattle.gc_heap.specs.Content.{total}
use Rattle.gc_heap.specs.Totals.{total-empty, total-insert}
use Rattle.gc_copying.specs.Layout.{copying_size_at, copying_kind_at, copying_data_at, copying_object_at}
use Rattle.gc_copying.specs.Content.{objects_at, IsCopyingWhole}
use Rattle.gc_heap.specs.NullWalkLaws.{find_tied, some_is}

length-copying_part : (bytes : List ℕ) (lo n : ℕ) → lo + n ≤ length bytes → length (take n (drop lo bytes)) ≡ n
length-copying_part bytes lo n h = length-take-le n (drop lo bytes) (omega (arith, length-drop lo bytes))

pub length-copying_data_at : (bytes : List ℕ) (p : ℕ) (k : VMGcKind) → IsObjectKind k → first_offset Copying k ≤ copying_size_at bytes p
    → (k ≡ ExternRef → copying_size_at bytes p ≡ 32) → p + copying_size_at bytes p ≤ length bytes → size_with Copying k (length (copying_data_at bytes p k)) ≡ copying_size_at bytes p
unfolding copying_data_at
length-copying_data_at bytes p ExternRef ok least ext h = sym (ext refl)
length-copying_data_at bytes p AnyRef ok least ext h = absurd ok
length-copying_data_at bytes p EqRef ok least ext h = absurd ok
length-copying_data_at bytes p StructRef ok least ext h = omega (arith, length-copying_part bytes (p + 12) (copying_size_at bytes p - 12) (omega arith))
length-copying_data_at bytes p ArrayRef ok least ext h = omega (arith, length-copying_part bytes (p + 12) (copying_size_at bytes p - 12) (omega arith))
length-copying_data_at bytes p ExnRef ok least ext h = omega (arith, length-copying_part bytes (p + 12) (copying_size_at bytes p - 12) (omega arith))

-- an external object has 4 bytes of data
pub length-external : (bytes : List ℕ) (p : ℕ) → p + 20 ≤ length bytes → length (copying_data_at bytes p ExternRef) ≡ 4
unfolding copying_data_at
length-external bytes p h = length-copying_part bytes (p + 16) 4 (omega arith)

-- an object takes as many bytes as its size word says
pub held_size-copying : (bytes : List ℕ) (p : ℕ) → IsCopyingWhole bytes p → p + copying_size_at bytes p ≤ length bytes → held_size Copying (copying_object_at bytes p) ≡ copying_size_at bytes p
held_size-copying bytes p w h = length-copying_data_at bytes p (copying_kind_at bytes p) w.object_kind w.least (λ e. (w.external e).size) h

find_after : (q p : ℕ) (o : HeapObject) (es : List (ℕ × HeapObject)) → (q ≡ p → ⊥) → finite.find nat_cmp q ((p, o) ∷ es) ≡ finite.find nat_cmp q es
find_after q p o es ne = ap (λ b. cond b (Some o) (finite.find nat_cmp q es)) (unsigned_tied q p ∙ ne_eqb q p ne)

abbrev copied_entries : List ℕ → List ℕ → List (ℕ × HeapObject)
copied_entries bytes ps = map (λ (p : ℕ). (p, copying_object_at bytes p)) ps

-- what is found at one of the places
pub find_in : (bytes : List ℕ) (q : ℕ) (ps : List ℕ) → In q ps → finite.find nat_cmp q (copied_entries bytes ps) ≡ Some (copying_object_at bytes q)
find_in bytes q [] i = elim i [ ]
find_in bytes q (_ ∷ ps) here = find_tied q (copying_object_at bytes q) (copied_entries bytes ps)
find_in bytes q (p ∷ ps) (there i) = elim (cases_eq q p) [
  | inl e ↦ subst (λ k. finite.find nat_cmp q (copied_entries bytes (k ∷ ps)) ≡ Some (copying_object_at bytes q)) e (find_tied q (copying_object_at bytes q) (copied_entries bytes ps))
  | inr ne ↦ find_after q p (copying_object_at bytes p) (copied_entries bytes ps) ne ∙ find_in bytes q ps i
]

-- what is found at a place
pub record FoundAt (bytes : List ℕ) (ps : List ℕ) (q : ℕ) (o : HeapObject) : Type 0 where
  pub among : In q ps
  pub is : o ≡ copying_object_at bytes q

find_only : (bytes : List ℕ) (q : ℕ) (o : HeapObject) (ps : List ℕ) → finite.find nat_cmp q (copied_entries bytes ps) ≡ Some o → FoundAt bytes ps q o
find_only bytes q o [] e = absurd (cc)
find_only bytes q o (p ∷ ps) e = elim (cases_eq q p) [
  | inl is ↦
      let first : In q (p ∷ ps) = subst (λ k. In q (k ∷ ps)) is here in
      record { among = first; is = some_is _ _ (sym (find_in bytes q (p ∷ ps) first) ∙ e) }
  | inr ne ↦
      let rest = find_only bytes q o ps (sym (find_after q p (copying_object_at bytes p) (copied_entries bytes ps) ne) ∙ e) in
      record { among = there rest.among; is = rest.is }
]

find_none : (bytes : List ℕ) (q : ℕ) (ps : List ℕ) → (In q ps → ⊥) → finite.find nat_cmp q (copied_entries bytes ps) ≡ None
find_none bytes q [] none = refl
find_none bytes q (p ∷ ps) none =
    find_after q p (copying_object_at bytes p) (copied_entries bytes ps) (λ e. none (subst (λ k. In q (k ∷ ps)) e here))
    ∙ find_none bytes q ps (λ i. none (there i))

-- what is held is one of them
pub held_only : (bytes : List ℕ) (q : ℕ) (o : HeapObject) (ps : List ℕ) → finite.get (objects_at bytes ps) q ≡ Some o → FoundAt bytes ps q o
held_only bytes q o ps e = find_only bytes q o ps (sym (finite.get-from_entries nat_cmp_total (copied_entries bytes ps) q) ∙ e)

-- nothing is held elsewhere
pub held_none : (bytes : List ℕ) (q : ℕ) (ps : List ℕ) → (In q ps → ⊥) → finite.get (objects_at bytes ps) q ≡ None
held_none bytes q ps none = finite.get-from_entries nat_cmp_total (copied_entries bytes ps) q ∙ find_none bytes q ps none

-- an object of a chain is none of those behind it
pub not_behind : (size : ℕ → ℕ) (a e : ℕ) (ps : List ℕ) → 16 ≤ size a → Chain size (a + size a) e ps → In a ps → ⊥
not_behind size a e ps l c i = omega (arith, (Chain-lies size (a + size a) e a ps c i).from)

-- a sum over the objects is a sum over their places
pub total-objects_at : (f : HeapObject → ℕ) (bytes : List ℕ) (a e : ℕ) (ps : List ℕ) → Chain (copying_size_at bytes) a e ps
    → total f (objects_at bytes ps) ≡ sum_over (λ p. f (copying_object_at bytes p)) ps
total-objects_at f bytes a _ [] done = total-empty f
total-objects_at f bytes a e (_ ∷ ps) (next l w c) =
    let rest = total-objects_at f bytes (a + copying_size_at bytes a) e ps c in
    let none = held_none bytes a ps (not_behind (copying_size_at bytes) a e ps l c) in
    omega (arith, total-insert f (objects_at bytes ps) a (copying_object_at bytes a) none, rest)
