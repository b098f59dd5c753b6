-- The objects of a copying heap: what is held at a place, and how many there are.
use Rattle.std.proofs.Common.{◌≡◌, ℕ, ◌+◌, List, [], ◌∷◌, length, map, Some, ◌∙◌, arith}
use Rattle.std.specs.Ordering.{nat_cmp}
use Rattle.std.specs.Cmp.{nat_cmp_total}
use Rattle.std.specs.FinMap as finite
use Rattle.gc_memory.specs.Lists.{In}
use Rattle.gc_memory.specs.Chains.{Chain, done, next}
use Rattle.gc_view.specs.Heaps.{HeapObject}
use Rattle.gc_heap.proofs.TotalLemmas.{len_with}
use Rattle.gc_copying.specs.Layout.{copying_size_at, copying_object_at}
use Rattle.gc_copying.specs.Content.{objects_at}
use Rattle.gc_copying.specs.ObjectLaws.{find_in, held_none, not_behind}

-- the object at one of the places
pub held_in : (bytes : List ℕ) (q : ℕ) (ps : List ℕ) → In q ps → finite.get (objects_at bytes ps) q ≡ Some (copying_object_at bytes q)
held_in bytes q ps i = finite.get-from_entries nat_cmp_total (map (λ (p : ℕ). (p, copying_object_at bytes p)) ps) q ∙ find_in bytes q ps i

-- as many objects as places
pub len-at : (bytes : List ℕ) (a e : ℕ) (ps : List ℕ) → Chain (copying_size_at bytes) a e ps → finite.len (objects_at bytes ps) ≡ length ps
len-at bytes a _ [] done = finite.len-empty nat_cmp HeapObject
len-at bytes a e (_ ∷ ps) (next l w c) =
    let rest = len-at bytes (a + copying_size_at bytes a) e ps c in
    let none = held_none bytes a ps (not_behind (copying_size_at bytes) a e ps l c) in
    omega (arith, len_with (objects_at bytes ps) a (copying_object_at bytes a) none, rest)
