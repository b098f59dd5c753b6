-- A heap's content after an object was put at a place.
use Rattle.std.proofs.Common.{◌≡◌, ◌≢◌, ℕ, Some, arith}
use Rattle.std.specs.Ordering.{nat_cmp}
use Rattle.std.specs.FinMap.{gets, FinMap, get, insert}
use Rattle.std.proofs.lemmas.Grind.{common_steps}
use Rattle.gc_view.specs.Heaps.{HeapObject}

-- the object that was put there is there
pub get-put_same : (m : FinMap nat_cmp HeapObject) (k : ℕ) (v : HeapObject) → get (insert m k v) k ≡ Some v
get-put_same m k v = grind (arith, common_steps, gets)

-- every other place is as it was
pub get-put_other : (m : FinMap nat_cmp HeapObject) (k q : ℕ) (v : HeapObject) → q ≢ k → get (insert m k v) q ≡ get m q
get-put_other m k q v ne = grind (arith, common_steps, gets)
