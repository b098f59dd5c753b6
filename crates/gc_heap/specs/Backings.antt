-- Where a heap has its memory, and what becomes of that.
use Rattle.std.specs.Prelude.{List, ℕ, ◌≡◌}
use Rattle.gc_heap.specs.declared.backing.Backing.{Backing}
use Rattle.gc_heap.specs.declared.backing.Backing.TheVariants as backing

-- the memory is attached
abbrev pub IsAttached : {S M : Type 0} → Backing S M → Type 0
IsAttached backing.Detached = ⊥
IsAttached (backing.Attached s) = Unit {0}
IsAttached (backing.Taken m) = ⊥

-- these are the bytes of the memory that was attached
abbrev pub GivesAway : {S M : Type 0} → (S → List ℕ) → Backing S M → List ℕ → Type 0
GivesAway memory backing.Detached bytes = ⊥
GivesAway memory (backing.Attached s) bytes = bytes ≡ memory s
GivesAway memory (backing.Taken m) bytes = ⊥

-- the memory that was attached was handed out, and its marks stay
abbrev pub TakesOut : {S M : Type 0} → (S → List ℕ) → (S → M) → Backing S M → Backing S M → List ℕ → Type 0
TakesOut memory marks backing.Detached after bytes = ⊥
TakesOut memory marks (backing.Attached s) after bytes = (bytes ≡ memory s) × (after ≡ backing.Taken (marks s))
TakesOut memory marks (backing.Taken m) after bytes = ⊥

-- how many objects lie in the memory; none where it isn't attached
abbrev pub objects_in : {S M : Type 0} → (S → ℕ) → Backing S M → ℕ
objects_in objects backing.Detached = 0
objects_in objects (backing.Attached s) = objects s
objects_in objects (backing.Taken m) = 0
