-- The increments of a collection of a heap of kind Counting.
use Rattle.std.proofs.Common.{◌≡◌, ℕ, ◌<◌, refl, subst}
use Rattle.gc_types.specs.declared.kind.Layouts.{Layouts}
use Rattle.gc_types.specs.declared.kind.Layouts.TheVariants.{Counting}
use Rattle.gc_heap.specs.Collection.{Start, Stepped}
use Rattle.gc_heap.specs.declared.collection.GcProgress.{GcProgress}
use Rattle.gc_heap.specs.declared.collection.GcProgress.TheVariants as progress

pub told : (k : Layouts) (s : Start) (n : ℕ) (r q : GcProgress) (goes ended : Type 0) → k ≡ Counting → r ≡ q → Stepped k s n r goes ended → Stepped Counting s n q goes ended
told k s n r q goes ended kind is t = subst (λ (p : GcProgress). Stepped Counting s n p goes ended) is (subst (λ (l : Layouts). Stepped l s n r goes ended) kind t)

-- an increment that isn't the last
pub goes_below : (k : Layouts) (s : Start) (n : ℕ) (r : GcProgress) (goes ended : Type 0) → k ≡ Counting → r ≡ progress.Continue → Stepped k s n r goes ended → (n < 3) × goes
goes_below k s n r goes ended kind is t = let u = told k s n r progress.Continue goes ended kind is t in (u.0 3 refl, u.1)
