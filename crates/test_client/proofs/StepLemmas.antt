-- What an increment leaves, by what it answers.
use Rattle.std.proofs.Common.{◌≡◌, ℕ, subst}
use Rattle.gc_types.specs.declared.kind.Layouts.{Layouts}
use Rattle.gc_heap.specs.Collection.{Start, Stepped}
use Rattle.gc_heap.specs.declared.collection.GcProgress.{GcProgress}
use Rattle.gc_heap.specs.declared.collection.GcProgress.TheVariants as progress

-- the collection goes on
pub goes : (layouts : Layouts) (s : Start) (done : ℕ) (answer : GcProgress) (A B : Type 0) → answer ≡ progress.Continue → Stepped layouts s done answer A B → A
goes layouts s done answer A B is stepped = (subst (λ (p : GcProgress). Stepped layouts s done p A B) is stepped).1

-- or it has ended
pub ended : (layouts : Layouts) (s : Start) (done : ℕ) (answer : GcProgress) (A B : Type 0) → answer ≡ progress.Complete → Stepped layouts s done answer A B → B
ended layouts s done answer A B is stepped = (subst (λ (p : GcProgress). Stepped layouts s done p A B) is stepped).1
