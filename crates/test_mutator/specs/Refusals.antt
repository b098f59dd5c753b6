-- Why calls of a mutator do nothing, in the order of their tests (of objects that aren't made, see
-- `Makes`). The causes exclude each other and an Ok, so that each answer comes exactly where its cause is
-- true; only want of memory may come wherever its cause is true, in place of an Ok or of what is tested
-- after it.
use Rattle.std.specs.Prelude.{◌≡◌, ℕ, ◌+◌, ◌*◌, ◌<◌, ◌≤◌, ◌⊎◌, true, false, List, Option, Some, None, length}
use Rattle.gc_types.specs.declared.kind.Layouts.{Layouts}
use Rattle.gc_roots.specs.Roots.{Root}
use Rattle.gc_view.specs.Pages.{page, max_pages}
use Rattle.gc_view.specs.Heaps.{HeapObject}
use Rattle.test_mutator.specs.Mutators.{MutatorView, max_roots, NamesObject, NamesSuch}
use Rattle.test_mutator.specs.Fields.{HasReference}
use Rattle.test_mutator.specs.declared.fault.MutatorFault.{MutatorFault}
use Rattle.test_mutator.specs.declared.fault.MutatorFault.TheVariants as fault

-- why a root isn't added
abbrev pub RefusesRoot : List Root → MutatorFault → Type 0
RefusesRoot roots fault.Full = max_roots ≤ length roots
RefusesRoot roots fault.Memory = length roots < max_roots
RefusesRoot roots _ = ⊥

-- a root stands and may be copied
abbrev pub CanCopy : List Root → ℕ → Type 0
CanCopy roots index = (index < length roots) × (length roots < max_roots)

-- why a root isn't copied
abbrev pub RefusesCopy : List Root → ℕ → MutatorFault → Type 0
RefusesCopy roots index fault.NoRoot = length roots ≤ index
RefusesCopy roots index why = (index < length roots) × RefusesRoot roots why

-- null may be written to a field, and a root that may be copied
abbrev pub CanBeSource : MutatorView → Option ℕ → Type 0
CanBeSource m None = Unit {0}
CanBeSource m (Some index) = CanCopy m.roots index

-- why a root isn't written to a field, which takes no memory
abbrev pub RefusesSource : MutatorView → Option ℕ → MutatorFault → Type 0
RefusesSource m (Some index) fault.NoRoot = RefusesCopy m.roots index fault.NoRoot
RefusesSource m (Some index) fault.Full = RefusesCopy m.roots index fault.Full
RefusesSource m source _ = ⊥

-- why nothing is done with the object that a root names: there is none, or it isn't such
abbrev pub RefusesObject : MutatorView → ℕ → (HeapObject → Type 0) → MutatorFault → Type 0
RefusesObject m index is_such fault.NoRoot = ¬ NamesObject m index
RefusesObject m index is_such fault.NoField = NamesSuch m index (λ o. ¬ is_such o)
RefusesObject m index is_such _ = ⊥

-- why a reference isn't written
abbrev pub RefusesReference : Layouts → MutatorView → ℕ → ℕ → Option ℕ → MutatorFault → Type 0
RefusesReference layouts m holder offset source fault.NoRoot =
    (¬ NamesObject m holder) ⊎ RefusesSource m source fault.NoRoot
RefusesReference layouts m holder offset source fault.NoField =
    CanBeSource m source × NamesSuch m holder (λ o. ¬ HasReference layouts m.types o offset)
RefusesReference layouts m holder offset source why = NamesObject m holder × RefusesSource m source why

-- the memory may grow by so many pages
abbrev pub CanGrow : MutatorView → ℕ → Type 0
CanGrow m pages = (m.heap.needs_gc ≡ false) × (m.heap.capacity + page * pages ≤ page * max_pages)

-- why the memory doesn't grow
abbrev pub RefusesGrowth : MutatorView → ℕ → MutatorFault → Type 0
RefusesGrowth m pages fault.CollectFirst = m.heap.needs_gc ≡ true
RefusesGrowth m pages fault.Full = (m.heap.needs_gc ≡ false) × (page * max_pages < m.heap.capacity + page * pages)
RefusesGrowth m pages fault.Memory = CanGrow m pages
RefusesGrowth m pages _ = ⊥
