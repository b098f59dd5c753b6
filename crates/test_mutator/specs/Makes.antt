-- What making an object answers and leaves.
use Rattle.std.specs.Prelude.{◌≡◌, ◌≢◌, ℕ, ◌<◌, ◌≤◌, ◌⊎◌, ◌∷◌, [], ◌++◌, false, List, Result, Ok, Err, Some, None, length}
use Rattle.std.specs.FinMap.{get, insert, len}
use Rattle.gc_types.specs.declared.kind.Layouts.{Layouts}
use Rattle.gc_types.specs.declared.layout.GcStructLayout.{GcStructLayout}
use Rattle.gc_types.specs.declared.layout.GcArrayLayout.{GcArrayLayout}
use Rattle.gc_types.specs.Layouts.{layout_at, array_layout_at}
use Rattle.gc_roots.specs.Roots.{Root, root}
use Rattle.gc_memory.specs.Offsets.{external_size}
use Rattle.gc_view.specs.Sizes.{need_of}
use Rattle.gc_view.specs.Heaps.{HeapObject}
use Rattle.gc_heap.specs.Objects.{external}
use Rattle.gc_heap.specs.Heap.{AddsObject, HasRoom, IsTooLarge, new_struct, new_array, array_size}
use Rattle.gc_heap.specs.declared.fault.HeapFault.{HeapFault}
use Rattle.gc_heap.specs.declared.fault.HeapFault.TheVariants as heap_fault
use Rattle.gc_tables.specs.SideTables.{max_entries}
use Rattle.test_mutator.specs.Mutators.{MutatorView, max_roots, with_root}
use Rattle.test_mutator.specs.declared.fault.MutatorFault.{MutatorFault}
use Rattle.test_mutator.specs.declared.fault.MutatorFault.TheVariants as fault

-- the answer of an allocation becomes that of a mutator's call: the object has a new root, which is the
-- last one, or there is none
abbrev pub RootsMade : Result (Result ℕ ℕ) HeapFault → List Root → List Root → Result ℕ MutatorFault → Type 0
RootsMade (Ok (Ok place)) old new result = (new ≡ old ++ root 0 false place ∷ []) × (result ≡ Ok (length old))
RootsMade (Ok (Err need)) old new result = (new ≡ old) × (result ≡ Err (fault.NoRoom need))
RootsMade (Err heap_fault.TooLarge) old new result = (new ≡ old) × (result ≡ Err fault.TooLarge)
RootsMade (Err heap_fault.Memory) old new result = (new ≡ old) × (result ≡ Err fault.Memory)

-- An object was added, with a root of its own.
pub record AddsRooted (layouts : Layouts) (old new : MutatorView) (object : HeapObject) (size index : ℕ) : Type 0 where
  pub place : ℕ
  pub added : AddsObject layouts old.heap new.heap place object size
  pub rooted : new ≡ record (with_root old new.heap false place) { hosts = new.hosts }
  pub index_is : index ≡ length old.roots

-- Why an object of that size isn't made, where its type is declared, in the order of the tests. But for
-- want of memory each cause excludes the others and an Ok.
abbrev pub RefusesMaking : Layouts → MutatorView → ℕ → MutatorFault → Type 0
RefusesMaking layouts m size fault.Full = max_roots ≤ length m.roots
RefusesMaking layouts m size fault.TooLarge = (length m.roots < max_roots) × IsTooLarge layouts size
RefusesMaking layouts m size (fault.NoRoom need) =
    (length m.roots < max_roots) × (IsTooLarge layouts size → ⊥) × (HasRoom layouts m.heap size → ⊥) × (need ≡ need_of layouts size)
RefusesMaking layouts m size fault.Memory = length m.roots < max_roots
RefusesMaking layouts m size _ = ⊥

-- what making an object of that size answers and leaves
abbrev pub MakesHeapObject : Layouts → MutatorView → MutatorView → HeapObject → ℕ → Result ℕ MutatorFault → Type 0
MakesHeapObject layouts old new object size (Ok index) =
    AddsRooted layouts old new object size index × (new.hosts ≡ old.hosts) × (length old.roots < max_roots)
MakesHeapObject layouts old new object size (Err why) = RefusesMaking layouts old size why × (new ≡ old)

-- the same of a struct or an exception of a declared type, and of an array
abbrev pub MakesStruct : Layouts → MutatorView → MutatorView → ℕ → Result ℕ MutatorFault → Type 0
MakesStruct layouts old new ty result =
    (layout : GcStructLayout) → layout_at layouts old.types ty ≡ Some layout → MakesHeapObject layouts old new (new_struct layouts ty layout) layout.size result

abbrev pub MakesArray : Layouts → MutatorView → MutatorView → ℕ → ℕ → Result ℕ MutatorFault → Type 0
MakesArray layouts old new ty count result =
    (layout : GcArrayLayout) → array_layout_at layouts old.types ty ≡ Some layout → MakesHeapObject layouts old new (new_array layouts ty count layout) (array_size layout count) result

-- an external object was added with a root and a new host value of its own, whose id no value had
pub record AddsExternal (layouts : Layouts) (old new : MutatorView) (value index : ℕ) : Type 0 where
  pub id : ℕ
  pub added : AddsRooted layouts old new (external id) (external_size layouts) index
  pub fresh : get old.hosts id ≡ None
  pub hosts : new.hosts ≡ insert old.hosts id value

-- Why an external object isn't made: there are too many roots or host values, or it is refused as other
-- objects are.
abbrev pub RefusesHost : Layouts → MutatorView → MutatorFault → Type 0
RefusesHost layouts m fault.Full = (max_roots ≤ length m.roots) ⊎ (len m.hosts ≡ max_entries)
RefusesHost layouts m fault.Memory = RefusesMaking layouts m (external_size layouts) fault.Memory
RefusesHost layouts m why = (len m.hosts ≢ max_entries) × RefusesMaking layouts m (external_size layouts) why

-- what making an external object answers and leaves
abbrev pub MakesExternal : Layouts → MutatorView → MutatorView → ℕ → Result ℕ MutatorFault → Type 0
MakesExternal layouts old new value (Ok index) =
    AddsExternal layouts old new value index × (length old.roots < max_roots) × (len old.hosts ≢ max_entries)
MakesExternal layouts old new value (Err why) = RefusesHost layouts old why × (new ≡ old)
