-- What one try of an allocation answers and leaves.
use Rattle.std.specs.Prelude.{◌≡◌, ℕ, Bool, List, Some, Result, Ok, Err, length}
use Rattle.gc_types.specs.declared.kind.Layouts.{Layouts}
use Rattle.gc_types.specs.Declarations.{Declaration}
use Rattle.gc_types.specs.Layouts.{layout_at, array_layout_at}
use Rattle.gc_view.specs.Sizes.{IsTooLarge, external_size}
use Rattle.gc_view.specs.Heaps.{HeapObject}
use Rattle.gc_heap.specs.Objects.{external}
use Rattle.gc_heap.specs.Heap.{LacksRoom, new_struct, new_array, array_size}
use Rattle.gc_heap.specs.declared.fault.HeapFault.{HeapFault}
use Rattle.gc_heap.specs.declared.fault.HeapFault.TheVariants as heap_fault
use Rattle.gc_owner.specs.declared.allocate.Description.{Description}
use Rattle.gc_owner.specs.declared.allocate.Description.TheVariants as of
use Rattle.gc_owner.specs.declared.allocate.AllocateFault.{AllocateFault}
use Rattle.gc_owner.specs.declared.allocate.AllocateFault.TheVariants as fault
use Rattle.gc_owner.specs.RootColumns.{RootsView, with_scoped}
use Rattle.gc_owner.specs.Owners.{OwnerView}
use Rattle.gc_owner.specs.Growing.{collects_first}
use Rattle.gc_owner.specs.Makes.{Describes, AddsScoped}

-- a description tells that object, of so many bytes, where its type is declared
abbrev pub DescribesDeclared : Layouts → List Declaration → Description → HeapObject → ℕ → Type 0
DescribesDeclared layouts types (of.Object ty layout) o size =
    (layout_at layouts types ty ≡ Some layout.now) × ((o ≡ new_struct layouts ty layout.now) × (size ≡ layout.now.size))
DescribesDeclared layouts types (of.Array ty count layout) o size =
    (array_layout_at layouts types ty ≡ Some layout.now) × ((o ≡ new_array layouts ty count layout.now) × (size ≡ array_size layout.now count))
DescribesDeclared layouts types (of.External id) o size = (o ≡ external id) × (size ≡ external_size layouts)

-- the answer of an allocation in the heap becomes that of the owner's: the object has a new scoped root, which
-- is the last one, or there is none
abbrev pub GetsRoot : Result (Result ℕ ℕ) HeapFault → RootsView → RootsView → Result ℕ AllocateFault → Type 0
GetsRoot (Ok (Ok word)) old new result = (new ≡ with_scoped word old) × (result ≡ Ok (length old.scoped))
GetsRoot (Ok (Err need)) old new result = (new ≡ old) × (result ≡ Err (fault.HeapOutOfMemory need))
GetsRoot (Err heap_fault.TooLarge) old new result = (new ≡ old) × (result ≡ Err fault.TooLarge)
GetsRoot (Err heap_fault.Memory) old new result = (new ≡ old) × (result ≡ Err fault.Memory)

-- what one try to allocate an object of so many bytes answers and leaves
abbrev pub Tries : {D : Type 0} → Layouts → HeapObject → ℕ → OwnerView D → OwnerView D → Result ℕ AllocateFault → Type 0
Tries layouts o size old new (Ok index) = AddsScoped layouts old new o size index
Tries layouts o size old new (Err fault.TooLarge) = IsTooLarge layouts size × (new ≡ old)
Tries layouts o size old new (Err (fault.HeapOutOfMemory need)) = LacksRoom layouts old.heap new.heap need size × (new ≡ old)
Tries layouts o size old new (Err fault.Memory) = new ≡ old

-- There is no room for what is described, which would take a growth by so many bytes; and it is known whether a
-- collection comes before that.
pub record Lacks {D : Type 0} (layouts : Layouts) (v : OwnerView D) (d : Description) (need : ℕ) (first : Bool) : Type 0 where
  pub lacks : (o : HeapObject) (size : ℕ) → Describes layouts v d o size → LacksRoom layouts v.heap v.heap need size
  pub rule : collects_first need v.heap.capacity v.last ≡ first
