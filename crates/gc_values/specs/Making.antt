-- What making an object of an owner answers and leaves.
use Rattle.std.specs.Prelude.{◌≡◌, ◌⊎◌, ℕ, Bool, true, false, List, Option, Some, None, Result, Ok, Err}
use Rattle.gc_types.specs.declared.kind.Layouts.{Layouts}
use Rattle.gc_types.specs.declared.layout.GcArrayLayout.{GcArrayLayout}
use Rattle.gc_types.specs.declared.layout.GcStructLayout.{GcStructLayout}
use Rattle.gc_types.specs.Declarations.{Declaration, Shape, shape_at}
use Rattle.gc_types.specs.Layouts.{layout_at, array_layout_at}
use Rattle.gc_view.specs.Sizes.{IsTooLarge, too_large, need_of}
use Rattle.gc_view.specs.Heaps.{HeapObject}
use Rattle.gc_heap.specs.Heap.{array_size}
use Rattle.gc_owner.specs.declared.allocate.Description.{Description}
use Rattle.gc_owner.specs.declared.allocate.Description.TheVariants as of
use Rattle.gc_owner.specs.Growing.{OwnerState, BeginsHeap, NotBegun, owner_rules}
use Rattle.gc_owner.specs.Makes.{AllocatesRooted, LacksSpace}
use Rattle.gc_owner.specs.Retry.{Paused}
use Rattle.gc_model.specs.Shown.{DuesOwner}
use Rattle.gc_values.specs.declared.request.Place.{Place}
use Rattle.gc_values.specs.declared.request.Place.TheVariants as place
use Rattle.gc_values.specs.declared.faults.PlaceFault.{PlaceFault}
use Rattle.gc_values.specs.declared.faults.PlaceFault.TheVariants as fault
use Rattle.gc_values.specs.Filling.{asked_type}

-- an object of that request, whose type is declared, is made by that description
abbrev pub IsDescribedBy : Layouts → List Declaration → Place → Description → Type 0
IsDescribedBy layouts types (place.Struct ty) (of.Object named layout) = (named ≡ ty) × (layout_at layouts types ty ≡ Some layout.now)
IsDescribedBy layouts types (place.Exn ty tag) (of.Object named layout) = (named ≡ ty) × (layout_at layouts types ty ≡ Some layout.now)
IsDescribedBy layouts types (place.Array ty count) (of.Array named length layout) =
    (named ≡ ty) × ((length ≡ count) × (array_layout_at layouts types ty ≡ Some layout.now))
IsDescribedBy layouts types _ _ = ⊥

-- what is described is of a declared type
abbrev pub IsOfTypes : Description → Type 0
IsOfTypes (of.Object ty layout) = Unit {0}
IsOfTypes (of.Array ty count layout) = Unit {0}
IsOfTypes (of.External id) = ⊥

-- the bytes of an object of that request, whose type is declared
abbrev pub IsSizeOf : Layouts → List Declaration → Place → ℕ → Type 0
IsSizeOf layouts types (place.Struct ty) size = (layout : GcStructLayout) × ((layout_at layouts types ty ≡ Some layout) × (size ≡ layout.size))
IsSizeOf layouts types (place.Exn ty tag) size = (layout : GcStructLayout) × ((layout_at layouts types ty ≡ Some layout) × (size ≡ layout.size))
IsSizeOf layouts types (place.Array ty count) size = (layout : GcArrayLayout)
    × ((array_layout_at layouts types ty ≡ Some layout) × (size ≡ array_size layout count))

-- and that is the type's shape
abbrev pub IsSizeBy : Layouts → List Declaration → Place → Shape → ℕ → Type 0
IsSizeBy layouts types request shape size = (shape_at types (asked_type request) ≡ Some shape) × IsSizeOf layouts types request size

-- the size is told where some heap of the kind can hold an object that large
abbrev pub TellsSize : Layouts → ℕ → Option ℕ → Type 0
TellsSize layouts size (Some told) = (told ≡ size) × (too_large layouts size ≡ false)
TellsSize layouts size None = too_large layouts size ≡ true

-- what allocating an object of an owner answers and leaves
abbrev pub AllocatesObject : {D : Type 0} → Layouts → HeapObject → ℕ → OwnerState D → OwnerState D → Result ℕ PlaceFault → Type 0
AllocatesObject layouts o size s e (Ok index) = AllocatesRooted layouts o size s e index
AllocatesObject layouts o size s e (Err fault.FuncTableFull) = ⊥
AllocatesObject layouts o size s e (Err fault.ContTableFull) = ⊥
AllocatesObject layouts o size s e (Err fault.TooLarge) = IsTooLarge layouts size
AllocatesObject layouts o size s e (Err fault.RootsFull) = ⊥
AllocatesObject layouts o size s e (Err (fault.HeapOutOfMemory f)) = LacksSpace layouts size s e f.bytes_needed
AllocatesObject layouts o size s e (Err fault.Memory) = Paused (owner_rules layouts size) s e

-- the heap was made, and a collection ran where one is due
pub record BeginsMaking {D : Type 0} (layouts : Layouts) (first : ℕ) (due : Bool) (s e : OwnerState D) : Type 0 where
  pub made : OwnerState D
  pub begins : BeginsHeap layouts first s made
  pub dues : DuesOwner layouts due made e

-- what making a heap and an object in it answers and leaves
abbrev pub MakesRooted : {D : Type 0} → Layouts → HeapObject → ℕ → ℕ → Bool → OwnerState D → OwnerState D → Result ℕ PlaceFault → Type 0
MakesRooted {D} layouts o size first due s e (Ok index) =
    (b : OwnerState D) × (BeginsMaking layouts first due s b × AllocatesRooted layouts o size b e index)
MakesRooted layouts o size first due s e (Err fault.FuncTableFull) = ⊥
MakesRooted layouts o size first due s e (Err fault.ContTableFull) = ⊥
MakesRooted layouts o size first due s e (Err fault.TooLarge) = IsTooLarge layouts size
MakesRooted layouts o size first due s e (Err fault.RootsFull) = ⊥
MakesRooted {D} layouts o size first due s e (Err (fault.HeapOutOfMemory f)) =
    (NotBegun first s e × (f.bytes_needed ≡ need_of layouts size))
    ⊎ ((b : OwnerState D) × (BeginsMaking layouts first due s b × LacksSpace layouts size b e f.bytes_needed))
MakesRooted {D} layouts o size first due s e (Err fault.Memory) =
    (e ≡ s) ⊎ ((b : OwnerState D) × (BeginsMaking layouts first due s b × Paused (owner_rules layouts size) b e))
