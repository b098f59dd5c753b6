-- What a client makes, and what stays as it is meanwhile.
use Rattle.std.specs.Prelude.{◌≡◌, ℕ, List, Some}
use Rattle.gc_types.specs.declared.kind.Layouts.{Layouts}
use Rattle.gc_types.specs.declared.layout.GcStructLayout.{GcStructLayout}
use Rattle.gc_types.specs.declared.layout.GcArrayLayout.{GcArrayLayout}
use Rattle.gc_types.specs.Declarations.{Declaration}
use Rattle.gc_types.specs.Layouts.{layout_at, array_layout_at}
use Rattle.gc_view.specs.Heaps.{HeapView}
use Rattle.gc_heap.specs.Heap.{AddsObject, new_struct, new_array, array_size}

-- A struct or an exception of a declared type was added at a place.
pub record MadeStruct (layouts : Layouts) (types : List Declaration) (ty : ℕ) (old new : HeapView) (place : ℕ) : Type 0 where
  pub layout : GcStructLayout
  pub declared : layout_at layouts types ty ≡ Some layout
  pub adds : AddsObject layouts old new place (new_struct layouts ty layout) layout.size

-- The same of an array of so many elements.
pub record MadeArray (layouts : Layouts) (types : List Declaration) (ty count : ℕ) (old new : HeapView) (place : ℕ) : Type 0 where
  pub layout : GcArrayLayout
  pub declared : array_layout_at layouts types ty ≡ Some layout
  pub adds : AddsObject layouts old new place (new_array layouts ty count layout) (array_size layout count)

-- The heap has its memory as before, and as many scopes forbid a collection.
pub record StaysOpen (old new : HeapView) : Type 0 where
  pub attached : new.attached ≡ old.attached
  pub scopes : new.scopes ≡ old.scopes
