-- What an owner keeps of its heap, so that a collection may begin and follows what types tell.
use Rattle.std.specs.Prelude.{◌≡◌, ◌⊎◌, ℕ, ◌+◌, Bool, true, List, length, Some}
use Rattle.std.specs.FinMap as finite
use Rattle.gc_types.specs.declared.kind.Layouts.{Layouts}
use Rattle.gc_types.specs.declared.kind.VMGcKind.TheVariants.{ExternRef, ArrayRef}
use Rattle.gc_types.specs.declared.layout.GcStructLayout.{GcStructLayout}
use Rattle.gc_types.specs.declared.layout.GcArrayLayout.{GcArrayLayout}
use Rattle.gc_types.specs.Declarations.{Declaration}
use Rattle.gc_types.specs.Layouts.{struct_base, layout_at, array_layout_at, ref_offsets}
use Rattle.gc_roots.specs.Roots.{Root}
use Rattle.gc_view.specs.Sizes.{stored_size}
use Rattle.gc_view.specs.Heaps.{HeapObject, HeapView}
use Rattle.gc_heap.specs.Objects.{array_length}
use Rattle.gc_heap.specs.Rules.{struct_spare, array_spare}
use Rattle.gc_heap.specs.Heap.{layout_kind, array_size}
use Rattle.gc_heap.specs.Collection.{Start, CanCollect}

-- where a collection would begin; a heap with no memory counts as one that holds nothing
abbrev pub start_from : List Declaration → HeapView → List Root → (ℕ → Bool) → Start
start_from types h roots hosts = record { heap = record h { attached = true }; roots = roots; types = types; hosts = hosts }

-- a struct or an exception of a declared type, whose spare bits say where its references lie as far as a heap
-- goes by them
pub record IsTracedStruct (layouts : Layouts) (types : List Declaration) (o : HeapObject) : Type 0 where
  pub layout : GcStructLayout
  pub declared : layout_at layouts types o.ty ≡ Some layout
  pub kind : o.kind ≡ layout_kind layout
  pub size : struct_base layouts + length o.bytes ≡ stored_size layouts layout.size
  pub spare : o.spare ≡ struct_spare layouts (ref_offsets layout.fields)

-- an array of a declared type, of the length that it tells
pub record IsTracedArray (layouts : Layouts) (types : List Declaration) (o : HeapObject) : Type 0 where
  pub layout : GcArrayLayout
  pub declared : array_layout_at layouts types o.ty ≡ Some layout
  pub kind : o.kind ≡ ArrayRef
  pub size : struct_base layouts + length o.bytes ≡ stored_size layouts (array_size layout (array_length o))
  pub spare : o.spare ≡ array_spare layouts layout.elems_are_gc_refs

-- an object of a declared type, or an external one
abbrev pub IsTraced : Layouts → List Declaration → HeapObject → Type 0
IsTraced layouts types o = (o.kind ≡ ExternRef) ⊎ (IsTracedStruct layouts types o ⊎ IsTracedArray layouts types o)

abbrev pub AreTraced : Layouts → List Declaration → HeapView → Type 0
AreTraced layouts types h = (word : ℕ) (o : HeapObject) → finite.get h.content word ≡ Some o → IsTraced layouts types o

-- A collection may begin from these roots, also in the middle of a call; counts, where the heap tells them,
-- are exact.
pub record IsCollectable (layouts : Layouts) (types : List Declaration) (h : HeapView) (roots : List Root) (hosts : ℕ → Bool) : Type 0 where
  pub traced : AreTraced layouts types h
  pub collects : CanCollect layouts (start_from types h roots hosts)

-- Wherever a collection could begin from the old roots, one may begin from the new.
abbrev pub KeepsCollectable : Layouts → HeapView → List Root → HeapView → List Root → Type 0
KeepsCollectable layouts h roots h' roots' =
    (types : List Declaration) (hosts : ℕ → Bool) → IsCollectable layouts types h roots hosts → IsCollectable layouts types h' roots' hosts

-- From whatever roots a collection could begin, it still may.
abbrev pub StaysCollectable : Layouts → HeapView → HeapView → Type 0
StaysCollectable layouts h h' =
    (types : List Declaration) (roots : List Root) (hosts : ℕ → Bool) → IsCollectable layouts types h roots hosts → IsCollectable layouts types h' roots hosts
