-- What a client of a heap is given.
use Rattle.std.specs.Prelude.{◌≡◌, ℕ, ◌+◌, ◌≤◌, false, List, [], Some, Result, Ok, Err}
use Rattle.std.specs.Int.{w32}
use Rattle.std.specs.FinMap.{insert}
use Rattle.gc_types.specs.declared.kind.Layouts.{Layouts}
use Rattle.gc_types.specs.declared.kind.VMGcKind.TheVariants.{StructRef}
use Rattle.gc_types.specs.declared.layout.GcStructLayout.{GcStructLayout}
use Rattle.gc_types.specs.Declarations.{Declaration}
use Rattle.gc_types.specs.Layouts.{struct_base, layout_at, ref_offsets}
use Rattle.gc_refs.specs.LittleEndian.{unsigned_at}
use Rattle.gc_view.specs.Heaps.{HeapObject, HeapView}
use Rattle.gc_heap.specs.Objects.{held_size}
use Rattle.gc_heap.specs.Rules.{struct_spare}
use Rattle.gc_heap.specs.Heap.{IsNewPlace, LacksRoom, IsTooLarge, counts_with}
use Rattle.gc_heap.specs.Access.{data_part}
use Rattle.gc_heap.specs.declared.fault.HeapFault.{HeapFault}
use Rattle.gc_heap.specs.declared.fault.HeapFault.TheVariants as fault

-- a declared struct without references, with room for a 32-bit number at that offset
pub record IsNumberStruct (layouts : Layouts) (types : List Declaration) (ty : ℕ) (layout : GcStructLayout) (offset : ℕ) : Type 0 where
  pub declared : layout_at layouts types ty ≡ Some layout
  pub plain : layout.is_exception ≡ false
  pub no_references : ref_offsets layout.fields ≡ []
  pub from : struct_base layouts ≤ offset
  pub to : offset + 4 ≤ layout.size

-- an object of a declared struct type without references
pub record IsPlainObject (layouts : Layouts) (types : List Declaration) (layout : GcStructLayout) (o : HeapObject) : Type 0 where
  pub kind : o.kind ≡ StructRef
  pub declared : layout_at layouts types o.ty ≡ Some layout
  pub plain : layout.is_exception ≡ false
  pub no_references : ref_offsets layout.fields ≡ []
  pub spare : o.spare ≡ struct_spare layouts []
  pub size : layout.size ≤ held_size layouts o

-- One more object of that kind was made, at a new place.
pub record AddsPlain (layouts : Layouts) (types : List Declaration) (layout : GcStructLayout) (old new : HeapView) (place : ℕ) (o : HeapObject) : Type 0 where
  pub plain : IsPlainObject layouts types layout o
  pub fresh : IsNewPlace old place
  pub content : new.content ≡ insert old.content place o
  pub attached : new.attached ≡ old.attached
  pub scopes : new.scopes ≡ old.scopes
  pub counts : new.counts ≡ counts_with layouts old.counts place

-- such an object was made, and the number lies in it
pub record MakesNumber (layouts : Layouts) (types : List Declaration) (layout : GcStructLayout) (offset number : ℕ)
    (old new : HeapView) (place : ℕ) : Type 0 where
  pub object : HeapObject
  pub adds : AddsPlain layouts types layout old new place object
  pub number_is : unsigned_at w32 (data_part layouts object offset 4) ≡ number

-- what an allocation of so many bytes answers and does; where it gives a value, that is such a value
abbrev pub GivesOrRefuses : {A : Type 0} → Layouts → HeapView → HeapView → ℕ → (A → Type 0) → Result (Result A ℕ) HeapFault → Type 0
GivesOrRefuses layouts old new size IsSuch (Ok (Ok value)) = IsSuch value
GivesOrRefuses layouts old new size IsSuch (Ok (Err need)) = LacksRoom layouts old new need size
GivesOrRefuses layouts old new size IsSuch (Err fault.TooLarge) = IsTooLarge layouts size × (new ≡ old)
GivesOrRefuses layouts old new size IsSuch (Err fault.Memory) = new ≡ old
