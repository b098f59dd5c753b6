-- Of which kind the references are that handles name.
use Rattle.std.specs.Prelude.{◌≡◌, ◌⊎◌, Some, slice_get}
use Rattle.gc_types.specs.declared.kind.Layouts.{Layouts}
use Rattle.gc_types.specs.declared.kind.VMGcKind.{VMGcKind}
use Rattle.gc_types.specs.declared.kind.VMGcKind.TheVariants as kinds
use Rattle.gc_model.specs.Values.{Reference, null, small, at, Object, struct, array, host, exception}
use Rattle.gc_model.specs.Table.{Table}
use Rattle.gc_model.specs.Stores.{StoreView}
use Rattle.gc_model.specs.Holds.{HoldsTable}
use Rattle.gc_values.specs.declared.root.GcRootIndex.{GcRootIndex}
use Rattle.gc_store.specs.Roots.{NamesScoped, NamesReference}

-- the kind of an object
abbrev pub object_kind : {D : Type 0} → Object D → VMGcKind
object_kind (struct ty values) = kinds.StructRef
object_kind (array ty values) = kinds.ArrayRef
object_kind (host value) = kinds.ExternRef
object_kind (exception ty tag values) = kinds.ExnRef

abbrev pub IsStructOrArray : VMGcKind → Type 0
IsStructOrArray kind = (kind ≡ kinds.StructRef) ⊎ (kind ≡ kinds.ArrayRef)

-- A handle of the first kind names objects of the second: of a struct, an array or an exception that alone, of any
-- reference a struct or an array, and of the embedder's all but an exception.
abbrev pub TakesKind : VMGcKind → VMGcKind → Type 0
TakesKind kinds.StructRef kind = kind ≡ kinds.StructRef
TakesKind kinds.ArrayRef kind = kind ≡ kinds.ArrayRef
TakesKind kinds.ExnRef kind = kind ≡ kinds.ExnRef
TakesKind kinds.AnyRef kind = IsStructOrArray kind
TakesKind kinds.EqRef kind = IsStructOrArray kind
TakesKind kinds.ExternRef kind = ¬ (kind ≡ kinds.ExnRef)

-- a handle of that kind names 31-bit numbers
abbrev pub TakesNumbers : VMGcKind → Type 0
TakesNumbers kinds.StructRef = ⊥
TakesNumbers kinds.ArrayRef = ⊥
TakesNumbers kinds.ExnRef = ⊥
TakesNumbers kinds.AnyRef = Unit {0}
TakesNumbers kinds.EqRef = Unit {0}
TakesNumbers kinds.ExternRef = Unit {0}

-- a handle of that kind names the reference
abbrev pub IsReferenceOfKind : {D : Type 0} → VMGcKind → Table D → Reference → Type 0
IsReferenceOfKind kind t null = ⊥
IsReferenceOfKind kind t (small n) = TakesNumbers kind
IsReferenceOfKind {D} kind t (at p) = (object : Object D) × ((slice_get t.objects p ≡ Some object) × TakesKind kind (object_kind object))

-- Where the handle is live, it names a reference of that kind, in some table that the store holds.
pub record NamesKind (D : Type 0) (layouts : Layouts) (s : StoreView D) (kind : VMGcKind) (handle : GcRootIndex) : Type 0 where
  pub table : Table D
  pub holds : HoldsTable layouts s table
  pub is : (r : Reference) → NamesReference s table handle r → IsReferenceOfKind kind table r

-- The handle is of a scoped root that stands, and its reference is of that kind, in some table that the store holds.
pub record IsScopedOfKind (D : Type 0) (layouts : Layouts) (s : StoreView D) (kind : VMGcKind) (handle : GcRootIndex) : Type 0 where
  pub table : Table D
  pub holds : HoldsTable layouts s table
  pub root : Reference
  pub named : NamesScoped s table handle root
  pub of_kind : IsReferenceOfKind kind table root
