-- Handles of structs and arrays as those of wider types.
use Rattle.std.proofs.Common.{inl, inr}
use Rattle.gc_types.specs.declared.kind.Layouts.{Layouts}
use Rattle.gc_types.specs.declared.kind.VMGcKind.TheVariants as kinds
use Rattle.gc_model.specs.Values.{Reference, null, small, at}
use Rattle.gc_model.specs.Table.{Table}
use Rattle.gc_model.specs.Stores.{StoreView}
use Rattle.gc_values.specs.declared.root.GcRootIndex.{GcRootIndex}
use Rattle.gc_store.specs.Kinds.{IsReferenceOfKind, NamesKind}

module _ {D : Type 0} (t : Table D) where
  struct_any : (r : Reference) → IsReferenceOfKind kinds.StructRef t r → IsReferenceOfKind kinds.AnyRef t r
  struct_any null is = absurd is
  struct_any (small n) is = absurd is
  struct_any (at p) is = (is.0, (is.1.0, inl is.1.1))

  array_any : (r : Reference) → IsReferenceOfKind kinds.ArrayRef t r → IsReferenceOfKind kinds.AnyRef t r
  array_any null is = absurd is
  array_any (small n) is = absurd is
  array_any (at p) is = (is.0, (is.1.0, inr is.1.1))

  struct_eq : (r : Reference) → IsReferenceOfKind kinds.StructRef t r → IsReferenceOfKind kinds.EqRef t r
  struct_eq null is = absurd is
  struct_eq (small n) is = absurd is
  struct_eq (at p) is = (is.0, (is.1.0, inl is.1.1))

  array_eq : (r : Reference) → IsReferenceOfKind kinds.ArrayRef t r → IsReferenceOfKind kinds.EqRef t r
  array_eq null is = absurd is
  array_eq (small n) is = absurd is
  array_eq (at p) is = (is.0, (is.1.0, inr is.1.1))

module _ (D : Type 0) (layouts : Layouts) (s : StoreView D) (handle : GcRootIndex) where
  pub struct_is_any : NamesKind D layouts s kinds.StructRef handle → NamesKind D layouts s kinds.AnyRef handle
  struct_is_any names = record { table = names.table; holds = names.holds; is = λ r named. struct_any names.table r (names.is r named) }

  pub array_is_any : NamesKind D layouts s kinds.ArrayRef handle → NamesKind D layouts s kinds.AnyRef handle
  array_is_any names = record { table = names.table; holds = names.holds; is = λ r named. array_any names.table r (names.is r named) }

  pub struct_is_eq : NamesKind D layouts s kinds.StructRef handle → NamesKind D layouts s kinds.EqRef handle
  struct_is_eq names = record { table = names.table; holds = names.holds; is = λ r named. struct_eq names.table r (names.is r named) }

  pub array_is_eq : NamesKind D layouts s kinds.ArrayRef handle → NamesKind D layouts s kinds.EqRef handle
  array_is_eq names = record { table = names.table; holds = names.holds; is = λ r named. array_eq names.table r (names.is r named) }
