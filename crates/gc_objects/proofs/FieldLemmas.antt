-- The field of a struct that a handle and an index name.
use Rattle.std.proofs.Common.{◌≡◌, ℕ, List, Option, Some, None, Result, Ok, IfOk, IfSome, sym, refl, subst}
use Rattle.gc_types.specs.declared.kind.Layouts.{Layouts}
use Rattle.gc_types.specs.Declarations.{Declaration}
use Rattle.gc_model.specs.Table.{Table}
use Rattle.gc_model.specs.Stores.{StoreView}
use Rattle.gc_model.specs.Holds.{HoldsTable}
use Rattle.gc_values.specs.declared.root.GcRootIndex.{GcRootIndex}
use Rattle.gc_values.specs.declared.root.RootFault.{RootFault}
use Rattle.gc_values.specs.declared.root.RootedObject.TheVariants as rooted_object
use Rattle.gc_store.specs.Roots.{is_of_store, FindsRoot}
use Rattle.gc_objects.specs.declared.places.NamedField.{NamedField}
use Rattle.gc_objects.specs.Answered.{Answers, IsStruct, IsFieldOf, HasField}
use Rattle.gc_objects.specs.Reads.{IsTypedSomewhere}
use Rattle.gc_objects.proofs.Questions.{answers_named, tells_struct, found_ok}
use Rattle.gc_objects.proofs.TypedObjects.{struct_typed, field_here, typed_at}

module _ {D : Type 0} (layouts : Layouts) (s : StoreView D) (root : GcRootIndex) (index ty : ℕ) (result : Result ℕ RootFault) (found : Option NamedField) (is : result ≡ Ok ty) (field_of : IsFieldOf s.types ty index found) where
  field_in : (t : Table D) → HoldsTable layouts s t → IsFieldOf t.types ty index found
  field_in t holds = subst (λ (types : List Declaration). IsFieldOf types ty index found) holds.1.types field_of

  pub asks_field : (t : Table D) → HoldsTable layouts s t → Answers s t (is_of_store s root) root (IsStruct t) result → Answers s t (is_of_store s root) root (HasField t index) (Ok found)
  asks_field t holds answers =
      answers_named s t (is_of_store s root) root (IsStruct t) (HasField t index) result ty found is
      (λ r named told. field_here t r ty index told (struct_typed layouts s t holds root r ty named told) found (field_in t holds)) answers

  is_typed : (o : Option NamedField) → IsFieldOf s.types ty index o → FindsRoot D layouts s root (rooted_object.Struct ty) → IfSome o (λ named. IsTypedSomewhere D layouts s root named.index named.field)
  is_typed None field finds = tt
  is_typed (Some named) field finds =
      let t = finds.table in
      let told = tells_struct t (rooted_object.Struct ty) ty refl finds.root finds.is in
      let here = field_here t finds.root ty index told (struct_typed layouts s t finds.holds root finds.root ty finds.named told) (Some named) (subst (λ (types : List Declaration). IsFieldOf types ty index (Some named)) finds.holds.1.types field) in
      subst (λ (n : ℕ). IsTypedSomewhere D layouts s root n named.field) (sym here.index_is) (record { table = t; holds = finds.holds; typed = typed_at s t root index finds.root named finds.named here })

  pub finds_typed : IfOk result (λ (n : ℕ). FindsRoot D layouts s root (rooted_object.Struct n)) → IfSome found (λ named. IsTypedSomewhere D layouts s root named.index named.field)
  finds_typed finds = is_typed found field_of (found_ok (λ (n : ℕ). FindsRoot D layouts s root (rooted_object.Struct n)) result ty is finds)
