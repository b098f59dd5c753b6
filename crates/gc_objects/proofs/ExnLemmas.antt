-- Exceptions that handles name, and their values.
use Rattle.std.proofs.Common.{inl, inr, ◌≡◌, ℕ, List, map, length, Option, Some, None, Result, Ok, IfOk, IfSome, sym, ap, ◌∙◌, refl, subst, arith}
use Rattle.std.specs.List.{slice_get}
use Rattle.std.specs.Prelude.{option_map}
use Rattle.std.specs.Option.{option_and_then}
use Rattle.std.proofs.lemmas.Option.{none-some, slice_get_cases, slice_get_within}
use Rattle.gc_types.specs.declared.kind.Layouts.{Layouts}
use Rattle.gc_types.specs.declared.kind.TypeKind.TheVariants as type_kinds
use Rattle.gc_types.specs.declared.kind.VMGcKind.TheVariants as kinds
use Rattle.gc_types.specs.declared.value.FieldType.{FieldType}
use Rattle.gc_types.specs.Declarations.{Declaration, Shape, struct_of, array_of, exn_of, func_of, constant_field, shape_kind, shape_fields, declaration_fields, fields_at, kind_at}
use Rattle.gc_types.specs.Layouts.{exception_base}
use Rattle.gc_view.specs.Slots.{shape_slots}
use Rattle.gc_view.proofs.SlotLemmas.{length-field_slots}
use Rattle.gc_model.specs.Values.{Reference, null, small, at, Value, Object, struct, array, host, exception}
use Rattle.gc_model.specs.Sizes.{shape_exn_fields, exn_fields_at}
use Rattle.gc_model.specs.Stored.{listed_type}
use Rattle.gc_model.specs.Table.{Table}
use Rattle.gc_model.specs.Stores.{StoreView}
use Rattle.gc_model.specs.Holds.{HoldsTable}
use Rattle.gc_model.proofs.ObjectStands.{value_below}
use Rattle.gc_values.specs.declared.root.GcRootIndex.{GcRootIndex}
use Rattle.gc_values.specs.declared.root.RootFault.{RootFault}
use Rattle.gc_values.specs.declared.root.RootedObject.{RootedObject}
use Rattle.gc_values.specs.declared.root.RootedObject.TheVariants as rooted_object
use Rattle.gc_store.specs.Roots.{is_of_store, NamesReference, IsReference, IsObject, FindsRoot}
use Rattle.gc_store.specs.Kinds.{object_kind, IsReferenceOfKind, NamesKind}
use Rattle.gc_objects.specs.declared.places.NamedExn.{NamedExn}
use Rattle.gc_objects.specs.declared.places.NamedField.{NamedField}
use Rattle.gc_objects.specs.Answered.{Answers, IsFieldOf, HasField}
use Rattle.gc_objects.specs.Exns.{exn_in, IsNamedExn}
use Rattle.gc_objects.specs.Reads.{IsTypedSomewhere}
use Rattle.gc_objects.proofs.Questions.{answers_named, found_ok}
use Rattle.gc_objects.proofs.TypedObjects.{stands_named, listed_at, typed_at}

-- what the store says of an exception tells which it is
exn_object : {D : Type 0} (o : Option (Object D)) (x : RootedObject) (named : NamedExn) → exn_in x ≡ Some named → IsObject o x → (values : List Value) × (o ≡ Some (exception named.ty named.tag values))
exn_object None x named e is = absurd is
exn_object (Some (struct own values)) x named e is = absurd (none-some named (sym (ap exn_in is) ∙ e))
exn_object (Some (array own values)) x named e is = absurd (none-some named (sym (ap exn_in is) ∙ e))
exn_object (Some (host value)) x named e is = absurd (none-some named (sym (ap exn_in is) ∙ e))
exn_object (Some (exception own tag values)) x named e is =
    let both : Some (record { ty = own; tag = tag }) ≡ Some named = sym (ap exn_in is) ∙ e in
    let same : (record { ty = own; tag = tag }) ≡ named = grind (arith, both) in
    (values, ap (λ (a : NamedExn). Some (exception a.ty a.tag values)) same)

pub tells_exn : {D : Type 0} (t : Table D) (x : RootedObject) (named : NamedExn) → exn_in x ≡ Some named → (r : Reference) → IsReference t r x → IsNamedExn t r named
tells_exn t x named e null is = absurd is
tells_exn t x named e (small m) is = absurd (none-some named (sym (ap exn_in is) ∙ e))
tells_exn t x named e (at p) is = exn_object (slice_get t.objects p) x named e is

-- and the other way
of_exn : {D : Type 0} (o : Object D) (x : RootedObject) → object_kind o ≡ kinds.ExnRef → IsObject (Some o) x → exn_in x ≡ None → ⊥
of_exn (struct ty values) x kind is e = absurd (cc kind)
of_exn (array ty values) x kind is e = absurd (cc kind)
of_exn (host value) x kind is e = absurd (cc kind)
of_exn (exception ty tag values) x kind is e = none-some (record { ty = ty; tag = tag }) (sym e ∙ ap exn_in is)

not_exn_in : {D : Type 0} (t : Table D) (x : RootedObject) (r : Reference) → IsReferenceOfKind kinds.ExnRef t r → IsReference t r x → exn_in x ≡ None → ⊥
not_exn_in t x null kind is e = kind
not_exn_in t x (small n) kind is e = kind
not_exn_in t x (at p) kind is e = of_exn kind.0 x kind.1.1 (subst (λ o. IsObject o x) kind.1.0 is) e

-- a handle that is given as that of an exception names one
pub is_an_exn : {D : Type 0} (layouts : Layouts) (s : StoreView D) (handle : GcRootIndex) (result : Result RootedObject RootFault) (x : RootedObject) → result ≡ Ok x
    → ((t : Table D) → HoldsTable layouts s t → Answers s t (is_of_store s handle) handle (IsReference t) result)
    → NamesKind D layouts s kinds.ExnRef handle → exn_in x ≡ None → ⊥
is_an_exn layouts s handle result x is answers kind none =
    let ok = subst (λ (q : Result RootedObject RootFault). Answers s kind.table (is_of_store s handle) handle (IsReference kind.table) q) is (answers kind.table kind.holds) in
    not_exn_in kind.table x ok.1.0 (kind.is ok.1.0 ok.1.1.0) ok.1.1.1 none

-- what is declared of an exception type
record IsExnShape (d : Option Declaration) (shape : Shape) : Type 0 where
  fields : List FieldType
  slots : (layouts : Layouts) (n : ℕ) → length (shape_slots layouts shape n) ≡ length fields
  listed : declaration_fields d ≡ Some fields
  exn_listed : option_and_then (λ (x : Declaration). shape_exn_fields x.shape) d ≡ Some fields
  kind : option_map (λ (x : Declaration). shape_kind x.shape) d ≡ Some type_kinds.Exn

exn_declared_so : (d : Declaration) (shape : Shape) → d.shape ≡ shape → shape_kind shape ≡ type_kinds.Exn → IsExnShape (Some d) shape
exn_declared_so d (struct_of fields) same is = absurd (cc is)
exn_declared_so d (array_of element) same is = absurd (cc is)
exn_declared_so d (exn_of params) same is = record {
  fields = map constant_field params;
  slots = λ layouts n. length-field_slots (exception_base layouts) (map constant_field params);
  listed = ap shape_fields same;
  exn_listed = ap shape_exn_fields same;
  kind = ap (λ (s : Shape). Some (shape_kind s)) same;
}
exn_declared_so d (func_of params results) same is = absurd (cc is)

exn_shape : (d : Option Declaration) (shape : Shape) → option_map (λ (x : Declaration). x.shape) d ≡ Some shape → shape_kind shape ≡ type_kinds.Exn → IsExnShape d shape
exn_shape None shape e is = absurd (none-some shape e)
exn_shape (Some d) shape e is = exn_declared_so d shape (grind (arith, e)) is

-- An exception's type, of which it has a value for each field.
pub record ExnTyped {D : Type 0} (t : Table D) (ty : ℕ) (values : List Value) : Type 0 where
  pub fields : List FieldType
  pub listed : fields_at t.types ty ≡ Some fields
  pub exn_listed : exn_fields_at t.types ty ≡ Some fields
  pub kind : kind_at t.types ty ≡ Some type_kinds.Exn
  pub count : length values ≡ length fields

module _ {D : Type 0} (layouts : Layouts) (s : StoreView D) (t : Table D) (holds : HoldsTable layouts s t) (handle : GcRootIndex) where
  exn_at_place : (p : ℕ) (which : NamedExn) (values : List Value) → NamesReference s t handle (at p) → slice_get t.objects p ≡ Some (exception which.ty which.tag values) → ExnTyped t which.ty values
  exn_at_place p which values named e =
      let stands = (stands_named layouts s t holds handle p (exception which.ty which.tag values) named e).1.stands in
      let shape = exn_shape (slice_get t.types which.ty) stands.shape stands.declared stands.of_kind in
      record {
        fields = shape.fields;
        listed = shape.listed;
        exn_listed = shape.exn_listed;
        kind = shape.kind;
        count = stands.values_lie.same_count ∙ shape.slots layouts stands.count;
      }

  pub exn_typed : (r : Reference) (which : NamedExn) → NamesReference s t handle r → (is : IsNamedExn t r which) → ExnTyped t which.ty is.0
  exn_typed null which named is = absurd (none-some _ is.1)
  exn_typed (small n) which named is = absurd (none-some _ is.1)
  exn_typed (at p) which named is = exn_at_place p which is.0 named is.1

-- a field of an exception that is named, where its type has one
param_here : {D : Type 0} (t : Table D) (r : Reference) (which : NamedExn) (index : ℕ) (is : IsNamedExn t r which) → ExnTyped t which.ty is.0 → (found : Option NamedField) → IsFieldOf t.types which.ty index found → HasField t index r found
param_here t r which index is typed None e =
    let none : slice_get typed.fields index ≡ None = sym (listed_at (fields_at t.types which.ty) typed.fields index typed.listed) ∙ e in
    record {
      object = exception which.ty which.tag is.0;
      object_is = is.1;
      past = elim ((slice_get_cases typed.fields index).1) [
        | inl found ↦ absurd (none-some found.0 (sym none ∙ found.2))
        | inr past ↦ omega (arith, past.0, typed.count)
      ];
    }
param_here t r which index is typed (Some named) e =
    let some : slice_get typed.fields index ≡ Some named.field = sym (listed_at (fields_at t.types which.ty) typed.fields index typed.listed) ∙ e.1 in
    let within = slice_get_within typed.fields index named.field some in
    let value = value_below is.0 index (omega (arith, within, typed.count)) in
    record {
      object = exception which.ty which.tag is.0;
      object_is = is.1;
      value = value.0;
      value_at = value.1;
      index_is = e.0;
      field_is = ap (λ (o : Option (List FieldType)). listed_type o index) typed.exn_listed ∙ some;
    }

module _ {D : Type 0} (layouts : Layouts) (s : StoreView D) (root : GcRootIndex) (index : ℕ) (which : NamedExn) (result : Result NamedExn RootFault) (found : Option NamedField) (is : result ≡ Ok which) (field_of : IsFieldOf s.types which.ty index found) where
  pub asks_param : (t : Table D) → HoldsTable layouts s t → Answers s t (is_of_store s root) root (IsNamedExn t) result → Answers s t (is_of_store s root) root (HasField t index) (Ok found)
  asks_param t holds answers =
      answers_named s t (is_of_store s root) root (IsNamedExn t) (HasField t index) result which found is
      (λ r named told. param_here t r which index told (exn_typed layouts s t holds root r which named told) found (subst (λ (types : List Declaration). IsFieldOf types which.ty index found) holds.1.types field_of)) answers

  is_typed : (o : Option NamedField) → IsFieldOf s.types which.ty index o → FindsRoot D layouts s root (rooted_object.Exn which.ty which.tag) → IfSome o (λ named. IsTypedSomewhere D layouts s root named.index named.field)
  is_typed None field finds = tt
  is_typed (Some named) field finds =
      let t = finds.table in
      let told = tells_exn t (rooted_object.Exn which.ty which.tag) which refl finds.root finds.is in
      let here = param_here t finds.root which index told (exn_typed layouts s t finds.holds root finds.root which finds.named told) (Some named) (subst (λ (types : List Declaration). IsFieldOf types which.ty index (Some named)) finds.holds.1.types field) in
      subst (λ (n : ℕ). IsTypedSomewhere D layouts s root n named.field) (sym here.index_is) (record { table = t; holds = finds.holds; typed = typed_at s t root index finds.root named finds.named here })

  pub finds_param : IfOk result (λ (w : NamedExn). FindsRoot D layouts s root (rooted_object.Exn w.ty w.tag)) → IfSome found (λ named. IsTypedSomewhere D layouts s root named.index named.field)
  finds_param finds = is_typed found field_of (found_ok (λ (w : NamedExn). FindsRoot D layouts s root (rooted_object.Exn w.ty w.tag)) result which is finds)

-- the type of what is found is declared as one of exceptions
pub exn_declared : {D : Type 0} (layouts : Layouts) (s : StoreView D) (root : GcRootIndex) (which : NamedExn) → FindsRoot D layouts s root (rooted_object.Exn which.ty which.tag) → kind_at s.types which.ty ≡ Some type_kinds.Exn
exn_declared layouts s root which found =
    let told = tells_exn found.table (rooted_object.Exn which.ty which.tag) which refl found.root found.is in
    let typed = exn_typed layouts s found.table found.holds root found.root which found.named told in
    ap (λ (types : List Declaration). kind_at types which.ty) found.holds.1.types ∙ typed.kind
