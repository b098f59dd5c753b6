-- Making an exception: its tests, and what is asked of the store once they passed.
use Rattle.std.proofs.Common.{◌≡◌, ℕ, true, List, [], map, length, Option, Some, None, Result, Ok, Err, sym, ap, ◌∙◌, refl, subst, arith}
use Rattle.std.specs.List.{slice_get}
use Rattle.std.specs.Prelude.{option_map, unwrap_or}
use Rattle.gc_types.specs.declared.kind.Layouts.{Layouts}
use Rattle.gc_types.specs.declared.kind.TypeKind.TheVariants as type_kinds
use Rattle.gc_types.specs.declared.value.FieldType.{FieldType}
use Rattle.gc_types.specs.declared.value.Tag.{Tag}
use Rattle.gc_types.specs.Declarations.{Declaration, TypeName, Shape, struct_of, array_of, exn_of, func_of, constant_field, shape_kind, shape_fields, declaration_fields, fields_at, kind_at}
use Rattle.gc_model.specs.Values.{exception}
use Rattle.gc_model.specs.Sizes.{shape_exn_fields, exn_fields_at}
use Rattle.gc_model.specs.Stored.{stored_in}
use Rattle.gc_model.specs.Table.{Table}
use Rattle.gc_model.specs.Stores.{StoreView}
use Rattle.gc_model.specs.Holds.{HoldsTable}
use Rattle.gc_values.specs.declared.request.Place.TheVariants as request
use Rattle.gc_store.specs.Requests.{CanPlaceException, exn_fields_of}
use Rattle.gc_objects.specs.declared.checks.ValueTypes.TheVariants as value_types
use Rattle.gc_objects.specs.declared.faults.ValueFault.{ValueFault}
use Rattle.gc_objects.specs.declared.faults.ValueFault.TheVariants as value_fault
use Rattle.gc_objects.specs.declared.val.Val.{Val}
use Rattle.gc_objects.specs.Faults.{allocated_value}
use Rattle.gc_objects.specs.Given.{raw_of, types_of, field_types, ChecksValues, AllStorable, AllGo, CanStoreAs}
use Rattle.gc_objects.specs.Kinds.{IsDeclaredAs, is_type_of}
use Rattle.gc_objects.specs.Makes.{IsMadeOf, are_given_own}
use Rattle.gc_objects.specs.Exns.{ExnCauses, AsksExn, HasAllParams}
use Rattle.std.specs.Option.{option_and_then}
use Rattle.std.proofs.lemmas.List.{length-map}
use Rattle.std.proofs.lemmas.Option.{none-some}
use Rattle.gc_model.proofs.StoredValues.{mapped_from}
use Rattle.gc_store.specs.Values.{CanStore}
use Rattle.gc_objects.proofs.MakeLemmas.{all_stand}

-- an exception type has fields
pub record HasParams (types : List Declaration) (ty : ℕ) : Type 0 where
  pub fields : List FieldType
  pub listed : fields_at types ty ≡ Some fields
  pub exn_listed : exn_fields_at types ty ≡ Some fields

abbrev exn_fields_in : Option Declaration → Option (List FieldType)
exn_fields_in d = option_and_then (λ (x : Declaration). shape_exn_fields x.shape) d

params_by_shape : (d : Declaration) (shape : Shape) → d.shape ≡ shape → shape_kind shape ≡ type_kinds.Exn → (fields : List FieldType) × ((declaration_fields (Some d) ≡ Some fields) × (exn_fields_in (Some d) ≡ Some fields))
params_by_shape d (struct_of fields) same is = absurd (cc is)
params_by_shape d (array_of element) same is = absurd (cc is)
params_by_shape d (exn_of params) same is = (map constant_field params, (ap shape_fields same, ap shape_exn_fields same))
params_by_shape d (func_of params results) same is = absurd (cc is)

params_by_kind : (d : Option Declaration) → option_map (λ (x : Declaration). shape_kind x.shape) d ≡ Some type_kinds.Exn → (fields : List FieldType) × ((declaration_fields d ≡ Some fields) × (exn_fields_in d ≡ Some fields))
params_by_kind None is = absurd (none-some _ is)
params_by_kind (Some d) is = let kind : shape_kind d.shape ≡ type_kinds.Exn = grind (arith, is) in params_by_shape d d.shape refl kind

has_params : (types : List Declaration) (ty : ℕ) → kind_at types ty ≡ Some type_kinds.Exn → HasParams types ty
has_params types ty is = let found = params_by_kind (slice_get types ty) is in record { fields = found.0; listed = found.1.0; exn_listed = found.1.1 }

-- values that may be stored may be those of an exception
can_make_exn : (D : Type 0) (layouts : Layouts) (s : StoreView D) (ty : ℕ) (vs : List Val) (has : HasParams s.types ty) → length vs ≡ length has.fields → AllStorable D layouts s (field_types s.types ty) vs → CanPlaceException D layouts s ty (map raw_of vs)
can_make_exn D layouts s ty vs has count storable = record {
  fields = has.fields;
  declared = has.exn_listed;
  same_count = length-map vs raw_of ∙ count;
  each = λ i field r e f.
      let from = mapped_from raw_of vs i r f in
      let field_is : field_types s.types ty i ≡ Some field = ap (λ (o : Option (List FieldType)). option_and_then (λ (fs : List FieldType). slice_get fs i) o) has.listed ∙ e in
      subst (CanStore D layouts s field.element_type) from.is (subst (λ (o : Option FieldType). CanStoreAs D layouts s o from.element) field_is (storable i from.element from.there));
}

module _ {D : Type 0} (layouts : Layouts) (s : StoreView D) (index : ℕ) (ty : TypeName) (index_is : index ≡ ty.index) (vs : List Val) (own : are_given_own s ty vs ≡ true) (of_store : is_type_of s ty ≡ true)
    (declared : IsDeclaredAs s type_kinds.Exn ty) (counted : option_map length (fields_at s.types index) ≡ Some (length vs)) where
  listed : HasParams s.types index
  listed = has_params s.types index (ap (kind_at s.types) index_is ∙ declared of_store)

  count : length vs ≡ length listed.fields
  count = let both : Some (length listed.fields) ≡ Some (length vs) = sym (ap (option_map length) listed.listed) ∙ counted in grind (arith, both)

  -- what is asked of the store may be
  pub exn_may_be : AllStorable D layouts s (types_of s.types (value_types.Fields index)) vs → CanPlaceException D layouts s index (map raw_of vs)
  exn_may_be storable = can_make_exn D layouts s index vs listed count storable

  module _ (t : Table D) (holds : HoldsTable layouts s t) where
    fields_are : exn_fields_of t.types ty.index ≡ listed.fields
    fields_are =
        sym (ap (λ (types : List Declaration). exn_fields_of types ty.index) holds.1.types)
        ∙ sym (ap (exn_fields_of s.types) index_is)
        ∙ ap (λ (o : Option (List FieldType)). unwrap_or o []) listed.exn_listed

    all_fields : HasAllParams t ty vs
    all_fields = count ∙ ap length (sym fields_are)

    types_are : (i : ℕ) → types_of s.types (value_types.Fields index) i ≡ field_types t.types ty.index i
    types_are i = ap (λ (types : List Declaration). field_types types index i) holds.1.types ∙ ap (λ (n : ℕ). field_types t.types n i) index_is

    types_same : types_of s.types (value_types.Fields index) ≡ field_types t.types ty.index
    types_same i n = types_are n i

    here : (r : Result (Unit {0}) ValueFault) → ChecksValues s t (types_of s.types (value_types.Fields index)) vs r → ChecksValues s t (field_types t.types ty.index) vs r
    here r checks = subst (λ (types : ℕ → Option FieldType). ChecksValues s t types vs r) types_same checks

    -- a value is refused
    pub exn_cause : (why : ValueFault) → ChecksValues s t (types_of s.types (value_types.Fields index)) vs (Err why) → ExnCauses s t ty vs (allocated_value why)
    exn_cause value_fault.Unrooted checks = record { own = own; count = all_fields; found = here (Err value_fault.Unrooted) checks }
    exn_cause value_fault.TypeMismatch checks = record { own = own; count = all_fields; found = here (Err value_fault.TypeMismatch) checks }

    -- all tests passed
    pub exn_asked : (tag : Tag) (checks : ChecksValues s t (types_of s.types (value_types.Fields index)) vs (Ok tt)) → AsksExn s t ty tag vs (exception ty.index tag (stored_in (exn_fields_of t.types ty.index) checks.0))
    exn_asked tag checks = record {
      own = own;
      counted = all_fields;
      values = checks.0;
      go = subst (λ (types : ℕ → Option FieldType). AllGo s t types vs checks.0) types_same checks.1;
      object_is = refl;
    }

    pub exn_made_of : (tag : Tag) (checks : ChecksValues s t (types_of s.types (value_types.Fields index)) vs (Ok tt)) → IsMadeOf s t (request.Exn index tag) vs (exception ty.index tag (stored_in (exn_fields_of t.types ty.index) checks.0))
    exn_made_of tag checks = (
      checks.0,
      (all_stand s t (types_of s.types (value_types.Fields index)) vs checks.0 checks.1, ap (λ (n : ℕ). exception n tag (stored_in (exn_fields_of t.types n) checks.0)) (sym index_is)),
    )
