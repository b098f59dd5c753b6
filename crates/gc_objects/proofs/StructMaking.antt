-- Making a struct: its tests, and what is asked of the store once they passed.
use Rattle.std.proofs.Common.{◌≡◌, ℕ, true, List, [], map, length, Option, Some, Result, Ok, Err, sym, ap, ◌∙◌, refl, subst, arith}
use Rattle.std.specs.Prelude.{option_map, unwrap_or}
use Rattle.gc_types.specs.declared.kind.Layouts.{Layouts}
use Rattle.gc_types.specs.declared.kind.TypeKind.TheVariants as type_kinds
use Rattle.gc_types.specs.declared.value.FieldType.{FieldType}
use Rattle.gc_types.specs.Declarations.{Declaration, TypeName, struct_fields_at, kind_at}
use Rattle.gc_model.specs.Values.{struct}
use Rattle.gc_model.specs.Stored.{stored_in}
use Rattle.gc_model.specs.Table.{Table}
use Rattle.gc_model.specs.Stores.{StoreView}
use Rattle.gc_model.specs.Holds.{HoldsTable}
use Rattle.gc_values.specs.declared.request.Place.TheVariants as request
use Rattle.gc_store.specs.Requests.{CanPlaceStruct, struct_fields_of}
use Rattle.gc_objects.specs.declared.checks.ValueTypes.TheVariants as value_types
use Rattle.gc_objects.specs.declared.faults.ValueFault.{ValueFault}
use Rattle.gc_objects.specs.declared.faults.ValueFault.TheVariants as value_fault
use Rattle.gc_objects.specs.declared.val.Val.{Val}
use Rattle.gc_objects.specs.Faults.{allocated_value}
use Rattle.gc_objects.specs.Given.{raw_of, types_of, field_types, ChecksValues, AllStorable, AllGo}
use Rattle.gc_objects.specs.Kinds.{IsDeclaredAs, is_type_of}
use Rattle.gc_objects.specs.Makes.{StructCauses, AsksStruct, HasAllFields, IsMadeOf, are_given_own}
use Rattle.gc_objects.proofs.MakeLemmas.{HasFields, has_fields, all_stand, can_make_struct}

module _ {D : Type 0} (layouts : Layouts) (s : StoreView D) (index : ℕ) (ty : TypeName) (index_is : index ≡ ty.index) (vs : List Val) (own : are_given_own s ty vs ≡ true) (of_store : is_type_of s ty ≡ true)
    (declared : IsDeclaredAs s type_kinds.Struct ty) (counted : option_map length (struct_fields_at s.types index) ≡ Some (length vs)) where
  listed : HasFields s.types index
  listed = has_fields s.types index (ap (kind_at s.types) index_is ∙ declared of_store)

  count : length vs ≡ length listed.fields
  count = let both : Some (length listed.fields) ≡ Some (length vs) = sym (ap (option_map length) listed.struct_listed) ∙ counted in grind (arith, both)

  -- what is asked of the store may be
  pub struct_may_be : AllStorable D layouts s (types_of s.types (value_types.Fields index)) vs → CanPlaceStruct D layouts s index (map raw_of vs)
  struct_may_be storable = can_make_struct D layouts s index vs listed count storable

  module _ (t : Table D) (holds : HoldsTable layouts s t) where
    fields_are : struct_fields_of t.types ty.index ≡ listed.fields
    fields_are =
        sym (ap (λ (types : List Declaration). struct_fields_of types ty.index) holds.1.types)
        ∙ sym (ap (struct_fields_of s.types) index_is)
        ∙ ap (λ (o : Option (List FieldType)). unwrap_or o []) listed.struct_listed

    all_fields : HasAllFields t ty vs
    all_fields = count ∙ ap length (sym fields_are)

    types_are : (i : ℕ) → types_of s.types (value_types.Fields index) i ≡ field_types t.types ty.index i
    types_are i = ap (λ (types : List Declaration). field_types types index i) holds.1.types ∙ ap (λ (n : ℕ). field_types t.types n i) index_is

    types_same : types_of s.types (value_types.Fields index) ≡ field_types t.types ty.index
    types_same i n = types_are n i

    here : (r : Result (Unit {0}) ValueFault) → ChecksValues s t (types_of s.types (value_types.Fields index)) vs r → ChecksValues s t (field_types t.types ty.index) vs r
    here r checks = subst (λ (types : ℕ → Option FieldType). ChecksValues s t types vs r) types_same checks

    -- a value is refused
    pub struct_cause : (why : ValueFault) → ChecksValues s t (types_of s.types (value_types.Fields index)) vs (Err why) → StructCauses s t ty vs (allocated_value why)
    struct_cause value_fault.Unrooted checks = record { own = own; count = all_fields; found = here (Err value_fault.Unrooted) checks }
    struct_cause value_fault.TypeMismatch checks = record { own = own; count = all_fields; found = here (Err value_fault.TypeMismatch) checks }

    -- all tests passed
    pub struct_asked : (checks : ChecksValues s t (types_of s.types (value_types.Fields index)) vs (Ok tt)) → AsksStruct s t ty vs (struct ty.index (stored_in (struct_fields_of t.types ty.index) checks.0))
    struct_asked checks = record {
      own = own;
      counted = all_fields;
      values = checks.0;
      go = subst (λ (types : ℕ → Option FieldType). AllGo s t types vs checks.0) types_same checks.1;
      object_is = refl;
    }

    pub struct_made_of : (checks : ChecksValues s t (types_of s.types (value_types.Fields index)) vs (Ok tt)) → IsMadeOf s t (request.Struct index) vs (struct ty.index (stored_in (struct_fields_of t.types ty.index) checks.0))
    struct_made_of checks = (
      checks.0,
      (all_stand s t (types_of s.types (value_types.Fields index)) vs checks.0 checks.1, ap (λ (n : ℕ). struct n (stored_in (struct_fields_of t.types n) checks.0)) (sym index_is)),
    )
