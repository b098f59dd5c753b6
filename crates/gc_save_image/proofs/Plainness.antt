-- Objects of plain types have no functions and no continuations.
use Rattle.std.proofs.Common.{◌≡◌, ℕ, true, List, Option, None, Some, refl, sym, ap, ◌∙◌, subst}
use Rattle.std.specs.List.{slice_get}
use Rattle.std.specs.Option.{option_and_then}
use Rattle.std.proofs.lemmas.List.Elements.{All-contains}
use Rattle.std.proofs.lemmas.Option.{none-some, same_Some}
use Rattle.gc_types.specs.declared.value.FieldType.{FieldType}
use Rattle.gc_types.specs.declared.value.HeapTopType.{HeapTopType}
use Rattle.gc_types.specs.declared.value.HeapTopType.TheVariants as top
use Rattle.gc_types.specs.declared.value.StorageType.{StorageType}
use Rattle.gc_types.specs.declared.value.StorageType.TheVariants as storage
use Rattle.gc_types.specs.declared.value.Tag.{Tag}
use Rattle.gc_types.specs.declared.value.ValType.TheVariants as val
use Rattle.gc_types.specs.Declarations.{Declaration, Shape, array_of, constant_field, declaration_elem, declaration_struct_fields, exn_of, func_of, shape_elem, shape_struct_fields, struct_of}
use Rattle.gc_types.specs.Values.{heap_top}
use Rattle.gc_model.specs.Forms.{Form, function_of, continuation_of, storage_form, top_form, value_form}
use Rattle.gc_model.specs.Holds.{TypedBy}
use Rattle.gc_model.specs.Sizes.{shape_exn_fields}
use Rattle.gc_model.specs.Stored.{listed_type, value_type}
use Rattle.gc_model.specs.Table.{Table}
use Rattle.gc_model.specs.Values.{Object, Value, array, continuation, exception, function, host, numeric, reference, struct}
use Rattle.gc_model.proofs.Fitting.{fits-form}
use Rattle.gc_model.proofs.Members.{get_contains}
use Rattle.gc_save_image.specs.Collection.{HasPlainValues, is_plain}
use Rattle.gc_image_write.specs.Plain.{ArePlain, IsPlainField, IsPlainShape, IsPlainStorage, IsPlainVal}
use Rattle.gc_save_image.proofs.Elements.{mapped}

abbrev declaration_exn_fields : Option Declaration → Option (List FieldType)
declaration_exn_fields o = option_and_then (λ (d : Declaration). shape_exn_fields d.shape) o

module _ (index : ℕ) (field : FieldType) where
  struct_plain : (shape : Shape) → IsPlainShape shape → listed_type (shape_struct_fields shape) index ≡ Some field → IsPlainField field
  struct_plain (struct_of fields) plain e = All-contains IsPlainField fields field plain (get_contains fields index field e)
  struct_plain (array_of elem) plain e = absurd (none-some field e)
  struct_plain (exn_of params) plain e = absurd (none-some field e)
  struct_plain (func_of params results) plain e = absurd plain

  array_plain : (shape : Shape) → IsPlainShape shape → shape_elem shape ≡ Some field → IsPlainField field
  array_plain (struct_of fields) plain e = absurd (none-some field e)
  array_plain (array_of elem) plain e = subst IsPlainField (same_Some elem field e) plain
  array_plain (exn_of params) plain e = absurd (none-some field e)
  array_plain (func_of params results) plain e = absurd plain

  exn_plain : (shape : Shape) → IsPlainShape shape → listed_type (shape_exn_fields shape) index ≡ Some field → IsPlainField field
  exn_plain (struct_of fields) plain e = absurd (none-some field e)
  exn_plain (array_of elem) plain e = absurd (none-some field e)
  exn_plain (exn_of params) plain e =
      let param = mapped constant_field params index field e in
      subst IsPlainField param.is (All-contains IsPlainVal params param.of plain (get_contains params index param.of param.there))
  exn_plain (func_of params results) plain e = absurd plain

  -- the field of a value of an object
  module _ (types : List Declaration) (plain : ArePlain types) where
    struct_at : (ty : ℕ) (values : List Value) (d : Option Declaration) → slice_get types ty ≡ d → value_type {D = ℕ} types (struct ty values) index ≡ Some field → IsPlainField field
    struct_at ty values None none e = absurd (none-some field (ap (λ (o : Option Declaration). listed_type (declaration_struct_fields o) index) (sym none) ∙ e))
    struct_at ty values (Some d) is e = struct_plain d.shape (plain ty d is) (ap (λ (o : Option Declaration). listed_type (declaration_struct_fields o) index) (sym is) ∙ e)

    array_at : (ty : ℕ) (values : List Value) (d : Option Declaration) → slice_get types ty ≡ d → value_type {D = ℕ} types (array ty values) index ≡ Some field → IsPlainField field
    array_at ty values None none e = absurd (none-some field (ap declaration_elem (sym none) ∙ e))
    array_at ty values (Some d) is e = array_plain d.shape (plain ty d is) (ap declaration_elem (sym is) ∙ e)

    exn_at : (ty : ℕ) (tag : Tag) (values : List Value) (d : Option Declaration) → slice_get types ty ≡ d → value_type {D = ℕ} types (exception ty tag values) index ≡ Some field → IsPlainField field
    exn_at ty tag values None none e = absurd (none-some field (ap (λ (o : Option Declaration). listed_type (declaration_exn_fields o) index) (sym none) ∙ e))
    exn_at ty tag values (Some d) is e = exn_plain d.shape (plain ty d is) (ap (λ (o : Option Declaration). listed_type (declaration_exn_fields o) index) (sym is) ∙ e)

    pub field_plain : (o : Object ℕ) → value_type types o index ≡ Some field → IsPlainField field
    field_plain (struct ty values) e = struct_at ty values (slice_get types ty) refl e
    field_plain (array ty values) e = array_at ty values (slice_get types ty) refl e
    field_plain (host n) e = absurd (none-some field e)
    field_plain (exception ty tag values) e = exn_at ty tag values (slice_get types ty) refl e

-- what is plain holds no functions and no continuations
abbrev IsPlainForm : Form → Type 0
IsPlainForm form = ¬ (form ≡ function_of) × ¬ (form ≡ continuation_of)

top_plain : (heap : HeapTopType) → ¬ (heap ≡ top.Func) → ¬ (heap ≡ top.Cont) → IsPlainForm (top_form heap)
top_plain top.Any func cont = (λ e. cc e, λ e. cc e)
top_plain top.Extern func cont = (λ e. cc e, λ e. cc e)
top_plain top.Exn func cont = (λ e. cc e, λ e. cc e)
top_plain top.Func func cont = absurd (func refl)
top_plain top.Cont func cont = absurd (cont refl)

form_plain : (ty : StorageType) → IsPlainStorage ty → IsPlainForm (storage_form ty)
form_plain storage.I8 plain = (λ e. cc e, λ e. cc e)
form_plain storage.I16 plain = (λ e. cc e, λ e. cc e)
form_plain (storage.ValType val.I32) plain = (λ e. cc e, λ e. cc e)
form_plain (storage.ValType val.I64) plain = (λ e. cc e, λ e. cc e)
form_plain (storage.ValType val.F32) plain = (λ e. cc e, λ e. cc e)
form_plain (storage.ValType val.F64) plain = (λ e. cc e, λ e. cc e)
form_plain (storage.ValType val.V128) plain = (λ e. cc e, λ e. cc e)
form_plain (storage.ValType (val.Ref ty)) plain = top_plain (heap_top ty.heap_type) plain.0 plain.1

-- so a value that goes there is plain
value_plain : (v : Value) (form : Form) → IsPlainForm form → form ≡ value_form v → is_plain v ≡ true
value_plain (numeric kind n) form plain e = refl
value_plain (function f) form plain e = absurd (plain.0 e)
value_plain (continuation c) form plain e = absurd (plain.1 e)
value_plain (reference class r) form plain e = refl

pub plain_values : (t : Table ℕ) → TypedBy t.types t.objects → ArePlain t.types → HasPlainValues t
plain_values t typed plain p index o v there e =
    let is = typed p index o v there e in
    value_plain v (storage_form is.field.element_type) (form_plain is.field.element_type (field_plain index is.field t.types plain o is.field_is))
    (fits-form t.types t.objects is.field.element_type v is.is_fit)
