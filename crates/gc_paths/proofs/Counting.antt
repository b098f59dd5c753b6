-- An object that a handle names has as many values as the store says.
use Rattle.std.proofs.Common.{◌≡◌, ℕ, List, length, map, Option, Some, None, sym, ap, ◌∙◌, refl, subst}
use Rattle.std.specs.List.{slice_get}
use Rattle.std.specs.Prelude.{option_map}
use Rattle.std.proofs.lemmas.Option.{none-some, same_Some}
use Rattle.gc_types.specs.declared.kind.Layouts.{Layouts}
use Rattle.gc_types.specs.declared.kind.TypeKind.TheVariants as kinds
use Rattle.gc_types.specs.declared.value.FieldType.{FieldType}
use Rattle.gc_types.specs.Declarations.{Declaration, Shape, struct_of, array_of, exn_of, func_of, shape_kind, shape_fields, declaration_fields, constant_field}
use Rattle.gc_types.specs.Layouts.{struct_base, exception_base}
use Rattle.gc_view.specs.Heaps.{HeapObject}
use Rattle.gc_view.specs.Slots.{shape_slots}
use Rattle.gc_view.proofs.SlotLemmas.{length-field_slots}
use Rattle.gc_model.specs.Values.{at, Value, Object, struct, array, host, exception}
use Rattle.gc_model.specs.Reach.{object_values}
use Rattle.gc_model.specs.Table.{Table}
use Rattle.gc_model.specs.Forms.{Names, naming}
use Rattle.gc_model.specs.Standing.{Stands, ShapeStands}
use Rattle.gc_model.specs.Stores.{StoreView}
use Rattle.gc_model.specs.Holds.{HoldsTable}
use Rattle.gc_model.proofs.HeldObjects.{object_held}
use Rattle.gc_values.specs.declared.root.GcRootIndex.{GcRootIndex}
use Rattle.gc_values.specs.declared.root.RootedObject.{RootedObject}
use Rattle.gc_values.specs.declared.root.RootedObject.TheVariants as rooted_object
use Rattle.gc_store.specs.Roots.{NamesReference, IsObject}
use Rattle.gc_store.proofs.HandleWords.{named_held}
use Rattle.gc_paths.specs.Objects.{CountsIn}

-- the fields of a type's shape, each of which has a slot
record HasFields (shape : Shape) : Type 0 where
  fields : List FieldType
  listed : shape_fields shape ≡ Some fields
  slots : (layouts : Layouts) (n : ℕ) → length (shape_slots layouts shape n) ≡ length fields

struct_fields : (shape : Shape) → shape_kind shape ≡ kinds.Struct → HasFields shape
struct_fields (struct_of fields) is = record { fields = fields; listed = refl; slots = λ layouts n. length-field_slots (struct_base layouts) fields }
struct_fields (array_of element) is = absurd (cc is)
struct_fields (exn_of params) is = absurd (cc is)
struct_fields (func_of params results) is = absurd (cc is)

exn_fields : (shape : Shape) → shape_kind shape ≡ kinds.Exn → HasFields shape
exn_fields (struct_of fields) is = absurd (cc is)
exn_fields (array_of element) is = absurd (cc is)
exn_fields (exn_of params) is = record { fields = map constant_field params; listed = refl; slots = λ layouts n. length-field_slots (exception_base layouts) (map constant_field params) }
exn_fields (func_of params results) is = absurd (cc is)

declared_fields : (d : Option Declaration) (shape : Shape) (fields : List FieldType) → option_map (λ (x : Declaration). x.shape) d ≡ Some shape → shape_fields shape ≡ Some fields → declaration_fields d ≡ Some fields
declared_fields None shape fields e listed = absurd (none-some shape e)
declared_fields (Some d) shape fields e listed = ap shape_fields (same_Some d.shape shape e) ∙ listed

module _ (layouts : Layouts) (types : List Declaration) (names : Names) (count : ℕ) where
  counted : (kind : _) (ty : ℕ) (values : List Value) (h : HeapObject) → (stands : ShapeStands layouts types names kind ty values h) → HasFields stands.shape → CountsIn types (rooted_object.Struct ty) count → count ≡ length values
  counted kind ty values h stands has counts =
      counts has.fields (declared_fields (slice_get types ty) stands.shape has.fields stands.declared has.listed)
      ∙ sym (stands.values_lie.same_count ∙ has.slots layouts stands.count)

  count_of : {D : Type 0} (o : Object D) (h : HeapObject) (object : RootedObject) → Stands layouts types names o h → IsObject (Some o) object → CountsIn types object count → count ≡ length (object_values o)
  count_of (struct ty values) h object stands is counts = counted kinds.Struct ty values h stands.stands (struct_fields stands.stands.shape stands.stands.of_kind) (subst (λ (x : RootedObject). CountsIn types x count) is counts)
  count_of (array ty values) h object stands is counts = subst (λ (x : RootedObject). CountsIn types x count) is counts
  count_of (host value) h object stands is counts = subst (λ (x : RootedObject). CountsIn types x count) is counts
  count_of (exception ty tag values) h object stands is counts = counted kinds.Exn ty values h stands.stands (exn_fields stands.stands.shape stands.stands.of_kind) (subst (λ (x : RootedObject). CountsIn types x count) is counts)

pub values_counted : {D : Type 0} (layouts : Layouts) (s : StoreView D) (t : Table D) (holds : HoldsTable layouts s t) (handle : GcRootIndex) (p : ℕ) (o : Object D) (object : RootedObject) (count : ℕ) → NamesReference s t handle (at p) → slice_get t.objects p ≡ Some o
    → IsObject (slice_get t.objects p) object → CountsIn s.types object count → count ≡ length (object_values o)
values_counted layouts s t holds handle p o object count named e is counts =
    let word = named_held layouts s t holds.0 holds.1 handle (at p) named in
    let placed = holds.1.objects.placed p word.0 word.1.0 in
    count_of layouts t.types (naming holds.0 s.ids) count o placed.object object
    (object_held layouts s t holds.0 holds.1 p word.0 o placed.object word.1.0 placed.in_heap e)
    (subst (λ (x : Option (Object _)). IsObject x object) e is)
    (subst (λ (ts : List Declaration). CountsIn ts object count) holds.1.types counts)
