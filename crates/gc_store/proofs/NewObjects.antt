-- What is made where an object is requested: its shape, its size, and slots that are 0.
use Rattle.std.proofs.Common.{◌≡◌, ℕ, zero, suc, ◌+◌, ◌-◌, ◌^◌, ◌<◌, ◌≤◌, List, [], ◌∷◌, ◌++◌, length, map, take, drop, replicate, Bor, Some, refl, sym, ap, ◌∙◌, subst, arith}
use Rattle.std.specs.Prelude.{option_map}
use Rattle.std.specs.Int.{w32, to_le_bytes}
use Rattle.std.specs.List.{slice_get}
use Rattle.std.specs.FinMap.{get}
use Rattle.std.proofs.lemmas.Option.{same_Some}
use Rattle.std.proofs.lemmas.List.{length-append, length-replicate, drop-replicate, take-replicate}
use Rattle.std.proofs.lemmas.Nat.{from_le_bytes-to_le_bytes_4}
use Rattle.gc_types.specs.declared.layout.GcArrayLayout.{GcArrayLayout}
use Rattle.gc_types.specs.declared.layout.GcStructLayout.{GcStructLayout}
use Rattle.gc_types.specs.declared.value.FieldType.{FieldType}
use Rattle.gc_types.specs.declared.kind.Layouts.{Layouts}
use Rattle.gc_types.specs.declared.kind.Layouts.TheVariants.{Null, Counting, Copying}
use Rattle.gc_types.specs.Declarations.{Declaration, Shape, struct_of, array_of, exn_of, constant_field, struct_fields_at, elem_at, shape_at}
use Rattle.gc_types.specs.Layouts.{struct_base, array_base, exception_base, storage_width, struct_layout, exn_layout, array_layout, fields_end, layout_at, array_layout_at}
use Rattle.gc_types.specs.declared.value.Tag.{Tag}
use Rattle.gc_types.specs.declared.value.ValType.{ValType}
use Rattle.gc_view.specs.Heaps.{HeapObject, HeapView}
use Rattle.gc_view.specs.Sizes.{stored_size}
use Rattle.gc_view.specs.Slots.{shape_slots, shape_size, elements_from}
use Rattle.gc_view.proofs.Spacing.{shape_first}
use Rattle.gc_view.proofs.Layouts.{stored_size-le, fields_end-le, round_up-le, storage_width_positive}
use Rattle.gc_view.proofs.SlotLemmas.{shape_spaced, slot_range}
use Rattle.gc_heap.specs.Heap.{new_struct, new_array, array_size}
use Rattle.gc_owner.specs.declared.allocate.Description.{Description}
use Rattle.gc_owner.specs.declared.allocate.Description.TheVariants as of
use Rattle.gc_owner.specs.Makes.{Describes}
use Rattle.gc_owner.specs.Owners.{OwnerView}
use Rattle.gc_model.proofs.ObjectShapes.{struct_shape, array_shape}
use Rattle.gc_values.specs.declared.request.Place.{Place}
use Rattle.gc_values.specs.declared.request.Place.TheVariants as place
use Rattle.gc_values.specs.Filling.{AreBlank, asked_type, requested_kind, IsOfAskedKind}
use Rattle.gc_values.specs.HeldSlots.{HasHeapShape}
use Rattle.gc_values.specs.Making.{IsDescribedBy, IsSizeOf}
use Rattle.gc_values.proofs.ShapeSlots.{laid_out}

-- What is made for a request, by the types.
-- an object is of the kind that is requested
abbrev pub HasAskedKind : Place → HeapObject → Type 0
HasAskedKind request o = o.kind ≡ requested_kind request

-- so it is where it was made
pub asked_kind : (request : Place) (h : HeapView) (p : ℕ) (o : HeapObject) → get h.content p ≡ Some o → HasAskedKind request o → IsOfAskedKind request h p
asked_kind request h p o held kind = λ x e. ap (λ (y : HeapObject). y.kind) (same_Some x o (sym e ∙ held)) ∙ kind

pub record IsNew (D : Type 0) (layouts : Layouts) (types : List Declaration) (request : Place) : Type 0 where
  pub shape : Shape
  pub declared : shape_at types (asked_type request) ≡ Some shape
  pub count : ℕ
  pub blank : HeapObject
  pub of_type : blank.ty ≡ asked_type request
  pub has : HasHeapShape blank shape count
  pub is_size : IsSizeOf layouts types request (shape_size layouts shape count)
  pub stored : struct_base layouts + length blank.bytes ≡ stored_size layouts (shape_size layouts shape count)
  pub are_blank : AreBlank (struct_base layouts) (shape_slots layouts shape count) blank.bytes
  pub of_kind : HasAskedKind request blank
  pub described : (v : OwnerView D) → v.types.declarations ≡ types → (d : Description) → IsDescribedBy layouts types request d → Describes layouts v d blank (shape_size layouts shape count)

-- what is made by a description of a request is what the layout of its type tells
module _ {D : Type 0} (layouts : Layouts) (types : List Declaration) (ty : ℕ) where
  module _ (layout : GcStructLayout) (laid : layout_at layouts types ty ≡ Some layout) (v : OwnerView D) (types_are : v.types.declarations ≡ types) where
    object_described : (named : ℕ) (found : Bor GcStructLayout) → named ≡ ty → layout_at layouts types ty ≡ Some found.now → Describes layouts v (of.Object named found) (new_struct layouts ty layout) layout.size
    object_described named found is found_is =
        let same : layout ≡ found.now = same_Some layout found.now (sym laid ∙ found_is) in (
          ap (λ (ts : List Declaration). layout_at layouts ts named) types_are ∙ ap (layout_at layouts types) is ∙ found_is,
          ((λ i. new_struct layouts (sym is i) (same i)), ap (λ (l : GcStructLayout). l.size) same),
        )

    pub fields_described : (d : Description) → IsDescribedBy layouts types (place.Struct ty) d → Describes layouts v d (new_struct layouts ty layout) layout.size
    fields_described (of.Object named found) (is, found_is) = object_described named found is found_is
    fields_described (of.Array named count found) is = absurd is
    fields_described (of.External id) is = absurd is

    pub exn_described : (tag : Tag) (d : Description) → IsDescribedBy layouts types (place.Exn ty tag) d → Describes layouts v d (new_struct layouts ty layout) layout.size
    exn_described tag (of.Object named found) (is, found_is) = object_described named found is found_is
    exn_described tag (of.Array named count found) is = absurd is
    exn_described tag (of.External id) is = absurd is

  pub array_described : (count : ℕ) (layout : GcArrayLayout) → count < 2 ^ 32 → array_layout_at layouts types ty ≡ Some layout → (v : OwnerView D) → v.types.declarations ≡ types → (d : Description)
      → IsDescribedBy layouts types (place.Array ty count) d → Describes layouts v d (new_array layouts ty count layout) (array_size layout count)
  array_described count layout few laid v types_are (of.Array named length found) (is, (length_is, found_is)) =
      let same : layout ≡ found.now = same_Some layout found.now (sym laid ∙ found_is) in (
        ap (λ (ts : List Declaration). array_layout_at layouts ts named) types_are ∙ ap (array_layout_at layouts types) is ∙ found_is,
        (subst (λ (n : ℕ). n < 2 ^ 32) (sym length_is) few, ((λ i. new_array layouts (sym is i) (sym length_is i) (same i)), (λ i. array_size (same i) (sym length_is i)))),
      )
  array_described count layout few laid v types_are (of.Object named found) is = absurd is
  array_described count layout few laid v types_are (of.External id) is = absurd is

drop_behind : (xs ys : List ℕ) (n : ℕ) → length xs ≤ n → drop n (xs ++ ys) ≡ drop (n - length xs) ys
drop_behind [] ys n behind = ap (λ k. drop k ys) (let e : n ≡ n - length {A = ℕ} [] = omega arith in e)
drop_behind (x ∷ xs) ys zero behind = absurd (omega (arith, behind))
drop_behind (x ∷ xs) ys (suc n) behind = drop_behind xs ys n (omega (arith, behind)) ∙ ap (λ k. drop k ys) (let e : n - length xs ≡ suc n - length (x ∷ xs) = omega arith in e)

-- a part of the zeros behind some bytes
zeros_part : (front : List ℕ) (m o w : ℕ) → length front ≤ o → o + w ≤ length front + m → take w (drop o (front ++ replicate m 0)) ≡ replicate w 0
zeros_part front m o w behind within =
    ap (take w) (drop_behind front (replicate m 0) o behind)
    ∙ ap (take w) (drop-replicate (o - length front) m 0)
    ∙ take-replicate w (m - (o - length front)) 0 (omega (arith, behind, within))

pub zeros_lie : (layouts : Layouts) (shape : Shape) (n : ℕ) (front : List ℕ) (m : ℕ) → struct_base layouts + length front ≤ shape_first layouts shape → shape_size layouts shape n ≤ struct_base layouts + (length front + m)
    → AreBlank (struct_base layouts) (shape_slots layouts shape n) (front ++ replicate m 0)
zeros_lie layouts shape n front m behind within i slot e =
    let range = slot_range (shape_first layouts shape) (shape_size layouts shape n) (shape_slots layouts shape n) (shape_spaced layouts shape n) i slot e in
    zeros_part front m (slot.offset - struct_base layouts) (storage_width slot.storage) (omega (arith, behind, range.low)) (omega (arith, behind, range.low, range.high, within))

pub array_base_is : (layouts : Layouts) → array_base layouts ≡ struct_base layouts + 4
array_base_is Null = refl
array_base_is Counting = refl
array_base_is Copying = refl

-- the size of a struct, and of an array
abbrev pub struct_size_of : (layouts : Layouts) (types : List Declaration) (ty : ℕ) (fields : List FieldType) → struct_fields_at types ty ≡ Some fields → (size : ℕ) × IsSizeOf layouts types (place.Struct ty) size
struct_size_of layouts types ty fields declared =
    (fields_end (struct_base layouts) fields, (struct_layout layouts fields, (laid_out layouts (slice_get types ty) (struct_of fields) (struct_shape types ty fields declared), refl)))

abbrev pub array_size_of : (layouts : Layouts) (types : List Declaration) (ty count : ℕ) (element : FieldType) → elem_at types ty ≡ Some element → (size : ℕ) × IsSizeOf layouts types (place.Array ty count) size
array_size_of layouts types ty count element declared =
    (array_size (array_layout layouts element) count, (array_layout layouts element, (ap (option_map (array_layout layouts)) declared, refl)))

-- a struct
abbrev pub new_struct_is : (D : Type 0) (layouts : Layouts) (types : List Declaration) (ty : ℕ) (fields : List FieldType) → struct_fields_at types ty ≡ Some fields → IsNew D layouts types (place.Struct ty)
new_struct_is D layouts types ty fields declared =
    let size : ℕ = fields_end (struct_base layouts) fields in
    let zeros : ℕ = stored_size layouts size - struct_base layouts in
    let least = stored_size-le layouts size in
    let base = fields_end-le (struct_base layouts) fields in
    let shape = struct_shape types ty fields declared in
    let laid : layout_at layouts types ty ≡ Some (struct_layout layouts fields) = laid_out layouts (slice_get types ty) (struct_of fields) shape in
    record {
      shape = struct_of fields;
      declared = shape;
      count = 0;
      blank = new_struct layouts ty (struct_layout layouts fields);
      of_type = refl;
      has = refl;
      is_size = (struct_layout layouts fields, (laid, refl));
      stored = omega (arith, length-replicate {A = ℕ} zeros 0, least, base);
      of_kind = refl;
      are_blank = zeros_lie layouts (struct_of fields) 0 [] zeros (omega arith) (omega (arith, least, base));
      described = λ v types_are d is. fields_described layouts types ty (struct_layout layouts fields) laid v types_are d is;
    }

-- an exception
pub exception_base_is : (layouts : Layouts) → exception_base layouts ≡ struct_base layouts + 8
exception_base_is Null = refl
exception_base_is Counting = refl
exception_base_is Copying = refl

abbrev pub exn_size_of : (layouts : Layouts) (types : List Declaration) (ty : ℕ) (tag : Tag) (params : List ValType) → shape_at types ty ≡ Some (exn_of params) → (size : ℕ) × IsSizeOf layouts types (place.Exn ty tag) size
exn_size_of layouts types ty tag params declared =
    (fields_end (exception_base layouts) (map constant_field params), (exn_layout layouts params, (laid_out layouts (slice_get types ty) (exn_of params) declared, refl)))

abbrev pub new_exn_is : (D : Type 0) (layouts : Layouts) (types : List Declaration) (ty : ℕ) (tag : Tag) (params : List ValType) → shape_at types ty ≡ Some (exn_of params) → IsNew D layouts types (place.Exn ty tag)
new_exn_is D layouts types ty tag params declared =
    let size : ℕ = fields_end (exception_base layouts) (map constant_field params) in
    let zeros : ℕ = stored_size layouts size - struct_base layouts in
    let least = stored_size-le layouts size in
    let base = fields_end-le (exception_base layouts) (map constant_field params) in
    let front = exception_base_is layouts in
    let laid : layout_at layouts types ty ≡ Some (exn_layout layouts params) = laid_out layouts (slice_get types ty) (exn_of params) declared in
    record {
      shape = exn_of params;
      declared = declared;
      count = 0;
      blank = new_struct layouts ty (exn_layout layouts params);
      of_type = refl;
      has = refl;
      is_size = (exn_layout layouts params, (laid, refl));
      stored = omega (arith, length-replicate {A = ℕ} zeros 0, least, base, front);
      of_kind = refl;
      are_blank = zeros_lie layouts (exn_of params) 0 [] zeros (omega (arith, front)) (omega (arith, least, base, front));
      described = λ v types_are d is. exn_described layouts types ty (exn_layout layouts params) laid v types_are tag d is;
    }

-- an array
abbrev pub new_array_is : (D : Type 0) (layouts : Layouts) (types : List Declaration) (ty count : ℕ) (element : FieldType) → count < 2 ^ 32 → elem_at types ty ≡ Some element → IsNew D layouts types (place.Array ty count)
new_array_is D layouts types ty count element few declared =
    let layout = array_layout layouts element in
    let size : ℕ = array_size layout count in
    let zeros : ℕ = stored_size layouts size - array_base layouts in
    let least = stored_size-le layouts size in
    let base = array_base_is layouts in
    let first : array_base layouts ≤ elements_from layouts element = round_up-le (array_base layouts) (storage_width element.element_type) (storage_width_positive element.element_type) in
    let long : length (to_le_bytes w32 count ++ replicate {A = ℕ} zeros 0) ≡ 4 + zeros = length-append (to_le_bytes w32 count) (replicate zeros 0) ∙ ap (λ n. 4 + n) (length-replicate {A = ℕ} zeros 0) in
    let laid : array_layout_at layouts types ty ≡ Some layout = ap (option_map (array_layout layouts)) declared in
    record {
      shape = array_of element;
      declared = array_shape types ty element declared;
      count = count;
      blank = new_array layouts ty count layout;
      of_type = refl;
      has = (refl, sym (from_le_bytes-to_le_bytes_4 count few));
      is_size = (layout, (laid, refl));
      stored = omega (arith, long, least, base, first);
      of_kind = refl;
      are_blank = zeros_lie layouts (array_of element) count (to_le_bytes w32 count) zeros (omega (arith, base)) (omega (arith, least, base, first));
      described = λ v types_are d is. array_described layouts types ty count layout few laid v types_are d is;
    }
