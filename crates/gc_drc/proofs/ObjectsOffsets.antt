-- The references of an object lie inside it, and they are those that its words tell.
use Rattle.std.proofs.Common.{◌≡◌, ℕ, zero, suc, ◌+◌, ◌*◌, ◌≤◌, Bool, true, false, List, [], map, Option, Some, None, slice_get, refl, sym, ap, subst, ◌∙◌, inl, inr, arith, option_map}
use Rattle.std.proofs.lemmas.Option.{none-some}
use Rattle.std.proofs.lemmas.List.Elements.{All-contains}
use Rattle.gc_types.specs.declared.kind.Layouts.TheVariants.{Counting}
use Rattle.gc_types.specs.declared.kind.VMGcKind.{VMGcKind}
use Rattle.gc_types.specs.declared.kind.VMGcKind.TheVariants.{ExternRef, AnyRef, EqRef, StructRef, ArrayRef, ExnRef}
use Rattle.gc_types.specs.declared.value.FieldType.{FieldType}
use Rattle.gc_types.specs.declared.value.StorageType.{StorageType}
use Rattle.gc_types.specs.declared.value.StorageType.TheVariants as storage
use Rattle.gc_types.specs.declared.value.ValType.{ValType}
use Rattle.gc_types.specs.declared.value.ValType.TheVariants as val
use Rattle.gc_types.specs.declared.layout.TraceInfo.{TraceInfo}
use Rattle.gc_types.specs.declared.layout.TraceInfo.TheVariants as trace
use Rattle.gc_types.specs.declared.layout.GcStructLayout.{GcStructLayout}
use Rattle.gc_types.specs.declared.layout.GcArrayLayout.{GcArrayLayout}
use Rattle.gc_types.specs.Declarations.{Declaration, Shape, struct_of, array_of, exn_of, func_of, constant_field, shape_elem, declaration_elem}
use Rattle.gc_types.specs.Layouts.{trace_at, ref_offsets, field_layouts, fields_end, is_gc_storage, storage_width, shape_layout, shape_trace, declaration_layout, declaration_trace, array_layout, round_up}
use Rattle.gc_types.specs.LayoutLaws.{IsPlacedIn}
use Rattle.gc_types.proofs.RefLemmas.{references_placed}
use Rattle.gc_memory.specs.Lists.{In}
use Rattle.gc_view.specs.Heaps.{HeapObject}
use Rattle.gc_heap.specs.Objects.{held_size, array_length, IsObjectKind}
use Rattle.gc_heap.specs.References.{word_offsets, info_offsets, typed_offsets, HoldsType}
use Rattle.gc_drc.specs.CollectMemory.{offsets_by_info, info_of}
use Rattle.gc_drc.proofs.ObjectsRoots.{in_first}
use Rattle.gc_memory.proofs.ListLemmas.{in_contains}

-- offsets of words that lie in an object, behind the heap's own words
abbrev pub AreInside : ℕ → List ℕ → Type 0
AreInside size offsets = (o : ℕ) → In o offsets → (28 ≤ o) × (o + 4 ≤ size)

-- What the trace info of an object of some kind is, where its number behind the header is a count.
pub data Traced (k : VMGcKind) (info : Option TraceInfo) (size count : ℕ) : Type 0 where
  external : k ≡ ExternRef → Traced k info size count
  by_fields : (offsets : List ℕ) → info ≡ Some (trace.Struct offsets) → AreInside size offsets → info_of k info ≡ info → Traced k info size count
  by_elements : (elements : Bool) → info ≡ Some (trace.Array elements) → k ≡ ArrayRef → (elements ≡ true → 32 + count * 4 ≤ size) → Traced k info size count

fields_inside : (base size : ℕ) (fields : List FieldType) → 28 ≤ base → fields_end base fields ≤ size → AreInside size (ref_offsets (field_layouts base fields))
fields_inside base size fields from to o i =
    let placed : IsPlacedIn base (fields_end base fields) o =
    All-contains (IsPlacedIn base (fields_end base fields)) (ref_offsets (field_layouts base fields)) o (references_placed base fields) (in_contains (ref_offsets (field_layouts base fields)) o i) in
    let behind = placed.behind in
    let inside = placed.inside in
    (omega arith, omega arith)

-- the trace info of a type with a layout
record InfoFits (info : Option TraceInfo) (size : ℕ) : Type 0 where
  offsets : List ℕ
  is : info ≡ Some (trace.Struct offsets)
  inside : AreInside size offsets

shape_fits : (shape : Shape) (layout : GcStructLayout) (size : ℕ) → shape_layout Counting shape ≡ Some layout → layout.size ≤ size → InfoFits (shape_trace Counting shape) size
shape_fits (struct_of fields) layout size e fits =
    let ends : fields_end 28 fields ≡ layout.size = cc in
    record { offsets = ref_offsets (field_layouts 28 fields); is = refl; inside = fields_inside 28 size fields (omega arith) (omega arith) }
shape_fits (array_of elem) layout size e fits = absurd (none-some layout e)
shape_fits (exn_of params) layout size e fits =
    let fields : List FieldType = map constant_field params in
    let ends : fields_end 36 fields ≡ layout.size = cc in
    record { offsets = ref_offsets (field_layouts 36 fields); is = refl; inside = fields_inside 36 size fields (omega arith) (omega arith) }
shape_fits (func_of params results) layout size e fits = absurd (none-some layout e)

declared_fits : (d : Option Declaration) (layout : GcStructLayout) (size : ℕ) → declaration_layout Counting d ≡ Some layout → layout.size ≤ size → InfoFits (declaration_trace Counting d) size
declared_fits None layout size e fits = absurd (none-some layout e)
declared_fits (Some d) layout size e fits = shape_fits d.shape layout size e fits

-- the trace info of an array type with a layout
record ElementsFit (info : Option TraceInfo) (size count : ℕ) : Type 0 where
  elements : Bool
  is : info ≡ Some (trace.Array elements)
  inside : elements ≡ true → 32 + count * 4 ≤ size

value_ref_width : (ty : ValType) → is_gc_storage (storage.ValType ty) ≡ true → storage_width (storage.ValType ty) ≡ 4
value_ref_width val.I32 e = refl
value_ref_width val.I64 e = absurd (cc)
value_ref_width val.F32 e = refl
value_ref_width val.F64 e = absurd (cc)
value_ref_width val.V128 e = absurd (cc)
value_ref_width (val.Ref ty) e = refl

-- an element that a collection follows is a word
ref_width : (ty : StorageType) → is_gc_storage ty ≡ true → storage_width ty ≡ 4
ref_width storage.I8 e = absurd (cc)
ref_width storage.I16 e = absurd (cc)
ref_width (storage.ValType ty) e = value_ref_width ty e

words_fit : (base width count size : ℕ) → width ≡ 4 → base ≡ round_up 32 width → base + count * width ≤ size → 32 + count * 4 ≤ size
words_fit base width count size four is fits =
    let least : base ≡ 32 = is ∙ ap (round_up 32) four in
    subst (λ (w : ℕ). 32 + count * w ≤ size) four (subst (λ (b : ℕ). b + count * width ≤ size) least fits)

array_fits : (elem : FieldType) (layout : GcArrayLayout) (size count : ℕ) → array_layout Counting elem ≡ layout → layout.base_size + count * layout.elem_size ≤ size
    → is_gc_storage elem.element_type ≡ true → 32 + count * 4 ≤ size
array_fits elem layout size count e fits is =
    words_fit (array_layout Counting elem).base_size (storage_width elem.element_type) count size (ref_width elem.element_type is) refl
    (subst (λ (l : GcArrayLayout). l.base_size + count * l.elem_size ≤ size) (sym e) fits)

shape_elements : (shape : Shape) (layout : GcArrayLayout) (size count : ℕ) → option_map (array_layout Counting) (shape_elem shape) ≡ Some layout → layout.base_size + count * layout.elem_size ≤ size
    → ElementsFit (shape_trace Counting shape) size count
shape_elements (struct_of fields) layout size count e fits = absurd (none-some layout e)
shape_elements (array_of elem) layout size count e fits =
    let is : array_layout Counting elem ≡ layout = cc in
    record { elements = is_gc_storage elem.element_type; is = refl; inside = array_fits elem layout size count is fits }
shape_elements (exn_of params) layout size count e fits = absurd (none-some layout e)
shape_elements (func_of params results) layout size count e fits = absurd (none-some layout e)

declared_elements : (d : Option Declaration) (layout : GcArrayLayout) (size count : ℕ) → option_map (array_layout Counting) (declaration_elem d) ≡ Some layout
    → layout.base_size + count * layout.elem_size ≤ size → ElementsFit (declaration_trace Counting d) size count
declared_elements None layout size count e fits = absurd (none-some layout e)
declared_elements (Some d) layout size count e fits = shape_elements d.shape layout size count e fits

-- an object whose type is known is traced by it
pub traced_by : (types : List Declaration) (o : HeapObject) (k : VMGcKind) → IsObjectKind k → HoldsType Counting types o k
    → Traced k (trace_at Counting types o.ty) (held_size Counting o) (array_length o)
traced_by types o ExternRef is h = external refl
traced_by types o AnyRef is h = absurd is
traced_by types o EqRef is h = absurd is
traced_by types o StructRef is h =
    let f = declared_fits (slice_get types o.ty) h.is (held_size Counting o) h.stands h.fits in
    by_fields f.offsets f.is f.inside refl
traced_by types o ArrayRef is h =
    let f = declared_elements (slice_get types o.ty) h.is (held_size Counting o) (array_length o) h.stands h.fits in
    by_elements f.elements f.is refl f.inside
traced_by types o ExnRef is h =
    let f = declared_fits (slice_get types o.ty) h.is (held_size Counting o) h.stands h.fits in
    by_fields f.offsets f.is f.inside refl

-- by the trace info of its kind
pub typed_is : (types : List Declaration) (o : HeapObject) (k : VMGcKind) → typed_offsets Counting types o k ≡ info_offsets Counting o (info_of k (trace_at Counting types o.ty))
typed_is types o ExternRef = refl
typed_is types o AnyRef = refl
typed_is types o EqRef = refl
typed_is types o StructRef = refl
typed_is types o ArrayRef = refl
typed_is types o ExnRef = refl

info_same : (o : HeapObject) (count : ℕ) (info : Option TraceInfo) → array_length o ≡ count → info_offsets Counting o info ≡ offsets_by_info info count
info_same o count None e = refl
info_same o count (Some (trace.Struct offsets)) e = refl
info_same o count (Some (trace.Array true)) e = ap (word_offsets 32) e
info_same o count (Some (trace.Array false)) e = refl

-- the number behind the header counts only in an array
pub offsets_by : (o : HeapObject) (k : VMGcKind) (info : Option TraceInfo) (size count : ℕ) → Traced k info size (array_length o) → (k ≡ ArrayRef → array_length o ≡ count)
    → info_offsets Counting o (info_of k info) ≡ offsets_by_info (info_of k info) count
offsets_by o k info size count (external is) array = subst (λ (j : VMGcKind). info_offsets Counting o (info_of j info) ≡ offsets_by_info (info_of j info) count) (sym is) refl
offsets_by o k info size count (by_fields offsets e inside same) array = ap (info_offsets Counting o) (same ∙ e) ∙ sym (ap (λ i. offsets_by_info i count) (same ∙ e))
offsets_by o k info size count (by_elements elements e is inside) array = info_same o count (info_of k info) (array is)

no_offset : (size : ℕ) → AreInside size []
no_offset size o i = elim i [ ]

words_inside : (n from size : ℕ) → 28 ≤ from → from + n * 4 ≤ size → AreInside size (word_offsets from n)
words_inside zero from size least fits o i = elim i [ ]
words_inside (suc n) from size least fits o i = elim (in_first o from (word_offsets (from + 4) n) i) [
  | inl e ↦ (omega arith, omega arith)
  | inr j ↦ words_inside n (from + 4) size (omega arith) (omega arith) o j
]

elements_inside : (elements : Bool) (count size : ℕ) → (elements ≡ true → 32 + count * 4 ≤ size) → AreInside size (offsets_by_info (Some (trace.Array elements)) count)
elements_inside true count size fits = words_inside count 32 size (omega arith) (fits refl)
elements_inside false count size fits = no_offset size

-- the references of an object lie inside it
pub offsets_inside : (k : VMGcKind) (info : Option TraceInfo) (size count : ℕ) → Traced k info size count → AreInside size (offsets_by_info (info_of k info) count)
offsets_inside k info size count (external is) = subst (λ (j : VMGcKind). AreInside size (offsets_by_info (info_of j info) count)) (sym is) (no_offset size)
offsets_inside k info size count (by_fields offsets e inside same) = subst (λ i. AreInside size (offsets_by_info i count)) (sym (same ∙ e)) inside
offsets_inside k info size count (by_elements elements e is fits) =
    subst (λ (j : VMGcKind). AreInside size (offsets_by_info (info_of j info) count)) (sym is)
    (subst (λ i. AreInside size (offsets_by_info i count)) (sym e) (elements_inside elements count size fits))

-- only an array is traced as one
pub array_by : (k : VMGcKind) (info : Option TraceInfo) (size count : ℕ) (elements : Bool) → Traced k info size count → info_of k info ≡ Some (trace.Array elements) → k ≡ ArrayRef
array_by k info size count elements (external is) array = absurd (none-some _ (ap (λ j. info_of j info) (sym is) ∙ array))
array_by k info size count elements (by_fields offsets e inside same) array = absurd (struct_array offsets elements (sym (same ∙ e) ∙ array))
  where
    struct_array : (offsets : List ℕ) (elements : Bool) → Some (trace.Struct offsets) ≡ Some (trace.Array elements) → ⊥
    struct_array offsets elements e = cc
array_by k info size count elements (by_elements x e is fits) array = is
