-- The references of an object: how they are found, where they lie, and what leaves them where they are.
use Rattle.std.proofs.Common.{◌≡◌, ℕ, ◌+◌, ◌*◌, ◌%◌, ◌≤◌, inl, inr, Bool, true, false, nat_eq, if◌then◌else◌, List, [], length, map, Option, Some, None, option_map, refl, sym, ap, ap₂, subst, ◌∙◌, arith}
use Rattle.std.specs.Prelude.{All, ◌==◌, slice_get}
use Rattle.std.proofs.lemmas.Bool.{cases_eq, eq-eqb, ne_eqb}
use Rattle.std.proofs.lemmas.Option.{none-some}
use Rattle.std.proofs.lemmas.List.Elements.{All-contains}
use Rattle.gc_types.specs.declared.kind.Layouts.{Layouts}
use Rattle.gc_types.specs.declared.kind.Layouts.TheVariants.{Null, Counting, Copying}
use Rattle.gc_types.specs.declared.kind.VMGcKind.{VMGcKind}
use Rattle.gc_types.specs.declared.kind.VMGcKind.TheVariants.{ExternRef, AnyRef, EqRef, StructRef, ArrayRef, ExnRef}
use Rattle.gc_types.specs.declared.value.FieldType.{FieldType}
use Rattle.gc_types.specs.declared.layout.TraceInfo.{TraceInfo}
use Rattle.gc_types.specs.declared.layout.TraceInfo.TheVariants as trace
use Rattle.gc_types.specs.declared.layout.GcStructLayout.{GcStructLayout}
use Rattle.gc_types.specs.declared.layout.GcArrayLayout.{GcArrayLayout}
use Rattle.gc_types.specs.Declarations.{Declaration, Shape, struct_of, array_of, exn_of, func_of, constant_field, shape_elem, declaration_elem}
use Rattle.gc_types.specs.Layouts.{struct_base, exception_base, array_base, round_up, trace_at, ref_offsets, field_layouts, fields_end, is_gc_storage, storage_width, array_layout, shape_layout, shape_trace, declaration_layout, declaration_trace, layout_at, array_layout_at}
use Rattle.gc_refs.specs.Trace.{form_of}
use Rattle.gc_memory.specs.Lists.{In}
use Rattle.gc_view.specs.Heaps.{HeapObject}
use Rattle.gc_heap.specs.Objects.{held_size, size_with, array_length, writable_offset, HasFields}
use Rattle.gc_heap.specs.References.{bit_offsets, word_offsets, bitmap_offsets, element_offsets, info_offsets, typed_offsets, traced_offsets, reference_offsets, HoldsType, HoldsLayout, HoldsArrayLayout, Spaced}
use Rattle.gc_heap.specs.Rules.{IsTyped}
use Rattle.gc_heap.specs.Content.{TracesInside, IsSpare}
use Rattle.gc_heap.proofs.SpacedLemmas.{spaced_wider, spaced_bits, spaced_words, spaced_fields, ref_width, no_bits, aligned_bits, aligned_words, aligned_fields}
use Rattle.gc_memory.proofs.ListLemmas.{in_contains}

-- How an object of a copying heap is traced.
pub data Form (o : HeapObject) (k : VMGcKind) : Type 0 where
  outside : k ≡ ExternRef → o.spare ≡ 0 → Form o k
  by_bits : HasFields k → form_of o.spare ≡ 0 → All (λ offset. offset + 4 ≤ held_size Copying o) (bitmap_offsets o.spare) → Form o k
  by_length : k ≡ ArrayRef → form_of o.spare ≡ 1 → (o.spare % 2 ≡ 1 → 16 + array_length o * 4 ≤ held_size Copying o) → Form o k
  by_type : HasFields k → form_of o.spare ≡ 2 → Form o k

pub form_is : (o : HeapObject) (k : VMGcKind) → TracesInside o k → Form o k
form_is o ExternRef t = outside refl t
form_is o AnyRef t = absurd t
form_is o EqRef t = absurd t
form_is o StructRef t = elim t [ inl bits ↦ by_bits tt bits.0 bits.1 | inr out ↦ by_type tt out ]
form_is o ArrayRef t = by_length refl t.0 t.1
form_is o ExnRef t = elim t [ inl bits ↦ by_bits tt bits.0 bits.1 | inr out ↦ by_type tt out ]

pub content_by_form : (types : List Declaration) (o : HeapObject) (form : ℕ) → form_of o.spare ≡ form → traced_offsets types o
    ≡ (if nat_eq form 0 then bitmap_offsets o.spare else (if nat_eq form 1 then (if o.spare % 2 == 1 then element_offsets Copying o else []) else typed_offsets Copying types o o.kind))
content_by_form types o form e =
    ap (λ (f : ℕ). if nat_eq f 0 then bitmap_offsets o.spare else (if nat_eq f 1 then (if o.spare % 2 == 1 then element_offsets Copying o else []) else typed_offsets Copying types o o.kind)) e

pub typed_is : (layouts : Layouts) (types : List Declaration) (o : HeapObject) (k : VMGcKind) → HasFields k → typed_offsets layouts types o k ≡ info_offsets layouts o (trace_at layouts types o.ty)
typed_is layouts types o ExternRef h = absurd h
typed_is layouts types o AnyRef h = absurd h
typed_is layouts types o EqRef h = absurd h
typed_is layouts types o StructRef h = refl
typed_is layouts types o ArrayRef h = refl
typed_is layouts types o ExnRef h = refl

-- What the trace info of a struct or exception type is.
pub record InfoFits (layouts : Layouts) (info : Option TraceInfo) (size : ℕ) : Type 0 where
  pub offsets : List ℕ
  pub is : info ≡ Some (trace.Struct offsets)
  pub spaced : Spaced (struct_base layouts) size offsets

bases : (layouts : Layouts) → struct_base layouts ≤ exception_base layouts
bases Null = omega arith
bases Counting = omega arith
bases Copying = omega arith

shape_fits : (layouts : Layouts) (shape : Shape) (layout : GcStructLayout) → shape_layout layouts shape ≡ Some layout → InfoFits layouts (shape_trace layouts shape) layout.size
shape_fits layouts (struct_of fields) layout e =
    let from : ℕ = struct_base layouts in
    let size : fields_end from fields ≡ layout.size = cc in
    record { offsets = ref_offsets (field_layouts from fields); is = refl; spaced = subst (λ n. Spaced from n (ref_offsets (field_layouts from fields))) size (spaced_fields from fields) }
shape_fits layouts (array_of elem) layout e = absurd (none-some layout e)
shape_fits layouts (exn_of params) layout e =
    let from : ℕ = exception_base layouts in
    let fields : List FieldType = map constant_field params in
    let size : fields_end from fields ≡ layout.size = cc in
    record {
      offsets = ref_offsets (field_layouts from fields);
      is = refl;
      spaced = subst (λ n. Spaced (struct_base layouts) n (ref_offsets (field_layouts from fields))) size
          (spaced_wider from (struct_base layouts) _ _ (ref_offsets (field_layouts from fields)) (bases layouts) (omega arith) (spaced_fields from fields));
    }
shape_fits layouts (func_of params results) layout e = absurd (none-some layout e)

declared_fits : (layouts : Layouts) (d : Option Declaration) (layout : GcStructLayout) → declaration_layout layouts d ≡ Some layout → InfoFits layouts (declaration_trace layouts d) layout.size
declared_fits layouts None layout e = absurd (none-some layout e)
declared_fits layouts (Some d) layout e = shape_fits layouts d.shape layout e

-- an object of a struct or exception type holds the references of its type
pub layout_fits : (layouts : Layouts) (types : List Declaration) (ty size : ℕ) (is_exception : Bool) → HoldsLayout is_exception size (declaration_layout layouts (slice_get types ty)) → InfoFits layouts (trace_at layouts types ty) size
layout_fits layouts types ty size is_exception h =
    let f = declared_fits layouts (slice_get types ty) h.is h.stands in
    record { offsets = f.offsets; is = f.is; spaced = spaced_wider (struct_base layouts) (struct_base layouts) h.is.size size f.offsets (omega arith) h.fits f.spaced }

base_rounded : (layouts : Layouts) → round_up (array_base layouts) 4 ≡ array_base layouts
base_rounded Null = refl
base_rounded Counting = refl
base_rounded Copying = refl

elements_fit : (layouts : Layouts) (o : HeapObject) (elem : FieldType) (size : ℕ) → is_gc_storage elem.element_type ≡ true
    → (array_layout layouts elem).base_size + array_length o * (array_layout layouts elem).elem_size ≤ size → Spaced (array_base layouts) size (element_offsets layouts o)
elements_fit layouts o elem size is fits =
    let four : storage_width elem.element_type ≡ 4 = ref_width elem.element_type is in
    let by_four : round_up (array_base layouts) 4 + array_length o * 4 ≤ size = subst (λ w. round_up (array_base layouts) w + array_length o * w ≤ size) four fits in
    spaced_words (array_length o) (array_base layouts) size (subst (λ n. n + array_length o * 4 ≤ size) (base_rounded layouts) by_four)

elements_by : (layouts : Layouts) (o : HeapObject) (elem : FieldType) (b : Bool) (is : GcArrayLayout) (size : ℕ) → is_gc_storage elem.element_type ≡ b → Some (array_layout layouts elem) ≡ Some is
    → is.base_size + array_length o * is.elem_size ≤ size → Spaced (array_base layouts) size (info_offsets layouts o (Some (trace.Array b)))
elements_by layouts o elem true is size refs e fits =
    let same : array_layout layouts elem ≡ is = cc in
    elements_fit layouts o elem size refs (subst (λ (l : GcArrayLayout). l.base_size + array_length o * l.elem_size ≤ size) (sym same) fits)
elements_by layouts o elem false is size refs e fits = tt

shape_elements : (layouts : Layouts) (o : HeapObject) (shape : Shape) (is : GcArrayLayout) (size : ℕ) → option_map (array_layout layouts) (shape_elem shape) ≡ Some is
    → is.base_size + array_length o * is.elem_size ≤ size → Spaced (array_base layouts) size (info_offsets layouts o (shape_trace layouts shape))
shape_elements layouts o (struct_of fields) is size e fits = absurd (none-some is e)
shape_elements layouts o (array_of elem) is size e fits = elements_by layouts o elem (is_gc_storage elem.element_type) is size refl e fits
shape_elements layouts o (exn_of params) is size e fits = absurd (none-some is e)
shape_elements layouts o (func_of params results) is size e fits = absurd (none-some is e)

declared_elements : (layouts : Layouts) (o : HeapObject) (d : Option Declaration) (is : GcArrayLayout) (size : ℕ) → option_map (array_layout layouts) (declaration_elem d) ≡ Some is
    → is.base_size + array_length o * is.elem_size ≤ size → Spaced (array_base layouts) size (info_offsets layouts o (declaration_trace layouts d))
declared_elements layouts o None is size e fits = absurd (none-some is e)
declared_elements layouts o (Some d) is size e fits = shape_elements layouts o d.shape is size e fits

-- the references of an object by its type lie where its holder may write, one behind the other
pub typed_spaced : (layouts : Layouts) (types : List Declaration) (o : HeapObject) (k : VMGcKind) → HoldsType layouts types o k → Spaced (writable_offset layouts k) (held_size layouts o) (typed_offsets layouts types o k)
typed_spaced layouts types o ExternRef h = tt
typed_spaced layouts types o AnyRef h = tt
typed_spaced layouts types o EqRef h = tt
typed_spaced layouts types o StructRef h =
    let f = layout_fits layouts types o.ty (held_size layouts o) false h in
    subst (λ i. Spaced (struct_base layouts) (held_size layouts o) (info_offsets layouts o i)) (sym f.is) f.spaced
typed_spaced layouts types o ArrayRef h = declared_elements layouts o (slice_get types o.ty) h.is (held_size layouts o) h.stands h.fits
typed_spaced layouts types o ExnRef h =
    let f = layout_fits layouts types o.ty (held_size layouts o) true h in
    subst (λ i. Spaced (struct_base layouts) (held_size layouts o) (info_offsets layouts o i)) (sym f.is) f.spaced

-- an external object has none
pub external_none : (types : List Declaration) (o : HeapObject) → o.spare ≡ 0 → traced_offsets types o ≡ []
external_none types o none =
    let form : form_of o.spare ≡ 0 = omega arith in
    content_by_form types o 0 form ∙ ap (λ (b : ℕ). bit_offsets 12 23 b) none ∙ no_bits 12 23

elements_if : (o : HeapObject) → (o.spare % 2 ≡ 1 → 16 + array_length o * 4 ≤ held_size Copying o) → Spaced 16 (held_size Copying o) (if o.spare % 2 == 1 then element_offsets Copying o else [])
elements_if o inside = elim (cases_eq (o.spare % 2) 1) [
  | inl odd ↦ subst (λ b. Spaced 16 (held_size Copying o) (if b then element_offsets Copying o else [])) (sym (eq-eqb (o.spare % 2) 1 odd)) (spaced_words (array_length o) 16 (held_size Copying o) (inside odd))
  | inr even ↦ subst (λ b. Spaced 16 (held_size Copying o) (if b then element_offsets Copying o else [])) (sym (ne_eqb (o.spare % 2) 1 even)) tt
]

bits_spaced : (o : HeapObject) → All (λ offset. offset + 4 ≤ held_size Copying o) (bitmap_offsets o.spare) → Spaced 12 (held_size Copying o) (bitmap_offsets o.spare)
bits_spaced o all =
    spaced_bits 23 12 o.spare (held_size Copying o) (λ x i. All-contains (λ offset. offset + 4 ≤ held_size Copying o) (bitmap_offsets o.spare) x all (in_contains (bitmap_offsets o.spare) x i))

-- the same of an object of a copying heap, by its trace word
traced_spaced : (types : List Declaration) (o : HeapObject) (k : VMGcKind) → o.kind ≡ k → TracesInside o k → (form_of o.spare ≡ 2 → HoldsType Copying types o k)
    → Spaced (writable_offset Copying k) (held_size Copying o) (traced_offsets types o)
traced_spaced types o ExternRef is t holds = subst (Spaced 32 (held_size Copying o)) (sym (external_none types o t)) tt
traced_spaced types o AnyRef is t holds = absurd t
traced_spaced types o EqRef is t holds = absurd t
traced_spaced types o StructRef is t holds = elim t [
  | inl bits ↦ subst (Spaced 12 (held_size Copying o)) (sym (content_by_form types o 0 bits.0)) (bits_spaced o bits.1)
  | inr out ↦ subst (Spaced 12 (held_size Copying o)) (sym (content_by_form types o 2 out ∙ ap (typed_offsets Copying types o) is)) (typed_spaced Copying types o StructRef (holds out))
]
traced_spaced types o ArrayRef is t holds = subst (Spaced 16 (held_size Copying o)) (sym (content_by_form types o 1 t.0)) (elements_if o t.1)
traced_spaced types o ExnRef is t holds = elim t [
  | inl bits ↦ subst (Spaced 12 (held_size Copying o)) (sym (content_by_form types o 0 bits.0)) (bits_spaced o bits.1)
  | inr out ↦ subst (Spaced 12 (held_size Copying o)) (sym (content_by_form types o 2 out ∙ ap (typed_offsets Copying types o) is)) (typed_spaced Copying types o ExnRef (holds out))
]

-- The references of an object lie in the part of it that its holder may write, one behind the other.
pub references_spaced : (layouts : Layouts) (types : List Declaration) (o : HeapObject) → IsSpare layouts o → IsTyped layouts types o
    → Spaced (writable_offset layouts o.kind) (held_size layouts o) (reference_offsets layouts types o)
references_spaced Null types o spare typed = typed_spaced Null types o o.kind typed
references_spaced Counting types o spare typed = typed_spaced Counting types o o.kind typed
references_spaced Copying types o spare typed = traced_spaced types o o.kind refl spare.1 typed

-- Two objects of one kind, type and size, with the same spare bits, and as arrays with the same length.
pub record HasSameShape (o o' : HeapObject) : Type 0 where
  pub kind : o'.kind ≡ o.kind
  pub ty : o'.ty ≡ o.ty
  pub spare : o'.spare ≡ o.spare
  pub size : length o'.bytes ≡ length o.bytes
  pub count : o.kind ≡ ArrayRef → array_length o' ≡ array_length o

pub same_size : (layouts : Layouts) (o o' : HeapObject) → HasSameShape o o' → held_size layouts o' ≡ held_size layouts o
same_size layouts o o' same = ap₂ (λ k (n : ℕ). size_with layouts k n) same.kind same.size

info_same : (layouts : Layouts) (o o' : HeapObject) (info : Option TraceInfo) → array_length o' ≡ array_length o → info_offsets layouts o' info ≡ info_offsets layouts o info
info_same layouts o o' None e = refl
info_same layouts o o' (Some (trace.Struct offsets)) e = refl
info_same layouts o o' (Some (trace.Array true)) e = ap (word_offsets (array_base layouts)) e
info_same layouts o o' (Some (trace.Array false)) e = refl

struct_same : (layouts : Layouts) (types : List Declaration) (o o' : HeapObject) (size : ℕ) (is_exception : Bool) → o'.ty ≡ o.ty → HoldsLayout is_exception size (layout_at layouts types o.ty)
    → info_offsets layouts o' (trace_at layouts types o'.ty) ≡ info_offsets layouts o (trace_at layouts types o.ty)
struct_same layouts types o o' size is_exception ty h =
    let f = layout_fits layouts types o.ty size is_exception h in
    ap (λ t. info_offsets layouts o' (trace_at layouts types t)) ty ∙ ap (info_offsets layouts o') f.is ∙ sym (ap (info_offsets layouts o) f.is)

typed_same : (layouts : Layouts) (types : List Declaration) (o o' : HeapObject) (k : VMGcKind) → o'.ty ≡ o.ty → (k ≡ ArrayRef → array_length o' ≡ array_length o) → HoldsType layouts types o k
    → typed_offsets layouts types o' k ≡ typed_offsets layouts types o k
typed_same layouts types o o' ExternRef ty count h = refl
typed_same layouts types o o' AnyRef ty count h = refl
typed_same layouts types o o' EqRef ty count h = refl
typed_same layouts types o o' StructRef ty count h = struct_same layouts types o o' (held_size layouts o) false ty h
typed_same layouts types o o' ArrayRef ty count h = ap (λ t. info_offsets layouts o' (trace_at layouts types t)) ty ∙ info_same layouts o o' (trace_at layouts types o.ty) (count refl)
typed_same layouts types o o' ExnRef ty count h = struct_same layouts types o o' (held_size layouts o) true ty h

typed_as : (layouts : Layouts) (types : List Declaration) (o o' : HeapObject) → HasSameShape o o' → HoldsType layouts types o o.kind → typed_offsets layouts types o' o'.kind ≡ typed_offsets layouts types o o.kind
typed_as layouts types o o' same h = ap (typed_offsets layouts types o') same.kind ∙ typed_same layouts types o o' o.kind same.ty same.count h

traced_as : (types : List Declaration) (o o' : HeapObject) → HasSameShape o o' → Form o o.kind → (form_of o.spare ≡ 2 → HoldsType Copying types o o.kind) → traced_offsets types o' ≡ traced_offsets types o
traced_as types o o' same (outside is none) holds = external_none types o' (same.spare ∙ none) ∙ sym (external_none types o none)
traced_as types o o' same (by_bits fields form all) holds = content_by_form types o' 0 (ap form_of same.spare ∙ form) ∙ ap bitmap_offsets same.spare ∙ sym (content_by_form types o 0 form)
traced_as types o o' same (by_length is form all) holds =
    content_by_form types o' 1 (ap form_of same.spare ∙ form)
    ∙ ap₂ (λ (spare n : ℕ). if spare % 2 == 1 then word_offsets 16 n else []) same.spare (same.count is)
    ∙ sym (content_by_form types o 1 form)
traced_as types o o' same (by_type fields form) holds =
    content_by_form types o' 2 (ap form_of same.spare ∙ form) ∙ typed_as Copying types o o' same (holds form) ∙ sym (content_by_form types o 2 form)

-- objects of one shape have their references at the same offsets
pub same_offsets : (layouts : Layouts) (types : List Declaration) (o o' : HeapObject) → HasSameShape o o' → IsSpare layouts o → IsTyped layouts types o
    → reference_offsets layouts types o' ≡ reference_offsets layouts types o
same_offsets Null types o o' same spare typed = typed_as Null types o o' same typed
same_offsets Counting types o o' same spare typed = typed_as Counting types o o' same typed
same_offsets Copying types o o' same spare typed = traced_as types o o' same (form_is o o.kind spare.1) typed

holds_same : (layouts : Layouts) (types : List Declaration) (o o' : HeapObject) (k : VMGcKind) → o'.ty ≡ o.ty → held_size layouts o' ≡ held_size layouts o → (k ≡ ArrayRef → array_length o' ≡ array_length o)
    → HoldsType layouts types o k → HoldsType layouts types o' k
holds_same layouts types o o' ExternRef ty size count h = tt
holds_same layouts types o o' AnyRef ty size count h = tt
holds_same layouts types o o' EqRef ty size count h = tt
holds_same layouts types o o' StructRef ty size count h =
    subst (λ t. HoldsLayout false (held_size layouts o') (layout_at layouts types t)) (sym ty) (subst (λ n. HoldsLayout false n (layout_at layouts types o.ty)) (sym size) h)
holds_same layouts types o o' ArrayRef ty size count h =
    subst (λ t. HoldsArrayLayout (array_length o') (held_size layouts o') (array_layout_at layouts types t)) (sym ty)
    (subst (λ n. HoldsArrayLayout n (held_size layouts o') (array_layout_at layouts types o.ty)) (sym (count refl))
    (subst (λ n. HoldsArrayLayout (array_length o) n (array_layout_at layouts types o.ty)) (sym size) h))
holds_same layouts types o o' ExnRef ty size count h =
    subst (λ t. HoldsLayout true (held_size layouts o') (layout_at layouts types t)) (sym ty) (subst (λ n. HoldsLayout true n (layout_at layouts types o.ty)) (sym size) h)

holds_as : (layouts : Layouts) (types : List Declaration) (o o' : HeapObject) → HasSameShape o o' → HoldsType layouts types o o.kind → HoldsType layouts types o' o'.kind
holds_as layouts types o o' same h = subst (HoldsType layouts types o') (sym same.kind) (holds_same layouts types o o' o.kind same.ty (same_size layouts o o' same) same.count h)

-- and where the type of one is known, that of the other is
pub typed_kept : (layouts : Layouts) (types : List Declaration) (o o' : HeapObject) → HasSameShape o o' → IsTyped layouts types o → IsTyped layouts types o'
typed_kept Null types o o' same typed = holds_as Null types o o' same typed
typed_kept Counting types o o' same typed = holds_as Counting types o o' same typed
typed_kept Copying types o o' same typed = λ form. holds_as Copying types o o' same (typed (sym (ap form_of same.spare) ∙ form))

aligned_info : (layouts : Layouts) (o : HeapObject) (d : Option Declaration) (x : ℕ) → In x (info_offsets layouts o (declaration_trace layouts d)) → x % 4 ≡ 0
aligned_info layouts o None x i = elim i [ ]
aligned_info layouts o (Some d) x i = by_shape d.shape i
  where
    elements : (layouts : Layouts) (b : Bool) → In x (info_offsets layouts o (Some (trace.Array b))) → x % 4 ≡ 0
    elements Null true i = aligned_words (array_length o) 12 x refl i
    elements Counting true i = aligned_words (array_length o) 32 x refl i
    elements Copying true i = aligned_words (array_length o) 16 x refl i
    elements layouts false i = elim i [ ]

    by_shape : (shape : Shape) → In x (info_offsets layouts o (shape_trace layouts shape)) → x % 4 ≡ 0
    by_shape (struct_of fields) i = aligned_fields (struct_base layouts) fields x i
    by_shape (array_of elem) i = elements layouts (is_gc_storage elem.element_type) i
    by_shape (exn_of params) i = aligned_fields (exception_base layouts) (map constant_field params) x i
    by_shape (func_of params results) i = elim i [ ]

aligned_typed : (layouts : Layouts) (types : List Declaration) (o : HeapObject) (k : VMGcKind) (x : ℕ) → In x (typed_offsets layouts types o k) → x % 4 ≡ 0
aligned_typed layouts types o ExternRef x i = elim i [ ]
aligned_typed layouts types o AnyRef x i = elim i [ ]
aligned_typed layouts types o EqRef x i = elim i [ ]
aligned_typed layouts types o StructRef x i = aligned_info layouts o (slice_get types o.ty) x i
aligned_typed layouts types o ArrayRef x i = aligned_info layouts o (slice_get types o.ty) x i
aligned_typed layouts types o ExnRef x i = aligned_info layouts o (slice_get types o.ty) x i

aligned_traced : (types : List Declaration) (o : HeapObject) (bitmap array odd : Bool) (x : ℕ)
    → In x (if bitmap then bitmap_offsets o.spare else (if array then (if odd then element_offsets Copying o else []) else typed_offsets Copying types o o.kind)) → x % 4 ≡ 0
aligned_traced types o true array odd x i = aligned_bits 23 12 o.spare x refl i
aligned_traced types o false true true x i = aligned_words (array_length o) 16 x refl i
aligned_traced types o false true false x i = elim i [ ]
aligned_traced types o false false odd x i = aligned_typed Copying types o o.kind x i

-- references lie at multiples of 4
pub references_aligned : (layouts : Layouts) (types : List Declaration) (o : HeapObject) (x : ℕ) → In x (reference_offsets layouts types o) → x % 4 ≡ 0
references_aligned Null types o x i = aligned_typed Null types o o.kind x i
references_aligned Counting types o x i = aligned_typed Counting types o o.kind x i
references_aligned Copying types o x i = aligned_traced types o (form_of o.spare == 0) (form_of o.spare == 1) (o.spare % 2 == 1) x i
