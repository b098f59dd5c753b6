-- The references of an object by its content are those by its words.
use Rattle.std.proofs.Common.{◌≡◌, ℕ, ◌+◌, ◌-◌, ◌%◌, ◌<◌, ◌≤◌, ◌^◌, Bool, true, false, nat_eq, List, [], length, Option, Some, None, if◌then◌else◌, refl, sym, ap, subst, ◌∙◌, arith}
use Rattle.std.specs.Prelude.{◌==◌}
use Rattle.gc_types.specs.declared.kind.Layouts.TheVariants.{Copying}
use Rattle.gc_types.specs.declared.kind.VMGcKind.{VMGcKind}
use Rattle.gc_types.specs.declared.kind.VMGcKind.TheVariants.{ExternRef, AnyRef, EqRef, StructRef, ArrayRef, ExnRef}
use Rattle.gc_types.specs.declared.layout.TraceInfo.{TraceInfo}
use Rattle.gc_types.specs.declared.layout.TraceInfo.TheVariants as trace
use Rattle.gc_types.specs.Declarations.{Declaration}
use Rattle.gc_types.specs.Layouts.{trace_at}
use Rattle.gc_refs.specs.Header.{spare_bits}
use Rattle.gc_refs.specs.Trace.{form_unit, form_of}
use Rattle.gc_memory.specs.Words.{word}
use Rattle.gc_memory.specs.Lists.{In}
use Rattle.gc_memory.proofs.WordLemmas.{word-is}
use Rattle.gc_view.specs.Bytes.{u32_at}
use Rattle.gc_view.specs.Heaps.{HeapObject}
use Rattle.gc_view.proofs.ByteLemmas.{u32_at-part}
use Rattle.gc_heap.specs.Objects.{held_size, array_length, writable_offset, HasFields}
use Rattle.gc_heap.specs.References.{word_offsets, bit_offsets, bitmap_offsets, element_offsets, info_offsets, reference_offsets, Spaced}
use Rattle.gc_heap.specs.Rules.{IsTyped}
use Rattle.gc_heap.specs.Content.{TracesInside, IsSpare}
use Rattle.gc_heap.proofs.ReferenceLemmas.{outside, by_bits, by_length, by_type, form_is, content_by_form, typed_is, references_spaced}
use Rattle.gc_heap.proofs.ReferenceLemmas as heap
use Rattle.gc_heap.proofs.SpacedLemmas.{spaced_wider, no_bits}
use Rattle.gc_copying.specs.Layout.{copying_size_at, copying_kind_at, copying_data_at, copying_object_at}
use Rattle.gc_copying.specs.Content.{IsCopyingWhole}
use Rattle.gc_copying.specs.CopyWords.{copying_offsets_at, bitmap_places, element_places, info_places}
use Rattle.gc_copying.proofs.FormLemmas.{traced_at, by_form}

-- a word of the data of an object with fields
pub field_word : (m : List ℕ) (p o : ℕ) (k : VMGcKind) → HasFields k → 12 ≤ o → o + 4 ≤ copying_size_at m p → p + copying_size_at m p ≤ length m → u32_at (copying_data_at m p k) (o - 12) ≡ word m (p + o)
unfolding copying_data_at
field_word m p o ExternRef h from to inside = absurd h
field_word m p o AnyRef h from to inside = absurd h
field_word m p o EqRef h from to inside = absurd h
field_word m p o StructRef h from to inside =
    let at : p + 12 + (o - 12) ≡ p + o = omega arith in
    u32_at-part m (p + 12) (copying_size_at m p - 12) (o - 12) (omega arith) (omega arith) ∙ ap (u32_at m) at ∙ sym (word-is m (p + o))
field_word m p o ArrayRef h from to inside =
    let at : p + 12 + (o - 12) ≡ p + o = omega arith in
    u32_at-part m (p + 12) (copying_size_at m p - 12) (o - 12) (omega arith) (omega arith) ∙ ap (u32_at m) at ∙ sym (word-is m (p + o))
field_word m p o ExnRef h from to inside =
    let at : p + 12 + (o - 12) ≡ p + o = omega arith in
    u32_at-part m (p + 12) (copying_size_at m p - 12) (o - 12) (omega arith) (omega arith) ∙ ap (u32_at m) at ∙ sym (word-is m (p + o))

elements_are : (b : Bool) (n count : ℕ) → n ≡ count → (if b then word_offsets 16 n else []) ≡ element_places b count
elements_are true n count e = ap (word_offsets 16) e
elements_are false n count e = refl

info_are : (o : HeapObject) (count : ℕ) (info : Option TraceInfo) → array_length o ≡ count → info_offsets Copying o info ≡ info_places count info
info_are o count None e = refl
info_are o count (Some (trace.Struct offsets)) e = refl
info_are o count (Some (trace.Array true)) e = ap (word_offsets 16) e
info_are o count (Some (trace.Array false)) e = refl

bits_are : (w : ℕ) → w % spare_bits < 2 ^ 25 → form_of (w % spare_bits) ≡ 0 → bitmap_offsets (w % spare_bits) ≡ bitmap_places (w % form_unit)
unfolding bitmap_places
bits_are w small form =
    let e : w % spare_bits ≡ w % form_unit = omega arith in
    ap (λ (b : ℕ). bit_offsets 12 23 b) e

-- the form that a kind word tells is that of its spare bits
pub same_form : (w : ℕ) → form_of (w % spare_bits) ≡ form_of w
same_form w = omega arith

-- the number behind the size word is an array's length
pub length_is : (m : List ℕ) (p : ℕ) → HasFields (copying_kind_at m p) → 16 ≤ copying_size_at m p → p + copying_size_at m p ≤ length m → array_length (copying_object_at m p) ≡ word m (p + 12)
length_is m p h least inside = field_word m p 12 (copying_kind_at m p) h (omega arith) (omega arith) inside

pub refs_are : (types : List Declaration) (m : List ℕ) (p : ℕ) → IsCopyingWhole m p → 16 ≤ copying_size_at m p → p + copying_size_at m p ≤ length m
    → reference_offsets Copying types (copying_object_at m p) ≡ copying_offsets_at types m p
refs_are types m p whole least inside =
    let o : HeapObject = copying_object_at m p in
    let w : ℕ = word m p in
    let small : w % spare_bits < 2 ^ 25 = whole.spare.0 in
    let same : form_of (w % spare_bits) ≡ form_of w = same_form w in
    let right = λ (form : ℕ) (e : form_of o.spare ≡ form). by_form types w (word m (p + 4)) (word m (p + 12)) form (sym same ∙ e) in
    elim (form_is o (copying_kind_at m p) whole.spare.1) [
      | outside is none ↦
          let form : form_of (w % spare_bits) ≡ 0 = omega arith in
          content_by_form types o 0 form ∙ bits_are w small form ∙ sym (traced_at types m p ∙ right 0 form)
      | by_bits fields form all ↦
          content_by_form types o 0 form ∙ bits_are w small form ∙ sym (traced_at types m p ∙ right 0 form)
      | by_length is form all ↦
          let parity : w % spare_bits % 2 ≡ w % 2 = omega arith in
          let fields : HasFields (copying_kind_at m p) = subst HasFields (sym is) tt in
          content_by_form types o 1 form
          ∙ ap (λ (n : ℕ). if nat_eq n 1 then element_offsets Copying o else []) parity
          ∙ elements_are (w % 2 == 1) (array_length o) (word m (p + 12)) (length_is m p fields least inside)
          ∙ sym (traced_at types m p ∙ right 1 form)
      | by_type fields form ↦
          content_by_form types o 2 form
          ∙ typed_is Copying types o (copying_kind_at m p) fields
          ∙ info_are o (word m (p + 12)) (trace_at Copying types o.ty) (length_is m p fields least inside)
          ∙ sym (traced_at types m p ∙ right 2 form)
    ]

-- only an object with fields has references
pub refs_fields : (types : List Declaration) (o : HeapObject) (i : ℕ) → TracesInside o o.kind → In i (reference_offsets Copying types o) → HasFields o.kind
refs_fields types o i t among = elim (form_is o o.kind t) [
  | outside is none ↦
      let form : form_of o.spare ≡ 0 = omega arith in
      let empty : reference_offsets Copying types o ≡ [] = content_by_form types o 0 form ∙ ap (λ (b : ℕ). bit_offsets 12 23 b) none ∙ no_bits 12 23 in
      elim (subst (In i) empty among) [ ]
  | by_bits fields form all ↦ fields
  | by_length is form all ↦ subst HasFields (sym is) tt
  | by_type fields form ↦ fields
]

-- an external object has none
pub external_none : (types : List Declaration) (o : HeapObject) → o.kind ≡ ExternRef → TracesInside o o.kind → reference_offsets Copying types o ≡ []
external_none types o is t = heap.external_none types o (subst (TracesInside o) is t)

writable_from : (k : VMGcKind) → 12 ≤ writable_offset Copying k
writable_from ExternRef = omega arith
writable_from AnyRef = omega arith
writable_from EqRef = omega arith
writable_from StructRef = omega arith
writable_from ArrayRef = omega arith
writable_from ExnRef = omega arith

-- the references of an object lie inside it, one behind the other
pub refs_spaced : (types : List Declaration) (o : HeapObject) → IsSpare Copying o → IsTyped Copying types o → Spaced 12 (held_size Copying o) (reference_offsets Copying types o)
refs_spaced types o spare typed =
    spaced_wider (writable_offset Copying o.kind) 12 (held_size Copying o) (held_size Copying o) (reference_offsets Copying types o) (writable_from o.kind) (omega arith)
    (references_spaced Copying types o spare typed)

-- those of an array lie behind its length
pub array_spaced : (types : List Declaration) (o : HeapObject) → o.kind ≡ ArrayRef → IsSpare Copying o → Spaced 16 (held_size Copying o) (reference_offsets Copying types o)
array_spaced types o is spare =
    let traces : TracesInside o ArrayRef = subst (TracesInside o) is spare.1 in
    let by_length : form_of o.spare ≡ 1 = traces.0 in
    subst (λ k. Spaced (writable_offset Copying k) (held_size Copying o) (reference_offsets Copying types o)) is
    (references_spaced Copying types o spare (λ form. absurd (omega arith)))
