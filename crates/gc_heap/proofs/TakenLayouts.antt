-- What heaps take of layouts: those of declared types have it.
use Rattle.std.proofs.Common.{◌≡◌, ℕ, ◌≤◌, true, List, [], ◌∷◌, map, get_or, Option, Some, None, subst, refl, ap}
use Rattle.std.specs.Prelude.{All, slice_get, option_map}
use Rattle.std.proofs.lemmas.Option.{none-some}
use Rattle.std.proofs.lemmas.List.Elements.{Contains-get_or}
use Rattle.gc_types.specs.declared.kind.Layouts.{Layouts}
use Rattle.gc_types.specs.declared.kind.Layouts.TheVariants.{Null, Counting, Copying}
use Rattle.gc_types.specs.declared.value.FieldType.{FieldType}
use Rattle.gc_types.specs.declared.layout.GcStructLayout.{GcStructLayout}
use Rattle.gc_types.specs.declared.layout.GcArrayLayout.{GcArrayLayout}
use Rattle.gc_types.specs.Declarations.{Declaration, Shape, struct_of, array_of, exn_of, func_of, constant_field, elem_at}
use Rattle.gc_types.specs.Layouts.{struct_base, exception_base, array_base, round_up, ref_offsets, field_layouts, fields_end, struct_layout, exn_layout, array_layout, shape_layout, declaration_layout, layout_at, array_layout_at}
use Rattle.gc_view.proofs.Layouts.{layout_low}
use Rattle.gc_memory.proofs.ListLemmas.{contains_in}
use Rattle.gc_heap.specs.Objects.{first_offset}
use Rattle.gc_heap.specs.References.{IsTraceable}
use Rattle.gc_heap.specs.Rules.{LayoutTraces, ArrayTraces}
use Rattle.gc_heap.specs.Heap.{layout_kind}
use Rattle.gc_heap.proofs.SpacedLemmas.{Spaced-in, spaced_fields, fields_from, aligned_fields, ref_width}

fields_traced : (base : ℕ) (fields : List FieldType) → All (IsTraceable base (fields_end base fields)) (ref_offsets (field_layouts base fields))
fields_traced base fields = λ k d below.
    let os : List ℕ = ref_offsets (field_layouts base fields) in
    let among = contains_in os (get_or os k d) (Contains-get_or os k d below) in
    let inside = Spaced-in base (fields_end base fields) os (get_or os k d) (spaced_fields base fields) among in
    record { aligned = aligned_fields base fields (get_or os k d) among; from = inside.0; to = inside.1 }

-- What a heap asks of the layout of a struct or an exception.
pub record IsTakenLayout (layouts : Layouts) (layout : GcStructLayout) : Type 0 where
  pub least : first_offset layouts (layout_kind layout) ≤ layout.size
  pub traces : LayoutTraces layouts layout (first_offset layouts (layout_kind layout))

struct_traces : (layouts : Layouts) (fields : List FieldType) → LayoutTraces layouts (struct_layout layouts fields) (struct_base layouts)
struct_traces Null fields = tt
struct_traces Counting fields = tt
struct_traces Copying fields = fields_traced 12 fields

exn_traces : (layouts : Layouts) (params : List FieldType) → LayoutTraces layouts (record { size = fields_end (exception_base layouts) params; is_exception = true; fields = field_layouts (exception_base layouts) params }) (exception_base layouts)
exn_traces Null params = tt
exn_traces Counting params = tt
exn_traces Copying params = fields_traced 20 params

shape_taken : (layouts : Layouts) (shape : Shape) (layout : GcStructLayout) → shape_layout layouts shape ≡ Some layout → IsTakenLayout layouts layout
shape_taken layouts (struct_of fields) layout e =
    let same : struct_layout layouts fields ≡ layout = cc in
    subst (IsTakenLayout layouts) same (record { least = fields_from (struct_base layouts) fields; traces = struct_traces layouts fields })
shape_taken layouts (array_of elem) layout e = absurd (none-some layout e)
shape_taken layouts (exn_of params) layout e =
    let same : exn_layout layouts params ≡ layout = cc in
    subst (IsTakenLayout layouts) same (record { least = fields_from (exception_base layouts) (map constant_field params); traces = exn_traces layouts (map constant_field params) })
shape_taken layouts (func_of params results) layout e = absurd (none-some layout e)

declaration_taken : (layouts : Layouts) (d : Option Declaration) (layout : GcStructLayout) → declaration_layout layouts d ≡ Some layout → IsTakenLayout layouts layout
declaration_taken layouts None layout e = absurd (none-some layout e)
declaration_taken layouts (Some d) layout e = shape_taken layouts d.shape layout e

pub taken_layout : (layouts : Layouts) (types : List Declaration) (ty : ℕ) (layout : GcStructLayout) → layout_at layouts types ty ≡ Some layout → IsTakenLayout layouts layout
taken_layout layouts types ty layout declared = declaration_taken layouts (slice_get types ty) layout declared

-- What a heap asks of the layout of an array.
pub record IsTakenArray (layouts : Layouts) (layout : GcArrayLayout) : Type 0 where
  pub least : array_base layouts ≤ layout.base_size
  pub traces : ArrayTraces layouts layout

array_traces : (layouts : Layouts) (elem : FieldType) → ArrayTraces layouts (array_layout layouts elem)
array_traces Null elem = tt
array_traces Counting elem = tt
array_traces Copying elem = λ is. let four = ref_width elem.element_type is in (ap (round_up 16) four, four)

elem_taken : (layouts : Layouts) (elem : Option FieldType) (layout : GcArrayLayout) → option_map (array_layout layouts) elem ≡ Some layout → IsTakenArray layouts layout
elem_taken layouts None layout e = absurd (none-some layout e)
elem_taken layouts (Some elem) layout e =
    let same : array_layout layouts elem ≡ layout = cc in
    subst (IsTakenArray layouts) same (record { least = layout_low (array_base layouts) (elem ∷ []) 0 _ refl; traces = array_traces layouts elem })

pub taken_array : (layouts : Layouts) (types : List Declaration) (ty : ℕ) (layout : GcArrayLayout) → array_layout_at layouts types ty ≡ Some layout → IsTakenArray layouts layout
taken_array layouts types ty layout declared = elem_taken layouts (elem_at types ty) layout declared
