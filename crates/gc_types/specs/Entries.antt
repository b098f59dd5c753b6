-- What the table keeps of each declared type.
use Rattle.std.specs.Prelude.{ℕ, Bool, true, false, List, Option}
use Rattle.gc_types.specs.declared.kind.Layouts.{Layouts}
use Rattle.gc_types.specs.declared.kind.Layouts.TheVariants.{Null, Counting, Copying}
use Rattle.gc_types.specs.declared.value.FieldType.{FieldType}
use Rattle.gc_types.specs.declared.layout.GcStructLayout.{GcStructLayout}
use Rattle.gc_types.specs.declared.layout.GcArrayLayout.{GcArrayLayout}
use Rattle.gc_types.specs.declared.layout.TraceInfo.{TraceInfo}
use Rattle.gc_types.specs.declared.placement.ObjectLayouts.{ObjectLayouts}
use Rattle.gc_types.specs.declared.placement.ArrayLayouts.{ArrayLayouts}
use Rattle.gc_types.specs.declared.traces.Traces.{Traces}
use Rattle.gc_types.specs.Declarations.{Shape}
use Rattle.gc_types.specs.Layouts.{struct_base, exception_base, fields_end, field_layouts, array_layout, shape_trace}

-- the layout of fields that begin at base
abbrev pub fields_layout : ℕ → Bool → List FieldType → GcStructLayout
fields_layout base is_exception fields =
    record { size = fields_end base fields; is_exception = is_exception; fields = field_layouts base fields }

-- where the fields of an exception or of a struct begin
abbrev pub object_base : Bool → Layouts → ℕ
object_base false layouts = struct_base layouts
object_base true layouts = exception_base layouts

-- the layout of a struct or an exception
abbrev pub object_layout : Bool → Layouts → List FieldType → GcStructLayout
object_layout is_exception layouts fields = fields_layout (object_base is_exception layouts) is_exception fields

-- for each heap
abbrev pub object_layouts : Bool → List FieldType → ObjectLayouts
object_layouts is_exception fields = record {
  null = object_layout is_exception Null fields;
  counting = object_layout is_exception Counting fields;
  copying = object_layout is_exception Copying fields;
}

abbrev pub object_in : Layouts → ObjectLayouts → GcStructLayout
object_in Null o = o.null
object_in Counting o = o.counting
object_in Copying o = o.copying

-- what is kept of an array for all heaps
abbrev pub array_layouts : FieldType → ArrayLayouts
array_layouts elem = record {
  null = array_layout Null elem;
  counting = array_layout Counting elem;
  copying = array_layout Copying elem;
}

abbrev pub array_in : Layouts → ArrayLayouts → GcArrayLayout
array_in Null o = o.null
array_in Counting o = o.counting
array_in Copying o = o.copying

-- where the references of a type's objects lie in each heap
abbrev pub shape_traces : Shape → Traces
shape_traces shape = record {
  null = shape_trace Null shape;
  counting = shape_trace Counting shape;
  copying = shape_trace Copying shape;
}

abbrev pub trace_in : Layouts → Traces → Option TraceInfo
trace_in Null t = t.null
trace_in Counting t = t.counting
trace_in Copying t = t.copying
