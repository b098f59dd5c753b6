-- Which values fit a type, by the lines of an image's objects.
use Rattle.std.proofs.Common.{◌≡◌, ℕ, false, List, map, Option, Some, None, refl, sym, ap, ◌∙◌}
use Rattle.std.specs.List.{slice_get}
use Rattle.std.specs.Option.{option_map}
use Rattle.std.proofs.lemmas.Option.{slice_get-map}
use Rattle.gc_types.specs.declared.value.HeapType.{HeapType}
use Rattle.gc_types.specs.declared.value.HeapType.TheVariants as heap
use Rattle.gc_types.specs.declared.value.RefType.{RefType}
use Rattle.gc_types.specs.Declarations.{Declaration}
use Rattle.gc_types.specs.Subtyping.{supertypes_of}
use Rattle.gc_owner.specs.declared.entry.GcClass.{GcClass}
use Rattle.gc_owner.specs.declared.entry.GcClass.TheVariants.{Any, Extern, Exn}
use Rattle.gc_model.specs.Fits.{matches, is_extern, reference_fits, object_fits_any, object_fits_extern, object_fits_exn}
use Rattle.gc_model.specs.Values.{at, Object}
use Rattle.gc_image.specs.declared.image.ObjectLine.{ObjectLine}
use Rattle.gc_image.specs.declared.image.ObjectLine.TheVariants as object
use Rattle.gc_image.specs.Steps.{type_fits, line_heap_type}
use Rattle.gc_image.specs.Well.{as_object}

-- extern matches extern alone
extern_matches : (supers : List (Option ℕ)) (ty : HeapType) → matches supers heap.Extern ty ≡ is_extern ty
extern_matches supers heap.Any = refl
extern_matches supers ty = refl

any_fits : (types : List Declaration) (ty : HeapType) (line : ObjectLine) → type_fits (supertypes_of types) (line_heap_type Any line) ty ≡ object_fits_any types ty (Some (as_object line))
any_fits types ty (object.Struct own values) = refl
any_fits types ty line = refl

extern_fits : (types : List Declaration) (ty : HeapType) (line : ObjectLine) → type_fits (supertypes_of types) (line_heap_type Extern line) ty ≡ object_fits_extern ty (Some (as_object line))
extern_fits types ty (object.Struct own values) = extern_matches (supertypes_of types) ty
extern_fits types ty (object.Array own values) = extern_matches (supertypes_of types) ty
extern_fits types ty (object.Bytes own values) = extern_matches (supertypes_of types) ty
extern_fits types ty (object.Host number) = extern_matches (supertypes_of types) ty
extern_fits types ty (object.Exn own tag values) = refl

exn_fits : (types : List Declaration) (ty : HeapType) (line : ObjectLine) → type_fits (supertypes_of types) (line_heap_type Exn line) ty ≡ object_fits_exn types ty (Some (as_object line))
exn_fits types ty (object.Struct own values) = refl
exn_fits types ty line = refl

found_fits : (types : List Declaration) (objects : List (Object ℕ)) (ty : RefType) (class : GcClass) (number : ℕ) (line : ObjectLine) → slice_get objects number ≡ Some (as_object line)
    → type_fits (supertypes_of types) (line_heap_type class line) ty.heap_type ≡ reference_fits types objects ty class (at number)
found_fits types objects ty Any number line is = any_fits types ty.heap_type line ∙ ap (object_fits_any types ty.heap_type) (sym is)
found_fits types objects ty Extern number line is = extern_fits types ty.heap_type line ∙ ap (object_fits_extern ty.heap_type) (sym is)
found_fits types objects ty Exn number line is = exn_fits types ty.heap_type line ∙ ap (object_fits_exn types ty.heap_type) (sym is)

-- an object of the image
pub object_fits : (types : List Declaration) (lines : List ObjectLine) (ty : RefType) (class : GcClass) (number : ℕ) (line : ObjectLine) → slice_get lines number ≡ Some line
    → type_fits (supertypes_of types) (line_heap_type class line) ty.heap_type ≡ reference_fits types (map as_object lines) ty class (at number)
object_fits types lines ty class number line is =
    found_fits types (map as_object lines) ty class number line (slice_get-map as_object lines number ∙ ap (option_map as_object) is)

absent_fits : (types : List Declaration) (objects : List (Object ℕ)) (ty : RefType) (class : GcClass) (number : ℕ) → slice_get objects number ≡ None → false ≡ reference_fits types objects ty class (at number)
absent_fits types objects ty Any number is = ap (object_fits_any types ty.heap_type) (sym is)
absent_fits types objects ty Extern number is = ap (object_fits_extern ty.heap_type) (sym is)
absent_fits types objects ty Exn number is = ap (object_fits_exn types ty.heap_type) (sym is)

-- no object of the image
pub absent_object : (types : List Declaration) (lines : List ObjectLine) (ty : RefType) (class : GcClass) (number : ℕ) → slice_get lines number ≡ None
    → false ≡ reference_fits types (map as_object lines) ty class (at number)
absent_object types lines ty class number is = absent_fits types (map as_object lines) ty class number (slice_get-map as_object lines number ∙ ap (option_map as_object) is)
