-- The declaration that an entry of the table stands for.
use Rattle.gc_types.specs.declared.entry.Body.{Body}
use Rattle.gc_types.specs.declared.entry.Body.TheVariants as body
use Rattle.gc_types.specs.Declarations.{Shape, struct_of, array_of, exn_of, func_of}

-- what the entry lists
abbrev pub shape_of : Body → Shape
shape_of (body.Struct fields) = struct_of fields
shape_of (body.Array elem) = array_of elem
shape_of (body.Exn params) = exn_of params
shape_of (body.Func signature) = func_of signature.params.items signature.results.items
