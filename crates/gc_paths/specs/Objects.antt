-- How many values the objects have that handles name.
use Rattle.std.specs.Prelude.{◌≡◌, ℕ, List, Some, length}
use Rattle.gc_types.specs.declared.value.FieldType.{FieldType}
use Rattle.gc_types.specs.Declarations.{Declaration, fields_at}
use Rattle.gc_values.specs.declared.root.RootedObject.{RootedObject}
use Rattle.gc_values.specs.declared.root.RootedObject.TheVariants as rooted_object

-- as many as a struct or exception type has fields
abbrev pub CountsFields : List Declaration → ℕ → ℕ → Type 0
CountsFields types ty count = (fields : List FieldType) → fields_at types ty ≡ Some fields → count ≡ length fields

-- as many as an object has values, by what it is
abbrev pub CountsIn : List Declaration → RootedObject → ℕ → Type 0
CountsIn types (rooted_object.I31 n) count = count ≡ 0
CountsIn types (rooted_object.Struct ty) count = CountsFields types ty count
CountsIn types (rooted_object.Array ty len) count = count ≡ len
CountsIn types rooted_object.Host count = count ≡ 0
CountsIn types (rooted_object.Exn ty tag) count = CountsFields types ty count
