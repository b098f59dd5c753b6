-- Requests for objects with fields that commands make.
use Rattle.std.specs.Prelude.{◌≡◌, ◌<◌, ℕ, Bool, false, List, [], ◌++◌, Option, None, unwrap_or}
use Rattle.gc_types.specs.declared.kind.Layouts.{Layouts}
use Rattle.gc_types.specs.declared.kind.TypeKind.{TypeKind}
use Rattle.gc_types.specs.declared.kind.TypeKind.TheVariants as kind
use Rattle.gc_types.specs.declared.value.FieldType.{FieldType}
use Rattle.gc_types.specs.Declarations.{Declaration, struct_fields_at}
use Rattle.gc_owner.specs.declared.entry.GcClass.{GcClass}
use Rattle.gc_owner.specs.declared.entry.GcClass.TheVariants as class
use Rattle.gc_model.specs.Sizes.{exn_fields_at}
use Rattle.gc_model.specs.Stored.{stored_in}
use Rattle.gc_model.specs.Values.{Value, Object, struct, array, exception}
use Rattle.gc_commands.specs.declared.command.Operand.{Operand}
use Rattle.gc_commands.specs.declared.reply.Refusal.{Refusal}
use Rattle.gc_values.specs.declared.request.Place.{Place}
use Rattle.gc_values.specs.declared.request.Place.TheVariants as place
use Rattle.gc_values.specs.declared.request.Contents.{Contents}
use Rattle.gc_values.specs.declared.request.Contents.TheVariants as contents
use Rattle.gc_script.specs.State.{State}
use Rattle.gc_script.specs.Given.{given_values}
use Rattle.gc_script.specs.Steps.{fields_tests, heap_tests}
use Rattle.gc_script.specs.Values.{is_opaque, AllPlain}

-- the class of references to what is requested
abbrev pub class_of : Place → GcClass
class_of (place.Struct ty) = class.Any
class_of (place.Exn ty tag) = class.Exn
class_of (place.Array ty n) = class.Any

-- the fields of a type of that kind
abbrev pub fields_of_kind : List Declaration → ℕ → TypeKind → Option (List FieldType)
fields_of_kind types ty kind.Struct = struct_fields_at types ty
fields_of_kind types ty kind.Array = None
fields_of_kind types ty kind.Exn = exn_fields_at types ty
fields_of_kind types ty kind.Func = None

-- the fields of what is requested; an array has none
abbrev pub requested_fields : List Declaration → Place → Option (List FieldType)
requested_fields types (place.Struct ty) = fields_of_kind types ty kind.Struct
requested_fields types (place.Exn ty tag) = fields_of_kind types ty kind.Exn
requested_fields types (place.Array ty n) = None

-- an object of that request with these values
abbrev pub object_with : Place → List Value → Object ℕ
object_with (place.Struct ty) values = struct ty values
object_with (place.Exn ty tag) values = exception ty tag values
object_with (place.Array ty n) values = array ty values

-- no value of what is requested is a function or a continuation; one that fills an array without elements isn't looked at
abbrev pub IsPlainRequest : Place → Contents → Type 0
IsPlainRequest request (contents.Each values) = AllPlain values.now
IsPlainRequest (place.Struct ty) (contents.Same value) = is_opaque value.now ≡ false
IsPlainRequest (place.Exn ty tag) (contents.Same value) = is_opaque value.now ≡ false
IsPlainRequest (place.Array ty n) (contents.Same value) = 0 < n → is_opaque value.now ≡ false
IsPlainRequest request (contents.Bytes bytes) = Unit {0}

-- so with what its fields keep of the values of operands
abbrev pub requested : Place → List Operand → State → Object ℕ
requested request vs s = object_with request (stored_in (unwrap_or (requested_fields s.table.types request) []) (given_values s vs))

-- the tests of making it
abbrev pub requested_tests : Layouts → State → Place → List Operand → List (Bool × Refusal)
requested_tests layouts s request vs = fields_tests s (requested_fields s.table.types request) vs ++ heap_tests layouts s (requested request vs s)
