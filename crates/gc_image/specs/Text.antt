-- How an image is spelled: one spelling for each part, line by line.
use Rattle.std.specs.Prelude.{ℕ, ◌<◌, ◌^◌, List, [], ◌∷◌, ◌++◌, map, length, codes, FitsSigned}
use Rattle.std.specs.Fmt.{decimal, signed_decimal}
use Rattle.std.specs.Int.{w32, w64}
use Rattle.std.specs.List.{AllByRecursion, flat_map, join_with_byte}
use Rattle.gc_commands.specs.declared.command.Command.{Command}
use Rattle.gc_commands.specs.Spelling.{IsDeclaring, Spells, spelling, type_count}
use Rattle.gc_commands.specs.Words.{bytes_text, hex_digits}
use Rattle.gc_owner.specs.declared.entry.GcClass.{GcClass}
use Rattle.gc_owner.specs.declared.entry.GcClass.TheVariants as class
use Rattle.gc_image.specs.Parts.{ImageParts}
use Rattle.gc_image.specs.declared.image.GlobalLine.{GlobalLine}
use Rattle.gc_image.specs.declared.image.ImageReference.{ImageReference}
use Rattle.gc_image.specs.declared.image.ImageReference.TheVariants as reference
use Rattle.gc_image.specs.declared.image.ImageValue.{ImageValue}
use Rattle.gc_image.specs.declared.image.ImageValue.TheVariants as value
use Rattle.gc_image.specs.declared.image.ObjectLine.{ObjectLine}
use Rattle.gc_image.specs.declared.image.ObjectLine.TheVariants as object

abbrev pub class_text : GcClass → List ℕ
class_text class.Any = codes "any"
class_text class.Extern = codes "extern"
class_text class.Exn = codes "exn"

-- what is behind the colon of a reference
abbrev pub reference_text : ImageReference → List ℕ
reference_text reference.Null = codes "null"
reference_text (reference.Small n) = codes "i31:" ++ decimal n
reference_text (reference.Object number) = codes "#" ++ decimal number

-- a value is a name, a colon, and the text behind it
abbrev pub value_name : ImageValue → List ℕ
value_name (value.I32 n) = codes "i32"
value_name (value.I64 n) = codes "i64"
value_name (value.F32 n) = codes "f32"
value_name (value.F64 n) = codes "f64"
value_name (value.V128 n) = codes "v128"
value_name (value.Ref class r) = class_text class

abbrev pub value_rest : ImageValue → List ℕ
value_rest (value.I32 n) = signed_decimal n
value_rest (value.I64 n) = signed_decimal n
value_rest (value.F32 n) = hex_digits 8 n
value_rest (value.F64 n) = hex_digits 16 n
value_rest (value.V128 n) = hex_digits 32 n
value_rest (value.Ref class r) = reference_text r

-- a value: an operand of a command without registers, or a reference to a small integer or to an object
abbrev pub value_text : ImageValue → List ℕ
value_text v = value_name v ++ 58 ∷ value_rest v

-- the words of an object's line
abbrev pub object_words : ObjectLine → List (List ℕ)
object_words (object.Struct ty values) = codes "s" ∷ decimal ty ∷ map value_text values
object_words (object.Array ty values) = codes "a" ∷ decimal ty ∷ map value_text values
object_words (object.Bytes ty bytes) = codes "b" ∷ decimal ty ∷ bytes_text bytes ∷ []
object_words (object.Host number) = codes "h" ∷ decimal number ∷ []
object_words (object.Exn ty tag values) = codes "e" ∷ decimal ty ∷ decimal tag.instance ∷ decimal tag.index ∷ map value_text values

abbrev pub object_text : ObjectLine → List ℕ
object_text object = join_with_byte 32 (object_words object)

abbrev pub global_line_words : GlobalLine → List (List ℕ)
global_line_words global = codes "global" ∷ decimal global.index ∷ value_text global.value ∷ []

abbrev pub global_text : GlobalLine → List ℕ
global_text global = join_with_byte 32 (global_line_words global)

-- the line that says how many objects follow
abbrev pub count_text : ℕ → List ℕ
count_text n = codes "objects " ++ decimal n

-- the lines of an image
abbrev pub image_lines : ImageParts → List (List ℕ)
image_lines image =
    codes "image 1"
    ∷ (map spelling image.types ++ count_text (length image.objects) ∷ (map object_text image.objects ++ map global_text image.globals))

-- a line ends with a line feed
abbrev pub ended_line : List ℕ → List ℕ
ended_line line = line ++ 10 ∷ []

-- the one spelling of an image
abbrev pub image_text : ImageParts → List ℕ
image_text image = flat_map ended_line (image_lines image)

abbrev pub FitsImageReference : ImageReference → Type 0
FitsImageReference reference.Null = Unit {0}
FitsImageReference (reference.Small n) = n < 2 ^ 31
FitsImageReference (reference.Object number) = number < 2 ^ 64

abbrev pub FitsImageValue : ImageValue → Type 0
FitsImageValue (value.I32 n) = FitsSigned w32 n
FitsImageValue (value.I64 n) = FitsSigned w64 n
FitsImageValue (value.F32 n) = n < 2 ^ 32
FitsImageValue (value.F64 n) = n < 2 ^ 64
FitsImageValue (value.V128 n) = n < 2 ^ 128
FitsImageValue (value.Ref class r) = FitsImageReference r

abbrev pub FitsObject : ObjectLine → Type 0
FitsObject (object.Struct ty values) = (ty < type_count) × AllByRecursion FitsImageValue values
FitsObject (object.Array ty values) = (ty < type_count) × AllByRecursion FitsImageValue values
FitsObject (object.Bytes ty bytes) = (ty < type_count) × AllByRecursion (λ b. b < 2 ^ 8) bytes
FitsObject (object.Host number) = number < 2 ^ 64
FitsObject (object.Exn ty tag values) = (ty < type_count) × (tag.instance < 2 ^ 32) × (tag.index < 2 ^ 32) × AllByRecursion FitsImageValue values

abbrev pub FitsGlobal : GlobalLine → Type 0
FitsGlobal global = (global.index < 2 ^ 16) × FitsImageValue global.value

-- a type: a command that declares one, and that has a line
abbrev pub FitsImageType : Command → Type 0
FitsImageType command = IsDeclaring command × Spells (spelling command) command

-- each number is in the range of its part, and each type is a command
pub record FitsImage (image : ImageParts) : Type 0 where
  pub types : AllByRecursion FitsImageType image.types
  pub few : length image.objects < 2 ^ 64
  pub objects : AllByRecursion FitsObject image.objects
  pub globals : AllByRecursion FitsGlobal image.globals
