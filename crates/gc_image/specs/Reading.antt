-- What the readers of an image's parts answer.
use Rattle.std.specs.Prelude.{◌≡◌, ℕ, ◌<◌, ◌^◌, List, [], ◌∷◌, ◌++◌, Option, None, Some, codes, length, map}
use Rattle.std.specs.Fmt.{decimal}
use Rattle.std.specs.List.{AllByRecursion}
use Rattle.gc_types.specs.declared.value.Tag.{Tag}
use Rattle.gc_commands.specs.declared.command.Command.{Command}
use Rattle.gc_commands.specs.Spelling.{spelling, type_count}
use Rattle.gc_commands.specs.Words.{bytes_text}
use Rattle.gc_image.specs.Parts.{ImageParts}
use Rattle.gc_image.specs.Text.{FitsObject, FitsImageType, FitsImageValue, count_text, global_text, object_text, value_text}
use Rattle.gc_image.specs.declared.image.GlobalLine.{GlobalLine}
use Rattle.gc_image.specs.declared.image.ImageValue.{ImageValue}
use Rattle.gc_image.specs.declared.image.ObjectLine.{ObjectLine}

-- a type and values
abbrev pub FitRow : ℕ × List ImageValue → Type 0
FitRow p = (p.0 < type_count) × AllByRecursion FitsImageValue p.1

abbrev pub row_words : ℕ × List ImageValue → List (List ℕ)
row_words p = decimal p.0 ∷ map value_text p.1

-- a type and bytes
abbrev pub FitBytes : ℕ × List ℕ → Type 0
FitBytes p = (p.0 < type_count) × AllByRecursion (λ b. b < 2 ^ 8) p.1

abbrev pub bytes_words : ℕ × List ℕ → List (List ℕ)
bytes_words p = decimal p.0 ∷ bytes_text p.1 ∷ []

-- the number of a host object
abbrev pub host_words : ℕ → List (List ℕ)
host_words number = decimal number ∷ []

-- a type and a tag
abbrev pub FitTagged : ℕ × Tag → Type 0
FitTagged p = (p.0 < type_count) × (p.1.instance < 2 ^ 32) × (p.1.index < 2 ^ 32)

abbrev pub tagged_words : ℕ × Tag → List (List ℕ) → List (List ℕ)
tagged_words p rest = decimal p.0 ∷ decimal p.1.instance ∷ decimal p.1.index ∷ rest

abbrev pub ReadsTagged : List (List ℕ) → Option (ℕ × Tag) → List (List ℕ) → Type 0
ReadsTagged words None rest = (p : ℕ × Tag) (others : List (List ℕ)) → FitTagged p → ¬ (words ≡ tagged_words p others)
ReadsTagged words (Some p) rest = FitTagged p × (words ≡ tagged_words p rest)

-- a type, a tag and values
abbrev pub FitExn : ℕ × Tag × List ImageValue → Type 0
FitExn p = (p.0 < type_count) × (p.1.instance < 2 ^ 32) × (p.1.index < 2 ^ 32) × AllByRecursion FitsImageValue p.2

abbrev pub exn_words : ℕ × Tag × List ImageValue → List (List ℕ)
exn_words p = decimal p.0 ∷ decimal p.1.instance ∷ decimal p.1.index ∷ map value_text p.2

-- the index of a global and what it holds
abbrev pub global_operands : GlobalLine → List (List ℕ)
global_operands global = decimal global.index ∷ value_text global.value ∷ []

-- the types are all that the lines begin with
pub record ReadsTypes (lines : List (List ℕ)) (types : List Command) (rest : List (List ℕ)) : Type 0 where
  pub fit : AllByRecursion FitsImageType types
  pub read : lines ≡ map spelling types ++ rest
  pub stops : (type : Command) (others : List (List ℕ)) → FitsImageType type → ¬ (rest ≡ spelling type ∷ others)

-- so many objects, or none where the lines begin with no such
abbrev pub ReadsObjects : ℕ → List (List ℕ) → Option (List ObjectLine) → List (List ℕ) → Type 0
ReadsObjects count lines None rest =
    (objects : List ObjectLine) (others : List (List ℕ)) → AllByRecursion FitsObject objects → length objects ≡ count
    → ¬ (lines ≡ map object_text objects ++ others)
ReadsObjects count lines (Some objects) rest = AllByRecursion FitsObject objects × (length objects ≡ count) × (lines ≡ map object_text objects ++ rest)

-- globals to the end of the text, whose last line ends with a line feed
abbrev pub ended_globals : List GlobalLine → List (List ℕ)
ended_globals globals = map global_text globals ++ [] ∷ []

-- all lines of a text that spells an image, with the empty one behind the last line feed
abbrev pub ended_lines : ImageParts → List (List ℕ)
ended_lines image =
    codes "image 1" ∷ (map spelling image.types ++ count_text (length image.objects) ∷ (map object_text image.objects ++ ended_globals image.globals))
