-- The words that spell the types of an image.
use Rattle.std.specs.Prelude.{◌≡◌, ℕ, ◌≤◌, List, [], Option, None, Some, length}
use Rattle.std.specs.List.{AllByRecursion, AllZip}
use Rattle.gc_types.specs.declared.kind.TypeKind.{TypeKind}
use Rattle.gc_types.specs.declared.value.FieldType.{FieldType}
use Rattle.gc_types.specs.declared.value.HeapType.{HeapType}
use Rattle.gc_types.specs.declared.value.StorageType.{StorageType}
use Rattle.gc_types.specs.declared.value.ValType.{ValType}
use Rattle.gc_types.specs.Declarable.{IsKnownField, IsKnownHeap, IsKnownStorage, IsKnownVal}
use Rattle.gc_types.specs.Declarations.{Declaration, kind_at, max_types}
use Rattle.gc_commands.specs.declared.command.Command.{Command}
use Rattle.gc_commands.specs.declared.command.FieldWord.{FieldWord}
use Rattle.gc_commands.specs.declared.command.HeapWord.{HeapWord}
use Rattle.gc_commands.specs.declared.command.StorageWord.{StorageWord}
use Rattle.gc_commands.specs.declared.command.ValueWord.{ValueWord}
use Rattle.gc_commands.specs.Spelling.{FitsField, FitsHeap, FitsStorage, FitsValue}
use Rattle.gc_commands.specs.TypeWords.{field_of, heap_of, storage_of, value_type_of}
use Rattle.gc_image.specs.Declaring.{DeclareInTurn, CommandDeclares}
use Rattle.gc_image.specs.Text.{FitsImageType}
use Rattle.gc_image_write.specs.Plain.{IsPlainType, IsPlainField, IsPlainHeap, IsPlainStorage, IsPlainVal}

-- A word of a type: among types that know the type it spells that type, and its number is in range.
pub record IsTypeWordOf {A W : Type 0} (Known : List Declaration → A → Type 0) (Fits : W → Type 0)
    (read : (ℕ → Option TypeKind) → W → Option A) (x : A) (w : W) : Type 0 where
  pub spelled : (types : List Declaration) → Known types x → read (kind_at types) w ≡ Some x
  pub fits : (types : List Declaration) → length types ≤ max_types → Known types x → Fits w

-- what has a word is plain, and what is plain has one
abbrev pub Worded : {A W : Type 0} → (A → Type 0) → (A → W → Type 0) → A → Option W → Type 0
Worded Plain Is x None = ¬ Plain x
Worded Plain Is x (Some w) = Plain x × Is x w

abbrev pub WordsHeap : HeapType → Option HeapWord → Type 0
WordsHeap = Worded IsPlainHeap (IsTypeWordOf IsKnownHeap FitsHeap heap_of)

abbrev pub WordsValue : ValType → Option ValueWord → Type 0
WordsValue = Worded IsPlainVal (IsTypeWordOf IsKnownVal FitsValue value_type_of)

abbrev pub WordsStorage : StorageType → Option StorageWord → Type 0
WordsStorage = Worded IsPlainStorage (IsTypeWordOf IsKnownStorage FitsStorage storage_of)

abbrev pub WordsField : FieldType → Option FieldWord → Type 0
WordsField = Worded IsPlainField (IsTypeWordOf IsKnownField FitsField field_of)

-- a word for each of a list
abbrev pub AreWordsOf : {A W : Type 0} → (A → Option W → Type 0) → List A → List W → Type 0
AreWordsOf Words xs words = AllZip (λ x w. Words x (Some w)) xs words

-- a command declares that type behind these, and has a line
pub record IsTypeCommand (types : List Declaration) (d : Declaration) (command : Command) : Type 0 where
  pub declares : CommandDeclares types command d
  pub fits : FitsImageType command

abbrev pub Commanded : List Declaration → Declaration → Option Command → Type 0
Commanded types = Worded IsPlainType (IsTypeCommand types)

-- commands declare these types in turn, and each has a line
pub record AreTypeCommands (types : List Declaration) (commands : List Command) : Type 0 where
  pub declare : DeclareInTurn [] commands types
  pub fit : AllByRecursion FitsImageType commands
