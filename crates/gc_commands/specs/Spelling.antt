-- How a command is spelled, and which command a line is.
use Rattle.std.specs.Prelude.{◌≡◌, ℕ, ◌<◌, ◌≤◌, ◌^◌, Bool, true, false, List, [], ◌∷◌, ◌++◌, map, length, codes, Option, None, Some, FitsSigned, IfSome}
use Rattle.std.specs.List.{join_with_byte, AllByRecursion}
use Rattle.std.specs.Int.{w32, w64}
use Rattle.std.specs.Fmt.{decimal}
use Rattle.gc_commands.specs.declared.command.Command.{Command}
use Rattle.gc_commands.specs.declared.command.Command.TheVariants as command
use Rattle.gc_commands.specs.declared.command.FieldWord.{FieldWord}
use Rattle.gc_commands.specs.declared.command.Operand.{Operand}
use Rattle.gc_commands.specs.declared.command.Operand.TheVariants as operand
use Rattle.gc_commands.specs.declared.command.ValueWord.{ValueWord}
use Rattle.gc_commands.specs.declared.command.ValueWord.TheVariants as value
use Rattle.gc_commands.specs.declared.command.HeapWord.{HeapWord}
use Rattle.gc_commands.specs.declared.command.HeapWord.TheVariants as heap
use Rattle.gc_commands.specs.declared.command.StorageWord.{StorageWord}
use Rattle.gc_commands.specs.declared.command.StorageWord.TheVariants as storage
use Rattle.gc_commands.specs.declared.form.Form.{Form}
use Rattle.gc_commands.specs.Forms.{command_form, name_of}
use Rattle.gc_commands.specs.Words.{bytes_text, field_text, operand_text, value_type_text}

-- a line may have this many bytes without its line feed
abbrev pub max_line : ℕ
max_line = 1048576

-- types are numbered from 0 to 4294967294
abbrev pub type_count : ℕ
type_count = 4294967295

abbrev pub final_words : Bool → List (List ℕ)
final_words true = codes "final" ∷ []
final_words false = []

abbrev pub supertype_words : Option ℕ → List (List ℕ)
supertype_words None = []
supertype_words (Some t) = (codes "sub:" ++ decimal t) ∷ []

-- a declaration: `final` where it is so, the supertype where there is one, and what is declared
abbrev pub declared_words : Bool → Option ℕ → List (List ℕ) → List (List ℕ)
declared_words is_final supertype words = final_words is_final ++ (supertype_words supertype ++ words)

-- the register that a value goes into, where one is named
abbrev pub into_words : Option ℕ → List (List ℕ)
into_words None = []
into_words (Some d) = decimal d ∷ []

-- the words of a command behind its first one
abbrev pub operands_of : Command → List (List ℕ)
operands_of command.Bad = []
operands_of (command.Struct is_final supertype fields) = declared_words is_final supertype (map field_text fields)
operands_of (command.Array is_final supertype elem) = declared_words is_final supertype (field_text elem ∷ [])
operands_of (command.Exn params) = map value_type_text params
operands_of (command.New d t values) = decimal d ∷ decimal t ∷ map operand_text values
operands_of (command.NewExn d t tag values) = decimal d ∷ decimal t ∷ decimal tag ∷ map operand_text values
operands_of (command.NewArr d t len value) = decimal d ∷ decimal t ∷ decimal len ∷ operand_text value ∷ []
operands_of (command.Fixed d t values) = decimal d ∷ decimal t ∷ map operand_text values
operands_of (command.NewBytes d t bytes) = decimal d ∷ decimal t ∷ bytes_text bytes ∷ []
operands_of (command.ReadBytes r len) = decimal r ∷ decimal len ∷ []
operands_of (command.Host d n) = decimal d ∷ decimal n ∷ []
operands_of (command.I31 d n) = decimal d ∷ decimal n ∷ []
operands_of (command.Field r i into) = decimal r ∷ decimal i ∷ into_words into
operands_of (command.Elem r i into) = decimal r ∷ decimal i ∷ into_words into
operands_of (command.Len r) = decimal r ∷ []
operands_of (command.HostNumber r) = decimal r ∷ []
operands_of (command.SetField r i value) = decimal r ∷ decimal i ∷ operand_text value ∷ []
operands_of (command.SetElem r i value) = decimal r ∷ decimal i ∷ operand_text value ∷ []
operands_of (command.Eq r s) = decimal r ∷ decimal s ∷ []
operands_of command.Enter = []
operands_of command.Leave = []
operands_of (command.Push slots) = decimal slots ∷ []
operands_of command.Pop = []
operands_of (command.Store k r) = decimal k ∷ decimal r ∷ []
operands_of (command.Load k d) = decimal k ∷ decimal d ∷ []
operands_of (command.SetGlobal g r) = decimal g ∷ decimal r ∷ []
operands_of (command.GetGlobal g d) = decimal g ∷ decimal d ∷ []
operands_of (command.Own o r) = decimal o ∷ decimal r ∷ []
operands_of (command.Root d o) = decimal d ∷ decimal o ∷ []
operands_of (command.Unroot o) = decimal o ∷ []
operands_of (command.Throw r) = decimal r ∷ []
operands_of (command.Take d) = decimal d ∷ []
operands_of command.Gc = []
operands_of command.GcDrop = []
operands_of command.GcInc = []
operands_of (command.Grow n) = decimal n ∷ []
operands_of command.Cap = []

-- the words of a command of this form
abbrev pub words_with : Option Form → List (List ℕ) → List (List ℕ)
words_with None operands = []
words_with (Some form) operands = name_of form ∷ operands

-- the words of a command
abbrev pub words_of : Command → List (List ℕ)
words_of command = words_with (command_form command) (operands_of command)

-- the one spelling of a command: its words with a space between two
abbrev pub spelling : Command → List ℕ
spelling command = join_with_byte 32 (words_of command)

abbrev pub FitsHeap : HeapWord → Type 0
FitsHeap heap.Any = Unit {0}
FitsHeap heap.Eq = Unit {0}
FitsHeap heap.I31 = Unit {0}
FitsHeap heap.Struct = Unit {0}
FitsHeap heap.Array = Unit {0}
FitsHeap heap.None = Unit {0}
FitsHeap heap.Extern = Unit {0}
FitsHeap heap.NoExtern = Unit {0}
FitsHeap heap.Exn = Unit {0}
FitsHeap heap.NoExn = Unit {0}
FitsHeap (heap.Named t) = t < type_count

abbrev pub FitsValue : ValueWord → Type 0
FitsValue value.I32 = Unit {0}
FitsValue value.I64 = Unit {0}
FitsValue value.F32 = Unit {0}
FitsValue value.F64 = Unit {0}
FitsValue value.V128 = Unit {0}
FitsValue (value.Ref h nullable) = FitsHeap h

-- a type of references
abbrev pub FitsReference : ValueWord → Type 0
FitsReference value.I32 = ⊥
FitsReference value.I64 = ⊥
FitsReference value.F32 = ⊥
FitsReference value.F64 = ⊥
FitsReference value.V128 = ⊥
FitsReference (value.Ref h nullable) = FitsHeap h

-- a type that is named by its index
abbrev pub FitsNamed : HeapWord → Type 0
FitsNamed heap.Any = ⊥
FitsNamed heap.Eq = ⊥
FitsNamed heap.I31 = ⊥
FitsNamed heap.Struct = ⊥
FitsNamed heap.Array = ⊥
FitsNamed heap.None = ⊥
FitsNamed heap.Extern = ⊥
FitsNamed heap.NoExtern = ⊥
FitsNamed heap.Exn = ⊥
FitsNamed heap.NoExn = ⊥
FitsNamed (heap.Named t) = t < type_count

abbrev pub FitsStorage : StorageWord → Type 0
FitsStorage storage.I8 = Unit {0}
FitsStorage storage.I16 = Unit {0}
FitsStorage (storage.Value v) = FitsValue v

abbrev pub FitsField : FieldWord → Type 0
FitsField field = FitsStorage field.storage

abbrev pub FitsOperand : Operand → Type 0
FitsOperand (operand.I32 n) = FitsSigned w32 n
FitsOperand (operand.I64 n) = FitsSigned w64 n
FitsOperand (operand.F32 n) = n < 2 ^ 32
FitsOperand (operand.F64 n) = n < 2 ^ 64
FitsOperand (operand.V128 n) = n < 2 ^ 128
FitsOperand operand.AnyNull = Unit {0}
FitsOperand operand.ExternNull = Unit {0}
FitsOperand operand.ExnNull = Unit {0}
FitsOperand (operand.Register r) = r < 2 ^ 16

-- a floating-point number or a vector
abbrev pub FitsFloat : Operand → Type 0
FitsFloat (operand.I32 n) = ⊥
FitsFloat (operand.I64 n) = ⊥
FitsFloat (operand.F32 n) = n < 2 ^ 32
FitsFloat (operand.F64 n) = n < 2 ^ 64
FitsFloat (operand.V128 n) = n < 2 ^ 128
FitsFloat operand.AnyNull = ⊥
FitsFloat operand.ExternNull = ⊥
FitsFloat operand.ExnNull = ⊥
FitsFloat (operand.Register r) = ⊥

-- each number is in the range of its part; `Bad` is no command
abbrev pub FitsCommand : Command → Type 0
FitsCommand command.Bad = ⊥
FitsCommand (command.Struct is_final supertype fields) = IfSome supertype (λ t. t < type_count) × AllByRecursion FitsField fields
FitsCommand (command.Array is_final supertype elem) = IfSome supertype (λ t. t < type_count) × FitsField elem
FitsCommand (command.Exn params) = AllByRecursion FitsValue params
FitsCommand (command.New d t values) = (d < 2 ^ 16) × (t < type_count) × AllByRecursion FitsOperand values
FitsCommand (command.NewExn d t tag values) = (d < 2 ^ 16) × (t < type_count) × (tag < 2 ^ 32) × AllByRecursion FitsOperand values
FitsCommand (command.NewArr d t len value) = (d < 2 ^ 16) × (t < type_count) × (len < 2 ^ 32) × FitsOperand value
FitsCommand (command.Fixed d t values) = (d < 2 ^ 16) × (t < type_count) × AllByRecursion FitsOperand values
FitsCommand (command.NewBytes d t bytes) = (d < 2 ^ 16) × (t < type_count) × AllByRecursion (λ b. b < 2 ^ 8) bytes
FitsCommand (command.ReadBytes r len) = (r < 2 ^ 16) × (len < 2 ^ 32)
FitsCommand (command.Host d n) = (d < 2 ^ 16) × (n < 2 ^ 64)
FitsCommand (command.I31 d n) = (d < 2 ^ 16) × (n < 2 ^ 32)
FitsCommand (command.Field r i into) = (r < 2 ^ 16) × (i < 2 ^ 32) × IfSome into (λ d. d < 2 ^ 16)
FitsCommand (command.Elem r i into) = (r < 2 ^ 16) × (i < 2 ^ 32) × IfSome into (λ d. d < 2 ^ 16)
FitsCommand (command.Len r) = r < 2 ^ 16
FitsCommand (command.HostNumber r) = r < 2 ^ 16
FitsCommand (command.SetField r i value) = (r < 2 ^ 16) × (i < 2 ^ 32) × FitsOperand value
FitsCommand (command.SetElem r i value) = (r < 2 ^ 16) × (i < 2 ^ 32) × FitsOperand value
FitsCommand (command.Eq r s) = (r < 2 ^ 16) × (s < 2 ^ 16)
FitsCommand command.Enter = Unit {0}
FitsCommand command.Leave = Unit {0}
FitsCommand (command.Push slots) = slots < 2 ^ 16
FitsCommand command.Pop = Unit {0}
FitsCommand (command.Store k r) = (k < 2 ^ 16) × (r < 2 ^ 16)
FitsCommand (command.Load k d) = (k < 2 ^ 16) × (d < 2 ^ 16)
FitsCommand (command.SetGlobal g r) = (g < 2 ^ 16) × (r < 2 ^ 16)
FitsCommand (command.GetGlobal g d) = (g < 2 ^ 16) × (d < 2 ^ 16)
FitsCommand (command.Own o r) = (o < 2 ^ 16) × (r < 2 ^ 16)
FitsCommand (command.Root d o) = (d < 2 ^ 16) × (o < 2 ^ 16)
FitsCommand (command.Unroot o) = o < 2 ^ 16
FitsCommand (command.Throw r) = r < 2 ^ 16
FitsCommand (command.Take d) = d < 2 ^ 16
FitsCommand command.Gc = Unit {0}
FitsCommand command.GcDrop = Unit {0}
FitsCommand command.GcInc = Unit {0}
FitsCommand (command.Grow n) = n < 2 ^ 64
FitsCommand command.Cap = Unit {0}

-- a command of this form
abbrev pub IsOfForm : Form → Command → Type 0
IsOfForm form command = FitsCommand command × (command_form command ≡ Some form)

-- the line spells the command
pub record Spells (line : List ℕ) (command : Command) : Type 0 where
  pub fits : FitsCommand command
  pub short : length line ≤ max_line
  pub spelled : line ≡ spelling command

-- the command that a line is: the one that it spells, and `Bad` where it spells none
abbrev pub IsCommandOf : List ℕ → Command → Type 0
IsCommandOf line command.Bad = (command : Command) → ¬ Spells line command
IsCommandOf line command = Spells line command

-- the commands that declare a type
abbrev pub IsDeclaring : Command → Type 0
IsDeclaring (command.Struct is_final supertype fields) = Unit {0}
IsDeclaring (command.Array is_final supertype elem) = Unit {0}
IsDeclaring (command.Exn params) = Unit {0}
IsDeclaring _ = ⊥
