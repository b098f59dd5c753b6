-- What the steps of a check answer.
use Rattle.std.specs.Prelude.{◌≡◌, ◌⊎◌, ℕ, ◌<◌, Bool, true, false, List, [], ◌∷◌, ◌++◌, Option, Some, None, count_by, length, replicate, slice_get}
use Rattle.gc_types.specs.declared.value.FieldType.{FieldType}
use Rattle.gc_types.specs.declared.value.HeapType.{HeapType}
use Rattle.gc_types.specs.declared.value.HeapType.TheVariants as heap
use Rattle.gc_types.specs.Declarations.{Declaration}
use Rattle.gc_commands.specs.declared.command.Command.{Command}
use Rattle.gc_owner.specs.declared.entry.GcClass.{GcClass}
use Rattle.gc_owner.specs.declared.entry.GcClass.TheVariants as class
use Rattle.gc_model.specs.Fits.{matches}
use Rattle.gc_model.specs.Values.{Value, numeric, i32}
use Rattle.gc_image.specs.declared.image.ImageValue.{ImageValue}
use Rattle.gc_image.specs.declared.image.ObjectLine.{ObjectLine}
use Rattle.gc_image.specs.declared.image.ObjectLine.TheVariants as object
use Rattle.gc_image.specs.Declaring.{CommandDeclares}
use Rattle.gc_image.specs.Well.{is_early, number_named}

-- the command's type was declared behind the others, or it may not be
abbrev pub Declared : List Declaration → Command → List Declaration → Bool → Type 0
Declared old command new true = (declaration : Declaration) × (CommandDeclares old command declaration × (new ≡ old ++ declaration ∷ []))
Declared old command new false = (declaration : Declaration) → ¬ CommandDeclares old command declaration

-- The type of an object as a reference of that class; none where it fits no type of the class.
abbrev pub line_heap_type : GcClass → ObjectLine → Option HeapType
line_heap_type class.Any (object.Struct ty values) = Some (heap.ConcreteStruct ty)
line_heap_type class.Any (object.Array ty values) = Some (heap.ConcreteArray ty)
line_heap_type class.Any (object.Bytes ty bytes) = Some (heap.ConcreteArray ty)
line_heap_type class.Any (object.Host number) = None
line_heap_type class.Any (object.Exn ty tag values) = None
line_heap_type class.Extern (object.Struct ty values) = Some heap.Extern
line_heap_type class.Extern (object.Array ty values) = Some heap.Extern
line_heap_type class.Extern (object.Bytes ty bytes) = Some heap.Extern
line_heap_type class.Extern (object.Host number) = Some heap.Extern
line_heap_type class.Extern (object.Exn ty tag values) = None
line_heap_type class.Exn (object.Struct ty values) = None
line_heap_type class.Exn (object.Array ty values) = None
line_heap_type class.Exn (object.Bytes ty bytes) = None
line_heap_type class.Exn (object.Host number) = None
line_heap_type class.Exn (object.Exn ty tag values) = Some (heap.ConcreteExn ty)

-- so of a small integer
abbrev pub small_type : GcClass → Option HeapType
small_type class.Any = Some heap.I31
small_type class.Extern = Some heap.Extern
small_type class.Exn = None

-- whether what has that type fits another
abbrev pub type_fits : List (Option ℕ) → Option HeapType → HeapType → Bool
type_fits supers None ty = false
type_fits supers (Some own) ty = matches supers own ty

-- a number of 32 bits, if the value is one, is below a bound
abbrev pub IsBelow : Value → ℕ → Type 0
IsBelow (numeric i32 n) bound = n < bound
IsBelow v bound = Unit {0}

-- what an early value names has a lower number than its object
abbrev pub IsInTime : FieldType → ℕ → ImageValue → Type 0
IsInTime field number v = is_early field ≡ true → (named : ℕ) → number_named v ≡ Some named → named < number

-- the objects that were found: each is marked, and stands in the list once
pub record FoundParts : Type 0 where
  pub marked : List Bool
  pub numbers : List ℕ

pub record MarksFound (found : FoundParts) : Type 0 where
  pub listed : (p : ℕ) → slice_get found.marked p ≡ Some true → (k : ℕ) × (slice_get found.numbers k ≡ Some p)
  pub marks : (k p : ℕ) → slice_get found.numbers k ≡ Some p → slice_get found.marked p ≡ Some true
  pub counted : count_by (λ b. b) found.marked ≡ length found.numbers

-- a step finds the objects that are sought, and no others
pub record Finds (Sought : ℕ → Type 0) (old new : FoundParts) : Type 0 where
  pub long : length new.marked ≡ length old.marked
  pub keeps : (k p : ℕ) → slice_get old.numbers k ≡ Some p → slice_get new.numbers k ≡ Some p
  pub stays : (p : ℕ) → slice_get old.marked p ≡ Some true → slice_get new.marked p ≡ Some true
  pub finds : (p : ℕ) → Sought p → p < length old.marked → slice_get new.marked p ≡ Some true
  pub only : (k p : ℕ) → slice_get new.numbers k ≡ Some p → (slice_get old.numbers k ≡ Some p) ⊎ Sought p
  pub found : MarksFound old → MarksFound new

-- none of so many objects is found
abbrev pub none_found : ℕ → FoundParts
none_found count = record { marked = replicate count false; numbers = [] }
