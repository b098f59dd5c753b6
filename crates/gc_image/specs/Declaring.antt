-- Which types an image has: those that its commands declare in turn.
use Rattle.std.specs.Prelude.{◌≡◌, List, [], ◌∷◌, ◌++◌, Option, Some, None}
use Rattle.gc_types.specs.Declarable.{Declarable}
use Rattle.gc_types.specs.Declarations.{Declaration}
use Rattle.gc_commands.specs.declared.command.Command.{Command}
use Rattle.gc_commands.specs.declared.command.Command.TheVariants as command
use Rattle.gc_commands.specs.TypeWords.{declared_array, declared_exception, declared_struct}

-- the type that a command declares behind these types; none where it declares none, or a word names no type that it may
abbrev pub declared_by : List Declaration → Command → Option Declaration
declared_by types (command.Struct is_final supertype fields) = declared_struct is_final supertype fields types
declared_by types (command.Array is_final supertype element) = declared_array is_final supertype element types
declared_by types (command.Exn params) = declared_exception params types
declared_by types _ = None

-- a command declares that type behind these, and the type may be declared there
pub record CommandDeclares (types : List Declaration) (command : Command) (declaration : Declaration) : Type 0 where
  pub spelled : declared_by types command ≡ Some declaration
  pub declarable : Declarable types declaration

-- commands that come behind the types declare in turn what makes them all
abbrev pub DeclareInTurn : List Declaration → List Command → List Declaration → Type 0
DeclareInTurn types [] all = types ≡ all
DeclareInTurn types (command ∷ commands) all =
    (declaration : Declaration) × (CommandDeclares types command declaration × DeclareInTurn (types ++ declaration ∷ []) commands all)
