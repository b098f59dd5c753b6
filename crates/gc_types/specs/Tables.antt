-- What holds of the table at every moment, and what is asked while its newest type is checked.
use Rattle.std.specs.Prelude.{◌≡◌, ℕ, false, List, Option, Some, None, slice_get}
use Rattle.gc_types.specs.Declarations.{Declaration, Shape}
use Rattle.gc_types.specs.Declarable.{AreDeclared, NamesKnown, MatchesShape}
use Rattle.gc_types.specs.Subtyping.{supertypes_of}

-- the supertypes are kept beside the types, each of which could be declared
pub record IsTable (ancestry : List (Option ℕ)) (types : List Declaration) : Type 0 where
  pub supertypes : ancestry ≡ supertypes_of types
  pub declared : AreDeclared types

-- the supertype of the newest type, where all stand
pub record ExtendsHere (types : List Declaration) (shape : Shape) (ty : ℕ) : Type 0 where
  pub supertype : Declaration
  pub found : slice_get types ty ≡ Some supertype
  pub not_final : supertype.is_final ≡ false
  pub matches : MatchesShape (supertypes_of types) shape supertype.shape

abbrev pub ExtendsIn : List Declaration → Shape → Option ℕ → Type 0
ExtendsIn types shape None = Unit {0}
ExtendsIn types shape (Some ty) = ExtendsHere types shape ty

-- the newest type may stand where all stand
abbrev pub MayStand : List Declaration → Declaration → Type 0
MayStand types d = NamesKnown types d.shape × ExtendsIn types d.shape d.supertype
