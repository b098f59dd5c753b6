-- The table of functions.
use Rattle.std.specs.Prelude.{◌≡◌, ℕ, Option, Some, None, refl}
use Rattle.std.specs.Coded.{Coded, code_by, coded×, coded_ℕ}
use Rattle.gc_types.specs.Declarations.{TypeTable}
use Rattle.gc_types.specs.Subtyping.{supertypes_of, Meets}
use Rattle.gc_types.specs.declared.value.Func.{Func}

-- a function is stored as the pair of its fields
abbrev pub func_code : Coded Func
func_code =
    code_by (ℕ × ℕ) (coded× coded_ℕ coded_ℕ)
    (λ f. (f.number, f.ty))
    (λ p. record { number = p.0; ty = p.1 })
    (λ _. refl)

-- it is none, or its type is that type or a subtype of it
abbrev pub FitsType : TypeTable → ℕ → Option Func → Type 0
FitsType types expected None = Unit {0}
FitsType types expected (Some func) = Meets (supertypes_of types.declarations) func.ty expected
