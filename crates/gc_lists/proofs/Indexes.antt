-- Which indexes of types are declared.
use Rattle.std.proofs.Common.{◌≡◌, ℕ, zero, suc, ◌<◌, ◌≤◌, List, take, length, Some, None, inl, inr, refl, sym, ◌∙◌, ap, arith}
use Rattle.std.specs.Option.{option_map}
use Rattle.std.proofs.lemmas.List.{length-take-le}
use Rattle.std.proofs.lemmas.Option.{slice_get_cases, none-some}
use Rattle.gc_types.specs.declared.kind.TypeKind.{TypeKind}
use Rattle.gc_types.specs.Declarations.{Declaration, kind_at, shape_kind}
use Rattle.gc_types.specs.Declarable.{AreDeclared}

-- there are no more types than there may be
pub few_types : (types : List Declaration) → AreDeclared types → length types ≤ 4294967295
few_types types declared = last (length types) refl
  where
    last : (n : ℕ) → length types ≡ n → length types ≤ 4294967295
    last zero none = omega (arith, none)
    last (suc n) some = elim ((slice_get_cases types n).1) [
      | inl found ↦
          let few = (declared.each n found.0 found.2).few_types in
          let taken : length (take n types) ≡ n = length-take-le n types (omega (arith, some)) in
          omega (arith, few, some, taken)
      | inr past ↦ absurd (omega (arith, past.0, some))
    ]

pub declared_below : (types : List Declaration) (ty : ℕ) (kind : TypeKind) → kind_at types ty ≡ Some kind → ty < length types
declared_below types ty kind e = elim ((slice_get_cases types ty).1) [
  | inl found ↦ found.1
  | inr past ↦ absurd (none-some kind (sym (ap (option_map (λ (d : Declaration). shape_kind d.shape)) past.1) ∙ e))
]

pub undeclared_above : (types : List Declaration) (ty : ℕ) → kind_at types ty ≡ None → length types ≤ ty
undeclared_above types ty e = elim ((slice_get_cases types ty).1) [
  | inl found ↦ absurd (none-some _ (sym e ∙ ap (option_map (λ (d : Declaration). shape_kind d.shape)) found.2))
  | inr past ↦ past.0
]
