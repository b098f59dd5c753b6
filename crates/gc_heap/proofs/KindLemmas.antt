-- The kind that a header tells is its object's.
use Rattle.std.proofs.Common.{◌≡◌, ℕ, Option, Some, None, MatchOption, sym, ap, ◌∙◌}
use Rattle.gc_types.specs.declared.kind.VMGcKind.{VMGcKind}
use Rattle.gc_types.specs.Kinds.{kind_bits}
use Rattle.gc_types.proofs.KindLemmas.{same_kind}
use Rattle.gc_refs.specs.Header.{kind_part, IsOfKind}

-- a kind word that has an object's kind tells it
pub tells_kind : (told : Option VMGcKind) (word : ℕ) (own : VMGcKind) → MatchOption told ((kind : VMGcKind) → ¬ (IsOfKind kind word)) (λ kind. IsOfKind kind word)
    → kind_part word ≡ kind_bits own → told ≡ Some own
tells_kind None word own none e = absurd (none own (sym e))
tells_kind (Some kind) word own is e = ap Some (same_kind kind own (is ∙ e))
