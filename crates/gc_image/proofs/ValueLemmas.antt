-- Words that spell values.
use Rattle.std.proofs.Common.{◌≡◌, ℕ, List, ◌∷◌, ◌++◌, codes}
use Rattle.std.specs.Fmt.{decimal}
use Rattle.gc_image.specs.declared.image.ImageReference.{ImageReference}
use Rattle.gc_image.specs.declared.image.ImageReference.TheVariants as reference
use Rattle.gc_image.specs.Text.{FitsImageReference, reference_text}

-- a text that begins like no reference spells none
pub no_reference : (text : List ℕ) → ((rest : List ℕ) → text ≡ codes "i31:" ++ rest → ⊥) → ((rest : List ℕ) → text ≡ 35 ∷ rest → ⊥) → (text ≡ codes "null" → ⊥)
    → (r : ImageReference) → FitsImageReference r → text ≡ reference_text r → ⊥
no_reference text small object none reference.Null fits e = none e
no_reference text small object none (reference.Small n) fits e = small (decimal n) e
no_reference text small object none (reference.Object number) fits e = object (decimal number) e
