-- When an image is well, by the tests of its parts.
use Rattle.std.proofs.Common.{◌≡◌, ◌↔◌, ℕ, Bool, false, IfOk, IsTrue, List, [], Result, Ok, Err, length, sym, subst, ◌∙◌}
use Rattle.std.proofs.lemmas.Bool.{false≢true}
use Rattle.gc_types.specs.Declarations.{Declaration}
use Rattle.gc_image.specs.Declaring.{DeclareInTurn}
use Rattle.gc_image.specs.Parts.{ImageParts}
use Rattle.gc_image.specs.Text.{FitsImage, image_text}
use Rattle.gc_image.specs.Well.{GlobalsReachAll, AreRising, AreWellGlobals, AreWellObjects, IsWell, IsWellImage}
use Rattle.gc_image.proofs.TextLemmas.{one_text}
use Rattle.gc_image.proofs.TurnLemmas.{one_turn}

-- its types may not be declared in turn
pub no_types : (image : ImageParts) → ((all : List Declaration) → ¬ DeclareInTurn [] image.types all) → IsTrue false ↔ IsWellImage image
no_types image none = (λ e. absurd (false≢true e), λ well. absurd (none well.types well.declared))

module _ (image : ImageParts) (types : List Declaration) (declared : DeclareInTurn [] image.types types) where
  -- its objects and globals are well, so it depends on what they reach
  pub by_reach : AreWellObjects types image.objects → AreWellGlobals (length image.objects) image.globals → AreRising image.globals → (b : Bool) → (IsTrue b ↔ GlobalsReachAll image.objects image.globals)
      → IsTrue b ↔ IsWellImage image
  by_reach objects globals rising b told = (
    λ e. record { types = types; declared = declared; objects = objects; globals = globals; rising = rising; reached = told.0 e },
    λ well. told.1 well.reached,
  )

  pub ok_by_reach : {E : Type 0} (r : Result Bool E) → AreWellObjects types image.objects → AreWellGlobals (length image.objects) image.globals → AreRising image.globals
      → IfOk r (λ b. IsTrue b ↔ GlobalsReachAll image.objects image.globals) → IfOk r (λ b. IsTrue b ↔ IsWellImage image)
  ok_by_reach (Ok b) objects globals rising told = by_reach objects globals rising b told
  ok_by_reach (Err e) objects globals rising told = tt

  pub no_objects : (AreWellObjects types image.objects → ⊥) → IsTrue false ↔ IsWellImage image
  no_objects none = (
    λ e. absurd (false≢true e),
    λ well. absurd (none (subst (λ ts. AreWellObjects ts image.objects) (one_turn [] image.types well.types types well.declared declared) well.objects)),
  )

pub no_globals : (image : ImageParts) → (AreWellGlobals (length image.objects) image.globals → ⊥) → IsTrue false ↔ IsWellImage image
no_globals image none = (λ e. absurd (false≢true e), λ well. absurd (none well.globals))

pub no_rising : (image : ImageParts) → (AreRising image.globals → ⊥) → IsTrue false ↔ IsWellImage image
no_rising image none = (λ e. absurd (false≢true e), λ well. absurd (none well.rising))

-- the bytes are its text
pub text_well : (bytes : List ℕ) (image : ImageParts) → FitsImage image → bytes ≡ image_text image → (b : Bool) → (IsTrue b ↔ IsWellImage image) → IsTrue b ↔ IsWell bytes
text_well bytes image fits spelled b told = (
  λ e. record { image = image; fits = fits; spelled = spelled; well = told.0 e },
  λ well. told.1 (subst IsWellImage (one_text well.image image well.fits fits (sym well.spelled ∙ spelled)) well.well),
)

pub ok_text_well : {E : Type 0} (bytes : List ℕ) (image : ImageParts) (r : Result Bool E) → FitsImage image → bytes ≡ image_text image → IfOk r (λ b. IsTrue b ↔ IsWellImage image)
    → IfOk r (λ b. IsTrue b ↔ IsWell bytes)
ok_text_well bytes image (Ok b) fits spelled told = text_well bytes image fits spelled b told
ok_text_well bytes image (Err e) fits spelled told = tt

pub no_text_well : (bytes : List ℕ) → ((image : ImageParts) → FitsImage image → bytes ≡ image_text image → ⊥) → IsTrue false ↔ IsWell bytes
no_text_well bytes none = (λ e. absurd (false≢true e), λ well. absurd (none well.image well.fits well.spelled))
