-- What a collection keeps lies where it lay, wherever places are told; so whether there is room beside it doesn't change.
use Rattle.std.proofs.Common.{◌≡◌, ◌↔◌, ℕ, Some}
use Rattle.gc_types.specs.declared.kind.Layouts.{Layouts}
use Rattle.gc_types.specs.declared.kind.Layouts.TheVariants.{Null, Counting, Copying}
use Rattle.gc_types.specs.Layouts.{round_up}
use Rattle.gc_view.specs.Sizes.{alignment}
use Rattle.gc_model.specs.Table.{Table}
use Rattle.gc_model.specs.Reach.{IsReached}
use Rattle.gc_model.specs.Words.{Placing}
use Rattle.gc_model.specs.Gaps.{KeptAt, AreCut}
use Rattle.gc_model.specs.Allocation.{FitsIn, LacksFit}
use Rattle.gc_model.proofs.HeapGaps.{gap_beside}

-- the positions in a set lie where they lay, where places are told
abbrev pub StayAt : Layouts → (ℕ → Type 0) → Placing → Placing → Type 0
StayAt Null IsIn before now = Unit {0}
StayAt Counting IsIn before now = (p word : ℕ) → IsIn p → (before p ≡ Some word) ↔ (now p ≡ Some word)
StayAt Copying IsIn before now = Unit {0}

pub stay-same : (layouts : Layouts) (IsIn : ℕ → Type 0) (places : Placing) → StayAt layouts IsIn places places
stay-same Null IsIn places = tt
stay-same Counting IsIn places = λ p word is. (λ e. e, λ e. e)
stay-same Copying IsIn places = tt

pub stay-trans : (layouts : Layouts) (IsIn : ℕ → Type 0) (a b c : Placing) → StayAt layouts IsIn a b → StayAt layouts IsIn b c → StayAt layouts IsIn a c
stay-trans Null IsIn a b c one two = tt
stay-trans Counting IsIn a b c one two = λ p word is. (λ e. (two p word is).0 ((one p word is).0 e), λ e. (one p word is).1 ((two p word is).1 e))
stay-trans Copying IsIn a b c one two = tt

stay-back : (layouts : Layouts) (IsIn : ℕ → Type 0) (a b : Placing) → StayAt layouts IsIn a b → StayAt layouts IsIn b a
stay-back Null IsIn a b stay = tt
stay-back Counting IsIn a b stay = λ p word is. ((stay p word is).1, (stay p word is).0)
stay-back Copying IsIn a b stay = tt

-- a collection leaves what is reached
pub stay-cut : {D : Type 0} (layouts : Layouts) (t : Table D) (before now : Placing) → AreCut layouts t before now → StayAt layouts (IsReached t) before now
stay-cut Null t before now cut = tt
stay-cut Counting t before now cut = λ p word reached. (λ e. (cut p word).1 (e, reached), λ e. ((cut p word).0 e).0)
stay-cut Copying t before now cut = tt

-- room beside what is kept is there, wherever the rest lies
pub fits-stay : {D : Type 0} (layouts : Layouts) (t : Table D) (before now : Placing) (size : ℕ) → StayAt layouts (IsReached t) before now → FitsIn layouts now t size → FitsIn layouts before t size
fits-stay Null t before now size stay fits = fits
fits-stay Counting t before now size stay fits = (
  fits.0,
  gap_beside (KeptAt Counting t now) (KeptAt Counting t before) t fits.0 (round_up size alignment) (λ p word kept. ((stay p word kept.1).0 kept.0, kept.1)) fits.1,
)
fits-stay Copying t before now size stay fits = fits

pub lacks-stay : {D : Type 0} (layouts : Layouts) (t : Table D) (before now : Placing) (size : ℕ) → StayAt layouts (IsReached t) before now → LacksFit layouts now t size → LacksFit layouts before t size
lacks-stay layouts t before now size stay lacks = λ fits. lacks (fits-stay layouts t now before size (stay-back layouts (IsReached t) before now stay) fits)
