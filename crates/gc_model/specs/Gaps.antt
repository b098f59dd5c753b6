-- Room between the objects of a counting heap, in which none moves.
use Rattle.std.specs.Prelude.{◌≡◌, ◌↔◌, ℕ, ◌+◌, ◌*◌, ◌%◌, ◌<◌, ◌≤◌, ◌⊎◌, Some, None}
use Rattle.gc_types.specs.declared.kind.Layouts.{Layouts}
use Rattle.gc_types.specs.declared.kind.Layouts.TheVariants.{Null, Counting, Copying}
use Rattle.gc_types.specs.Layouts.{round_up}
use Rattle.gc_view.specs.Pages.{page}
use Rattle.gc_view.specs.Sizes.{alignment}
use Rattle.gc_model.specs.Table.{Table}
use Rattle.gc_model.specs.Reach.{IsKept}
use Rattle.gc_model.specs.Sizes.{block_bytes_at}
use Rattle.gc_model.specs.Words.{Placing}

-- Where the positions lie that a heap holds, as far as that is told: of a counting heap alone.
abbrev pub told : Layouts → Placing → Placing
told Null places position = None
told Counting places position = places position
told Copying places position = None

-- a position lies at a place
abbrev pub LiesAt : Placing → ℕ → ℕ → Type 0
LiesAt places p word = places p ≡ Some word

-- a position that a collection keeps lies at a place
abbrev pub KeptAt : {D : Type 0} → Layouts → Table D → Placing → ℕ → ℕ → Type 0
KeptAt layouts t places p word = (places p ≡ Some word) × IsKept layouts t p

-- the places that are left are those of what a collection keeps
abbrev pub AreCut : {D : Type 0} → Layouts → Table D → Placing → Placing → Type 0
AreCut layouts t places left = (p word : ℕ) → (left p ≡ Some word) ↔ KeptAt layouts t places p word

-- So many bytes from a place on, where an object may begin, lie inside the pages of a counting heap, and no object
-- lies in them of those whose positions and places these are.
pub record IsGap {D : Type 0} (Lies : ℕ → ℕ → Type 0) (t : Table D) (place bytes : ℕ) : Type 0 where
  pub aligned : place % alignment ≡ 0
  pub not_null : 0 < place
  pub inside : place + bytes ≤ page * t.pages
  pub apart : (p word : ℕ) → Lies p word → (word + block_bytes_at Counting t p ≤ place) ⊎ (place + bytes ≤ word)

-- There is such a gap for an object of that size.
abbrev pub HasGap : {D : Type 0} → (ℕ → ℕ → Type 0) → Table D → ℕ → Type 0
HasGap Lies t size = (place : ℕ) × IsGap Lies t place (round_up size alignment)

-- A place is the first that an object may have in a counting heap, or one of these objects ends there.
pub data IsFront {D : Type 0} (Lies : ℕ → ℕ → Type 0) (t : Table D) (place : ℕ) : Type 0 where
  first : place ≡ alignment → IsFront Lies t place
  behind : {p word : ℕ} → Lies p word → word + block_bytes_at Counting t p ≡ place → IsFront Lies t place
