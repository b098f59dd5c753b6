-- What a store has beside the table: the account by which the policy of growth goes.
use Rattle.std.specs.Prelude.{◌≡◌, ℕ, ◌+◌, ◌-◌, ◌^◌, ◌%◌, ◌==◌, min, Bool, false, List, [], ◌∷◌, ◌++◌, Option, Some, None}
use Rattle.gc_types.specs.declared.kind.Layouts.{Layouts}
use Rattle.gc_model.specs.Table.{Table}
use Rattle.gc_model.specs.Reach.{AreAll}
use Rattle.gc_model.specs.Stores.{StoreView}
use Rattle.gc_model.specs.Holds.{Holds, Placing}
use Rattle.gc_model.specs.Words.{nowhere, placed_at}
use Rattle.gc_model.specs.Gaps.{told}
use Rattle.gc_model.specs.Collects.{HasPlace}

-- The positions that the heap holds, each once; where they lie, of a counting heap, whose objects never move; the
-- bytes that were allocated after its last collection, 0 before the first; how many allocations were counted; and
-- whether the upper half of a copying heap is active.
pub record Account : Type 0 where
  pub held : List ℕ
  pub places : Placing
  pub last : ℕ
  pub tries : ℕ
  pub upper : Bool

-- the account of a store with nothing in it
abbrev pub no_account : Account
no_account = record { held = []; places = nowhere; last = 0; tries = 0; upper = false }

-- one more allocation is counted
abbrev pub counted : Account → Account
counted a = record a { tries = min (a.tries + 1) (2 ^ 64 - 1) }

-- whether the allocation that was counted last is the n-th of those that collect first
abbrev pub is_due : Option ℕ → ℕ → Bool
is_due None tries = false
is_due (Some n) tries = tries % n == 0

-- the heap holds one more object, of that position and at that place
abbrev pub with_held : Layouts → ℕ → ℕ → Account → Account
with_held layouts position word a = record a { held = a.held ++ position ∷ []; places = told layouts (placed_at a.places position word) }

-- the account is that of the store, whose objects lie as the placing says
pub record IsAccount {D : Type 0} (layouts : Layouts) (s : StoreView D) (place : Placing) (a : Account) : Type 0 where
  pub held : AreAll (HasPlace place) a.held
  pub places : (p : ℕ) → a.places p ≡ told layouts place p
  pub last : s.last ≡ a.last
  pub tries : s.tries ≡ a.tries
  pub upper : s.heap.needs_gc ≡ a.upper

-- the store holds the table, and has that account beside it
pub record HoldsAccount {D : Type 0} (layouts : Layouts) (s : StoreView D) (t : Table D) (a : Account) : Type 0 where
  pub place : Placing
  pub holds : Holds layouts s t place
  pub account : IsAccount layouts s place a
