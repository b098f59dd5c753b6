-- The cascade in memory.
use Rattle.std.specs.Prelude.{◌≡◌, ℕ, ◌+◌, ◌*◌, ◌/◌, ◌%◌, ◌<◌, List, []}
use Rattle.std.specs.FinMap as finite
use Rattle.std.specs.Ordering.{nat_cmp}
use Rattle.gc_types.specs.Declarations.{Declaration}
use Rattle.gc_memory.specs.Words.{word}
use Rattle.gc_memory.specs.Lists.{In, sum_over}
use Rattle.gc_drc.specs.declared.space.CountedSpace.{CountedSpace}
use Rattle.gc_drc.specs.View.{View}
use Rattle.gc_drc.specs.Content.{places_of}
use Rattle.gc_drc.specs.CollectStates.{Draining}
use Rattle.gc_drc.specs.CollectMemory.{Context, IsCountingWord, At}
use Rattle.gc_drc.specs.CollectHosts.{HostsLeft}

-- the word of a place
pub record IsCountingPlace (w : ℕ) : Type 0 where
  pub not_null : 0 < w
  pub even : w % 2 ≡ 0

-- These places are held, and these words are still to be lowered.
pub record Lowering (c : Context) (places : List ℕ) (s : CountedSpace) (words : List ℕ) : Type 0 where
  pub view : View
  pub at : At c view s
  pub draining : Draining c.graph view words
  pub places_are : view.places ≡ places
  pub known : (w : ℕ) → In w words → IsCountingWord c w

-- What is queued is being freed, and nothing is to be lowered just now.
pub record Drain (D : Type 0) (c : Context) (before : finite.FinMap nat_cmp D) (s : CountedSpace) (now : finite.FinMap nat_cmp D) : Type 0 where
  pub view : View
  pub at : At c view s
  pub draining : Draining c.graph view []
  pub hosts : HostsLeft D c view.places before now

pub record CanDrain (D : Type 0) (types : List Declaration) (s : CountedSpace) (now : finite.FinMap nat_cmp D) : Type 0 where
  pub context : Context
  pub before : finite.FinMap nat_cmp D
  pub typed : context.types ≡ types
  pub drain : Drain D context before s now

-- What is left to do: each step frees an object, or takes one off the queue.
abbrev pub drain_left : CountedSpace → ℕ
drain_left s = s.objects * s.objects + sum_over (λ p. word s.memory p / 4 % 2) (places_of s.free.space.held)
