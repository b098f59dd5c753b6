-- The walk over held blocks, which frees what isn't marked.
use Rattle.std.specs.Prelude.{◌≡◌, ℕ, ◌+◌, ◌*◌, ◌/◌, ◌%◌, ◌<◌, ◌≤◌, ◌⊎◌, List, [], length}
use Rattle.std.specs.FinMap as finite
use Rattle.std.specs.Ordering.{nat_cmp}
use Rattle.gc_types.specs.Declarations.{Declaration}
use Rattle.gc_memory.specs.Words.{word}
use Rattle.gc_memory.specs.Lists.{In, occ}
use Rattle.gc_drc.specs.declared.space.CountedSpace.{CountedSpace}
use Rattle.gc_drc.specs.Layout.{block_of}
use Rattle.gc_drc.specs.Graph.{CountingReached}
use Rattle.gc_drc.specs.View.{View}
use Rattle.gc_drc.specs.CollectStates.{Freeing}
use Rattle.gc_drc.specs.CollectMemory.{Context, IsCountingWord, At}
use Rattle.gc_drc.specs.CollectHosts.{HostsLeft}

-- the mark bit of each object of the start says whether it is marked, also where it was freed
abbrev pub BitsAre : Context → View → List ℕ → Type 0
BitsAre c v bytes = (p : ℕ) → In p c.graph.places → word bytes p % 2 ≡ occ p v.marked

-- These places are held, and the names of marked objects in these words are still to be taken off.
pub record Uncounts (c : Context) (places : List ℕ) (s : CountedSpace) (words : List ℕ) : Type 0 where
  pub view : View
  pub at : At c view s
  pub freeing : Freeing c.graph view words
  pub places_are : view.places ≡ places
  pub known : (w : ℕ) → In w words → IsCountingWord c w
  pub bits : BitsAre c view s.memory

-- What isn't marked is being freed; these places are still held.
pub record Garbage (D : Type 0) (c : Context) (before : finite.FinMap nat_cmp D) (places : List ℕ) (s : CountedSpace) (now : finite.FinMap nat_cmp D) : Type 0 where
  pub view : View
  pub at : At c view s
  pub freeing : Freeing c.graph view []
  pub places_are : view.places ≡ places
  pub hosts : HostsLeft D c places before now
  pub bits : BitsAre c view s.memory

-- an object may be freed that isn't marked
pub record CanFreeGarbage (D : Type 0) (types : List Declaration) (s : CountedSpace) (now : finite.FinMap nat_cmp D) (x : ℕ) : Type 0 where
  pub context : Context
  pub before : finite.FinMap nat_cmp D
  pub places : List ℕ
  pub typed : context.types ≡ types
  pub garbage : Garbage D context before places s now
  pub held : In x places
  pub fresh : word s.memory x % 2 ≡ 0

-- the end of the managed places
abbrev pub walk_end : CountedSpace → ℕ
walk_end s = length s.memory / 16 * 16

-- blocks may begin at 16, and behind a held block
abbrev pub IsBorder : View → ℕ → Type 0
IsBorder v from = (from ≡ 16) ⊎ ((q : ℕ) × (In q v.places × (from ≡ q + block_of (v.sizes q))))

-- the first held block from there on, or the end where there is none
pub record IsNext (places : List ℕ) (end from next : ℕ) : Type 0 where
  pub is : (next ≡ end) ⊎ In next places
  pub from_on : from ≤ next
  pub inside : next ≤ end
  pub skips : (p : ℕ) → In p places → (p < from) ⊎ (next ≤ p)

pub record CanWalk (s : CountedSpace) (from : ℕ) : Type 0 where
  pub context : Context
  pub view : View
  pub at : At context view s
  pub border : IsBorder view from
  pub some : 16 ≤ walk_end s

-- an object is freed if it isn't marked
pub record CanSweepGarbage (D : Type 0) (types : List Declaration) (s : CountedSpace) (now : finite.FinMap nat_cmp D) (x : ℕ) : Type 0 where
  pub context : Context
  pub before : finite.FinMap nat_cmp D
  pub places : List ℕ
  pub typed : context.types ≡ types
  pub garbage : Garbage D context before places s now
  pub held : In x places

-- it was freed, or it is reached; the others stayed
pub record SweepsGarbage (D : Type 0) (c : Context) (before : finite.FinMap nat_cmp D) (places : List ℕ) (x : ℕ) (s : CountedSpace) (now : finite.FinMap nat_cmp D) : Type 0 where
  pub left : List ℕ
  pub garbage : Garbage D c before left s now
  pub part : (p : ℕ) → In p left → In p places
  pub others : (p : ℕ) → In p places → (p ≡ x → ⊥) → In p left
  pub itself : In x left → CountingReached c.graph x

-- what isn't marked may be freed
pub record CanFreeUnmarked (D : Type 0) (types : List Declaration) (s : CountedSpace) (now : finite.FinMap nat_cmp D) : Type 0 where
  pub context : Context
  pub before : finite.FinMap nat_cmp D
  pub places : List ℕ
  pub typed : context.types ≡ types
  pub garbage : Garbage D context before places s now

-- It was freed: what is held is reached.
pub record FreedUnmarked (D : Type 0) (c : Context) (before : finite.FinMap nat_cmp D) (s : CountedSpace) (now : finite.FinMap nat_cmp D) : Type 0 where
  pub places : List ℕ
  pub garbage : Garbage D c before places s now
  pub all_reached : (p : ℕ) → In p places → CountingReached c.graph p
