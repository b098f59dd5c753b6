-- The marks of frame slots, and the sweep of the list of shown words, in memory.
use Rattle.std.specs.Prelude.{◌≡◌, ℕ, ◌%◌, List, [], ◌∷◌}
use Rattle.gc_memory.specs.Words.{word}
use Rattle.gc_memory.specs.Lists.{In, sum_over}
use Rattle.gc_drc.specs.declared.space.CountedSpace.{CountedSpace}
use Rattle.gc_drc.specs.View.{View}
use Rattle.gc_drc.specs.Content.{places_of}
use Rattle.gc_drc.specs.CollectStates.{IsView, Cascading, MarkingFrames, SweepingShown}
use Rattle.gc_drc.specs.CollectMemory.{Context, At}
use Rattle.gc_drc.specs.CollectLists.{onto, front}

-- The objects that frame slots hold are being marked; these words of slots are left.
pub record FrameMarks (c : Context) (s : CountedSpace) (left : List ℕ) : Type 0 where
  pub view : View
  pub at : At c view s
  pub is_view : IsView view
  pub cascading : Cascading c.graph view []
  pub marking : MarkingFrames c.graph view left
  pub part : (w : ℕ) → In w left → In w c.graph.frames
  pub all_held : view.places ≡ c.graph.places

-- the word of a frame slot may be looked at
pub record CanMarkFrame (s : CountedSpace) (w : ℕ) : Type 0 where
  pub context : Context
  pub left : List ℕ
  pub marks : FrameMarks context s (w ∷ left)

-- The list of shown words is being swept: these are kept, from the last one on, and those are left.
pub record Sweep (c : Context) (s : CountedSpace) (kept left : List ℕ) : Type 0 where
  pub view : View
  pub at : At c view s
  pub sweeping : SweepingShown c.graph view kept left
  pub list : view.shown ≡ onto kept left
  pub all_held : view.places ≡ c.graph.places

pub record CanSweepShown (s : CountedSpace) (before x : ℕ) : Type 0 where
  pub context : Context
  pub kept : List ℕ
  pub left : List ℕ
  pub sweep : Sweep context s kept (x ∷ left)
  pub is_before : front kept ≡ before

-- one object was kept, or taken off; the last that was kept is told
pub record SweptOne (c : Context) (s : CountedSpace) (left : List ℕ) (before : ℕ) : Type 0 where
  pub kept : List ℕ
  pub sweep : Sweep c s kept left
  pub is_before : front kept ≡ before

-- What is left to sweep: each step clears a mark, or takes an object off the list.
abbrev pub sweep_left : CountedSpace → ℕ
sweep_left s = sum_over (λ p. word s.memory p % 4) (places_of s.free.space.held)
