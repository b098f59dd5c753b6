-- What stands in the middle of a collection.
use Rattle.std.specs.Prelude.{ℕ, ◌≡◌, ◌+◌, ◌<◌, ◌≤◌, ◌⊎◌, List, []}
use Rattle.gc_memory.specs.Lists.{occ}
use Rattle.gc_drc.specs.View.{View}
use Rattle.gc_drc.specs.Graph.{CountedGraph, names, CountingReached}
use Rattle.gc_drc.specs.Unheld.{Unheld}
use Rattle.gc_drc.specs.CollectOps.{count_of}

-- Each place stands once, and so does each that is shown, queued or marked; no count word is 0.
pub record IsView (v : View) : Type 0 where
  pub once : (x : ℕ) → occ x v.places ≤ 1
  pub shown : (x : ℕ) → occ x v.shown ≤ occ x v.places
  pub queue : (x : ℕ) → occ x v.queue ≤ occ x v.places
  pub marked : (x : ℕ) → occ x v.marked ≤ occ x v.places
  pub positive : (x : ℕ) → 0 < occ x v.places → 0 < count_of v x

-- The counts are the names, where these words are still to be lowered; what is no longer held was unheld.
pub record Cascading (g : CountedGraph) (v : View) (pending : List ℕ) : Type 0 where
  pub counts : (x : ℕ) → 0 < occ x g.places → v.counted x ≡ names g v.places x + occ x g.roots + occ x pending
  pub from : (x : ℕ) → occ x v.places ≤ occ x g.places
  pub gone : (x : ℕ) → 0 < occ x g.places → occ x v.places ≡ 0 → v.counted x ≡ 0
  pub shown : (x : ℕ) → 0 < occ x g.places → 0 < occ x g.frames → 0 < occ x v.shown
  pub freed : (x : ℕ) → 0 < occ x g.places → occ x v.places ≡ 0 → Unheld g x

-- The frame slots are being marked, of which these are left.
pub record MarkingFrames (g : CountedGraph) (v : View) (left : List ℕ) : Type 0 where
  pub only : (x : ℕ) → 0 < occ x v.marked → 0 < occ x g.frames
  pub all : (x : ℕ) → 0 < occ x g.places → 0 < occ x g.frames → (0 < occ x v.marked) ⊎ (0 < occ x left)

-- The list of shown words is being swept: these are kept, and those are left.
pub record SweepingShown (g : CountedGraph) (v : View) (kept left : List ℕ) : Type 0 where
  pub is_view : IsView v
  pub cascading : Cascading g v []
  pub parts : (x : ℕ) → occ x v.shown ≡ occ x kept + occ x left
  pub kept_frames : (x : ℕ) → 0 < occ x kept → 0 < occ x g.frames
  pub marks_left : (x : ℕ) → occ x v.marked ≤ occ x left
  pub marks_frames : (x : ℕ) → 0 < occ x v.marked → 0 < occ x g.frames
  pub frames_marked : (x : ℕ) → 0 < occ x left → 0 < occ x g.frames → 0 < occ x v.marked

-- What is queued is being freed: only frame slots are shown, and nothing is marked.
pub record Draining (g : CountedGraph) (v : View) (pending : List ℕ) : Type 0 where
  pub is_view : IsView v
  pub cascading : Cascading g v pending
  pub shown_frames : (x : ℕ) → 0 < occ x v.shown → 0 < occ x g.frames
  pub none_marked : (x : ℕ) → occ x v.marked ≡ 0

-- Everything that was queued is freed.
pub record Drained (g : CountedGraph) (v : View) : Type 0 where
  pub draining : Draining g v []
  pub none_queued : (x : ℕ) → occ x v.queue ≡ 0

-- What the roots reach is being marked: these words are still to be looked at, and these marked objects are
-- still to be scanned.
pub record Tracing (g : CountedGraph) (v : View) (pending work : List ℕ) : Type 0 where
  pub marked_reached : (x : ℕ) → 0 < occ x v.marked → CountingReached g x
  pub pending_reached : (x : ℕ) → 0 < occ x g.places → 0 < occ x pending → CountingReached g x
  pub waiting : (x : ℕ) → occ x work ≤ occ x v.marked
  pub roots : (x : ℕ) → 0 < occ x g.places → 0 < occ x g.roots → (0 < occ x v.marked) ⊎ (0 < occ x pending)
  pub frames : (x : ℕ) → 0 < occ x g.places → 0 < occ x g.frames → (0 < occ x v.marked) ⊎ (0 < occ x pending)
  pub fields : (p x : ℕ) → 0 < occ p v.marked → 0 < occ x g.places → 0 < occ x (g.words p)
      → (0 < occ p work) ⊎ ((0 < occ x v.marked) ⊎ (0 < occ x pending))

-- The marked objects are those that are reached.
pub record Marked (g : CountedGraph) (v : View) : Type 0 where
  pub only : (x : ℕ) → 0 < occ x v.marked → CountingReached g x
  pub all : (x : ℕ) → CountingReached g x → 0 < occ x v.marked

-- What isn't marked is being freed: the counts of marked objects are their names, where these words are still
-- to be lowered.
pub record Freeing (g : CountedGraph) (v : View) (pending : List ℕ) : Type 0 where
  pub is_view : IsView v
  pub is_marked : Marked g v
  pub counts : (x : ℕ) → 0 < occ x v.marked → v.counted x ≡ names g v.places x + occ x g.roots + occ x pending
  pub from : (x : ℕ) → occ x v.places ≤ occ x g.places
  pub frames_shown : (x : ℕ) → 0 < occ x g.places → 0 < occ x g.frames → 0 < occ x v.shown
  pub shown_frames : (x : ℕ) → 0 < occ x v.shown → 0 < occ x g.frames
  pub none_queued : (x : ℕ) → occ x v.queue ≡ 0

-- A collection is done: held is what is reached, the counts are the names, shown is what frame slots name, and
-- nothing is queued.
pub record Done (g : CountedGraph) (v : View) : Type 0 where
  pub is_view : IsView v
  pub held : (x : ℕ) → 0 < occ x v.places → CountingReached g x
  pub kept : (x : ℕ) → CountingReached g x → 0 < occ x v.places
  pub counts : (x : ℕ) → 0 < occ x v.places → v.counted x ≡ names g v.places x + occ x g.roots
  pub shown_frames : (x : ℕ) → 0 < occ x v.shown → 0 < occ x g.frames
  pub frames_shown : (x : ℕ) → 0 < occ x g.places → 0 < occ x g.frames → 0 < occ x v.shown
  pub none_queued : (x : ℕ) → occ x v.queue ≡ 0
