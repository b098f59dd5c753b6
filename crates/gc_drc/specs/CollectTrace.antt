-- What the roots reach is marked, in memory.
use Rattle.std.specs.Prelude.{◌≡◌, ℕ, zero, suc, ◌+◌, ◌-◌, ◌%◌, ◌<◌, ◌==◌, if◌then◌else◌, List, [], length, map}
use Rattle.gc_types.specs.Declarations.{Declaration}
use Rattle.gc_roots.specs.Roots.{Root}
use Rattle.gc_memory.specs.Words.{word}
use Rattle.gc_memory.specs.Lists.{In, occ, sum_over}
use Rattle.gc_drc.specs.declared.space.CountedSpace.{CountedSpace}
use Rattle.gc_drc.specs.View.{View, Linked}
use Rattle.gc_drc.specs.Content.{places_of}
use Rattle.gc_drc.specs.Graph.{CountedGraph}
use Rattle.gc_drc.specs.CollectStates.{IsView, Cascading, Tracing}
use Rattle.gc_drc.specs.CollectMemory.{Context, IsCountingWord, At}

-- The counts are the names, only frame slots are shown, and nothing is queued; all objects of the start are held.
pub record Settled (g : CountedGraph) (v : View) : Type 0 where
  pub is_view : IsView v
  pub cascading : Cascading g v []
  pub shown_frames : (x : ℕ) → 0 < occ x v.shown → 0 < occ x g.frames
  pub none_queued : v.queue ≡ []
  pub all_held : v.places ≡ g.places

-- What the roots reach is being marked. The marked objects that are still to be scanned are linked from the
-- head on; with those that aren't marked, of which there are `fresh`, they are as many as the list `unscanned` is long.
pub record Traces (c : Context) (unscanned : List ℕ) (s : CountedSpace) (head fresh : ℕ) (pending : List ℕ) : Type 0 where
  pub view : View
  pub at : At c view s
  pub settled : Settled c.graph view
  pub work : List ℕ
  pub tracing : Tracing c.graph view pending work
  pub linked : Linked s.memory 24 head work
  pub known : (w : ℕ) → In w pending → IsCountingWord c w
  pub fresh_is : sum_over (λ p. 1 - occ p view.marked) view.places ≡ fresh
  pub left_is : fresh + length work ≡ length unscanned

-- how many objects the mark bits say aren't marked
abbrev pub fresh_in : CountedSpace → ℕ
fresh_in s = sum_over (λ p. 1 - word s.memory p % 2) (places_of s.free.space.held)

-- how many objects are linked from one on, counted up to a number
abbrev pub chain_length : ℕ → List ℕ → ℕ → ℕ
chain_length zero bytes head = 0
chain_length (suc n) bytes head = if head == 0 then 0 else suc (chain_length n bytes (word bytes (head + 24)))

-- What is left to trace: the objects that aren't marked, and those that are still to be scanned.
abbrev pub trace_left : CountedSpace → ℕ → ℕ
trace_left s head = fresh_in s + chain_length s.objects s.memory head

-- the next object may be scanned
pub record CanScanNext (types : List Declaration) (s : CountedSpace) (head fresh : ℕ) : Type 0 where
  pub context : Context
  pub unscanned : List ℕ
  pub typed : context.types ≡ types
  pub traces : Traces context unscanned s head fresh []

-- the words of some roots
abbrev pub words_in_roots : List Root → List ℕ
words_in_roots roots = map (λ (r : Root). r.word) roots

-- the words of roots were looked at, of which these are left
abbrev pub TracesRoots : CountedSpace → ℕ → ℕ → List Root → CountedSpace → ℕ → ℕ → List Root → Type 0
TracesRoots s head fresh roots s' head' fresh' left =
    (c : Context) (unscanned : List ℕ) → Traces c unscanned s head fresh (words_in_roots roots) → Traces c unscanned s' head' fresh' (words_in_roots left)
