-- What the steps of a collection of a copying heap do to its memory.
use Rattle.std.specs.Prelude.{◌≡◌, ℕ, ◌+◌, ◌%◌, ◌<◌, ◌≤◌, ◌^◌, ◌⊎◌, List, [], ◌∷◌, length}
use Rattle.gc_view.specs.Bytes.{SameBytes}
use Rattle.gc_memory.specs.Words.{word}
use Rattle.gc_memory.specs.Changes.{SameAcross}
use Rattle.gc_types.specs.Declarations.{Declaration}
use Rattle.gc_memory.specs.Lists.{In, sum_over}
use Rattle.gc_memory.specs.Chains.{Chain}
use Rattle.gc_roots.specs.Roots.{Root, root_at}
use Rattle.gc_copying.specs.declared.space.Space.{Space}
use Rattle.gc_copying.specs.Spaces.{half_end, half_first}
use Rattle.gc_copying.specs.CopyWords.{flag, forwarding, copied_unit, IsCopyingPlace, copying_offsets_at}
use Rattle.gc_heap.specs.References.{Spaced}
use Rattle.gc_copying.specs.CopyStart.{From, refs, CopyingReached}
use Rattle.gc_copying.specs.CopyMiddle.{Mid, IsCopiedTo, Moves, Later}
use Rattle.gc_copying.specs.Layout.{copying_size_at}

-- The object at p may be copied to q.
pub record CanCopyTo (m : List ℕ) (p q : ℕ) : Type 0 where
  pub source : p + copying_size_at m p ≤ length m
  pub destination : q + copying_size_at m p ≤ length m
  pub least : 16 ≤ copying_size_at m p
  pub apart : (p + copying_size_at m p ≤ q) ⊎ (q + copying_size_at m p ≤ p)
  pub whole : copying_size_at m p % 16 ≡ 0
  pub fresh : flag m p ≡ 0
  pub small : length m < 2 ^ 32

-- The n bytes of the object at p were copied to q; p says that it was copied, and where to.
pub record CopiesObject (m m' : List ℕ) (p q n : ℕ) : Type 0 where
  pub same_length : length m' ≡ length m
  pub copy : SameAcross m p m' q 0 n
  pub flagged : word m' p ≡ word m p + copied_unit
  pub to : forwarding m' p ≡ q
  pub head : SameBytes m m' (p + 4) (p + 12)
  pub tail : SameBytes m m' (p + 16) (p + n)
  pub others : (lo hi : ℕ) → (hi ≤ p) ⊎ (p + n ≤ lo) → (hi ≤ q) ⊎ (q + n ≤ lo) → SameBytes m m' lo hi

-- the middle of a collection, as the fields of a heap have it
abbrev pub Midway : From → ℕ → Space → Type 0
Midway s t h =
    Mid s h.memory (half_first (length h.memory) h.upper) h.bump (half_end (length h.memory) h.upper) h.objects t

-- a word that may be moved: a place is one of a reached object
abbrev pub Known : From → ℕ → Type 0
Known s w = IsCopyingPlace w → In w s.places × CopyingReached s w

-- the half and the list of external objects are as they were
pub record SameSides (old new : Space) : Type 0 where
  pub upper : new.upper ≡ old.upper
  pub externals : new.externals ≡ old.externals

-- A word may be moved.
pub record CanForward (h : Space) (w : ℕ) : Type 0 where
  pub start : From
  pub frontier : ℕ
  pub mid : Midway start frontier h
  pub known : Known start w

-- A word was moved, and what it names was copied where it had not been.
pub record Forwards (s : From) (t : ℕ) (old new : Space) (w w' : ℕ) : Type 0 where
  pub mid : Midway s t new
  pub later : Later s old.memory new.memory
  pub moves : Moves s new.memory w w'

-- The copy at q is being scanned: its references below the offset u are moved, and those that are left are to
-- be moved.
pub record Scanning (s : From) (p q u : ℕ) (left : List ℕ) (h : Space) : Type 0 where
  pub mid : Midway s (q + u) h
  pub leads : IsCopiedTo s h.memory p q
  pub to : u ≤ copying_size_at s.memory p
  pub spaced : Spaced u (copying_size_at s.memory p) left
  pub part : (o : ℕ) → In o left → In o (refs s p)
  pub done : (o : ℕ) → In o (refs s p) → (o + 4 ≤ u) ⊎ In o left

-- A copy has references at these offsets left to scan.
pub record CanScanCopy (h : Space) (q : ℕ) (left : List ℕ) : Type 0 where
  pub start : From
  pub place : ℕ
  pub from : ℕ
  pub scanning : Scanning start place q from left h

-- The references of a copy were moved up to an offset.
pub record Scans (s : From) (p q u : ℕ) (left : List ℕ) (old new : Space) : Type 0 where
  pub scanning : Scanning s p q u left new
  pub later : Later s old.memory new.memory

-- The reference at an offset is the next one to scan.
pub record CanScanAt (h : Space) (q offset : ℕ) : Type 0 where
  pub start : From
  pub place : ℕ
  pub from : ℕ
  pub left : List ℕ
  pub scanning : Scanning start place q from (offset ∷ left) h

-- All references of the copy at q were moved, so the frontier is behind it.
pub record ScansAll (s : From) (p q : ℕ) (old new : Space) : Type 0 where
  pub mid : Midway s (q + copying_size_at s.memory p) new
  pub later : Later s old.memory new.memory

-- The copies before `scan` were scanned: so many, with so many references.
pub record WorkAt (s : From) (h : Space) (scan n fields : ℕ) : Type 0 where
  pub mid : Midway s scan h
  pub front : List ℕ
  pub chain : Chain (copying_size_at h.memory) (half_first (length h.memory) h.upper) scan front
  pub scanned : length front ≡ n
  pub looked_at : sum_over (λ q. length (copying_offsets_at s.types h.memory q)) front ≡ fields

-- More copies were scanned.
pub record Works (s : From) (old new : Space) (scan n fields : ℕ) : Type 0 where
  pub work : WorkAt s new scan n fields
  pub later : Later s old.memory new.memory

-- So many more were, and each reference was counted, as was each object that was copied.
pub record WorksOn (s : From) (old new : Space) (scan more n fields counted count : ℕ) : Type 0 where
  pub references : ℕ
  pub works : Works s old new scan (n + more) (fields + references)
  pub ticks : count + old.objects ≡ counted + new.objects + references

-- CopiesObject may be scanned from there on.
pub record CanWork (types : List Declaration) (h : Space) (scan : ℕ) : Type 0 where
  pub start : From
  pub n : ℕ
  pub fields : ℕ
  pub work : WorkAt start h scan n fields
  pub types_are : start.types ≡ types

-- A root became another: its word moved.
pub record IsMovedRoot (s : From) (m : List ℕ) (old new : Root) : Type 0 where
  pub place : new.place ≡ old.place
  pub on_stack : new.on_stack ≡ old.on_stack
  pub word : Moves s m old.word new.word

-- All roots did.
pub record RootsMoved (s : From) (m : List ℕ) (old new : List Root) : Type 0 where
  pub same_length : length new ≡ length old
  pub moved : (i : ℕ) → i < length old → IsMovedRoot s m (root_at old i) (root_at new i)

-- the words of roots
abbrev pub words_of_roots : List Root → List ℕ
words_of_roots [] = []
words_of_roots (r ∷ rs) = r.word ∷ words_of_roots rs

-- The roots of a collection may be moved.
pub record CanForwardRoots (h : Space) (roots : List Root) : Type 0 where
  pub start : From
  pub frontier : ℕ
  pub mid : Midway start frontier h
  pub roots_are : start.roots ≡ words_of_roots roots

-- The roots were moved, and what they name was copied where it had not been.
pub record ForwardsRoots (s : From) (t : ℕ) (old new : Space) (roots roots' : List Root) : Type 0 where
  pub mid : Midway s t new
  pub later : Later s old.memory new.memory
  pub moved : RootsMoved s new.memory roots roots'
