-- Where a collection of a copying heap begins, in bytes.
use Rattle.std.specs.Prelude.{◌≡◌, ℕ, ◌+◌, ◌%◌, ◌<◌, ◌≤◌, ◌^◌, ◌⊎◌, List, [], ◌∷◌, length}
use Rattle.gc_types.specs.Declarations.{Declaration}
use Rattle.gc_refs.specs.Trace.{form_of}
use Rattle.gc_view.specs.Reach.{Reachable}
use Rattle.gc_memory.specs.Words.{word}
use Rattle.gc_memory.specs.Lists.{In, occ}
use Rattle.gc_memory.specs.Chains.{Chain}
use Rattle.gc_heap.specs.FreedHosts.{IsHostWord}
use Rattle.gc_copying.specs.CopyWords.{flag, copying_host_word, next_external, IsCopyingExternal, copying_offsets_at}
use Rattle.gc_heap.specs.References.{Spaced}
use Rattle.gc_copying.specs.Layout.{copying_size_at}

-- The memory, the types, the words of the roots that aren't null, where the objects begin and end, their
-- places, and the first of the list of external objects.
pub record From : Type 0 where
  pub memory : List ℕ
  pub types : List Declaration
  pub roots : List ℕ
  pub first : ℕ
  pub end : ℕ
  pub places : List ℕ
  pub externals : ℕ

-- the offsets of the references of an object
abbrev pub refs : From → ℕ → List ℕ
refs s p = copying_offsets_at s.types s.memory p

-- a word of a root or a field: null, a 31-bit number, or the place of an object
abbrev pub IsCopyingWord : From → ℕ → Type 0
IsCopyingWord s w = (w ≡ 0) ⊎ ((w % 2 ≡ 1) ⊎ In w s.places)

-- The external objects that are linked one to the next, from the first on; 0 ends the list.
pub data NextExternals (m : List ℕ) : ℕ → List ℕ → Type 0 where
  none : NextExternals m 0 []
  link : {p : ℕ} {ps : List ℕ} → 0 < p → NextExternals m (next_external m p) ps → NextExternals m p (p ∷ ps)

-- The list of external objects that begins there has each of these places that is external, once.
pub record ListsExternals (m : List ℕ) (head : ℕ) (places : List ℕ) : Type 0 where
  pub listed : List ℕ
  pub linked : NextExternals m head listed
  pub only : (p : ℕ) → In p listed → In p places × IsCopyingExternal m p
  pub all : (p : ℕ) → In p places → IsCopyingExternal m p → In p listed
  pub once : (p : ℕ) → occ p listed ≤ 1

-- A collection may begin there.
pub record IsFrom (s : From) : Type 0 where
  pub chain : Chain (copying_size_at s.memory) s.first s.end s.places
  pub aligned : s.first % 16 ≡ 0
  pub low : 0 < s.end → 16 ≤ s.first
  pub inside : s.end ≤ length s.memory
  pub small : length s.memory < 2 ^ 32
  pub fresh : (p : ℕ) → In p s.places → flag s.memory p ≡ 0
  pub form : (p : ℕ) → In p s.places → form_of (word s.memory p) ≡ 3 → ⊥
  pub spaced : (p : ℕ) → In p s.places → Spaced 12 (copying_size_at s.memory p) (refs s p)
  pub fields : (p o : ℕ) → In p s.places → In o (refs s p) → IsCopyingWord s (word s.memory (p + o))
  pub roots : (w : ℕ) → In w s.roots → IsCopyingWord s w
  pub externals : ListsExternals s.memory s.externals s.places
  pub external_size : (p : ℕ) → In p s.places → IsCopyingExternal s.memory p → 32 ≤ copying_size_at s.memory p
  pub external_refs : (p : ℕ) → In p s.places → IsCopyingExternal s.memory p → refs s p ≡ []
  pub hosts : (p : ℕ) → In p s.places → IsCopyingExternal s.memory p → IsHostWord (copying_host_word s.memory p)

-- a reference of the object at a place, at some offset, is the place of another
abbrev pub CopyingLeads : From → ℕ → ℕ → Type 0
CopyingLeads s from p = In p s.places × ((o : ℕ) × (In o (refs s from) × (word s.memory (from + o) ≡ p)))

-- The places that the roots reach.
abbrev pub CopyingReached : From → ℕ → Type 0
CopyingReached s p = Reachable (λ (q : ℕ). In q s.places × In q s.roots) (CopyingLeads s) p
