-- Where a collection of a copying heap stands between its increments, and how it ends.
use Rattle.std.specs.Prelude.{◌≡◌, ℕ, ◌+◌, ◌-◌, ◌*◌, ◌/◌, ◌<◌, ◌≤◌, None, List, length, slice_index_or}
use Rattle.std.specs.FinMap as finite
use Rattle.std.specs.Ordering.{nat_cmp}
use Rattle.gc_memory.specs.Words.{word}
use Rattle.gc_memory.specs.Lists.{In, occ, sum_over}
use Rattle.gc_memory.specs.Chains.{Chain}
use Rattle.gc_roots.specs.Roots.{Root, root_at}
use Rattle.gc_heap.specs.Collection.{moved, present_words, objects_per_increment, IsPartOf}
use Rattle.gc_copying.specs.declared.space.Space.{Space}
use Rattle.gc_copying.specs.Spaces.{half_first, half_end}
use Rattle.gc_copying.specs.CopyWords.{flag, copying_host_word, IsCopyingExternal}
use Rattle.gc_copying.specs.CopyStart.{From, IsFrom, refs, CopyingReached, ListsExternals}
use Rattle.gc_copying.specs.CopyMiddle.{IsOutsideWords}
use Rattle.gc_copying.specs.CopySteps.{WorkAt, RootsMoved, words_of_roots}
use Rattle.gc_copying.specs.Layout.{copying_size_at}

-- A collection of this heap begins there.
pub record IsBegun (s : From) (h : Space) : Type 0 where
  pub start : IsFrom s
  pub memory : s.memory ≡ h.memory
  pub first : s.first ≡ half_first (length h.memory) h.upper
  pub end : s.end ≡ h.bump
  pub externals : s.externals ≡ h.externals
  pub room : h.bump ≤ half_end (length h.memory) h.upper

-- A collection of this heap with these roots begins.
pub record CanBeginCopy (h : Space) (roots : List Root) : Type 0 where
  pub start : From
  pub begun : IsBegun start h
  pub roots_are : start.roots ≡ words_of_roots roots

-- The roots were moved, and k increments have scanned copies since. `counted` steps were counted: one for
-- each object that was copied, each reference that was looked at, and each root that isn't null.
pub record AtWork (s : From) (rs roots : List Root) (h : Space) (scan k counted : ℕ) : Type 0 where
  pub fields : ℕ
  pub work : WorkAt s h scan (objects_per_increment * k) fields
  pub roots_are : s.roots ≡ words_of_roots rs
  pub roots_moved : RootsMoved s h.memory rs roots
  pub none_listed : h.externals ≡ 0
  pub counted_is : counted ≡ h.objects + fields + length (present_words rs)

-- All copies were scanned, which took k increments.
pub record AtSweep (s : From) (rs roots : List Root) (h : Space) (k counted : ℕ) : Type 0 where
  pub fields : ℕ
  pub work : WorkAt s h h.bump h.objects fields
  pub roots_are : s.roots ≡ words_of_roots rs
  pub roots_moved : RootsMoved s h.memory rs roots
  pub none_listed : h.externals ≡ 0
  pub increments : k ≡ h.objects / objects_per_increment + 1
  pub counted_is : counted ≡ h.objects + fields + length (present_words rs)

-- a byte is of the link of an external object to the next
pub record IsLink (s : From) (p j : ℕ) : Type 0 where
  pub external : IsCopyingExternal s.memory p
  pub from : 20 ≤ j
  pub to : j < 24

-- What lies at q is the object that lay at p, with its references moved.
pub record IsRenamed (s : From) (m : List ℕ) (to : ℕ → ℕ) (p q : ℕ) : Type 0 where
  pub rest : (j d : ℕ) → j < copying_size_at s.memory p → IsOutsideWords (refs s p) j → (IsLink s p j → ⊥) → slice_index_or m (q + j) d ≡ slice_index_or s.memory (p + j) d
  pub refers : (o : ℕ) → In o (refs s p) → word m (q + o) ≡ moved to (word s.memory (p + o))

-- A root is another one, with its word moved.
pub record IsRenamedRoot (to : ℕ → ℕ) (old new : Root) : Type 0 where
  pub place : new.place ≡ old.place
  pub on_stack : new.on_stack ≡ old.on_stack
  pub word : new.word ≡ moved to old.word

-- The host values of the external objects that were not reached are gone, and no others.
pub record HostsSwept (s : From) (D : Type 0) (old new : finite.FinMap nat_cmp D) : Type 0 where
  pub lost : (p : ℕ) → In p s.places → IsCopyingExternal s.memory p → (CopyingReached s p → ⊥) → finite.get new (copying_host_word s.memory p - 1) ≡ None
  pub kept : (id : ℕ) → ((p : ℕ) → In p s.places → IsCopyingExternal s.memory p → copying_host_word s.memory p ≡ id + 1 → CopyingReached s p) → finite.get new id ≡ finite.get old id
  pub part : IsPartOf new old

-- a list of the places that are reached, each once
pub record ListsReached (s : From) (places : List ℕ) : Type 0 where
  pub once : (p : ℕ) → occ p places ≤ 1
  pub only : (p : ℕ) → In p places → CopyingReached s p
  pub all : (p : ℕ) → CopyingReached s p → In p places

-- The collection is complete: the objects are those that are reached, at their new places and with their
-- references moved; so are the roots; the external objects are listed anew; so many increments and steps it took.
pub record IsFinished (s : From) (rs roots : List Root) (h : Space) (k counted : ℕ) : Type 0 where
  pub same_length : length h.memory ≡ length s.memory
  pub news : List ℕ
  pub chain : Chain (copying_size_at h.memory) (half_first (length h.memory) h.upper) h.bump news
  pub room : h.bump ≤ half_end (length h.memory) h.upper
  pub counted_objects : length news ≡ h.objects
  pub fresh : (q : ℕ) → In q news → flag h.memory q ≡ 0
  pub to : ℕ → ℕ
  pub injective : (p p' : ℕ) → CopyingReached s p → CopyingReached s p' → to p ≡ to p' → p ≡ p'
  pub kept : (p : ℕ) → CopyingReached s p → In (to p) news × IsRenamed s h.memory to p (to p)
  pub only : (q : ℕ) → In q news → (p : ℕ) × (CopyingReached s p × (to p ≡ q))
  pub same_roots : length roots ≡ length rs
  pub roots_renamed : (i : ℕ) → i < length rs → IsRenamedRoot to (root_at rs i) (root_at roots i)
  pub externals : ListsExternals h.memory h.externals news
  pub reached : List ℕ
  pub lists_reached : ListsReached s reached
  pub increments : k ≡ length reached / objects_per_increment + 3
  pub steps : counted ≡ length reached + sum_over (λ p. length (refs s p)) reached + length (present_words rs)
