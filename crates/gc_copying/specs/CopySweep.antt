-- The sweep of the host values of external objects.
use Rattle.std.specs.Prelude.{◌≡◌, ℕ, ◌+◌, ◌-◌, ◌<◌, ◌≤◌, ◌⊎◌, None, List, length, slice_index_or}
use Rattle.std.specs.FinMap as finite
use Rattle.std.specs.Ordering.{nat_cmp}
use Rattle.gc_view.specs.Bytes.{put_u32}
use Rattle.gc_heap.specs.Collection.{IsPartOf}
use Rattle.gc_copying.specs.declared.space.Space.{Space}
use Rattle.gc_copying.specs.CopyWords.{flag, forwarding, copying_host_word, IsCopyingExternal}
use Rattle.gc_memory.specs.Lists.{In, occ}
use Rattle.gc_copying.specs.CopyStart.{From, NextExternals}
use Rattle.gc_copying.specs.CopyMiddle.{IsCopiedTo}
use Rattle.gc_copying.specs.CopySteps.{Midway}

-- An external object may be swept: its words lie in the memory, and those of its copy where there is one.
pub record CanSweepExternal (m : List ℕ) (p : ℕ) : Type 0 where
  pub source : p + 24 ≤ length m
  pub copy : flag m p ≡ 1 → forwarding m p + 24 ≤ length m

-- A copied external object's copy was put in front of the list.
pub record ListsCopy (old new : Space) (p : ℕ) : Type 0 where
  pub memory : new.memory ≡ put_u32 old.memory (forwarding old.memory p + 20) old.externals
  pub head : new.externals ≡ forwarding old.memory p

-- the sides and the numbers of a heap are as they were
pub record SameCounts (old new : Space) : Type 0 where
  pub upper : new.upper ≡ old.upper
  pub bump : new.bump ≡ old.bump
  pub objects : new.objects ≡ old.objects

-- The external objects may be swept: all copies were scanned, and none is listed yet.
pub record CanSweep (h : Space) (first : ℕ) : Type 0 where
  pub start : From
  pub mid : Midway start h.bump h
  pub first_is : first ≡ start.externals
  pub none_listed : h.externals ≡ 0

-- The external objects were swept: the copies of those that were copied are listed, only their links have
-- changed, and the host values of the others are gone.
pub record Sweeps (s : From) (D : Type 0) (old new : Space) (before after : finite.FinMap nat_cmp D) : Type 0 where
  pub same_length : length new.memory ≡ length old.memory
  pub listed : List ℕ
  pub linked : NextExternals new.memory new.externals listed
  pub only : (q : ℕ) → In q listed → (p : ℕ) × (IsCopyingExternal s.memory p × IsCopiedTo s old.memory p q)
  pub all : (p q : ℕ) → IsCopyingExternal s.memory p → IsCopiedTo s old.memory p q → In q listed
  pub once : (q : ℕ) → occ q listed ≤ 1
  pub rest : (j d : ℕ) → ((q : ℕ) → In q listed → (j < q + 20) ⊎ (q + 24 ≤ j)) → slice_index_or new.memory j d ≡ slice_index_or old.memory j d
  pub lost : (p : ℕ) → In p s.places → IsCopyingExternal s.memory p → flag old.memory p ≡ 0 → finite.get after (copying_host_word s.memory p - 1) ≡ None
  pub kept : (id : ℕ) → ((p : ℕ) → In p s.places → IsCopyingExternal s.memory p → flag old.memory p ≡ 0 → copying_host_word s.memory p ≡ id + 1 → ⊥) → finite.get after id ≡ finite.get before id
  pub part : IsPartOf after before
