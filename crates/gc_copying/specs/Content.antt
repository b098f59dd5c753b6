-- The objects of a copying heap, and what is always true of them outside a collection.
use Rattle.std.specs.Prelude.{◌≡◌, ℕ, ◌*◌, ◌+◌, ◌-◌, ◌%◌, ◌<◌, ◌≤◌, Bool, true, List, [], ◌∷◌, length, map}
use Rattle.std.specs.Ordering.{nat_cmp}
use Rattle.std.specs.FinMap as finite
use Rattle.gc_types.specs.declared.kind.Layouts.TheVariants.{Copying}
use Rattle.gc_types.specs.declared.kind.VMGcKind.TheVariants.{ExternRef}
use Rattle.gc_refs.specs.Header.{IsOfKind}
use Rattle.gc_tables.specs.SideTables.{max_entries}
use Rattle.gc_memory.specs.Words.{word}
use Rattle.gc_memory.specs.Lists.{In, occ}
use Rattle.gc_memory.specs.Chains.{Chain}
use Rattle.gc_view.specs.Pages.{page, max_pages}
use Rattle.gc_view.specs.Heaps.{HeapObject, HeapView, detached_in}
use Rattle.gc_heap.specs.Objects.{first_offset, IsObjectKind}
use Rattle.gc_heap.specs.Content.{IsSpare}
use Rattle.gc_copying.specs.Spaces.{half_start, half_end}
use Rattle.gc_copying.specs.Layout.{copying_first_place, copying_size_at, places_in, copying_kind_at, copying_object_at}

-- the objects at these places
abbrev pub objects_at : List ℕ → List ℕ → finite.FinMap nat_cmp HeapObject
objects_at bytes ps = finite.from_entries (map (λ (p : ℕ). (p, copying_object_at bytes p)) ps)

-- what is seen of a memory whose active half is in use up to a bump place
abbrev pub space_view : List ℕ → Bool → ℕ → ℕ → HeapView
space_view bytes upper bump scopes = record (detached_in scopes) {
  attached = true;
  content = objects_at bytes (places_in bytes upper bump);
  capacity = length bytes;
  allocated = bump - half_start (length bytes) upper;
  needs_gc = upper;
}

-- An external object has 32 bytes, and its host id is one that the table of host values may give.
pub record HasCopyingHost (bytes : List ℕ) (place : ℕ) : Type 0 where
  pub size : copying_size_at bytes place ≡ 32
  pub from : 0 < word bytes (place + 16)
  pub to : word bytes (place + 16) ≤ max_entries

-- A whole object stands at a place. No collection has copied it.
pub record IsCopyingWhole (bytes : List ℕ) (place : ℕ) : Type 0 where
  pub kind : IsOfKind (copying_kind_at bytes place) (word bytes place)
  pub object_kind : IsObjectKind (copying_kind_at bytes place)
  pub least : first_offset Copying (copying_kind_at bytes place) ≤ copying_size_at bytes place
  pub spare : IsSpare Copying (copying_object_at bytes place)
  pub external : copying_kind_at bytes place ≡ ExternRef → HasCopyingHost bytes place

-- These places are linked, from the first number on, through the words at 20. The last link is 0.
pub data CopyingLinked (bytes : List ℕ) : ℕ → List ℕ → Type 0 where
  last : CopyingLinked bytes 0 []
  link : {p : ℕ} {ps : List ℕ} → 0 < p → CopyingLinked bytes (word bytes (p + 20)) ps → CopyingLinked bytes p (p ∷ ps)

-- The external objects among the places are linked from a head on, each once.
pub record ExternalsLinked (bytes : List ℕ) (head : ℕ) (ps : List ℕ) : Type 0 where
  pub list : List ℕ
  pub linked : CopyingLinked bytes head list
  pub only : (p : ℕ) → In p list → In p ps × (copying_kind_at bytes p ≡ ExternRef)
  pub each : (p : ℕ) → In p ps → copying_kind_at bytes p ≡ ExternRef → In p list
  pub once : (p : ℕ) → occ p list ≤ 1

-- The objects of the active half follow each other from its first place up to the bump place, so many
-- of them, and the external ones are linked.
pub record IsSpace (bytes : List ℕ) (upper : Bool) (bump head objects : ℕ) : Type 0 where
  pub pages : length bytes % page ≡ 0
  pub bound : length bytes ≤ page * max_pages
  pub chain : Chain (copying_size_at bytes) (copying_first_place (length bytes) upper) bump (places_in bytes upper bump)
  pub inside : bump ≤ half_end (length bytes) upper
  pub whole : (p : ℕ) → In p (places_in bytes upper bump) → IsCopyingWhole bytes p
  pub count : objects ≡ length (places_in bytes upper bump)
  pub externals : ExternalsLinked bytes head (places_in bytes upper bump)
