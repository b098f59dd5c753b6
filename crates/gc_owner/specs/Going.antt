-- What an increment of a collection leaves of the roots and their list.
use Rattle.std.specs.Prelude.{◌≡◌, ℕ, ◌+◌, Bool, List, length, map, Option, Some, None}
use Rattle.std.specs.FinMap.{FinMap}
use Rattle.std.specs.Ordering.{nat_cmp}
use Rattle.gc_types.specs.declared.kind.Layouts.{Layouts}
use Rattle.gc_types.specs.Declarations.{Declaration}
use Rattle.gc_roots.specs.Roots.{Root}
use Rattle.gc_view.specs.Heaps.{HeapView}
use Rattle.gc_heap.specs.Collection.{Stage, stage, Start, Collected, has_host, moved_root, Stepped}
use Rattle.gc_heap.specs.Collection as collection
use Rattle.gc_heap.specs.declared.collection.GcProgress.{GcProgress}
use Rattle.gc_heap.specs.declared.collection.GcProgress.TheVariants as progress
use Rattle.gc_owner.specs.RootColumns.{RootsView, roots_of, moved_roots, without_list}

-- some collection is under way that has a list of the roots
abbrev pub IsListed : {H S D : Type 0} → (Start → ℕ → Bool → Stage H S → Type 0) → RootsView → H → S → List Declaration
    → FinMap nat_cmp D → Type 0
IsListed under_way r heap state types hosts =
    (listed : List Root) × ((r.listed ≡ Some listed) × collection.IsUnderWay under_way (stage heap state listed types hosts))

-- The list changed, and the collection goes on or is complete; c is whether each increment so far was counted.
pub record StepsRoots {H S D : Type 0} (layouts : Layouts) (under_way : Start → ℕ → Bool → Stage H S → Type 0)
    (sound : H → Type 0) (s : Start) (n : ℕ) (c : Bool) (old new : RootsView) (heap : H) (seen : HeapView) (state : S) (types : List Declaration)
    (hosts : FinMap nat_cmp D) (progress : GcProgress) : Type 0 where
  pub listed : List Root
  pub roots : new ≡ record old { listed = Some listed }
  pub steps : Stepped layouts s (n + 1) progress
      (under_way s (n + 1) c (stage heap state listed types hosts))
      (sound heap × Collected layouts s seen listed (has_host hosts))

-- the list has all roots with their words moved
abbrev pub HasMovedList : RootsView → Type 0
HasMovedList r = (to : ℕ → ℕ) × ((r.listed ≡ Some (map (moved_root to) (roots_of r))) × (r.given ≡ length (roots_of r)))

-- what is left of a collection that may be under way
abbrev pub left_of : {H S : Type 0} → (H → S → ℕ) → H → Option S → ℕ
left_of left heap None = 0
left_of left heap (Some state) = left heap state

-- What an increment that was done leaves: the state of a collection that goes on, and all else as it was; of one that is complete no
-- state, so many bytes that are allocated, and the roots with the words of the list.
abbrev pub Settles : {S : Type 0} → S → ℕ → RootsView → RootsView → ℕ → ℕ → Option S → GcProgress → Type 0
Settles state allocated old new last last' kept progress.Continue = (kept ≡ Some state) × (new ≡ old) × (last' ≡ last)
Settles state allocated old new last last' kept progress.Complete =
    (kept ≡ None) × (last' ≡ allocated)
    × ((to : ℕ → ℕ) → old.listed ≡ Some (map (moved_root to) (roots_of old)) → new ≡ moved_roots to (without_list old))
