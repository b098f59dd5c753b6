-- What giving an object back does.
use Rattle.std.specs.Prelude.{◌≡◌, ℕ, [], Some}
use Rattle.std.specs.FinMap as finite
use Rattle.gc_types.specs.declared.kind.Layouts.TheVariants.{Counting}
use Rattle.gc_memory.specs.Lists.{In, occ}
use Rattle.gc_view.specs.Heaps.{HeapObject}
use Rattle.gc_heap.specs.Heap.{given_back}
use Rattle.gc_drc.specs.declared.space.CountedSpace.{CountedSpace}
use Rattle.gc_drc.specs.View.{View, HoldsBlocks}
use Rattle.gc_drc.specs.Content.{counting_seen_in, IsSoundSpace}

-- An object that is on no list stands at a place.
pub record IsUnlisted (s : CountedSpace) (x : ℕ) : Type 0 where
  pub view : View
  pub holds : HoldsBlocks view s
  pub unmarked : view.marked ≡ []
  pub place : In x view.places
  pub not_shown : occ x view.shown ≡ 0
  pub not_queued : occ x view.queue ≡ 0

-- the object at a place was given back
pub record GivesBack (before after : CountedSpace) (x : ℕ) : Type 0 where
  pub sound : IsSoundSpace after
  pub seen : (scopes : ℕ) (o : HeapObject) → finite.get (counting_seen_in scopes before).content x ≡ Some o → counting_seen_in scopes after ≡ given_back Counting (counting_seen_in scopes before) x o
