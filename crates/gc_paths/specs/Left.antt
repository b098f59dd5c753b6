-- What a search leaves for its caller.
use Rattle.std.specs.Prelude.{◌≡◌, ℕ, List, Some, length, slice_get}
use Rattle.gc_types.specs.declared.kind.Layouts.{Layouts}
use Rattle.gc_model.specs.Values.{at}
use Rattle.gc_model.specs.Stores.{StoreView}
use Rattle.gc_values.specs.declared.root.GcRootIndex.{GcRootIndex}
use Rattle.gc_store.specs.Roots.{NamesReference}
use Rattle.gc_paths.specs.declared.search.Found.{Found}
use Rattle.gc_paths.specs.Answers.{NeedsRoots, LacksRoots}
use Rattle.gc_paths.specs.Progress.{Basis, HoldsGrown}
use Rattle.gc_paths.specs.Reports.{Told, told_entries, IsReport}

-- the entries are those of a report, and beside each stands the handle of a root that names its object
pub record FoundAll {D : Type 0} (layouts : Layouts) (b : Basis D) (s : StoreView D) (found : Found) : Type 0 where
  pub told : List Told
  pub entries_are : found.entries.items ≡ told_entries told
  pub report : IsReport b.scoped b.table b.place told
  pub count : ℕ
  pub needs : NeedsRoots b.scoped b.table count
  pub room : ¬ LacksRoots b.table count
  pub holds : HoldsGrown layouts b count s
  pub same_count : length found.handles.items ≡ length told
  pub named : (i : ℕ) (x : Told) (h : GcRootIndex) → slice_get told i ≡ Some x → slice_get found.handles.items i ≡ Some h → NamesReference s holds.now h (at x.position)
