-- What calls that add scoped roots leave as it was: every other root, and where the objects lie.
use Rattle.std.specs.Prelude.{◌≡◌, List, ◌++◌}
use Rattle.gc_view.specs.Heaps.{SameHeld}
use Rattle.gc_owner.specs.declared.entry.RootEntry.{RootEntry}
use Rattle.gc_model.specs.Stores.{StoreView}

-- Scoped roots may have been added behind those that stood, and nothing else has changed but the room for them and what
-- the heap counts.
pub record OnlyAdds {D : Type 0} (old new : StoreView D) : Type 0 where
  pub entries : List RootEntry
  pub held : SameHeld old.heap new.heap
  pub rest : new ≡ record old { heap = new.heap; scoped = old.scoped ++ entries; spare = new.spare }
