-- What it leaves of a report to take a reference into it.
use Rattle.std.specs.Prelude.{◌≡◌, ℕ, Some, Result, Ok, Err}
use Rattle.gc_model.specs.Values.{Reference, null, small, at}
use Rattle.gc_model.specs.Words.{Placing}
use Rattle.gc_values.specs.declared.root.GcRootIndex.{GcRootIndex}
use Rattle.gc_paths.specs.declared.entry.PathEntry.{PathEntry}
use Rattle.gc_paths.specs.declared.entry.PathParent.{PathParent}
use Rattle.gc_paths.specs.declared.fault.PathFault.{PathFault}
use Rattle.gc_paths.specs.declared.fault.PathFault.TheVariants as fault
use Rattle.gc_paths.specs.Parts.{Parts, SameParts, Adds}

abbrev pub path_entry : ℕ → PathParent → ℕ → PathEntry
path_entry word parent length = record { word = word; parent = parent; length = length }

-- the object that a reference is gets an entry, unless it has one
abbrev pub TakesObject : Placing → Reference → GcRootIndex → PathParent → ℕ → Parts → Parts → Type 0
TakesObject place null handle parent length old new = ⊥
TakesObject place (small n) handle parent length old new = SameParts old new
TakesObject place (at p) handle parent length old new = (word : ℕ) × ((place p ≡ Some word) × Adds old new (path_entry word parent length) handle)

-- Only want of memory is refused.
abbrev pub TakesReference : Placing → Reference → GcRootIndex → PathParent → ℕ → Parts → Parts → Result (Unit {0}) PathFault → Type 0
TakesReference place r handle parent length old new (Ok done) = TakesObject place r handle parent length old new
TakesReference place r handle parent length old new (Err why) = why ≡ fault.Memory
