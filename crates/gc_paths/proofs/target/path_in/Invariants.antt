use Rattle.std.proofs.Common.{◌<◌, List, ◌++◌, length, reverse}
use Rattle.gc_paths.specs.declared.entry.PathEntry.{PathEntry}
use Rattle.gc_paths.specs.Targets.{PathOf}
use Rattle.gc_paths.proofs.target.path_in.Given as goal

abbrev pub invariant-loop-path : goal.invariant-loop-path
invariant-loop-path l = record {
  inside : l.number < length l.entries;
  goes_on : (front : List PathEntry) → PathOf l.entries l.number front → PathOf l.entries l.last (front ++ reverse l.path.items);
}

abbrev pub decreases-loop-path : goal.decreases-loop-path
decreases-loop-path l = l.number
