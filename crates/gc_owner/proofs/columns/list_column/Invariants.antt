use Rattle.std.proofs.Common.{◌≡◌, ◌+◌, ◌≤◌, ◌++◌, length, map, take}
use Rattle.gc_owner.specs.RootColumns.{listed_as}
use Rattle.gc_owner.proofs.columns.list_column.Given as goal

abbrev pub invariant-loop-entry : goal.invariant-loop-entry
invariant-loop-entry g l = record {
  roots : l.filled.roots ≡ l.fn.list.roots ++ listed_as l.place.number l.is_on_stack (map g.T.HoldsWord.word_of (take l.entry-index l.entries));
  spare : l.fn.list.spare ≤ l.filled.spare + l.entry-index;
  total : l.filled.spare + length l.filled.roots ≡ l.fn.list.spare + length l.fn.list.roots;
}
