use Rattle.std.proofs.Common.{◌≡◌, ◌≤◌, [], length, take}
use Rattle.std.specs.Prelude.{sum_by}
use Rattle.gc_store.specs.OwnedWords.{HoldsThere}
use Rattle.gc_store.specs.Staying.{OnlyAdds}
use Rattle.gc_store.specs.Stores.{IsSameStore}
use Rattle.gc_paths.specs.Parts.{parts}
use Rattle.gc_paths.specs.Progress.{Basis, SearchGoesOn, word_count}
use Rattle.gc_paths.proofs.StartRoots.{TellsRoots, start_words}
use Rattle.gc_paths.proofs.roots.take_roots.Given as goal

abbrev pub invariant-loop-number : goal.invariant-loop-number
invariant-loop-number g l = record {
  goes : (b : Basis g.row.D.Denot) → b.scoped ≡ l.scoped → HoldsThere g.H.GcHeap.KIND l.fn.store b.table b.place b.account
      → SearchGoesOn g.H.GcHeap.KIND b [] 0 (sum_by word_count (take l.number (start_words b.scoped l.fn.store))) l.store (parts l.report) (TellsRoots b (take l.number (start_words b.scoped l.fn.store)));
  adds : OnlyAdds l.fn.store l.store;
  below : l.number ≤ length (start_words l.scoped l.fn.store);
  same : IsSameStore l.fn.store l.store;
}
