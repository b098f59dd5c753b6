use Rattle.std.proofs.Common.{ℕ, Bool, List, map}
use Rattle.gc_roots.specs.Roots.{Root}
use Rattle.gc_owner.specs.RootColumns.{ColumnFollows}
use Rattle.gc_owner.proofs.TakenColumns.{Taken}
use Rattle.gc_owner.proofs.columns.take_column.Given as goal

abbrev pub invariant-loop-index : goal.invariant-loop-index
invariant-loop-index g l = record {
  taken : (to : ℕ → ℕ) (place : ℕ) (on_stack : Bool) (behind : List Root) → ColumnFollows l.from l.list.roots to place on_stack (map g.T.HoldsWord.word_of l.initial.entries) behind
      → Taken g.T.HoldsWord.word_of g.T.HoldsWord.put_word to place on_stack behind l.initial.entries l.list.roots l.entries l.index l.at;
}
