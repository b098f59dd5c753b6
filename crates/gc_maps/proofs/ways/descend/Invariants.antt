use Rattle.std.proofs.Common.{ℕ}
use Rattle.gc_model.specs.Table.{Table}
use Rattle.gc_model.specs.Accounts.{Account, HoldsAccount}
use Rattle.gc_store.specs.Stores.{IsSameStore}
use Rattle.gc_maps.specs.Parts.{RootIs}
use Rattle.gc_maps.specs.Searching.{IsSearch}
use Rattle.gc_maps.proofs.Descending.{Descends}
use Rattle.gc_maps.specs.Trees.{Tree}
use Rattle.gc_maps.proofs.ways.descend.Given as goal

abbrev pub invariant-loop-turn : goal.invariant-loop-turn
invariant-loop-turn g l = record {
  descends : (t : Table g.row.D.Denot) (a : Account) (ty : ℕ) (tree : Tree) → HoldsAccount g.H.GcHeap.KIND l.fn.store t a
      → RootIs l.fn.store t ty l.fn.root tree → IsSearch tree
      → Descends g.H.GcHeap.KIND t ty tree l.key l._turn l.path.items l.store l.here;
  same : IsSameStore l.fn.store l.store;
}
