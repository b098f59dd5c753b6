use Rattle.std.proofs.Common.{ℕ}
use Rattle.gc_model.specs.Table.{Table}
use Rattle.gc_model.specs.Holds.{Holds, Placing}
use Rattle.gc_maps.specs.Parts.{RootIs}
use Rattle.gc_maps.specs.Searching.{IsSearch}
use Rattle.gc_maps.proofs.Lookups.{Looks}
use Rattle.gc_maps.specs.Trees.{Tree}
use Rattle.gc_maps.proofs.finding.look_up.Given as goal

abbrev pub invariant-loop-turn : goal.invariant-loop-turn
invariant-loop-turn g l = record {
  looks : (t : Table g.row.D.Denot) (place : Placing) (ty : ℕ) (tree : Tree) → Holds g.H.GcHeap.KIND l.fn.store t place
      → RootIs l.fn.store t ty l.fn.root tree → IsSearch tree
      → Looks t place ty tree l.key l._turn l.initial.steps l.steps l.here;
}
