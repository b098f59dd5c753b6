-- Where a block goes, by the current run and the others.
use Rattle.std.specs.Prelude.{ℕ, nat_lt, nat_le, cond, Option, Some, None, List}
use Rattle.gc_free.specs.declared.run.Run.{Run}
use Rattle.gc_free.specs.Runs.{run, insert_run}
use Rattle.gc_free.specs.Orders.{shortest_fit}
use Rattle.gc_free.specs.Ordered.{without_found}
use Rattle.gc_free.specs.Space.{run_rest, if_any}

-- the block, the current run after it, and the other runs
pub record PlacedBlock : Type 0 where
  pub block : Option Run
  pub current : Option Run
  pub others : List Run

-- a block of a size at the front of a run, if one was found, and what is left of that run
abbrev pub block_in : ℕ → Option Run → Option Run
block_in size None = None
block_in size (Some r) = Some (run r.place size)

abbrev pub left_in_run : ℕ → Option Run → Option Run
left_in_run size None = None
left_in_run size (Some r) = if_any (run_rest size r)

-- the other runs with the current one, if it has any places
abbrev pub with_current : Option Run → List Run → List Run
with_current None runs = runs
with_current (Some c) runs = cond (nat_lt 0 c.length) (insert_run c runs) runs

-- in the shortest of the runs that is long enough
abbrev pub place_in_shortest : ℕ → List Run → PlacedBlock
place_in_shortest size runs =
    record { block = block_in size (shortest_fit size runs); current = left_in_run size (shortest_fit size runs); others = without_found (shortest_fit size runs) runs }

-- in the current run where it is long enough, and else in the shortest
abbrev pub place_in : ℕ → Option Run → List Run → PlacedBlock
place_in size None runs = place_in_shortest size runs
place_in size (Some c) runs =
    cond (nat_le size c.length) (record { block = Some (run c.place size); current = Some (run_rest size c); others = runs }) (place_in_shortest size (with_current (Some c) runs))
