-- What the two orders keep.
use Rattle.std.specs.Prelude.{◌≡◌, ◌-◌, ◌^◌, List}
use Rattle.gc_free.specs.declared.run.Run.{Run}
use Rattle.gc_free.specs.Runs.{IsSpread}
use Rattle.gc_free.specs.Orders.{by_length}

-- the runs stand one after another, and the second list is the first by length
pub record AreTwoOrders (runs ordered : List Run) : Type 0 where
  pub spread : IsSpread 0 (2 ^ 32 - 1) runs
  pub same : ordered ≡ by_length runs
