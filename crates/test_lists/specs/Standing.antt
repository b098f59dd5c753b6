-- What is known of a list or a map of a store, and of the kit that it was made with.
use Rattle.std.specs.Prelude.{ℕ, ℤ, List, Option}
use Rattle.gc_types.specs.declared.kind.Layouts.{Layouts}
use Rattle.gc_model.specs.Values.{Reference}
use Rattle.gc_model.specs.Table.{Table}
use Rattle.gc_model.specs.Stores.{StoreView}
use Rattle.gc_model.specs.Holds.{HoldsTable}
use Rattle.gc_values.specs.declared.root.GcRootIndex.{GcRootIndex}
use Rattle.gc_lists.specs.declared.kit.Kit.{Kit}
use Rattle.gc_lists.specs.Kits.{IsKit}
use Rattle.gc_lists.specs.Versions.{StandsForListOf}
use Rattle.gc_maps.specs.Maps.{IntMap, StandsForMapOf}

-- A kit and a version stand in one table that the store holds.
pub record StandsIn (layouts : Layouts) (s : StoreView ℕ) (kit : Kit) (Stands : Table ℕ → Type 0) : Type 0 where
  pub table : Table ℕ
  pub holds : HoldsTable layouts s table
  pub kit_is : IsKit table.types kit
  pub stands : Stands table

-- the version stands for some list, of cells of the kit
abbrev pub ListIn : Layouts → StoreView ℕ → Kit → Option GcRootIndex → Type 0
ListIn layouts s kit version = (xs : List ℤ) × StandsIn layouts s kit (λ t. StandsForListOf s t version kit.cell xs)

-- the version stands for some map, of nodes of the kit
abbrev pub MapIn : Layouts → StoreView ℕ → Kit → Option GcRootIndex → Type 0
MapIn layouts s kit version = (m : IntMap) × StandsIn layouts s kit (λ t. StandsForMapOf s t version kit.node m)
