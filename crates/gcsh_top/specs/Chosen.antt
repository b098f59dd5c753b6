-- The stores of the program, of which a run uses one.
use Rattle.std.specs.Prelude.{◌≡◌, ℕ}
use Rattle.gc_types.specs.declared.kind.Layouts.TheVariants.{Null, Counting, Copying}
use Rattle.gc_model.specs.Stores.{StoreView}
use Rattle.gc_store.specs.Stores.{HoldsStart}
use Rattle.gcsh_top.specs.declared.words.Collector.{Collector}
use Rattle.gcsh_top.specs.declared.words.Collector.TheVariants as collector
use Rattle.gcsh_top.specs.declared.stores.Stores.{Stores}

-- nothing was done with the stores yet
pub record AreNew (stores : Stores) : Type 0 where
  pub copying : HoldsStart ℕ Copying stores.copying
  pub counting : HoldsStart ℕ Counting stores.counting
  pub null : HoldsStart ℕ Null stores.null

-- no two stores have one id
pub record HaveDistinctIds (stores : Stores) : Type 0 where
  pub copying_counting : ¬ (stores.copying.number ≡ stores.counting.number)
  pub copying_null : ¬ (stores.copying.number ≡ stores.null.number)
  pub counting_null : ¬ (stores.counting.number ≡ stores.null.number)

-- the store that a collector chooses
abbrev pub chosen : Collector → Stores → StoreView ℕ
chosen collector.Copying stores = stores.copying
chosen collector.Counting stores = stores.counting
chosen collector.Null stores = stores.null

-- the stores that a collector doesn't choose are as before
abbrev pub OthersStay : Collector → Stores → Stores → Type 0
OthersStay collector.Copying old new = (new.counting ≡ old.counting) × (new.null ≡ old.null)
OthersStay collector.Counting old new = (new.copying ≡ old.copying) × (new.null ≡ old.null)
OthersStay collector.Null old new = (new.copying ≡ old.copying) × (new.counting ≡ old.counting)

-- the store has its id still
pub record HasSameId (old new : StoreView ℕ) : Type 0 where
  pub engine : new.engine ≡ old.engine
  pub number : new.number ≡ old.number

-- each store has its id still
pub record AreSameStores (old new : Stores) : Type 0 where
  pub copying : HasSameId old.copying new.copying
  pub counting : HasSameId old.counting new.counting
  pub null : HasSameId old.null new.null
