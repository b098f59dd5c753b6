-- What a scope of roots ends as, where its store is lent.
use Rattle.std.specs.Prelude.{[]}
use Rattle.std.specs.Borrow.{Lends, Fml, RattleType, MutBor}
use mir.Syntax.{named}
use Rattle.gc_heap.specs.declared.heap.GcHeap as heap
use Rattle.gc_model.specs.Stores.{StoreView}
use Rattle.gc_rooted.specs.declared.root_scope.RootScope.{RootScope}
use Rattle.gc_store.specs.contracts.store.Store as store
use Rattle.gc_rooted.specs.contracts.root_scope.RootScope as scope

module _ (H D S : RattleType) (g : heap.Ghosts H.Denot S.Denot) where
  -- once the borrow ends, the scope has the store as it was left
  abbrev pub lends_store : MutBor (RootScope H.Denot D.Denot S.Denot) → MutBor (StoreView D.Denot) → Fml
  lends_store s r = Lends (scope.the_row (record { mir = named 1; lft = [] }) H D S g) (store.the_row H D S g) s r (λ w. record s.now { store = record s.now.store { now = w } })
