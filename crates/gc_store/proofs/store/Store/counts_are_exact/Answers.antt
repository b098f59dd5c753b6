use Rattle.std.proofs.Common.{sym, subst}
use Rattle.gc_model.specs.Counts.{CountsBy}
use Rattle.gc_model.specs.Stores.{StoreView}
use Rattle.gc_model.specs.Accounts.{HoldsAccount}
use Rattle.gc_model.proofs.CountedNames.{kind_counts}
use Rattle.gc_store.specs.Stores.{store_view, tables_of}
use Rattle.gc_store.proofs.store.Store.counts_are_exact.Goals as goal

pub returns : goal.returns
returns g c = λ counting t a holds.
    subst (λ (s : StoreView g.row.D.Denot). CountsBy t a.held a.places s.owned s.heap.counts) c.self.view_is
    (kind_counts g.H.GcHeap.KIND (store_view c.self.inside.id c.self.inside.config (tables_of c.self.inside.interned c.self.inside.asked) c.self.inside.owner.seen c.self.inside.tries) c.self.inside.owner.seen t a counting
    (subst (λ (s : StoreView g.row.D.Denot). HoldsAccount g.H.GcHeap.KIND s t a) (sym c.self.view_is) holds) c.is_ready.ensures.heap c.is_ready.ensures.can c.is_ready.ensures.frames)
