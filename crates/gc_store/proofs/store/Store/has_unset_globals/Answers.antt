use Rattle.std.proofs.Common.{length, refl, ap, sym, ◌∙◌, arith}
use Rattle.gc_model.specs.Stores.{StoreView}
use Rattle.gc_store.specs.Stores.{store_view, tables_of}
use Rattle.gc_store.proofs.SlotLemmas.{globals_count, are_unset}
use Rattle.gc_store.proofs.store.Store.has_unset_globals.Goals as goal

pub returns : goal.returns
returns g c = (
  λ yes. are_unset c.args.self.now.globals
      (ap (λ (s : StoreView g.row.D.Denot). length s.globals) (sym c.self.view_is) ∙ globals_count g.H.GcHeap.KIND (store_view c.self.inside.id c.self.inside.config (tables_of c.self.inside.interned c.self.inside.asked) c.self.inside.owner.seen c.self.inside.tries) c.self.invariant.table c.self.invariant.holds.place c.self.invariant.holds.holds)
      (λ k below. c.loop-global.invariant k (omega (arith, below, c.loop-global-test.false))),
  λ unset. refl,
)
