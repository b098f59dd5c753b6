use Rattle.std.proofs.Common.{subst, sym}
use Rattle.gc_store.proofs.Sound.{starts_nothing, nothing_starts}
use Rattle.gc_store.specs.Stores.{HoldsStart, ShowsNothing}
use Rattle.gc_store.proofs.store.Store.is_new.Goals as goal

pub returns : goal.returns
returns g c = (
  λ yes.
      subst (HoldsStart g.row.D.Denot g.H.GcHeap.KIND) c.self.view_is
      (starts_nothing _ _ _ _ _ c.is_ready.ensures.heap c.is_ready.ensures.unused c.self.invariant (subst ShowsNothing (sym c.self.view_is) (c.is_untouched.ensures.0 yes))),
  λ holds. c.is_untouched.ensures.1 (nothing_starts _ _ _ holds),
)
