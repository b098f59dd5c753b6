use Rattle.std.proofs.Common.{ℕ, sym, subst}
use Rattle.gc_model.specs.Stores.{StoreView}
use Rattle.test_lists.specs.Standing.{MapIn}
use Rattle.test_lists.proofs.maps.show_found.Goals as goal

pub find-requires : goal.find-requires
find-requires g c = (c.requires.0, subst (λ (s : StoreView ℕ). MapIn g.H.GcHeap.KIND s c.requires.0 c.args.map.now.root) (sym c.loop-key.invariant) c.requires.1)
