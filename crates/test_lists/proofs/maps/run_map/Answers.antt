use Rattle.std.proofs.Common.{ℕ, sym, subst}
use Rattle.gc_model.specs.Stores.{StoreView}
use Rattle.test_lists.specs.Standing.{MapIn}
use Rattle.test_lists.proofs.maps.run_map.Goals as goal

pub all-requires : goal.all-requires
all-requires g c = (
  c.in_ok-kit.kit,
  subst (λ (s : StoreView ℕ). MapIn g.H.GcHeap.KIND s c.in_ok-kit.kit c.in_ok-map.map.root) (sym c.show_found.ensures) c.in_ok-map.ensures,
)
