use Rattle.std.proofs.Common.{sym, subst}
use Rattle.std.specs.Prelude.{Ok}
use Rattle.gc_store.specs.Handles.{PushesRoot}
use Rattle.gc_values.specs.declared.root.GcRootIndex.{GcRootIndex}
use Rattle.gc_rooted.proofs.owned_rooted.OwnedRooted.to_rooted.Goals as goal

pub returns-in-Ok-clause-live : goal.returns-in-Ok-clause-live
returns-in-Ok-clause-live g c t a r holds named =
    subst (λ (i : GcRootIndex). PushesRoot g.H.GcHeap.KIND t a r (Ok i) c.push_copy.new.self) (sym c.of_root.ensures) (c.in-Ok.ensures.live t a r holds named)
