use Rattle.std.proofs.Common.{refl}
use Rattle.gc_store.proofs.OwningHandles.{refused_foreign}
use Rattle.gc_rooted.proofs.owned_rooted.OwnedRooted.unroot.Goals as goal

pub returns-in-Err-clause-drops : goal.returns-in-Err-clause-drops
returns-in-Err-clause-drops g c t a holds =
    (refused_foreign g.H.GcHeap.KIND c.args.store.now t a c.args.self.index c.release.new.self c.in-Err.field-0 (c.in-Err.ensures.releases t a holds), refl)

pub returns-in-Ok-clause-drops : goal.returns-in-Ok-clause-drops
returns-in-Ok-clause-drops g c t a holds =
    let released = c.in-Ok.ensures.releases t a holds in
    (released.0, (c.in-Ok.field-0, released.1))
