use Rattle.std.proofs.Common.{refl}
use Rattle.gc_lists.proofs.Releasing.{was_released, was_handed_back}
use Rattle.gc_lists.proofs.roots.give_up.Goals as goal

pub returns-in-Ok-clause-releases : goal.returns-in-Ok-clause-releases
returns-in-Ok-clause-releases g c = λ t a holds.
    was_released g.H.GcHeap.KIND c.args.store.now t a c.args.root c.in-Some.handle c.release.new.self c.in-Some.is c.release.result c.in-Ok.field-0 c.in-Ok.is (c.release.ensures.releases t a holds)

pub returns-in-Err-clause-releases : goal.returns-in-Err-clause-releases
returns-in-Err-clause-releases g c = λ t a holds.
    (was_handed_back g.H.GcHeap.KIND c.args.store.now t a c.args.root c.in-Some.handle c.release.new.self c.in-Some.is c.release.result c.in-Err.field-0 c.in-Err.is (c.release.ensures.releases t a holds), refl)
