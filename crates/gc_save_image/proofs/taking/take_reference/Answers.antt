use Rattle.std.proofs.Common.{subst, Option}
use Rattle.gc_values.specs.declared.root.GcRootIndex.{GcRootIndex}
use Rattle.gc_store.specs.Slots.{HandleStands}
use Rattle.gc_save_image.specs.Parts.{found_handles}
use Rattle.gc_save_image.proofs.Taken.{reference_taken}
use Rattle.gc_save_image.proofs.taking.take_reference.Goals as goal

pub returns-in-Ok : goal.returns-in-Ok
returns-in-Ok g c b told count q progress stands leads =
    let named = subst (λ (h : Option GcRootIndex). HandleStands c.args.store.now progress.holds.now h q) c.in-Some.is stands in
    reference_taken g.H.GcHeap.KIND b told count c.args.store.now (found_handles c.args.found.now) progress c.args.class q c.in-Some.handle (found_handles c.reference_of.new.found) c.in-Ok.reference named leads
    (c.in-Ok.ensures progress.holds.now b.place q progress.holds.there.0 named)
