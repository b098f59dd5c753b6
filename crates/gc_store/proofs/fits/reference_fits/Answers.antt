use Rattle.std.proofs.Common.{Option, subst}
use Rattle.std.specs.Prelude.{Result}
use Rattle.gc_values.specs.declared.root.GcRootIndex.{GcRootIndex}
use Rattle.gc_values.specs.declared.root.RawValue.TheVariants as raw
use Rattle.gc_values.specs.declared.root.RootFault.{RootFault}
use Rattle.gc_values.specs.declared.root.RootedObject.{RootedObject}
use Rattle.gc_store.specs.Roots.{TellsReference}
use Rattle.gc_store.specs.Values.{RawStands}
use Rattle.gc_store.proofs.OwnFits.{root_fits}
use Rattle.gc_store.proofs.fits.reference_fits.Goals as goal

pub returns-in-Ok : goal.returns-in-Ok
returns-in-Ok g c t v holds stands =
    let root = subst (λ (o : Option GcRootIndex). RawStands c.args.store.now t (raw.Ref c.args.class o) v) c.in-Some.is stands in
    let tells = subst (λ (a : Result RootedObject RootFault). TellsReference t root.root a) c.in-Ok.is (c.object.ensures.live t root.root holds root.named) in
    root_fits t c.args.ty.now c.args.store.now.types c.args.class root.root v c.in-Ok.object c.object_fits.result holds.1.types tells root.is c.object_fits.ensures

pub returns-in-Err : goal.returns-in-Err
returns-in-Err g c t v holds stands =
    let root = subst (λ (o : Option GcRootIndex). RawStands c.args.store.now t (raw.Ref c.args.class o) v) c.in-Some.is stands in
    absurd (subst (λ (a : Result RootedObject RootFault). TellsReference t root.root a) c.in-Err.is (c.object.ensures.live t root.root holds root.named))
