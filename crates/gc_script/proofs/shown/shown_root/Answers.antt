use Rattle.std.proofs.Common.{subst, Option}
use Rattle.std.specs.Prelude.{Result}
use Rattle.gc_values.specs.declared.root.GcRootIndex.{GcRootIndex}
use Rattle.gc_values.specs.declared.root.RawValue.TheVariants as raw
use Rattle.gc_values.specs.declared.root.RootFault.{RootFault}
use Rattle.gc_values.specs.declared.root.RootedObject.{RootedObject}
use Rattle.gc_store.specs.Roots.{TellsReference}
use Rattle.gc_store.specs.Values.{RawStands}
use Rattle.gc_script.proofs.ShownLemmas.{root_shown}
use Rattle.gc_script.proofs.shown.shown_root.Goals as goal

pub returns-in-Ok : goal.returns-in-Ok
returns-in-Ok g c t class v holds stands =
    root_shown c.args.store.now t class c.in-Some.handle v c.in-Ok.object c.shown_object.result
    (subst (λ (o : Option GcRootIndex). RawStands c.args.store.now t (raw.Ref class o) v) c.in-Some.is stands)
    (λ r named. subst (λ (a : Result RootedObject RootFault). TellsReference t r a) c.in-Ok.is (c.object.ensures.live t r holds named))
    (λ r is. c.shown_object.ensures t class r is)

pub returns-in-Err : goal.returns-in-Err
returns-in-Err g c t class v holds stands =
    let root = subst (λ (o : Option GcRootIndex). RawStands c.args.store.now t (raw.Ref class o) v) c.in-Some.is stands in
    absurd (subst (λ (a : Result RootedObject RootFault). TellsReference t root.root a) c.in-Err.is (c.object.ensures.live t root.root holds root.named))
