use Rattle.std.proofs.Common.{Result, subst}
use Rattle.gc_model.specs.Values.{at}
use Rattle.gc_values.specs.declared.root.RootFault.{RootFault}
use Rattle.gc_values.specs.declared.root.RootedObject.{RootedObject}
use Rattle.gc_store.specs.Roots.{TellsReference}
use Rattle.gc_paths.proofs.Counting.{values_counted}
use Rattle.gc_paths.proofs.values.count_named_values.Goals as goal

pub unreachable-requires : goal.unreachable-requires
unreachable-requires g c =
    subst (λ (r : Result RootedObject RootFault). TellsReference c.requires.table c.requires.root r) c.in-Err.is
    (c.object.ensures.live c.requires.table c.requires.root c.requires.holds c.requires.named)

pub unreachable-unreachable : goal.unreachable-unreachable
unreachable-unreachable g c = c.unreachable.result

pub returns : goal.returns
returns g c t p o holds named e =
    values_counted g.H.GcHeap.KIND c.args.store.now t holds c.args.handle p o _ c.count_values.result named e
    (subst (λ (r : Result RootedObject RootFault). TellsReference t (at p) r) c.in-Ok.is (c.object.ensures.live t (at p) holds named))
    c.count_values.ensures
