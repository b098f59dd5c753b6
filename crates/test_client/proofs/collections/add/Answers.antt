use Rattle.std.proofs.Common.{◌∙◌, ◌++◌, ◌∷◌, [], false, ap}
use Rattle.gc_roots.specs.Roots.{root}
use Rattle.gc_heap.specs.Collection.{has_host}
use Rattle.test_client.proofs.RootLemmas.{struct_rooted}
use Rattle.test_client.proofs.collections.add.Goals as goal

pub returns-in-Ok-clause-can : goal.returns-in-Ok-clause-can
returns-in-Ok-clause-can g c =
    struct_rooted g.H.GcHeap.KIND c.args.around.now.types.declarations c.args.ty (g.H.GcHeap.seen c.args.heap.now) (g.H.GcHeap.seen c.make_struct.new.heap) c.in-Ok.object c.args.around.now.roots.roots c.add_vmgcref_root.new.self.roots (has_host c.args.around.now.hosts.entries)
    (g.met.H.GcHeap.is_heap c.args.heap.now c.requires.sound) c.in-Ok.ensures.made (c.add_vmgcref_root.ensures.roots ∙ ap (λ rs. rs ++ root 0 false c.in-Ok.object ∷ []) c.in_ok-reserve.ensures.roots) c.requires.can
