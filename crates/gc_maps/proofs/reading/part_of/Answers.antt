use Rattle.std.proofs.Common.{pos, Option, sym, subst}
use Rattle.gc_values.specs.declared.root.GcRootIndex.{GcRootIndex}
use Rattle.gc_maps.specs.Parts.{RootIs, PartIs}
use Rattle.gc_maps.proofs.NodeReads.{part_here, part_none, some_node}
use Rattle.gc_maps.proofs.reading.part_of.Goals as goal

pub height_of-requires : goal.height_of-requires
height_of-requires g c =
    let q = c.requires in
    some_node g.H.GcHeap.KIND c.args.store.now c.in-Some.node q.table q.holds q.ty q.tree (subst (λ (r : Option GcRootIndex). RootIs c.args.store.now q.table q.ty r q.tree) c.in-Some.is q.is)

pub returns-in-Some : goal.returns-in-Some
returns-in-Some g c t ty tree holds is low =
    part_here g.H.GcHeap.KIND c.in-Some.node c.args.store.now c.height_of.result c.height_of.ensures t ty tree holds (subst (λ (r : Option GcRootIndex). RootIs c.args.store.now t ty r tree) c.in-Some.is is) low

pub returns-in-None : goal.returns-in-None
returns-in-None g c t ty tree holds is low =
    subst (λ (r : Option GcRootIndex). PartIs c.args.store.now t ty (record { root = r; height = pos 0 }) tree) (sym c.in-None.is)
    (part_none c.args.store.now t ty tree (subst (λ (r : Option GcRootIndex). RootIs c.args.store.now t ty r tree) c.in-None.is is))
