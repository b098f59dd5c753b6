use Rattle.std.proofs.Common.{ℤ, Option, Ok, subst, w64, to_z, of_z}
use Rattle.std.proofs.lemmas.Int.{to_z-of_z}
use Rattle.gc_maps.specs.declared.part.Node.{Node}
use Rattle.gc_maps.specs.Ends.{EndsReading}
use Rattle.gc_maps.specs.Gaps.{IsLeastNode}
use Rattle.gc_maps.specs.Paths.{Descended}
use Rattle.gc_maps.proofs.NodeReads.{refused_later}
use Rattle.gc_maps.proofs.Growing.{pushes_none}
use Rattle.gc_maps.proofs.LeastLemmas.{took_least}
use Rattle.gc_maps.proofs.removing.take_least.Goals as goal

pub descend-requires-clause-search : goal.descend-requires-clause-search
descend-requires-clause-search g c = let q = c.requires.above in record { table = q.table; holds = q.holds; ty = q.ty; tree = q.tree; is = q.is; search = q.search }

pub returns-in-Some-clause-takes : goal.returns-in-Some-clause-takes
returns-in-Some-clause-takes g c t a ty tree holds is ordered above =
    took_least g.H.GcHeap.KIND t ty tree c.args.key above c.descend.new.store c.descend.new.path.items c.pop.new.self.items c.in-Some.least c.in-Some.ensures.items c.in-Ok.field-0
    (subst (λ (z : ℤ). EndsReading g.H.GcHeap.KIND 184 t (λ s u found. Descended s u ty tree z c.descend.new.path.items found) (Ok c.in-Ok.field-0) c.descend.new.store)
    (to_z-of_z w64 c.args.key c.ranges.key) (c.in-Ok.ensures.descends t a ty tree holds is ordered))

pub returns-in-None-clause-takes : goal.returns-in-None-clause-takes
returns-in-None-clause-takes g c t a ty tree holds is ordered above =
    let ends = c.in-Ok.ensures.descends t a ty tree holds is ordered in
    record { after = ends.after; account = ends.account; holds = ends.holds; changed = ends.changed.0 }

pub returns-in-Err-clause-takes : goal.returns-in-Err-clause-takes
returns-in-Err-clause-takes g c t a ty tree holds is ordered above =
    refused_later {A = Option Node} g.H.GcHeap.KIND 0 184 t t (λ s u found. Descended s u ty tree (to_z w64 (of_z w64 c.args.key)) c.descend.new.path.items found)
    (λ s u least. IsLeastNode s u ty tree c.descend.new.path.items least) c.in-Err.fault c.descend.new.store (pushes_none 0 t) (c.in-Err.ensures.descends t a ty tree holds is ordered)
