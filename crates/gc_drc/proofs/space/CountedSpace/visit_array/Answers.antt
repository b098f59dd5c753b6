use Rattle.gc_drc.proofs.VisitLemmas.{array_can, array_visits}
use Rattle.gc_drc.proofs.space.CountedSpace.visit_array.Goals as goal

pub visit_elements-requires : goal.visit_elements-requires
visit_elements-requires g c =
    array_can (λ o places words. g.V.Visitor.state o places c.args.self.now c.args.visitor.now words) c.args.self.now.memory c.args.place c.read_u32-count.result c.args.elements
    (λ o places words state. g.met.V.Visitor.intact o places words c.args.self.now c.args.visitor.now state) c.if-elements.true c.read_u32-count.ensures c.requires

pub returns-then-elements : goal.returns-then-elements
returns-then-elements g c =
    array_visits (λ o places words. g.V.Visitor.state o places c.args.self.now c.args.visitor.now words)
    (λ o places words. g.V.Visitor.state o places c.visit_elements.new.self c.visit_elements.new.visitor words) c.args.self.now.memory c.args.place c.read_u32-count.result c.args.elements
    (λ o places words state. g.met.V.Visitor.intact o places words c.args.self.now c.args.visitor.now state) c.if-elements.true c.read_u32-count.ensures c.visit_elements.ensures
