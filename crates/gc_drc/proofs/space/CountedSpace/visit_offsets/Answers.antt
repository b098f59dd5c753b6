use Rattle.std.proofs.Common.{◌+◌, ◌∷◌, [], drop, get_or}
use Rattle.gc_drc.proofs.VisitLemmas.{going_as, going_step, going_can, next_offset, no_offset}
use Rattle.gc_drc.proofs.space.CountedSpace.visit_offsets.Goals as goal

pub visit_at-requires : goal.visit_at-requires
visit_at-requires g c =
    let i = c.loop-offset.offset-index in
    let all = c.args.offsets.now in
    going_can (λ o places words. g.V.Visitor.state o places c.args.self.now c.args.visitor.now words) (λ o places words. g.V.Visitor.state o places c.loop-offset.self c.loop-offset.visitor words)
    c.args.place (get_or all i 0) all (drop (i + 1) all)
    (going_as _ _ c.args.place all (drop i all) (get_or all i 0 ∷ drop (i + 1) all) (next_offset all i c.loop-offset-test.true) c.loop-offset.invariant) c.requires

pub loop-offset-preserved : goal.loop-offset-preserved
loop-offset-preserved g c =
    let i = c.loop-offset.offset-index in
    let all = c.args.offsets.now in
    going_step (λ o places words. g.V.Visitor.state o places c.args.self.now c.args.visitor.now words) (λ o places words. g.V.Visitor.state o places c.loop-offset.self c.loop-offset.visitor words)
    (λ o places words. g.V.Visitor.state o places c.visit_at.new.self c.visit_at.new.visitor words) c.args.place (get_or all i 0) all (drop (i + 1) all)
    (going_as _ _ c.args.place all (drop i all) (get_or all i 0 ∷ drop (i + 1) all) (next_offset all i c.loop-offset-test.true) c.loop-offset.invariant) c.visit_at.ensures

pub returns : goal.returns
returns g c =
    let i = c.loop-offset.offset-index in
    let all = c.args.offsets.now in
    (going_as _ _ c.args.place all (drop i all) [] (no_offset all i c.loop-offset-test.false) c.loop-offset.invariant).visits
