use Rattle.std.proofs.Common.{ℕ, ◌+◌, ◌-◌, ◌*◌, ◌<◌, ◌^◌, List, [], arith}
use Rattle.gc_heap.specs.References.{word_offsets}
use Rattle.gc_drc.specs.CollectMemory.{Context}
use Rattle.gc_drc.specs.CollectVisits.{CanVisitAt}
use Rattle.gc_drc.proofs.VisitLemmas.{going_as, going_step, going_can, next_element, no_element, element_fits}
use Rattle.gc_drc.proofs.space.CountedSpace.visit_elements.Goals as goal

pub overflow_mul-index : goal.overflow_mul-index
overflow_mul-index g c =
    let i = c.loop-index.index in
    let n = c.args.count in
    let old = λ (o : Context) (places words : List ℕ). g.V.Visitor.state o places c.args.self.now c.args.visitor.now words in
    let mid = λ (o : Context) (places words : List ℕ). g.V.Visitor.state o places c.loop-index.self c.loop-index.visitor words in
    let can : CanVisitAt mid c.args.place (32 + 4 * i) = going_can old mid c.args.place (32 + 4 * i) (word_offsets 32 n) (word_offsets (32 + 4 * (i + 1)) (n - (i + 1)))
    (going_as old mid c.args.place (word_offsets 32 n) _ _ (next_element n i c.loop-index-test.true) c.loop-index.invariant) c.requires in
    let fits : 32 + 4 * i < 2 ^ 32 = element_fits mid c.args.place (32 + 4 * i) can (λ o places words state. (g.met.V.Visitor.intact o places words c.loop-index.self c.loop-index.visitor state).0) in
    omega (arith, fits)

pub overflow_add-index : goal.overflow_add-index
overflow_add-index g c =
    let i = c.loop-index.index in
    let n = c.args.count in
    let old = λ (o : Context) (places words : List ℕ). g.V.Visitor.state o places c.args.self.now c.args.visitor.now words in
    let mid = λ (o : Context) (places words : List ℕ). g.V.Visitor.state o places c.loop-index.self c.loop-index.visitor words in
    let can : CanVisitAt mid c.args.place (32 + 4 * i) = going_can old mid c.args.place (32 + 4 * i) (word_offsets 32 n) (word_offsets (32 + 4 * (i + 1)) (n - (i + 1)))
    (going_as old mid c.args.place (word_offsets 32 n) _ _ (next_element n i c.loop-index-test.true) c.loop-index.invariant) c.requires in
    let fits : 32 + 4 * i < 2 ^ 32 = element_fits mid c.args.place (32 + 4 * i) can (λ o places words state. (g.met.V.Visitor.intact o places words c.loop-index.self c.loop-index.visitor state).0) in
    omega (arith, fits)

pub visit_at-requires : goal.visit_at-requires
visit_at-requires g c =
    let i = c.loop-index.index in
    let n = c.args.count in
    going_can (λ o places words. g.V.Visitor.state o places c.args.self.now c.args.visitor.now words) (λ o places words. g.V.Visitor.state o places c.loop-index.self c.loop-index.visitor words)
    c.args.place (32 + 4 * i) (word_offsets 32 n) (word_offsets (32 + 4 * (i + 1)) (n - (i + 1)))
    (going_as _ _ c.args.place (word_offsets 32 n) _ _ (next_element n i c.loop-index-test.true) c.loop-index.invariant) c.requires

pub loop-index-preserved : goal.loop-index-preserved
loop-index-preserved g c =
    let i = c.loop-index.index in
    let n = c.args.count in
    going_step (λ o places words. g.V.Visitor.state o places c.args.self.now c.args.visitor.now words) (λ o places words. g.V.Visitor.state o places c.loop-index.self c.loop-index.visitor words)
    (λ o places words. g.V.Visitor.state o places c.visit_at.new.self c.visit_at.new.visitor words) c.args.place (32 + 4 * i) (word_offsets 32 n) (word_offsets (32 + 4 * (i + 1)) (n - (i + 1)))
    (going_as _ _ c.args.place (word_offsets 32 n) _ _ (next_element n i c.loop-index-test.true) c.loop-index.invariant) c.visit_at.ensures

pub returns : goal.returns
returns g c =
    let i = c.loop-index.index in
    let n = c.args.count in
    (going_as _ _ c.args.place (word_offsets 32 n) (word_offsets (32 + 4 * i) (n - i)) [] (no_element n i c.loop-index-test.false) c.loop-index.invariant).visits
