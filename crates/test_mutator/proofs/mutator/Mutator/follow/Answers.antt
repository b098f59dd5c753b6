use Rattle.std.proofs.Common.{◌≡◌, suc, ◌+◌, ◌∷◌, get_or, drop, sym, ap, subst, ◌∙◌, arith}
use Rattle.std.proofs.Math.Seq.{drop-cons}
use Rattle.test_mutator.specs.Fields.{Leads}
use Rattle.test_mutator.proofs.FieldLemmas.{leads_on}
use Rattle.test_mutator.proofs.mutator.Mutator.follow.Goals as goal

pub loop-offset-preserved : goal.loop-offset-preserved
loop-offset-preserved g c = λ to leads.
    let path = c.args.path.now in
    let k = c.loop-offset.offset-index in
    let next : suc k ≡ k + 1 = omega arith in
    let split : drop k path ≡ get_or path k 0 ∷ drop (k + 1) path = drop-cons path k 0 (omega (arith, c.loop-offset-test.true)) ∙ ap (λ n. get_or path k 0 ∷ drop n path) next in
    c.loop-offset.invariant to (subst (λ p. Leads g.H.GcHeap.KIND (g.H.GcHeap.seen c.self.inside.heap) c.loop-offset.word p to) (sym split)
    (leads_on g.H.GcHeap.KIND (g.H.GcHeap.seen c.self.inside.heap) c.loop-offset.word (get_or path k 0) (drop (k + 1) path) to c.reference_at.result c.reference_at.ensures.held c.reference_at.ensures.number c.in_ok-word-2.word c.in_ok-word-2.was leads))
