use Rattle.std.proofs.Common.{ℕ, ◌≡◌, ◌+◌, sym, ap, subst, ◌∙◌, arith}
use Rattle.gc_free.specs.Listed.{run_length_at}
use Rattle.gc_drc.specs.CollectWalk.{IsNext, walk_end}
use Rattle.gc_drc.proofs.WalkMemory.{past, next_at, walk_small}
use Rattle.gc_drc.proofs.space.CountedSpace.next_place.Goals as goal

pub overflow_add-result : goal.overflow_add-result
overflow_add-result c =
    let r = c.requires in
    let e : past (run_length_at c.args.from c.args.self.now.free.space) c.args.from ≡ c.args.from + c.in-Some.length = ap (λ o. past o c.args.from) (sym c.run_at.ensures.length ∙ c.in-Some.is) in
    omega (arith, e, (next_at r.context r.view c.args.self.now c.args.from r.some r.at r.border).inside, walk_small r.context r.view c.args.self.now r.at)

pub returns-in-Some-clause-next : goal.returns-in-Some-clause-next
returns-in-Some-clause-next c o v at border =
    let e : past (run_length_at c.args.from c.args.self.now.free.space) c.args.from ≡ c.args.from + c.in-Some.length = ap (λ o. past o c.args.from) (sym c.run_at.ensures.length ∙ c.in-Some.is) in
    subst (λ (n : ℕ). IsNext v.places (walk_end c.args.self.now) c.args.from n) e (next_at o v c.args.self.now c.args.from c.requires.some at border)

pub returns-in-None-clause-next : goal.returns-in-None-clause-next
returns-in-None-clause-next c o v at border =
    let e : past (run_length_at c.args.from c.args.self.now.free.space) c.args.from ≡ c.args.from = ap (λ o. past o c.args.from) (sym c.run_at.ensures.length ∙ c.in-None.is) in
    subst (λ (n : ℕ). IsNext v.places (walk_end c.args.self.now) c.args.from n) e (next_at o v c.args.self.now c.args.from c.requires.some at border)

pub returns-in-Some-clause-same : goal.returns-in-Some-clause-same
returns-in-Some-clause-same c = ap (λ f. record c.args.self.now { free = f }) c.run_at.ensures.same

pub returns-in-None-clause-same : goal.returns-in-None-clause-same
returns-in-None-clause-same c = ap (λ f. record c.args.self.now { free = f }) c.run_at.ensures.same
