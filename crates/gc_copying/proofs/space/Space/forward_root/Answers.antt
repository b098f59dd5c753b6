use Rattle.std.proofs.Common.{ℕ, ◌≡◌, ◌<◌, refl, sym, subst}
use Rattle.gc_copying.specs.CopySteps.{Forwards}
use Rattle.gc_copying.proofs.RootLemmas.{forwards_root, moved_not_null, is_zero}
use Rattle.gc_copying.proofs.space.Space.forward_root.Goals as goal

pub returns-in-Some-clause-moved : goal.returns-in-Some-clause-moved
returns-in-Some-clause-moved g c s t mid known =
    forwards_root s t c.args.self.now c.forward-moved.new.self c.as_raw_u32.result c.args.reference c.forward-moved.result c.in-Some.moved
    c.as_raw_u32.ensures.value (sym c.in-Some.ensures.1) c.forward-moved.ensures.moved mid known

pub returns-in-None-clause-moved : goal.returns-in-None-clause-moved
returns-in-None-clause-moved g c s t mid known =
    let null : c.forward-moved.result ≡ 0 = is_zero c.forward-moved.result c.in-None.ensures in
    let f : Forwards s t c.args.self.now c.forward-moved.new.self c.args.reference c.forward-moved.result =
    forwards_root s t c.args.self.now c.forward-moved.new.self c.as_raw_u32.result c.args.reference c.forward-moved.result c.forward-moved.result
    c.as_raw_u32.ensures.value refl c.forward-moved.ensures.moved mid known in
    let some : 0 < c.args.reference = subst (λ (x : ℕ). 0 < x) c.as_raw_u32.ensures.value c.as_raw_u32.ensures.not_null in
    absurd (moved_not_null s t c.args.self.now c.forward-moved.new.self c.args.reference c.forward-moved.result some f null)
