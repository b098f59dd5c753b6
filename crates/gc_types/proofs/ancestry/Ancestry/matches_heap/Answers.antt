use Rattle.std.proofs.Common.{rules, ◌≡◌, IsTrue, sym, ◌∙◌}
use Rattle.gc_types.specs.Subtyping.{Meets}
use Rattle.gc_types.proofs.HeapMatching.{none_both, same_kind, other_kind}
use Rattle.gc_types.proofs.ancestry.Ancestry.matches_heap.Goals as goal

pub returns-then-eq : goal.returns-then-eq
returns-then-eq c =
    let same : c.in-Some.kind ≡ c.in-Some.other = search rules in
    let is : (IsTrue c.is_subtype.result → Meets c.args.self.now c.in-Some.x c.in-Some.y) × (Meets c.args.self.now c.in-Some.x c.in-Some.y → IsTrue c.is_subtype.result) = search rules in
    same_kind c.args.self.now c.args.x.now c.args.y.now (c.in-Some.kind, c.in-Some.x) (c.in-Some.other, c.in-Some.y) c.is_subtype.result (rw (← c.concrete.ensures, ← c.concrete-2.ensures) (sym c.zip.ensures ∙ c.in-Some.is)) same is

pub returns-else-eq : goal.returns-else-eq
returns-else-eq c =
    let other : c.in-Some.kind ≡ c.in-Some.other → ⊥ = search rules in
    other_kind c.args.self.now c.args.x.now c.args.y.now (c.in-Some.kind, c.in-Some.x) (c.in-Some.other, c.in-Some.y) c.eq.result (rw (← c.concrete.ensures, ← c.concrete-2.ensures) (sym c.zip.ensures ∙ c.in-Some.is)) other c.if-eq.false

pub returns-in-None : goal.returns-in-None
returns-in-None c = none_both c.args.self.now c.args.x.now c.args.y.now c.is_under.result (rw (← c.concrete.ensures, ← c.concrete-2.ensures) (sym c.zip.ensures ∙ c.in-None.is)) c.is_under.ensures
