use Rattle.std.proofs.Common.{◌<◌, ◌^◌, length, subst, arith}
use Rattle.gc_heap.specs.Barriers.{CanName}
use Rattle.gc_heap.specs.Collection.{has_host}
use Rattle.test_mutator.specs.Mutators.{MutatorView}
use Rattle.test_mutator.proofs.RootLemmas.{root_cloneable}
use Rattle.test_mutator.proofs.mutator.Mutator.source.Goals as goal

pub returns-clause-can : goal.returns-clause-can
returns-clause-can g c =
    let below : c.in-Some.index < length c.self.inside.roots.roots = omega (arith, c.if-index-len.false, c.len.ensures) in
    let few : length c.self.inside.roots.roots < 2 ^ 31 = omega (arith, c.if-len-ge-MOST_ROOTS.false, c.len-2.ensures) in
    subst (λ (m : MutatorView). CanName m.heap c.word_at-word.result) c.self.view_is
    (root_cloneable g.H.GcHeap.KIND c.self.inside.types.declarations (g.H.GcHeap.seen c.self.inside.heap) c.self.inside.roots.roots (has_host c.self.inside.hosts.entries) (g.met.H.GcHeap.is_heap c.self.inside.heap c.self.invariant.sound) c.self.invariant.can
    c.in-Some.index c.word_at-word.result below few c.word_at-word.ensures (omega (arith, c.as_raw_u32-present.ensures.value, c.as_raw_u32-present.ensures.not_null)))
