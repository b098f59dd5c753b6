use Rattle.std.proofs.Common.{ℤ, IfOk, w64, to_z, of_z, subst}
use Rattle.std.proofs.lemmas.Int.{to_z-of_z}
use Rattle.example_graph.specs.Entries.{HoldsEntry}
use Rattle.example_graph.proofs.Entries.{added_kept}
use Rattle.example_graph.proofs.EntriesKept.{keeps_then}
use Rattle.example_graph.proofs.nodes.add_entry.Goals as goal

pub returns-clause-added : goal.returns-clause-added
returns-clause-added g c =
    let added = c.add_in_scope-added in
    let key = to_z w64 (of_z w64 c.args.key) in
    subst (λ (k : ℤ). IfOk added.result (λ entry. HoldsEntry g.H.GcHeap.KIND c.leave_scope.new.store entry.index k)) (to_z-of_z w64 c.args.key c.ranges.key)
    (added_kept g.H.GcHeap.KIND added.new.store c.leave_scope.new.store key added.result c.leave_scope.ensures.keeps added.ensures.added)

pub returns-clause-keeps : goal.returns-clause-keeps
returns-clause-keeps g c =
    let added = c.add_in_scope-added in
    keeps_then g.H.GcHeap.KIND c.args.store.now added.new.store c.leave_scope.new.store added.ensures.keeps c.leave_scope.ensures.keeps
