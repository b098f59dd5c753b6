use Rattle.std.proofs.Common.{refl}
use Rattle.gc_copying.proofs.BetweenLemmas.{between_attached, can_collect, heap_increment}
use Rattle.gc_heap.specs.Collection.{has_host}
use Rattle.gc_copying.proofs.heap.CopyingHeap.collect_more.Goals as goal

pub collect_some-requires : goal.collect_some-requires
collect_some-requires g c =
    let r = c.requires in
    can_collect _ r.0 r.1.0 r.1.1.0 c.args.self.now.scopes c.args.self.now.backing c.in-Attached.space c.args.phase.now c.args.roots.now.roots c.args.trace.now.types.now.declarations
    c.args.trace.now.host_data_table.now.entries c.in-Attached.is r.1.1.1

pub unreachable-requires : goal.unreachable-requires
unreachable-requires g c =
    let r = c.requires in
    between_attached r.0 r.1.0 r.1.1.0 c.args.self.now.scopes c.args.self.now.backing c.args.phase.now c.args.roots.now.roots c.args.trace.now.types.now.declarations
    (has_host c.args.trace.now.host_data_table.now.entries) c.in_default.not-Attached r.1.1.1

pub returns-clause-copies : goal.returns-clause-copies
returns-clause-copies g c s n counted more between counts =
    heap_increment _ s n counted more c.args.self.now.scopes c.args.steps.now c.collect_some.new.steps c.args.self.now.backing _ c.in-Attached.space c.collect_some.new.self
    c.args.roots.now.roots c.collect_some.new.roots.roots c.args.trace.now.types.now.declarations c.args.trace.now.host_data_table.now.entries c.collect_some.new.hosts.entries
    c.args.phase.now c.collect_some.new.phase c.collect_some.result c.in-Attached.is between c.collect_some.ensures.side c.collect_some.ensures.stepped counts refl refl
