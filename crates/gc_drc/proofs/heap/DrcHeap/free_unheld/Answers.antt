use Rattle.std.proofs.Common.{ap}
use Rattle.gc_heap.specs.Collection.{Start, has_host}
use Rattle.gc_drc.specs.ObjectsBetween.{CountingBetween}
use Rattle.gc_drc.proofs.ObjectsUnheld.{one_done, two_done, two_leave, two_sound}
use Rattle.gc_drc.proofs.heap.DrcHeap.free_unheld.Goals as goal
use Rattle.gc_drc.proofs.heap.DrcHeap.free_unheld.Goals.{After-collect_more, After-collect_more-2}

-- one increment was done
one : (g : _) (c : After-collect_more g) (s : Start) → CountingBetween s 0 c.args.self.now.scopes c.args.self.now.backing c.args.state.now.phase c.args.roots.now.roots c.args.trace.now.types.now.declarations (has_host c.args.trace.now.host_data_table.now.entries)
    → CountingBetween s 1 c.collect_more.new.self.scopes c.collect_more.new.self.backing c.collect_more.new.phase c.args.roots.now.roots c.collect_more.new.trace.types.now.declarations (has_host c.collect_more.new.trace.host_data_table.now.entries)
one g c s began =
    one_done _ s c.collect_more.new.self.scopes c.collect_more.new.self.backing c.collect_more.new.phase c.args.roots.now.roots c.args.trace.now.types.now.declarations c.collect_more.new.trace.types.now.declarations
    (has_host c.collect_more.new.trace.host_data_table.now.entries) c.collect_more.result (ap (λ t. t.now.declarations) c.collect_more.ensures.types) (c.collect_more.ensures.stepped s 0 began)

pub collect_more-requires : goal.collect_more-requires
collect_more-requires g c = (c.requires.0, (0, c.requires.1))

pub collect_more-requires-2 : goal.collect_more-requires-2
collect_more-requires-2 g c = (c.requires.0, (1, one g (goal.at.collect_more-requires-2 g c).After-collect_more c.requires.0 c.requires.1))

-- two were
two : (g : _) (c : After-collect_more-2 g) (s : Start) → CountingBetween s 1 c.collect_more.new.self.scopes c.collect_more.new.self.backing c.collect_more.new.phase c.args.roots.now.roots c.collect_more.new.trace.types.now.declarations (has_host c.collect_more.new.trace.host_data_table.now.entries)
    → CountingBetween s 2 c.collect_more-2.new.self.scopes c.collect_more-2.new.self.backing c.collect_more-2.new.phase c.args.roots.now.roots c.args.trace.now.types.now.declarations (has_host c.collect_more-2.new.trace.host_data_table.now.entries)
two g c s first =
    two_done _ s c.collect_more-2.new.self.scopes c.collect_more-2.new.self.backing c.collect_more-2.new.phase c.args.roots.now.roots c.args.trace.now.types.now.declarations c.collect_more.new.trace.types.now.declarations
    (has_host c.collect_more-2.new.trace.host_data_table.now.entries) c.collect_more-2.result (ap (λ t. t.now.declarations) c.collect_more.ensures.types)
    (c.collect_more-2.ensures.stepped s 1 first)

pub returns-clause-under_way : goal.returns-clause-under_way
returns-clause-under_way g c s began = two g (goal.at.returns-clause-under_way g c).After-collect_more-2 s (one g (goal.at.returns-clause-under_way g c).After-collect_more s began)

pub returns-clause-gone : goal.returns-clause-gone
returns-clause-gone g c s began =
    two_leave s c.collect_more-2.new.self c.collect_more-2.new.phase c.args.roots.now.roots c.args.trace.now.types.now.declarations (has_host c.collect_more-2.new.trace.host_data_table.now.entries)
    (two g (goal.at.returns-clause-gone g c).After-collect_more-2 s (one g (goal.at.returns-clause-gone g c).After-collect_more s began))

pub returns-clause-sound : goal.returns-clause-sound
returns-clause-sound g c =
    two_sound c.requires.0 c.collect_more-2.new.self c.collect_more-2.new.phase c.args.roots.now.roots c.args.trace.now.types.now.declarations (has_host c.collect_more-2.new.trace.host_data_table.now.entries)
    (two g (goal.at.returns-clause-sound g c).After-collect_more-2 c.requires.0 (one g (goal.at.returns-clause-sound g c).After-collect_more c.requires.0 c.requires.1))
