use Rattle.gc_drc.proofs.DrainLemmas.{first_room, first_kind, first_external, first_can_free, first_can_leave, free_can_visit, free_steps, left_drain, leave_less}
use Rattle.gc_drc.proofs.space.CountedSpace.free_next.Goals as goal

pub count-requires : goal.count-requires
count-requires g c = first_room _ _ c.args.self.now _ c.requires.can c.requires.queued

pub free_host_of-requires-clause-room : goal.free_host_of-requires-clause-room
free_host_of-requires-clause-room g c = first_room _ _ c.args.self.now _ c.requires.can c.requires.queued

pub free_host_of-requires-clause-kind : goal.free_host_of-requires-clause-kind
free_host_of-requires-clause-kind g c = first_kind _ _ c.args.self.now _ c.requires.can c.requires.queued

pub free_host_of-requires-clause-external : goal.free_host_of-requires-clause-external
free_host_of-requires-clause-external g c = first_external _ _ c.args.self.now _ c.requires.can c.requires.queued

pub free_queued-requires : goal.free_queued-requires
free_queued-requires g c = first_can_free _ _ c.args.self.now _ c.requires.can c.requires.queued

pub visit_references-requires : goal.visit_references-requires
visit_references-requires g c =
    free_can_visit _ c.args.types.now.declarations c.args.hosts.now.entries c.free_host_of.new.hosts.entries c.args.self.now c.free_queued.new.self c.count.result c.requires.queued c.count.ensures c.if-count-eq1.true
    c.free_host_of.ensures.frees c.free_queued.ensures c.requires.can

pub returns-then-count-eq1-clause-drained : goal.returns-then-count-eq1-clause-drained
returns-then-count-eq1-clause-drained g c o before typed d =
    (free_steps _ o c.args.types.now.declarations before c.args.hosts.now.entries c.free_host_of.new.hosts.entries c.args.self.now c.free_queued.new.self c.visit_references.new.self c.count.result c.requires.queued
    c.count.ensures c.if-count-eq1.true c.free_host_of.ensures.frees c.free_queued.ensures c.visit_references.ensures typed d).0

pub returns-then-count-eq1-clause-less : goal.returns-then-count-eq1-clause-less
returns-then-count-eq1-clause-less g c =
    let can = c.requires.can in
    (free_steps _ can.context c.args.types.now.declarations can.before c.args.hosts.now.entries c.free_host_of.new.hosts.entries c.args.self.now c.free_queued.new.self c.visit_references.new.self c.count.result c.requires.queued
    c.count.ensures c.if-count-eq1.true c.free_host_of.ensures.frees c.free_queued.ensures c.visit_references.ensures can.typed can.drain).1

pub leave_queue-requires : goal.leave_queue-requires
leave_queue-requires g c = first_can_leave _ _ c.args.self.now _ c.count.result c.requires.can c.requires.queued c.count.ensures c.if-count-eq1.false

pub returns-else-count-eq1-clause-drained : goal.returns-else-count-eq1-clause-drained
returns-else-count-eq1-clause-drained g c o before typed d =
    left_drain _ o before c.args.hosts.now.entries c.args.self.now c.leave_queue.new.self c.count.result c.requires.queued c.count.ensures c.if-count-eq1.false d c.leave_queue.ensures

pub returns-else-count-eq1-clause-less : goal.returns-else-count-eq1-clause-less
returns-else-count-eq1-clause-less g c =
    leave_less _ c.args.types.now.declarations c.args.self.now c.leave_queue.new.self c.args.hosts.now.entries c.count.result c.requires.can c.requires.queued c.count.ensures c.if-count-eq1.false c.leave_queue.ensures
