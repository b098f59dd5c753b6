use Rattle.gc_drc.proofs.WalkMemory.{garbage_mark_room, garbage_can_free, garbage_keeps, garbage_goes}
use Rattle.gc_drc.proofs.space.CountedSpace.free_if_unmarked.Goals as goal

pub is_marked-requires : goal.is_marked-requires
is_marked-requires g c = garbage_mark_room _ _ c.args.self.now _ c.args.place c.requires

pub free_garbage-requires : goal.free_garbage-requires
free_garbage-requires g c = garbage_can_free _ _ c.args.self.now _ c.args.place c.is_marked.result c.requires c.is_marked.ensures c.if-is_marked.false

pub returns-then-is_marked-clause-swept : goal.returns-then-is_marked-clause-swept
returns-then-is_marked-clause-swept g c o before places typed i q = garbage_keeps _ o before c.args.hosts.now.entries places c.args.self.now c.args.place c.is_marked.result c.is_marked.ensures c.if-is_marked.true i q

pub returns-clause-swept : goal.returns-clause-swept
returns-clause-swept g c o before places typed i q =
    garbage_goes _ o before c.args.hosts.now.entries c.free_garbage.new.hosts.entries places c.args.self.now c.free_garbage.new.self c.args.place i q (c.free_garbage.ensures.freed o before places typed i q)
